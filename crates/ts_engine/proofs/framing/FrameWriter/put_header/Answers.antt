use Rattle.ts_engine.proofs.FramesWritten.{header_put}
use Rattle.ts_engine.proofs.framing.FrameWriter.put_header.Goals as goal

pub invariant_of-self-clause-header : goal.invariant_of-self-clause-header
invariant_of-self-clause-header c = header_put _ c.write_header-self.new.room c.args.self.now.room c.write_header-self.result 42 c.write_header-self.ensures.text c.write_header-self.ensures.start
