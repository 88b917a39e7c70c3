use Rattle.std.proofs.Common.{replicate}
use Rattle.ts_mux.specs.Capture.{header}
use Rattle.ts_engine.proofs.FramesWritten.{header_put}
use Rattle.ts_engine.proofs.framing.FrameWriter.new.Goals as goal

pub invariant_of-result-clause-header : goal.invariant_of-result-clause-header
invariant_of-result-clause-header c =
    header_put (header 0 0) c.write_header-start.new.room (replicate 512 0) c.write_header-start.result 42 c.write_header-start.ensures.text c.write_header-start.ensures.start
