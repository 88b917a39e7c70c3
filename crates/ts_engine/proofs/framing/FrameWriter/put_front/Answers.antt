use Rattle.std.proofs.Common.{◌∙◌, ap, arith}
use Rattle.ts_mux.specs.Capture.{header}
use Rattle.ts_engine.proofs.FramesWritten.{header_stays, put_together}
use Rattle.ts_engine.proofs.framing.FrameWriter.put_front.Goals as goal

pub invariant_of-self-clause-header : goal.invariant_of-self-clause-header
invariant_of-self-clause-header c =
    let w = c.put_header.new.self in
    header_stays c.args.front.now w.room c.put.new.room w.start 42 w.within (omega arith) c.put.ensures.text ∙ w.header

pub returns : goal.returns
returns c =
    let w = c.put_header.new.self in
    put_together _ c.args.front.now w.room c.put.new.room w.start 42 w.within (omega arith)
    (w.header ∙ ap (λ link. header link w.len) c.put_header.ensures.link ∙ ap (header c.args.link) c.put_header.ensures.len) c.put.ensures.text
