use Rattle.std.proofs.Common.{length, ap, ◌∙◌, arith}
use Rattle.ts_mux.specs.Framing.{fed}
use Rattle.ts_mux.specs.Muxing.{pending_items}
use Rattle.ts_mux.proofs.FramingLemmas.{length-bytes_at, fed-past}
use Rattle.ts_engine.proofs.CaptureItems.{frame_delivered, frame_passed, passes_on}
use Rattle.ts_engine.proofs.capture_session.CaptureSession.deliver.Goals as goal

pub bytes-requires-clause-order : goal.bytes-requires-clause-order
bytes-requires-clause-order c = c.requires.stands.order

pub bytes-requires-clause-within : goal.bytes-requires-clause-within
bytes-requires-clause-within c = c.requires.stands.within

pub deliver_bytes-requires-clause-bound : goal.deliver_bytes-requires-clause-bound
deliver_bytes-requires-clause-bound c =
    let within = c.requires.stands.within in
    let size = length-bytes_at c.args.self.now.frames c.args.span c.requires.stands in
    omega (arith, within, size, ap length c.bytes.ensures, c.requires.bound, c.args.self.now.counted)

pub pass-requires : goal.pass-requires
pass-requires c = c.requires.stands.within

pub returns-clause-items : goal.returns-clause-items
returns-clause-items c =
    frame_delivered c.args.self.now.frames c.pass.new.self c.args.span c.requires.stands c.pass.ensures
    c.bytes.result.now (pending_items c.args.self.now.mux) (pending_items c.deliver_bytes.new.self) c.bytes.ensures c.in_ok-deliver_bytes.ensures.ok

pub returns-clause-ending : goal.returns-clause-ending
returns-clause-ending c = frame_passed c.args.self.now.frames c.pass.new.self c.args.span c.requires.stands c.pass.ensures

pub returns-clause-onward : goal.returns-clause-onward
returns-clause-onward c = passes_on c.args.self.now.frames c.pass.new.self c.args.span c.requires.stands c.pass.ensures

pub returns-clause-fed : goal.returns-clause-fed
returns-clause-fed c = ap fed c.pass.ensures ∙ fed-past c.args.self.now.frames c.args.span.end c.requires.stands.within
