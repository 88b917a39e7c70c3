use Rattle.std.proofs.Common.{[], ap, sym, ◌∙◌}
use Rattle.ts_spec.specs.Run.{is_quit}
use Rattle.ts_mux.specs.Capture.{start}
use Rattle.ts_mux.specs.Framing.{ended_at}
use Rattle.ts_mux.specs.Order.{nothing_sent, closing}
use Rattle.ts_mux.proofs.CaptureLemmas.{read_on-nil}
use Rattle.ts_mux.proofs.Closings.{items-closing}
use Rattle.ts_engine.proofs.capture_session.CaptureSession.new.Goals as goal

pub returns : goal.returns
returns c = record {
  capture = c.new-2.ensures.capture;
  coming = λ frames. ap (closing is_quit) (c.new-3.ensures.order frames) ∙ items-closing is_quit (nothing_sent c.args.limits) frames;
  fed = c.new-2.ensures.fed;
  answered = record {
    asked = c.new-3.ensures.order [];
    rest = c.new-2.ensures.capture [] ∙ read_on-nil 0 0 start ∙ sym (ap ended_at c.new-2.ensures.place);
  };
}
