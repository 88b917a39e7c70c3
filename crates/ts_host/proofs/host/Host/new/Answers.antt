use Rattle.std.proofs.Common.{ℕ, List, [], sym, ap, ◌∙◌}
use Rattle.std.specs.Io.KnownBytes.{append_known}
use Rattle.ts_io.specs.Gathering.{log_of}
use Rattle.ts_mux.specs.Order.{closing, nothing_sent}
use Rattle.ts_mux.proofs.Closings.{items-closing}
use Rattle.ts_host.specs.Http.{closes}
use Rattle.ts_host.specs.Recorder.{gathered_of}
use Rattle.ts_host.specs.Steps.{frames_of}
use Rattle.ts_host.proofs.Contents.{adds_none}
use Rattle.ts_host.proofs.host.Host.new.Goals as goal

pub returns-clause-begins : goal.returns-clause-begins
returns-clause-begins g c =
    let content = g.J.Log.content in
    let gathered = gathered_of c.new-3.result in
    record {
      items = λ steps. ap (closing closes) (c.new.ensures.order (frames_of steps)) ∙ items-closing closes (nothing_sent c.args.limits) (frames_of steps);
      asked = c.new.ensures.order [];
      counts = c.new.ensures.counts;
      taken = c.new.ensures.taken;
      log_is = c.new-3.ensures.log;
      stored = ap (λ (l : List ℕ). append_known (content (log_of gathered)) l) c.new-3.ensures.pending ∙ sym (adds_none (content (log_of gathered))) ∙ ap content c.new-3.ensures.log;
    }
