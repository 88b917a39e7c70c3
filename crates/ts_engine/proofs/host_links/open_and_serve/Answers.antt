use Rattle.std.proofs.Common.{ℕ, List, false, refl, ap, subst}
use Rattle.std.specs.Prelude.{Option}
use Rattle.ts_io.specs.Sinks.{Grows, GrowsByPrefix}
use Rattle.ts_execution.specs.Journaling.{kept}
use Rattle.ts_execution.proofs.Carried.{carries_none, carries_as}
use Rattle.ts_engine.proofs.HostRuns.{served-as}
use Rattle.ts_engine.proofs.host_links.open_and_serve.Goals as goal

pub returns-in-Ok-write_all_counted-clause-ends : goal.returns-in-Ok-write_all_counted-clause-ends
returns-in-Ok-write_all_counted-clause-ends g c =
    carries_as _ _ _ _ (λ from to serves.
    served-as _ _ _ _ _ _ _ (g.H.Hub.coming c.open.new.self) _ _ _ _ _ _ _ _ to (record {
      items = c.requires.begins.items;
      counts = c.requires.begins.counts;
      world = ap (λ (o : Option (List ℕ)). kept (g.C.Clock.readings c.args.clock.now) o false from) c.requires.begins.stored;
      end = refl;
      out = c.in-Ok.ensures.out;
      lines = subst (λ (l : List ℕ). Grows (g.K.Sink.has c.args.out.now) (g.K.Sink.has c.write_all_counted.new.sink) l) c.requires.line c.in-Ok-write_all_counted.ensures.all;
    }) c.in-Ok.ensures.coming c.serve_hub.result serves) c.serve_hub.ensures.serves

pub returns-in-Err-write_all_counted-clause-ends : goal.returns-in-Err-write_all_counted-clause-ends
returns-in-Err-write_all_counted-clause-ends g c =
    carries_none _ _ (λ from stands. (
      record { coming = c.in-Ok.ensures.coming; out = c.in-Ok.ensures.out; journal = refl },
      subst (λ (l : List ℕ). GrowsByPrefix (g.K.Sink.has c.args.out.now) (g.K.Sink.has c.write_all_counted.new.sink) l) c.requires.line c.in-Err-write_all_counted.ensures.front,
      refl,
    ))
