use Rattle.std.proofs.Common.{◌∙◌, ap, fold}
use Rattle.std.specs.Prelude.{nat_le, filter}
use Rattle.ts_spec.specs.Aggregate.{Summary, push}
use Rattle.ts_agg.proofs.Counts.{running-visited}
use Rattle.ts_agg.proofs.running.Counted.new.Goals as goal

pub returns-clause-visited : goal.returns-clause-visited
returns-clause-visited c = λ ps.
    running-visited (record { made = c.args.made; running = c.new.result }) ps
    ∙ ap (λ (s : Summary). fold push s (filter (λ p. nat_le c.args.made p.made) ps)) c.new.ensures
