use Rattle.std.proofs.Common.{◌≡◌, length, sym, subst, ap, ◌∙◌, arith}
use Rattle.ts_spec.specs.Sample.{MAX_TIME, IsAscending, between, outside}
use Rattle.ts_sample.proofs.Replacing.{between-all}
use Rattle.ts_sample.proofs.Visiting.{list-gathered}
use Rattle.ts_series.proofs.remaining_samples.left_of.Goals as goal
use Rattle.ts_series.proofs.remaining_samples.left_of.Goals.{After-into_samples-samples}

all-there : (g : _) (c : After-into_samples-samples g) → c.into_samples-samples.result.items ≡ g.C.Chunk.list c.args.chunk.now
all-there g c =
    let ps = g.C.Chunk.list c.args.chunk.now in
    c.into_samples-samples.ensures
    ∙ list-gathered c.in_ok-gathered.gathered c.scan.new.visit (between 0 MAX_TIME ps) c.in_ok-gathered.ensures.empty c.scan.ensures.visited ∙ between-all ps c.known.ensures.fine

pub scan-requires : goal.scan-requires
scan-requires g c =
    let all = ap length (between-all (g.C.Chunk.list c.args.chunk.now) c.known.ensures.fine) in
    record { room = omega (arith, c.in_ok-gathered.ensures.room, c.len.ensures, all) }

pub remove_interval-requires : goal.remove_interval-requires
remove_interval-requires g c = subst IsAscending (sym (all-there g (goal.at.remove_interval-requires g c).After-into_samples-samples)) c.known.ensures.ascending

pub returns-clause-list : goal.returns-clause-list
returns-clause-list g c =
    c.remove_interval.ensures ∙ ap (outside c.args.from c.args.to) (all-there g (goal.at.returns-clause-list g c).After-into_samples-samples)
