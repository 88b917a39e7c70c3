use Rattle.std.proofs.Common.{◌≡◌, ◌++◌, List, length, sym, subst, ap, ◌∙◌, arith}
use Rattle.ts_spec.specs.Sample.{Point, MAX_TIME, IsAscending, between, outside}
use Rattle.ts_sample.specs.SampleCollector.{CollectedSamples, with_one_more}
use Rattle.ts_sample.proofs.Replacing.{between-all}
use Rattle.ts_sample.proofs.Visiting.{room_left, list-visited, list-gathered}
use Rattle.ts_series.proofs.remaining_samples.remaining_of_both.Goals as goal
use Rattle.ts_series.proofs.remaining_samples.remaining_of_both.Goals.{After-into_samples-samples}

all-there : (g : _) (c : After-into_samples-samples g) → c.into_samples-samples.result.items ≡ g.C.Chunk.list c.args.first.now ++ g.C.Chunk.list c.args.last.now
all-there g c =
    let ps = g.C.Chunk.list c.args.first.now in
    let qs = g.C.Chunk.list c.args.last.now in
    c.into_samples-samples.ensures
    ∙ ap (λ (v : CollectedSamples). v.list) c.scan-2.ensures.visited ∙ list-visited c.scan.new.visit (between 0 MAX_TIME qs)
    ∙ ap (λ (l : List Point). l ++ between 0 MAX_TIME qs)
    (list-gathered c.in_ok-gathered.gathered c.scan.new.visit (between 0 MAX_TIME ps) c.in_ok-gathered.ensures.empty c.scan.ensures.visited ∙ between-all ps c.known.ensures.fine)
    ∙ ap (λ (l : List Point). ps ++ l) (between-all qs c.known-2.ensures.fine)

pub scan-requires : goal.scan-requires
scan-requires g c =
    let all = ap length (between-all (g.C.Chunk.list c.args.first.now) c.known.ensures.fine) in
    record { room = omega (arith, c.in_ok-gathered.ensures.room, c.len.ensures, all) }

pub scan-requires-2 : goal.scan-requires-2
scan-requires-2 g c =
    let ps = g.C.Chunk.list c.args.first.now in
    let before = ap length (between-all ps c.known.ensures.fine) in
    let all = ap length (between-all (g.C.Chunk.list c.args.last.now) c.known-2.ensures.fine) in
    let left = room_left with_one_more (λ (v : CollectedSamples). v.room) (λ v p. omega arith) c.in_ok-gathered.gathered (between 0 MAX_TIME ps) in
    record { room = omega (arith, c.in_ok-gathered.ensures.room, c.len.ensures, c.len-2.ensures, left, before, all, ap (λ (v : CollectedSamples). v.room) c.scan.ensures.visited) }

pub remove_interval-requires : goal.remove_interval-requires
remove_interval-requires g c = subst IsAscending (sym (all-there g (goal.at.remove_interval-requires g c).After-into_samples-samples)) c.requires

pub returns-clause-list : goal.returns-clause-list
returns-clause-list g c =
    c.remove_interval.ensures ∙ ap (outside c.args.from c.args.to) (all-there g (goal.at.returns-clause-list g c).After-into_samples-samples)
