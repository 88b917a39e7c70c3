use Rattle.std.proofs.Common.{◌≡◌, ◌+◌, ◌≤◌, List, length, map, None, Some, sym, ◌∙◌, ap, subst, arith}
use Rattle.std.specs.Prelude.{Option}
use Rattle.ts_spec.specs.Sample.{Point, IsAscending}
use Rattle.ts_sample.specs.Chunk.{joined}
use Rattle.ts_series.specs.Stored.{Change, LastChunkFits, replaced, with_last, pieces_after, limits_after}
use Rattle.ts_series.proofs.Appended.{ascending-before}
use Rattle.ts_series.proofs.chunks.Chunks.apply.Goals as goal
use Rattle.ts_series.proofs.chunks.Chunks.apply.Goals.{After-replace}

pub replace-requires-clause-chunks : goal.replace-requires-clause-chunks
replace-requires-clause-chunks g c = c.change.invariant

pub replace-requires-clause-ordered : goal.replace-requires-clause-ordered
replace-requires-clause-ordered g c = subst (λ (d : Change). d.start ≤ d.end) (sym c.change.view_is) c.requires.ordered

pub replace-requires-clause-within : goal.replace-requires-clause-within
replace-requires-clause-within g c = subst (λ (d : Change). d.end ≤ length c.args.self.now.pieces) (sym c.change.view_is) c.requires.within

pub replace-requires-clause-ascending : goal.replace-requires-clause-ascending
replace-requires-clause-ascending g c =
    let change = c.args.change in
    let pieces = c.args.self.now.pieces in
    subst (λ (d : Change). IsAscending (joined (replaced d.start d.end d.pieces pieces))) (sym c.change.view_is)
    (ascending-before change.appended (replaced change.start change.end change.pieces pieces) c.requires.ascending)

pub replace-requires-clause-enough : goal.replace-requires-clause-enough
replace-requires-clause-enough g c =
    let old = c.args.self.now in
    subst (λ (d : Change). length (replaced d.start d.end d.pieces old.pieces) ≤ length old.pieces + old.room) (sym c.change.view_is) c.requires.enough

pub append-requires-clause-room : goal.append-requires-clause-room
append-requires-clause-room g c =
    let old = c.args.self.now in
    let d = c.change.inside in
    let format = g.C.Chunk.format in
    let room = subst (λ (e : Change). LastChunkFits format e.appended (replaced e.start e.end e.pieces old.pieces) (replaced e.start e.end e.limits old.limits)) (sym c.change.view_is) c.requires.appends in
    subst (LastChunkFits format (Some c.in-Some.sample) c.replace.new.self.pieces) (sym c.replace.ensures.limits)
    (subst (λ (pss : List (List Point)). LastChunkFits format (Some c.in-Some.sample) pss (replaced d.start d.end (map g.C.Chunk.most d.chunks.items) old.limits)) (sym c.replace.ensures.pieces)
    (subst (λ (o : Option Point). LastChunkFits format o (replaced d.start d.end (map g.C.Chunk.list d.chunks.items) old.pieces) (replaced d.start d.end (map g.C.Chunk.most d.chunks.items) old.limits)) c.in-Some.is room))

-- the pieces after the replacement, with the sample that is appended
appended : (g : _) (c : After-replace g) (o : Option Point) → c.change.inside.appended ≡ o → with_last o c.replace.new.self.pieces ≡ pieces_after c.args.change c.args.self.now.pieces
appended g c o is =
    ap (with_last o) c.replace.ensures.pieces
    ∙ ap (λ (p : Option Point). with_last p (replaced c.change.inside.start c.change.inside.end (map g.C.Chunk.list c.change.inside.chunks.items) c.args.self.now.pieces)) (sym is)
    ∙ ap (λ (e : Change). with_last e.appended (replaced e.start e.end e.pieces c.args.self.now.pieces)) c.change.view_is

-- the limits after the replacement
limited : (g : _) (c : After-replace g) → c.replace.new.self.limits ≡ limits_after c.args.change c.args.self.now.limits
limited g c = c.replace.ensures.limits ∙ ap (λ (e : Change). replaced e.start e.end e.limits c.args.self.now.limits) c.change.view_is

pub append-requires-clause-ascending : goal.append-requires-clause-ascending
append-requires-clause-ascending g c =
    subst (λ (pss : List (List Point)). IsAscending (joined pss)) (sym (appended g (goal.at.append-requires-clause-ascending g c).After-replace (Some c.in-Some.sample) c.in-Some.is)) c.requires.ascending

pub returns-in-Some-clause-pieces : goal.returns-in-Some-clause-pieces
returns-in-Some-clause-pieces g c = c.append.ensures.pieces ∙ appended g (goal.at.returns-in-Some-clause-pieces g c).After-replace (Some c.in-Some.sample) c.in-Some.is

pub returns-in-Some-clause-limits : goal.returns-in-Some-clause-limits
returns-in-Some-clause-limits g c = c.append.ensures.limits ∙ limited g (goal.at.returns-in-Some-clause-limits g c).After-replace

pub returns-in_default-clause-pieces : goal.returns-in_default-clause-pieces
returns-in_default-clause-pieces g c = appended g (goal.at.returns-in_default-clause-pieces g c).After-replace None c.in_default.is

pub returns-in_default-clause-limits : goal.returns-in_default-clause-limits
returns-in_default-clause-limits g c = limited g (goal.at.returns-in_default-clause-limits g c).After-replace

pub returns-in-Some-clause-room : goal.returns-in-Some-clause-room
returns-in-Some-clause-room g c = omega (arith, c.append.ensures.room, c.replace.ensures.room)

pub returns-in_default-clause-room : goal.returns-in_default-clause-room
returns-in_default-clause-room g c = c.replace.ensures.room
