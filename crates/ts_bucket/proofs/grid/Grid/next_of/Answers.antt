use Rattle.std.proofs.Common.{◌≡◌, ◌≤◌, ◌<◌, ◌+◌, ◌-◌, sym, ap, subst, arith}
use Rattle.ts_spec.specs.Sample.{MAX_TIME}
use Rattle.ts_spec.specs.Bucket.{Grid}
use Rattle.ts_bucket.specs.Grid.{IsNextOf}
use Rattle.ts_bucket.proofs.Ends.{next_is, no_next}
use Rattle.ts_bucket.proofs.grid.Grid.next_of.Goals as goal

pub returns-then-next-le-MAX_TIME-clause-next : goal.returns-then-next-le-MAX_TIME-clause-next
returns-then-next-le-MAX_TIME-clause-next c =
    let g = c.args.self.now in
    let long : c.self.inside.duration ≡ g.duration = ap (λ (h : Grid). h.duration) c.self.view_is in
    let some : 1 ≤ g.duration = omega arith in
    let next = next_is g some c.args.t c.offset.result c.offset.ensures.value c.offset.ensures.below in
    subst (λ n. IsNextOf g c.args.t (c.args.t + (n - c.offset.result))) (sym long) next

pub returns-else-next-le-MAX_TIME-clause-none : goal.returns-else-next-le-MAX_TIME-clause-none
returns-else-next-le-MAX_TIME-clause-none c =
    let g = c.args.self.now in
    let long : c.self.inside.duration ≡ g.duration = ap (λ (h : Grid). h.duration) c.self.view_is in
    let some : 1 ≤ g.duration = omega arith in
    let past : MAX_TIME < c.args.t + (g.duration - c.offset.result) = omega arith in
    no_next g some c.args.t c.offset.result c.offset.ensures.value c.offset.ensures.below past
