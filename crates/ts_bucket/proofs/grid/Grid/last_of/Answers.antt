use Rattle.std.proofs.Common.{◌≡◌, ◌≤◌, ◌+◌, ◌-◌, min, sym, ◌∙◌, ap, subst, arith}
use Rattle.ts_spec.specs.Sample.{MAX_TIME}
use Rattle.ts_spec.specs.Bucket.{Grid}
use Rattle.ts_bucket.specs.Grid.{IsLastOf}
use Rattle.ts_bucket.proofs.Ends.{last_is}
use Rattle.ts_bucket.proofs.grid.Grid.last_of.Goals as goal

pub returns : goal.returns
returns c =
    let g = c.args.self.now in
    let long : c.self.inside.duration ≡ g.duration = ap (λ (h : Grid). h.duration) c.self.view_is in
    let some : 1 ≤ g.duration = omega arith in
    let last = last_is g some c.args.t c.offset.result c.offset.ensures.value c.offset.ensures.below c.requires in
    subst (IsLastOf g c.args.t) (sym (c.min.ensures ∙ ap (λ n. min MAX_TIME (c.args.t + (n - 1 - c.offset.result))) long)) last
