use Rattle.std.proofs.Common.{ℕ, ◌+◌, ◌-◌, min, sym, ◌∙◌, ap, subst, arith}
use Rattle.ts_spec.specs.Sample.{MAX_TIME}
use Rattle.ts_bucket.specs.Grid.{IsLastOf}
use Rattle.ts_range.proofs.Following.{whole}
use Rattle.ts_range.proofs.bucket.last_time_of_bucket.Goals as goal

pub returns-clause-last : goal.returns-clause-last
returns-clause-last c = λ begins.
    subst (IsLastOf c.args.grid.now c.args.start) (sym (c.min.ensures ∙ ap (λ (d : ℕ). min MAX_TIME (c.args.start + (d - 1))) c.duration.ensures))
    (whole c.args.grid.now c.known.ensures c.args.start (omega (arith, c.if-start-eq0.false)) c.requires begins)
