-- A series and a plan of either encoding.
use Rattle.std.specs.Prelude.{◌≡◌}
use Rattle.ts_spec.specs.declared.series.Encoding.TheVariants.{Compressed, Uncompressed}
use Rattle.ts_series.specs.declared.series.SeriesByEncoding.{SeriesByEncoding}
use Rattle.ts_series.specs.declared.series.SeriesByEncoding.TheVariants.{Plain, Packed}
use Rattle.ts_series.specs.declared.plan.PlanByEncoding.{PlanByEncoding}
use Rattle.ts_series.specs.declared.plan.PlanByEncoding.TheVariants as plans
use Rattle.ts_series.specs.History.{History}
use Rattle.ts_series.specs.Plan.{Plan}

-- the series as callers see it
abbrev pub history_in : SeriesByEncoding → History
history_in (Plain h) = h
history_in (Packed h) = h

-- the encoding option matches the kind of chunk
abbrev pub HasEncoding : SeriesByEncoding → Type 0
HasEncoding (Plain h) = h.options.encoding ≡ Uncompressed
HasEncoding (Packed h) = h.options.encoding ≡ Compressed

-- the plan as callers see it
abbrev pub plan_in : PlanByEncoding → Plan
plan_in (plans.Plain p) = p
plan_in (plans.Packed p) = p

-- the plan's encoding matches the kind of chunk
abbrev pub PlanHasEncoding : PlanByEncoding → Type 0
PlanHasEncoding (plans.Plain p) = p.encoding ≡ Uncompressed
PlanHasEncoding (plans.Packed p) = p.encoding ≡ Compressed
