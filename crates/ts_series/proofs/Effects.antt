-- The plans of a deletion and of new options.
use Rattle.std.proofs.Common.{◌≡◌, ℕ}
use Rattle.ts_spec.specs.declared.series.Options.{Options}
use Rattle.ts_series.specs.Plan.{Plan, Cuts, Alters, cuts, alters, with_change}

pub cuts-is : (from to removed : ℕ) (plan : Plan) → Cuts from to removed plan → plan ≡ with_change plan (cuts from to removed)
cuts-is from to removed plan h = λ i. record { cut = h.cut i; removed = h.count i; encoding = plan.encoding; wrote = h.wrote i; options = h.options i; change = plan.change; room = plan.room }

pub alters-is : (options : Options) (plan : Plan) → Alters options plan → plan ≡ with_change plan (alters options)
alters-is options plan h = λ i. record { cut = h.cut i; removed = h.removed i; encoding = plan.encoding; wrote = h.wrote i; options = h.altered i; change = plan.change; room = plan.room }
