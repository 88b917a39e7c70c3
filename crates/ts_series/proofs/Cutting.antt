-- A list without the samples of an interval.
use Rattle.std.proofs.Common.{List}
use Rattle.std.specs.Prelude.{Option, None, Some, not}
use Rattle.ts_spec.specs.Sample.{Point, IsAscending, is_within}
use Rattle.ts_spec.proofs.Sound.{IsPart, part-times}
use Rattle.ts_series.specs.declared.chunked_series_plan.Interval.{Interval}
use Rattle.ts_series.specs.Plan.{without_cut}

-- what is left was there
pub part-cut : (c : Option Interval) (ps : List Point) → IsAscending ps → IsPart (without_cut c ps) ps
part-cut None ps h = record { ascending = h; of = λ t p is. is }
part-cut (Some i) ps h = part-times (λ t. not (is_within i.from i.to t)) ps h
