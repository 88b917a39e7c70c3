use Rattle.std.proofs.Common.{List, ◌++◌, map, take}
use Rattle.ts_spec.specs.Answer.{Row}
use Rattle.ts_range.specs.Query.{row_of}
use Rattle.ts_group.specs.Summaries.{HasAccepted}
use Rattle.ts_group.proofs.one_group.accept_rows.Given as goal

-- those before the one at hand were taken
abbrev pub invariant-loop-row : goal.invariant-loop-row
invariant-loop-row l = (before : List Row) → HasAccepted l.fn.reduction before → HasAccepted l.reduction (before ++ map row_of (take l.row-index l.rows))
