use Rattle.std.proofs.Common.{◌≡◌, List, length}
use Rattle.ts_spec.specs.Sample.{Point}
use Rattle.ts_agg.specs.Running.{Summarizes}
use Rattle.test_libraries.proofs.agg.results.Given as goal

-- it stands for as many samples as have been taken
abbrev pub invariant-loop-millionths : goal.invariant-loop-millionths
invariant-loop-millionths l = (ps : List Point) × Summarizes l.running ps × (length ps ≡ l.millionths-index)
