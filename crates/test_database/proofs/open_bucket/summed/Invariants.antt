use Rattle.std.proofs.Common.{◌≤◌}
use Rattle.test_database.proofs.open_bucket.summed.Given as goal

abbrev pub invariant-loop-millionths : goal.invariant-loop-millionths
invariant-loop-millionths l = l.running.count ≤ l.millionths-index
