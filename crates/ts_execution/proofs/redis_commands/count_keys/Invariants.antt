use Rattle.std.proofs.Common.{◌≡◌, ◌+◌, ◌≤◌, drop}
use Rattle.ts_spec.specs.Step.{count_there}
use Rattle.ts_db.specs.DbState.{DbState, Represents}
use Rattle.ts_execution.proofs.redis_commands.count_keys.Given as goal

-- the keys counted so far and those among the remaining arguments
abbrev pub invariant-loop-key : goal.invariant-loop-key
invariant-loop-key l = record {
  found : (from : DbState) → Represents l.db from → l.count + count_there from.state (drop l.key-index l.keys) ≡ count_there from.state l.keys;
  count : l.count ≤ l.key-index;
}
