use Rattle.std.proofs.Common.{◌≡◌, ◌++◌}
use Rattle.ts_db.specs.KeyOrder.{among}
use Rattle.ts_db.proofs.key_order.in_key_order.Given as goal

-- the ids so far and those of the remaining keys are those of all keys
abbrev pub invariant-loop-key : goal.invariant-loop-key
invariant-loop-key l = l.found.items ++ among l.ids l._key-iterator ≡ among l.ids l.keys.entries
