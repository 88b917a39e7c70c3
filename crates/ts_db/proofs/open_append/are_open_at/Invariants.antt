use Rattle.std.proofs.Common.{drop}
use Rattle.ts_db.specs.OpenAppend.{AreOpenAt}
use Rattle.ts_db.proofs.open_append.are_open_at.Given as goal

-- the sample falls into all open buckets if it falls into those of the remaining rules
abbrev pub invariant-loop-rule : goal.invariant-loop-rule
invariant-loop-rule l = AreOpenAt l.wrote (drop l.rule-index l.rules) → AreOpenAt l.wrote l.rules
