use Rattle.std.specs.List.{All}
use Rattle.ts_db.specs.Dropping.{IsIdOf}
use Rattle.ts_db.proofs.store.Store.sorted_ids.Given as goal

-- the ids so far are those of some of the keys
abbrev pub invariant-loop-key : goal.invariant-loop-key
invariant-loop-key l = All (IsIdOf l.keys l.self.keys.entries) l.ids.items
