use Rattle.std.proofs.Common.{◌≡◌, ◌++◌, map}
use Rattle.ts_db.proofs.store.Store.ids.Given as goal

-- the ids so far and those of the remaining keys are those of all keys
abbrev pub invariant-loop-key : goal.invariant-loop-key
invariant-loop-key l = l.ids.items ++ map (λ e. e.1) l._key-iterator ≡ map (λ e. e.1) l.self.keys.entries
