use Rattle.std.specs.Vec.Iter.{into_iter_items}
use Rattle.ts_db.specs.Store.{IsInOrder}
use Rattle.ts_db.proofs.Freed.{Freeing}
use Rattle.ts_db.proofs.store.Store.free.Given as goal

-- the remaining rules lead to the result of all rules
abbrev pub invariant-loop-rule : goal.invariant-loop-rule
invariant-loop-rule l = record {
  store : IsInOrder l.self;
  goes_on : Freeing l.initial.self l.self l.fn.rules.items (into_iter_items l.rule-iterator);
}
