use Rattle.std.proofs.Common.{◌≡◌, ◌≤◌, ◌+◌}
use Rattle.ts_db.specs.Totals.{samples_in}
use Rattle.ts_db.proofs.Selecting.{HaveNodes, listing}
use Rattle.ts_db.proofs.Totals.{reaches}
use Rattle.ts_db.proofs.db.Db.total.Given as goal

-- the count so far and the samples of the remaining keys add up to all; likewise the reaches
abbrev pub invariant-loop-key : goal.invariant-loop-key
invariant-loop-key g l = record {
  sum : l.total + samples_in (listing l.self-inside.store.nodes l._key-iterator) ≡ samples_in (listing l.self-inside.store.nodes l.self-inside.store.keys.entries);
  there : HaveNodes l.self-inside.store.nodes l._key-iterator;
  counted : l.fn.steps ≤ l.steps;
  steps : l.steps + reaches l.self-inside.store.nodes l._key-iterator ≤ l.fn.steps + reaches l.self-inside.store.nodes l.self-inside.store.keys.entries;
}
