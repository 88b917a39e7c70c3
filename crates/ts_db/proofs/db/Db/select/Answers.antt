use Rattle.std.proofs.Common.{◌∙◌, refl, sym, ap, subst, arith}
use Rattle.std.specs.Prelude.{List, Ok}
use Rattle.std.specs.declared.alloc.AllocError.{AllocError}
use Rattle.ts_sample.specs.declared.sample.Id.{Id}
use Rattle.ts_index.specs.Numbers.{AreAscending}
use Rattle.ts_db.specs.KeyOrder.{among}
use Rattle.ts_db.specs.Store.{db_view_of}
use Rattle.ts_db.proofs.Laws.{select-law}
use Rattle.ts_db.proofs.Choosing.{IsTold, is-told, select-ascends, walk-numbers, select-numbers, select-steps}
use Rattle.ts_db.proofs.db.Db.select.Goals as goal
use Rattle.ts_db.proofs.db.Db.select.Goals.{After-index}

-- what the index tells
is : (g : _) (c : After-index g) → IsTold c.self.inside.store.nodes c.self.inside.store.keys.entries c.index.result.now
is g c = is-told c.self.inside.store c.self.invariant.store c.index.result.now c.index.ensures.indexed c.index.ensures.order c.index.ensures.sorted c.index.ensures.found

pub in_key_order_if_many-requires : goal.in_key_order_if_many-requires
in_key_order_if_many-requires g c =
    let s = c.self.inside.store in
    subst AreAscending (sym c.deref.ensures.value)
    (select-ascends s.nodes s.keys.entries c.index.result.now (is g (goal.at.in_key_order_if_many-requires g c).After-index) c.args.filters.now c.in_ok-ids.ids.items c.index.ensures.order c.in_ok-ids.ensures.selected)

-- by a walk over the keys

pub returns-in-Some-clause-numbers : goal.returns-in-Some-clause-numbers
returns-in-Some-clause-numbers g c = rw (← c.self.view_is)
    (let s = c.self.inside.store in
    walk-numbers s.nodes s.keys.entries c.index.result.now (is g (goal.at.returns-in-Some-clause-numbers g c).After-index) c.args.filters.now c.in_ok-ids.ids.items c.in-Some.found.items c.index.ensures.order c.in_ok-ids.ensures.selected
    (c.in-Some.ensures ∙ ap (λ (l : List Id). among l s.keys.entries) c.deref.ensures.value))

pub returns-in-Some-clause-steps : goal.returns-in-Some-clause-steps
returns-in-Some-clause-steps g c = rw (← c.self.view_is)
    (let s = c.self.inside.store in
    let same = select-steps s.nodes s.keys.entries c.index.result.now (is g (goal.at.returns-in-Some-clause-steps g c).After-index) (db_view_of s) refl c.args.filters.now in
    omega (arith, same, c.in_ok-ids.ensures.steps))

pub returns-in-Some-clause-each : goal.returns-in-Some-clause-each
returns-in-Some-clause-each g c = select-law {E = AllocError} (λ ids. ids.items) c.args.self.now c.args.filters.now (Ok c.in-Some.found) (returns-in-Some-clause-numbers g c)

-- by a sort

pub returns-clause-numbers : goal.returns-clause-numbers
returns-clause-numbers g c = rw (← c.self.view_is)
    (let s = c.self.inside.store in
    select-numbers s.nodes s.keys.entries c.index.result.now (is g (goal.at.returns-clause-numbers g c).After-index) c.args.filters.now c.in_ok-ids.ids.items c.sort_by_key.new.ids.items
    c.in_ok-ids.ensures.selected c.sort_by_key.ensures.moved c.sort_by_key.ensures.sorted)

pub returns-clause-steps : goal.returns-clause-steps
returns-clause-steps g c = rw (← c.self.view_is)
    (let s = c.self.inside.store in
    let same = select-steps s.nodes s.keys.entries c.index.result.now (is g (goal.at.returns-clause-steps g c).After-index) (db_view_of s) refl c.args.filters.now in
    omega (arith, same, c.in_ok-ids.ensures.steps))

pub returns-clause-each : goal.returns-clause-each
returns-clause-each g c = select-law {E = AllocError} (λ ids. ids.items) c.args.self.now c.args.filters.now (Ok c.sort_by_key.new.ids) (returns-clause-numbers g c)
