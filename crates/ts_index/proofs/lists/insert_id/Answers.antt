use Rattle.std.proofs.Common.{◌∙◌, sym}
use Rattle.ts_index.proofs.PlaceLemmas.{inserted, already}
use Rattle.ts_index.proofs.lists.insert_id.Goals as goal

pub returns-in_ok-insert-clause-ok : goal.returns-in_ok-insert-clause-ok
returns-in_ok-insert-clause-ok c =
    c.in_ok-insert.ensures.items
    ∙ inserted c.args.list.now.items c.in-Err.place c.args.id c.requires (rw c.deref.ensures.value at c.in-Err.ensures.bound) (rw c.deref.ensures.value at c.in-Err.ensures.position)

pub returns-in_default-clause-ok : goal.returns-in_default-clause-ok
returns-in_default-clause-ok c =
    sym (already c.args.list.now.items c.in_default.field-0 c.args.id c.requires (rw c.deref.ensures.value at c.in_default.ensures.bound) (rw c.deref.ensures.value at c.in_default.ensures.ok))
