use Rattle.std.proofs.Common.{List, sym, ◌∙◌, ap}
use Rattle.std.specs.Prelude.{if◌then◌else◌}
use Rattle.ts_sample.specs.declared.sample.Id.{Id}
use Rattle.ts_index.specs.Numbers.{without_all, cleared}
use Rattle.ts_index.proofs.PlaceLemmas.{sorted_numbers, absent, present, removed}
use Rattle.ts_index.proofs.ClearLemmas.{cleared-one, alone}
use Rattle.ts_index.proofs.taking.take.Goals as goal

pub returns-in_default : goal.returns-in_default
returns-in_default c =
    let list = c.args.list.now.items in
    sym (ap (λ b. if b then without_all c.args.ids.now list else list)
    (absent list c.in_default.field-0 c.args.id (sorted_numbers list c.requires.ascending) (rw c.deref.ensures.value at c.in_default.ensures.position)))

pub returns-then-ids-eq1 : goal.returns-then-ids-eq1
returns-then-ids-eq1 c =
    let list = c.args.list.now.items in
    c.remove-id.ensures.items
    ∙ removed list c.in-Ok.place c.args.id c.requires.ascending (rw c.deref.ensures.value at c.in-Ok.ensures.bound) (rw c.deref.ensures.value at c.in-Ok.ensures.ok)
    ∙ sym (cleared-one c.args.id list c.requires.ascending)
    ∙ ap (λ (is : List Id). cleared c.args.id is list) (sym (alone c.args.ids.now c.args.id c.if-ids-eq1.true c.requires.among))

pub returns-else-ids-eq1 : goal.returns-else-ids-eq1
returns-else-ids-eq1 c =
    let list = c.args.list.now.items in
    c.remove_all.ensures
    ∙ sym (ap (λ b. if b then without_all c.args.ids.now list else list)
    (present list c.in-Ok.place c.args.id (rw c.deref.ensures.value at c.in-Ok.ensures.bound) (rw c.deref.ensures.value at c.in-Ok.ensures.ok)))
