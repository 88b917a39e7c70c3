use Rattle.std.proofs.Common.{◌≡◌, ◌∙◌, ap, sym, refl, rules, []}
use Rattle.ts_index.specs.Numbers.{cleared}
use Rattle.ts_index.specs.Postings.{by_value, ids_in}
use Rattle.ts_index.proofs.PostingLemmas.{value-changed, value-none}
use Rattle.ts_index.proofs.lists.remove_from_posting.Goals as goal

pub returns-in-Some-clause-lists : goal.returns-in-Some-clause-lists
returns-in-Some-clause-lists c =
    let here : c.in-Some.list.now.items ≡ by_value c.args.value.now c.args.values.now = ap ids_in c.in-Some.ensures.value in
    value-changed (cleared c.args.id c.args.ids.now) c.args.values.now (c.get_mut.follows.lender c.take.new.list) c.args.value.now c.take.new.list ((c.get_mut.follows.holds c.take.new.list).3 (search rules)) (c.take.ensures ∙ ap (cleared c.args.id c.args.ids.now) here)

pub returns-in-None-clause-lists : goal.returns-in-None-clause-lists
returns-in-None-clause-lists c =
    let none : by_value c.args.value.now c.args.values.now ≡ [] = sym (ap ids_in c.in-None.ensures.value) in
    rw c.get_mut.follows.holds-at-none (value-none (cleared c.args.id c.args.ids.now) c.args.values.now c.args.value.now refl none)
