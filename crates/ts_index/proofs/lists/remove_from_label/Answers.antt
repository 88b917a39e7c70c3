use Rattle.std.proofs.Common.{◌∙◌, ap, sym, refl, rules, if◌then◌else◌}
use Rattle.ts_index.specs.Numbers.{cleared}
use Rattle.ts_index.specs.Postings.{alike, value_in}
use Rattle.ts_index.proofs.PostingLemmas.{label-changed, label-none}
use Rattle.ts_index.proofs.lists.remove_from_label.Goals as goal

pub returns-in-Some-clause-lists : goal.returns-in-Some-clause-lists
returns-in-Some-clause-lists c =
    label-changed (cleared c.args.id c.args.ids.now) c.args.lists.now (c.get_mut.follows.lender c.remove_value.new.values) c.args.label.now c.args.value.now c.remove_value.new.values ((c.get_mut.follows.holds c.remove_value.new.values).3 (search rules))
    (λ v. c.remove_value.ensures v ∙ ap (λ xs. if alike c.args.value.now v then cleared c.args.id c.args.ids.now xs else xs) (ap (value_in v) c.in-Some.ensures.value))

pub returns-in-None-clause-lists : goal.returns-in-None-clause-lists
returns-in-None-clause-lists c =
    rw c.get_mut.follows.holds-at-none (label-none (cleared c.args.id c.args.ids.now) c.args.lists.now c.args.label.now c.args.value.now refl (λ v. sym (ap (value_in v) c.in-None.ensures.value)))
