use Rattle.std.proofs.Common.{◌∙◌, ap, rules, if◌then◌else◌}
use Rattle.ts_index.specs.Numbers.{with_id}
use Rattle.ts_index.specs.Postings.{alike, value_in}
use Rattle.ts_index.proofs.PostingLemmas.{label-changed, label-same, on_ok, on_err, by_value-none}
use Rattle.ts_index.proofs.lists.insert_pair.Goals as goal

pub returns-in-Some-clause-ok : goal.returns-in-Some-clause-ok
returns-in-Some-clause-ok c =
    on_ok c.insert_value.result (λ e. label-changed (with_id c.args.id) c.args.lists.now (c.get_mut.follows.lender c.insert_value.new.values) c.args.label.now c.args.value.now c.insert_value.new.values ((c.get_mut.follows.holds c.insert_value.new.values).3 (search rules))
    (λ v. e v ∙ ap (λ xs. if alike c.args.value.now v then with_id c.args.id xs else xs) (ap (value_in v) c.in-Some.ensures.value))) c.insert_value.ensures.ok

pub returns-in-Some-clause-err : goal.returns-in-Some-clause-err
returns-in-Some-clause-err c =
    on_err c.insert_value.result (λ e. label-same c.args.lists.now (c.get_mut.follows.lender c.insert_value.new.values) c.args.label.now c.insert_value.new.values ((c.get_mut.follows.holds c.insert_value.new.values).3 (search rules))
    (λ v. e v ∙ ap (value_in v) c.in-Some.ensures.value)) c.insert_value.ensures.err

pub returns-in_ok-insert-in-None-clause-ok : goal.returns-in_ok-insert-in-None-clause-ok
returns-in_ok-insert-in-None-clause-ok c =
    let updates = rw (c.in_ok-copy-in-None.ensures.bytes, c.get_mut.follows.holds-at-none) at c.in_ok-insert-in-None.ensures.updates in
    label-changed (with_id c.args.id) c.args.lists.now c.insert.new.self c.args.label.now c.args.value.now c.insert_value-in-None.new.values updates
    (λ v. c.in_ok-insert_value-in-None.ensures.ok v
    ∙ ap (λ xs. if alike c.args.value.now v then with_id c.args.id xs else xs) (by_value-none c.new-values.result c.new-values.ensures.empty v ∙ ap (value_in v) c.in-None.ensures.value))
