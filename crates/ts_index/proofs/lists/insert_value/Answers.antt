use Rattle.std.proofs.Common.{◌≡◌, ◌∙◌, ap, sym, rules, [], ◌∷◌, ◌++◌}
use Rattle.ts_index.specs.Numbers.{with_id}
use Rattle.ts_index.specs.Postings.{by_value, ids_in}
use Rattle.ts_index.proofs.PostingLemmas.{value-changed, value-same, on_ok, on_err}
use Rattle.ts_index.proofs.lists.insert_value.Goals as goal

pub returns-in-Some-clause-ok : goal.returns-in-Some-clause-ok
returns-in-Some-clause-ok c =
    let here : c.in-Some.list.now.items ≡ by_value c.args.value.now c.args.values.now = ap ids_in c.in-Some.ensures.value in
    on_ok c.insert_id.result (λ e. value-changed (with_id c.args.id) c.args.values.now (c.get_mut.follows.lender c.insert_id.new.list) c.args.value.now c.insert_id.new.list ((c.get_mut.follows.holds c.insert_id.new.list).3 (search rules)) (e ∙ ap (with_id c.args.id) here)) c.insert_id.ensures.ok

pub returns-in-Some-clause-err : goal.returns-in-Some-clause-err
returns-in-Some-clause-err c =
    let here : c.in-Some.list.now.items ≡ by_value c.args.value.now c.args.values.now = ap ids_in c.in-Some.ensures.value in
    on_err c.insert_id.result (λ e. value-same c.args.values.now (c.get_mut.follows.lender c.insert_id.new.list) c.args.value.now c.insert_id.new.list ((c.get_mut.follows.holds c.insert_id.new.list).3 (search rules)) (e ∙ here)) c.insert_id.ensures.err

pub returns-in_ok-insert-in-None-clause-ok : goal.returns-in_ok-insert-in-None-clause-ok
returns-in_ok-insert-in-None-clause-ok c =
    let none : by_value c.args.value.now c.args.values.now ≡ [] = sym (ap ids_in c.in-None.ensures.value) in
    let updates = rw (c.in_ok-copy-in-None.ensures.bytes, c.get_mut.follows.holds-at-none) at c.in_ok-insert-in-None.ensures.updates in
    value-changed (with_id c.args.id) c.args.values.now c.insert.new.self c.args.value.now c.push.new.self updates
    (c.in_ok-push-in-None.ensures.items ∙ ap (λ xs. xs ++ c.args.id ∷ []) c.new-list.ensures.items ∙ sym (ap (with_id c.args.id) none))
