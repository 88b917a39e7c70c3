use Rattle.std.proofs.Common.{List, [], ◌∷◌, ◌++◌, sym, ap, ◌∙◌}
use Rattle.std.proofs.lemmas.Result.{on_ok_weaker}
use Rattle.ts_sample.specs.declared.sample.Id.{Id}
use Rattle.ts_group.proofs.Sorted.{sorted-inserted, sorted-added}
use Rattle.ts_questions.proofs.by_value.add_to.Goals as goal

pub returns-in_ok-insert-in-None : goal.returns-in_ok-insert-in-None
returns-in_ok-insert-in-None c = λ series. λ label. λ ns. λ has. λ is.
    sorted-inserted series label c.args.value.now c.args.groups.now.entries c.insert.new.self.entries c.add-in-None.new.self ns c.args.id has is (sym c.in-None.ensures.value)
    (c.in_ok-add-in-None.ensures ∙ ap (λ (l : List Id). l ++ c.args.id ∷ []) c.new-numbers.ensures)
    (rw (c.get_mut.follows.holds-at-none, c.in_ok-copy-in-None.ensures.bytes) at c.in_ok-insert-in-None.ensures.entries)

pub returns-in-Some : goal.returns-in-Some
returns-in-Some c =
    on_ok_weaker c.add.result
    (λ h. λ series. λ label. λ ns. λ has. λ is.
    sorted-added series label c.args.value.now c.args.groups.now.entries (c.get_mut.follows.lender c.add.new.self).entries c.in-Some.numbers.now c.add.new.self
    ns c.args.id has is (sym c.in-Some.ensures.value) h (c.get_mut.follows.holds c.add.new.self).0)
    c.add.ensures
