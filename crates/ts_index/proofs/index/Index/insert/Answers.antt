use Rattle.std.proofs.Common.{◌≡◌, ◌∙◌, ◌==◌, ◌&&◌, ◌||◌, not, ap, sym, subst, eqb-true, Some, None}
use Rattle.ts_index.specs.Index.{labels_of, has_pair}
use Rattle.ts_index.specs.Numbers.{AreInOrder, has_id, pass}
use Rattle.ts_index.specs.Pairs.{is_own}
use Rattle.ts_index.specs.Postings.{posting_in, ArePosted}
use Rattle.ts_index.proofs.NumberLemmas.{AreInOrder-by_keys}
use Rattle.ts_index.proofs.PairLemmas.{undone}
use Rattle.ts_index.proofs.IndexLemmas.{posting_list-where, ascending-where, posted-same, posted-after, came, other-insert_id, gives-updated, whole}
use Rattle.ts_index.proofs.index.Index.insert.Goals as goal

pub insert_pairs-requires-clause-ascending : goal.insert_pairs-requires-clause-ascending
insert_pairs-requires-clause-ascending c =
    let es = c.self.inside.labels.entries in
    let lists = c.self.inside.lists in
    let id = c.args.id.0 in
    let o : AreInOrder es = subst AreInOrder (sym c.self.view_is) c.known.ensures in
    ascending-where es lists o c.self.invariant

pub insert_pairs-requires-clause-absent : goal.insert_pairs-requires-clause-absent
insert_pairs-requires-clause-absent c = λ l v h.
    let es = c.self.inside.labels.entries in
    let lists = c.self.inside.lists in
    let id = c.args.id.0 in
    let o : AreInOrder es = subst AreInOrder (sym c.self.view_is) c.known.ensures in
    let none : labels_of id es ≡ None = subst (λ e. labels_of id e ≡ None) (sym c.self.view_is) c.requires.absent in
    posting_list-where es lists o c.self.invariant l v id ∙ ap (pass (has_pair l v)) none

pub invariant_of-self : goal.invariant_of-self
invariant_of-self c =
    let es = c.self.inside.labels.entries in
    let lists = c.self.inside.lists in
    let id = c.args.id.0 in
    let o : AreInOrder es = subst AreInOrder (sym c.self.view_is) c.known.ensures in
    posted-same es lists c.insert_pairs.new.lists o c.self.invariant c.insert_pairs.ensures.ascending c.in_err-insert_pairs.ensures.err

pub invariant_of-self-in-Ok : goal.invariant_of-self-in-Ok
invariant_of-self-in-Ok c =
    let es = c.self.inside.labels.entries in
    let lists = c.self.inside.lists in
    let id = c.args.id.0 in
    let o : AreInOrder es = subst AreInOrder (sym c.self.view_is) c.known.ensures in
    let none : labels_of id es ≡ None = subst (λ e. labels_of id e ≡ None) (sym c.self.view_is) c.requires.absent in
    let labels = c.args.labels.now in
    let updates = c.in-Ok.ensures.updates in
    posted-after es c.insert.new.self.entries c.insert_pairs.new.lists c.args.id (Some labels)
    (AreInOrder-by_keys c.insert.new.self.entries c.in-Ok.ensures.ordered)
    (gives-updated c.args.id (Some labels) es c.insert.new.self.entries (updates.1 ∙ ap Some c.in_ok-shared.ensures) (λ q f. updates.2 q f))
    c.insert_pairs.ensures.ascending
    (λ l v. c.in_ok-insert_pairs.ensures.ok l v id
    ∙ ap (λ e. ((id == id) && is_own l v labels e) || has_id id (posting_in l v lists)) c.new-none.ensures
    ∙ came id (has_pair l v labels) (has_id id (posting_in l v lists)) (posting_list-where es lists o c.self.invariant l v id ∙ ap (pass (has_pair l v)) none))
    (λ l v q p. c.in_ok-insert_pairs.ensures.ok l v q ∙ other-insert_id (q == id) (is_own l v labels c.new-none.result) (has_id q (posting_in l v lists)) p ∙ posting_list-where es lists o c.self.invariant l v q)

pub invariant_of-self-in-Err : goal.invariant_of-self-in-Err
invariant_of-self-in-Err c =
    let es = c.self.inside.labels.entries in
    let lists = c.self.inside.lists in
    let id = c.args.id.0 in
    let o : AreInOrder es = subst AreInOrder (sym c.self.view_is) c.known.ensures in
    let none : labels_of id es ≡ None = subst (λ e. labels_of id e ≡ None) (sym c.self.view_is) c.requires.absent in
    let labels = c.args.labels.now in
    let others = c.new-none.result in
    let after = c.remove_pairs.new.lists in
    subst (λ e. ArePosted e after) (sym c.in-Err.ensures.err)
    (posted-same es lists after o c.self.invariant c.remove_pairs.ensures.ascending
    (λ l v q. c.remove_pairs.ensures.lists l v q
    ∙ ap (λ ls. has_id q (posting_in l v c.insert_pairs.new.lists) && not ((q == id) && is_own l v ls others)) (whole labels c.len.result c.len.ensures.len)
    ∙ ap (λ r. r && not ((q == id) && is_own l v labels others)) (c.in_ok-insert_pairs.ensures.ok l v q)
    ∙ undone (q == id) (has_pair l v labels) (not (has_pair l v others)) (has_id q (posting_in l v lists))
    (λ a b. ap (λ m. has_id m (posting_in l v lists)) (eqb-true q id a) ∙ posting_list-where es lists o c.self.invariant l v id ∙ ap (pass (has_pair l v)) none)))
