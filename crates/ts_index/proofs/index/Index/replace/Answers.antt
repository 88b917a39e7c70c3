use Rattle.std.proofs.Common.{◌≡◌, ◌∙◌, ◌==◌, ◌&&◌, not, ap, sym, subst, take, Some}
use Rattle.ts_index.specs.Index.{Relabels, labels_of, has_pair}
use Rattle.ts_index.specs.Numbers.{AreInOrder, has_id, pass}
use Rattle.ts_index.specs.Pairs.{is_own}
use Rattle.ts_index.specs.Postings.{posting_in}
use Rattle.ts_index.proofs.IndexLemmas.{posting_list-where, ascending-where, posted-same, posted-after, replaced, not_theirs, other-insert_id, other-take, whole}
use Rattle.ts_index.proofs.index.Index.replace.Goals as goal

pub insert_pairs-requires-clause-ascending : goal.insert_pairs-requires-clause-ascending
insert_pairs-requires-clause-ascending c =
    let es = c.self.inside.labels.entries in
    let lists = c.self.inside.lists in
    let id = c.args.id.0 in
    let o : AreInOrder es = subst AreInOrder (sym c.self.view_is) c.known.ensures in
    ascending-where es lists o c.self.invariant

pub insert_pairs-requires-clause-absent : goal.insert_pairs-requires-clause-absent
insert_pairs-requires-clause-absent c = λ l v h.
    let es = c.self.inside.labels.entries in
    let lists = c.self.inside.lists in
    let id = c.args.id.0 in
    let o : AreInOrder es = subst AreInOrder (sym c.self.view_is) c.known.ensures in
    let had : labels_of id es ≡ Some c.args.old.now = subst (λ e. labels_of id e ≡ Some c.args.old.now) (sym c.self.view_is) c.requires.there in
    posting_list-where es lists o c.self.invariant l v id ∙ ap (pass (has_pair l v)) had ∙ not_theirs (has_pair l v c.args.new.now) (has_pair l v c.args.old.now) h

pub invariant_of-self : goal.invariant_of-self
invariant_of-self c =
    let es = c.self.inside.labels.entries in
    let lists = c.self.inside.lists in
    let id = c.args.id.0 in
    let o : AreInOrder es = subst AreInOrder (sym c.self.view_is) c.known.ensures in
    posted-same es lists c.insert_pairs.new.lists o c.self.invariant c.insert_pairs.ensures.ascending c.in_err-insert_pairs.ensures.err

pub invariant_of-self-2 : goal.invariant_of-self-2
invariant_of-self-2 c =
    let es = c.self.inside.labels.entries in
    let lists = c.self.inside.lists in
    let id = c.args.id.0 in
    let o : AreInOrder es = subst AreInOrder (sym c.self.view_is) c.known.ensures in
    let had : labels_of id es ≡ Some c.args.old.now = subst (λ e. labels_of id e ≡ Some c.args.old.now) (sym c.self.view_is) c.requires.there in
    let old = c.args.old.now in
    let new = c.args.new.now in
    posted-after es c.swap.new.labels.entries c.remove_pairs.new.lists c.args.id (Some new) c.swap.ensures.order
    (subst (λ labels. Relabels c.args.id (Some labels) es c.swap.new.labels.entries) c.in_ok-shared.ensures c.swap.ensures.gives)
    c.remove_pairs.ensures.ascending
    (λ l v. c.remove_pairs.ensures.lists l v id
    ∙ ap (λ ls. has_id id (posting_in l v c.insert_pairs.new.lists) && not ((id == id) && is_own l v ls new)) (whole old c.len.result c.len.ensures.len)
    ∙ ap (λ r. r && not ((id == id) && is_own l v old new)) (c.in_ok-insert_pairs.ensures.ok l v id)
    ∙ replaced id (has_pair l v old) (has_pair l v new) (has_id id (posting_in l v lists)) (posting_list-where es lists o c.self.invariant l v id ∙ ap (pass (has_pair l v)) had))
    (λ l v q p. c.remove_pairs.ensures.lists l v q
    ∙ other-take (q == id) (is_own l v (take c.len.result old) new) (has_id q (posting_in l v c.insert_pairs.new.lists)) p
    ∙ c.in_ok-insert_pairs.ensures.ok l v q
    ∙ other-insert_id (q == id) (is_own l v new old) (has_id q (posting_in l v lists)) p
    ∙ posting_list-where es lists o c.self.invariant l v q)
