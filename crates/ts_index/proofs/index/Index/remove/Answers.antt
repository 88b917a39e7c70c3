use Rattle.std.proofs.Common.{◌≡◌, ◌∙◌, ◌==◌, ◌&&◌, not, ap, sym, subst, take, Some, None}
use Rattle.ts_index.specs.Index.{labels_of, has_pair}
use Rattle.ts_index.specs.Numbers.{AreInOrder, has_id, pass}
use Rattle.ts_index.specs.Pairs.{is_own}
use Rattle.ts_index.specs.Postings.{posting_in}
use Rattle.ts_index.proofs.NumberLemmas.{AreInOrder-by_keys}
use Rattle.ts_index.proofs.IndexLemmas.{posting_list-where, ascending-where, posted-after, went, other-take, gives-updated, whole}
use Rattle.ts_index.proofs.index.Index.remove.Goals as goal

pub remove_pairs-requires-clause-ascending : goal.remove_pairs-requires-clause-ascending
remove_pairs-requires-clause-ascending c =
    let es = c.self.inside.labels.entries in
    let lists = c.self.inside.lists in
    let id = c.args.id.0 in
    let o : AreInOrder es = subst AreInOrder (sym c.self.view_is) c.known.ensures in
    ascending-where es lists o c.self.invariant

pub invariant_of-self : goal.invariant_of-self
invariant_of-self c =
    let es = c.self.inside.labels.entries in
    let lists = c.self.inside.lists in
    let id = c.args.id.0 in
    let o : AreInOrder es = subst AreInOrder (sym c.self.view_is) c.known.ensures in
    let had : labels_of id es ≡ Some c.args.labels.now = subst (λ e. labels_of id e ≡ Some c.args.labels.now) (sym c.self.view_is) c.requires.there in
    let labels = c.args.labels.now in
    let others = c.new-none.result in
    let updates = c.remove-labels.ensures.updates in
    posted-after es c.remove-labels.new.self.entries c.remove_pairs.new.lists c.args.id None
    (AreInOrder-by_keys c.remove-labels.new.self.entries c.remove-labels.ensures.ordered)
    (gives-updated c.args.id None es c.remove-labels.new.self.entries updates.1 (λ q f. updates.2 q f))
    c.remove_pairs.ensures.ascending
    (λ l v. c.remove_pairs.ensures.lists l v id
    ∙ ap (λ ls. has_id id (posting_in l v lists) && not ((id == id) && is_own l v ls others)) (whole labels c.len.result c.len.ensures.len)
    ∙ ap (λ e. has_id id (posting_in l v lists) && not ((id == id) && is_own l v labels e)) c.new-none.ensures
    ∙ went id (has_pair l v labels) (has_id id (posting_in l v lists)) (posting_list-where es lists o c.self.invariant l v id ∙ ap (pass (has_pair l v)) had))
    (λ l v q p. c.remove_pairs.ensures.lists l v q ∙ other-take (q == id) (is_own l v (take c.len.result labels) others) (has_id q (posting_in l v lists)) p ∙ posting_list-where es lists o c.self.invariant l v q)
