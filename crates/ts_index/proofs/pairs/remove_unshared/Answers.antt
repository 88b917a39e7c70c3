use Rattle.std.proofs.Common.{◌≡◌, ◌∙◌, ◌==◌, ◌&&◌, sym, true, false}
use Rattle.ts_index.specs.Numbers.{has_id}
use Rattle.ts_index.specs.Index.{has_pair}
use Rattle.ts_index.specs.Postings.{alike, posting_in}
use Rattle.ts_index.proofs.PairLemmas.{keeps-take, not_own, own, ascending-take, member-take}
use Rattle.ts_index.proofs.ClearLemmas.{sorted-one, own-id, cleared-alone}
use Rattle.ts_index.proofs.pairs.remove_unshared.Goals as goal

pub returns-then-has_pair-clause-lists : goal.returns-then-has_pair-clause-lists
returns-then-has_pair-clause-lists c = λ l v q.
    let there : has_pair c.args.label.now c.args.value.now c.args.others.now ≡ true = sym c.has_pair.ensures ∙ c.if-has_pair.true in
    keeps-take (q == c.args.id.0) _ (has_id q (posting_in l v c.args.lists.now)) (not_own c.args.label.now c.args.value.now l v c.args.others.now there)

pub returns-clause-ascending : goal.returns-clause-ascending
returns-clause-ascending c = λ l v.
    ascending-take c.args.id (alike c.args.label.now l && alike c.args.value.now v) (posting_in l v c.remove_pair.new.lists) (posting_in l v c.args.lists.now)
    (cleared-alone c.args.id (alike c.args.label.now l && alike c.args.value.now v) (posting_in l v c.remove_pair.new.lists) (posting_in l v c.args.lists.now) (c.requires.ascending l v) (c.remove_pair.ensures l v)) (c.requires.ascending l v)

pub returns-clause-lists : goal.returns-clause-lists
returns-clause-lists c = λ l v q.
    let there : has_pair c.args.label.now c.args.value.now c.args.others.now ≡ false = sym c.has_pair.ensures ∙ c.if-has_pair.false in
    member-take c.args.id (alike c.args.label.now l && alike c.args.value.now v) _ (posting_in l v c.remove_pair.new.lists) (posting_in l v c.args.lists.now) q
    (cleared-alone c.args.id (alike c.args.label.now l && alike c.args.value.now v) (posting_in l v c.remove_pair.new.lists) (posting_in l v c.args.lists.now) (c.requires.ascending l v) (c.remove_pair.ensures l v))
    (own c.args.label.now c.args.value.now l v c.args.others.now there) (c.requires.ascending l v)

pub remove_pair-requires-clause-sorted : goal.remove_pair-requires-clause-sorted
remove_pair-requires-clause-sorted c = sorted-one c.args.id

pub remove_pair-requires-clause-among : goal.remove_pair-requires-clause-among
remove_pair-requires-clause-among c = own-id c.args.id
