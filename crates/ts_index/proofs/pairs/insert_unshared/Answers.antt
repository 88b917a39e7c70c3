use Rattle.std.proofs.Common.{◌≡◌, ◌∙◌, ◌==◌, ◌&&◌, sym, subst, true, false}
use Rattle.ts_index.specs.Numbers.{AreAscending, has_id}
use Rattle.ts_index.specs.Index.{has_pair}
use Rattle.ts_index.specs.Postings.{alike, posting_in}
use Rattle.ts_index.proofs.PostingLemmas.{on_ok, either}
use Rattle.ts_index.proofs.PairLemmas.{keeps-insert_id, not_own, own, ascending-insert_id, member-insert_id}
use Rattle.ts_index.proofs.pairs.insert_unshared.Goals as goal

pub returns-then-has_pair-clause-ok : goal.returns-then-has_pair-clause-ok
returns-then-has_pair-clause-ok c = λ l v q.
    let there : has_pair c.args.label.now c.args.value.now c.args.others.now ≡ true = sym c.has_pair.ensures ∙ c.if-has_pair.true in
    keeps-insert_id (q == c.args.id.0) _ (has_id q (posting_in l v c.args.lists.now)) (not_own c.args.label.now c.args.value.now l v c.args.others.now there)

pub returns-clause-ascending : goal.returns-clause-ascending
returns-clause-ascending c = λ l v.
    either c.insert_pair.result c.insert_pair.ensures.ok c.insert_pair.ensures.err
    (λ e. ascending-insert_id c.args.id (alike c.args.label.now l && alike c.args.value.now v) (posting_in l v c.insert_pair.new.lists) (posting_in l v c.args.lists.now) (e l v) (c.requires.ascending l v))
    (λ e. subst AreAscending (sym (e l v)) (c.requires.ascending l v))

pub returns-clause-ok : goal.returns-clause-ok
returns-clause-ok c =
    let there : has_pair c.args.label.now c.args.value.now c.args.others.now ≡ false = sym c.has_pair.ensures ∙ c.if-has_pair.false in
    on_ok c.insert_pair.result (λ e l v q. member-insert_id c.args.id (alike c.args.label.now l && alike c.args.value.now v) _ (posting_in l v c.insert_pair.new.lists) (posting_in l v c.args.lists.now) q (e l v)
    (own c.args.label.now c.args.value.now l v c.args.others.now there)) c.insert_pair.ensures.ok
