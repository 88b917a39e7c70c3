use Rattle.std.proofs.Common.{◌∙◌, ◌==◌, ◌&&◌, ◌||◌, not, ap, sym, refl, take, eqb-true}
use Rattle.ts_index.specs.Index.{has_pair}
use Rattle.ts_index.specs.Numbers.{has_id}
use Rattle.ts_index.specs.Pairs.{is_own}
use Rattle.ts_index.specs.Postings.{alike, posting_in}
use Rattle.ts_index.proofs.PairLemmas.{keeps-insert_id, step-insert_id, has_pair-more, undone, own-take}
use Rattle.ts_index.proofs.pairs.insert_pairs.Goals as goal

pub loop-i-init : goal.loop-i-init
loop-i-init c = record {
  ascending = c.requires.ascending;
  lists = λ p v q. keeps-insert_id (q == c.args.id.0) _ (has_id q (posting_in p v c.args.lists.now)) refl;
}

pub loop-i-preserved : goal.loop-i-preserved
loop-i-preserved c = record {
  ascending = c.insert_unshared.ensures.ascending;
  lists = λ p v q.
      let name = c.label_at.result.now in
      let value = c.value_at.result.now in
      let x = q == c.args.id.0 in
      let n = not (has_pair p v c.args.others.now) in
      let old = has_id q (posting_in p v c.args.lists.now) in
      let so_far = has_pair p v (take c.loop-i.i c.args.labels.now) in
      let next = alike name p && alike value v in
      c.in_default.ensures.ok p v q
      ∙ ap (λ o. (x && (next && n)) || o) (c.loop-i.invariant.lists p v q)
      ∙ step-insert_id old x so_far next n
      ∙ ap (λ t. (x && (t && n)) || old) (sym (has_pair-more p v c.args.labels.now c.loop-i.i name value c.known.ensures c.label_at.ensures c.value_at.ensures));
}

pub returns-in-Err-clause-err : goal.returns-in-Err-clause-err
returns-in-Err-clause-err c = λ p v q.
    let labels = c.args.labels.now in
    let others = c.args.others.now in
    let old = posting_in p v c.args.lists.now in
    let x = q == c.args.id.0 in
    let own = is_own p v (take c.loop-i.i labels) others in
    c.remove_pairs.ensures.lists p v q
    ∙ ap (λ r. r && not (x && own)) (ap (has_id q) (c.in-Err.ensures.err p v) ∙ c.loop-i.invariant.lists p v q)
    ∙ undone x (has_pair p v (take c.loop-i.i labels)) (not (has_pair p v others)) (has_id q old)
    (λ a b. ap (λ m. has_id m old) (eqb-true q c.args.id.0 a) ∙ c.requires.absent p v (own-take p v labels others c.loop-i.i b))
