use Rattle.std.proofs.Common.{◌∙◌, ◌==◌, ◌&&◌, not, ap, sym, refl, take}
use Rattle.ts_index.specs.Index.{has_pair}
use Rattle.ts_index.specs.Numbers.{has_id}
use Rattle.ts_index.specs.Postings.{alike, posting_in}
use Rattle.ts_index.proofs.PairLemmas.{keeps-take, step-take, has_pair-more}
use Rattle.ts_index.proofs.pairs.remove_pairs.Goals as goal

pub loop-i-init : goal.loop-i-init
loop-i-init c = record {
  ascending = c.requires.ascending;
  lists = λ p v q. keeps-take (q == c.args.id.0) _ (has_id q (posting_in p v c.args.lists.now)) refl;
}

pub loop-i-preserved : goal.loop-i-preserved
loop-i-preserved c = record {
  ascending = c.remove_unshared.ensures.ascending;
  lists = λ p v q.
      let name = c.label_at.result.now in
      let value = c.value_at.result.now in
      let x = q == c.args.id.0 in
      let n = not (has_pair p v c.args.others.now) in
      let old = has_id q (posting_in p v c.args.lists.now) in
      let so_far = has_pair p v (take c.loop-i.i c.args.labels.now) in
      let next = alike name p && alike value v in
      c.remove_unshared.ensures.lists p v q
      ∙ ap (λ o. o && not (x && (next && n))) (c.loop-i.invariant.lists p v q)
      ∙ step-take old x so_far next n
      ∙ ap (λ t. old && not (x && (t && n))) (sym (has_pair-more p v c.args.labels.now c.loop-i.i name value c.known.ensures c.label_at.ensures c.value_at.ensures));
}
