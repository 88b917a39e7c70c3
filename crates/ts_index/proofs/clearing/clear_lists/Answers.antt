use Rattle.std.proofs.Common.{◌≡◌, ◌+◌, ℕ, true, false, List, drop, get_or, refl, sym, ◌∙◌, ap, subst}
use Rattle.std.proofs.lemmas.Bool.{false≢true}
use Rattle.std.proofs.lemmas.List.{drop_more, drop_all}
use Rattle.ts_sample.specs.declared.sample.Id.{Id}
use Rattle.ts_index.specs.Numbers.{has_id}
use Rattle.ts_index.specs.Postings.{posting_in}
use Rattle.ts_index.proofs.IndexLemmas.{ascending-where, posting_list-where}
use Rattle.ts_index.proofs.PlaceLemmas.{has-at}
use Rattle.ts_index.proofs.LosingLemmas.{loses-none, loses-more, gone-next}
use Rattle.ts_index.proofs.clearing.clear_lists.Goals as goal

-- the id at an index
abbrev item : List Id → ℕ → Id
item ids k = get_or ids k (record { 0 = 0 })

pub loop-id-init : goal.loop-id-init
loop-id-init c = record {
  loses = loses-none c.args.ids.now c.args.lists.now (ascending-where c.args.labels.now.entries c.args.lists.now c.requires.order c.requires.posted);
  gone = λ p v q h n. absurd (false≢true (sym n ∙ h));
}

pub clear_id-requires-clause-among : goal.clear_id-requires-clause-among
clear_id-requires-clause-among c = has-at c.args.ids.now c.loop-id.id-index (record { 0 = 0 }) (item c.args.ids.now c.loop-id.id-index) c.loop-id-test.true refl

pub clear_id-requires-clause-ascending : goal.clear_id-requires-clause-ascending
clear_id-requires-clause-ascending c = c.loop-id.invariant.loses.ascending

pub clear_id-requires-clause-listed : goal.clear_id-requires-clause-listed
clear_id-requires-clause-listed c = λ p v h.
    sym (posting_list-where c.args.labels.now.entries c.args.lists.now c.requires.order c.requires.posted p v (item c.args.ids.now c.loop-id.id-index).0) ∙ c.loop-id.invariant.loses.fewer p v (item c.args.ids.now c.loop-id.id-index).0 h

pub loop-id-preserved : goal.loop-id-preserved
loop-id-preserved c = record {
  loses = loses-more c.args.ids.now c.args.lists.now c.loop-id.lists c.clear_id.new.lists c.loop-id.invariant.loses c.clear_id.ensures.loses;
  gone = gone-next c.args.ids.now (item c.args.ids.now c.loop-id.id-index) (drop (c.loop-id.id-index + 1) c.args.ids.now) c.loop-id.lists c.clear_id.new.lists c.clear_id.ensures.loses c.clear_id.ensures.gone
      (subst (λ (is : List Id). (l v : List ℕ) (q : ℕ) → has_id q c.args.ids.now ≡ true → has_id q is ≡ false → has_id q (posting_in l v c.loop-id.lists) ≡ false)
      (drop_more c.args.ids.now c.loop-id.id-index (record { 0 = 0 }) c.loop-id-test.true)
      c.loop-id.invariant.gone);
}

pub returns-clause-gone : goal.returns-clause-gone
returns-clause-gone c = λ p v q h. c.loop-id.invariant.gone p v q h (ap (has_id q) (drop_all c.loop-id.id-index c.args.ids.now c.loop-id-test.false))
