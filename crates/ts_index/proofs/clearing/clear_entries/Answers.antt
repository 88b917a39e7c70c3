use Rattle.std.proofs.Common.{◌≡◌, ◌+◌, List, drop, get_or, sym, ◌∙◌, ap, subst, if◌then◌else◌}
use Rattle.std.proofs.lemmas.List.{drop_more, drop_all}
use Rattle.ts_sample.specs.declared.sample.Id.{Id}
use Rattle.ts_index.specs.Index.{labels_of}
use Rattle.ts_index.specs.Numbers.{has_id}
use Rattle.ts_index.specs.Clearing.{none_left}
use Rattle.ts_index.proofs.LosingLemmas.{entries-next}
use Rattle.ts_index.proofs.clearing.clear_entries.Goals as goal

pub loop-id-preserved : goal.loop-id-preserved
loop-id-preserved c = record {
  goes_on = λ i.
      let old = labels_of i c.loop-id.labels.entries in
      let all = if has_id i c.args.ids.now then none_left (labels_of i c.args.labels.now.entries) else labels_of i c.args.labels.now.entries in
      entries-next i (get_or c.args.ids.now c.loop-id.id-index (record { 0 = 0 })) (drop (c.loop-id.id-index + 1) c.args.ids.now) old (labels_of i c.clear_entry.new.labels.entries) all (c.clear_entry.ensures.cleared i)
      (subst (λ (is : List Id). (if has_id i is then none_left old else old) ≡ all)
      (drop_more c.args.ids.now c.loop-id.id-index (record { 0 = 0 }) c.loop-id-test.true)
      (c.loop-id.invariant.goes_on i));
  order = c.clear_entry.ensures.order;
}

pub returns-clause-cleared : goal.returns-clause-cleared
returns-clause-cleared c = λ i.
    ap (λ (is : List Id). if has_id i is then none_left (labels_of i c.loop-id.labels.entries) else labels_of i c.loop-id.labels.entries)
    (sym (drop_all c.loop-id.id-index c.args.ids.now c.loop-id-test.false)) ∙ c.loop-id.invariant.goes_on i
