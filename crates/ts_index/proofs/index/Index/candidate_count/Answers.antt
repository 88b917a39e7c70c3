use Rattle.std.proofs.Common.{◌≡◌, ◌≤◌, ◌+◌, ◌∙◌, ℕ, List, drop, length, ap, zero-add, arith}
use Rattle.ts_spec.specs.Filter.{holds}
use Rattle.ts_index.specs.Index.{ids_where, has_pair}
use Rattle.ts_index.specs.Bounds.{candidates}
use Rattle.ts_index.proofs.CandidateLemmas.{total, count-filter}
use Rattle.ts_index.proofs.NarrowLemmas.{count-on, length-where}
use Rattle.ts_index.proofs.index.Index.candidate_count.Goals as goal

pub loop-value-init : goal.loop-value-init
loop-value-init c =
    zero-add (total c.label-label.result.now c.args.self.now c.values-values.result.now)
    ∙ count-filter c.args.filter.now c.label-label.result.now c.values-values.result.now c.args.self.now c.requires c.label-label.ensures c.values-values.ensures.alike c.values-values.ensures.once

pub overflow_add-count : goal.overflow_add-count
overflow_add-count c =
    let es = c.args.self.now in
    let values = c.values-values.result.now in
    let one = λ (value : List ℕ). length (ids_where (has_pair c.label-label.result.now value) es) in
    let here : length c.posting.result.now ≡ one c.value-item.result = ap length c.posting.ensures in
    let so-far : c.loop-value.count + one c.value-item.result + total c.label-label.result.now es (drop (c.loop-value.value-index + 1) values) ≡ candidates es c.args.filter.now =
    count-on one values c.loop-value.value-index c.value-item.result c.loop-value.count (candidates es c.args.filter.now) c.loop-value-test.true c.value-item.is c.loop-value.invariant in
    let few : candidates es c.args.filter.now ≤ length es = length-where (holds c.args.filter.now) es in
    omega (arith, here, so-far, few, c.len-all.ensures.len, c.len-all.ensures.small)
