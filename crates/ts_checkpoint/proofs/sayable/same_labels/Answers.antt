use Rattle.std.proofs.Common.{rules, ◌≡◌, ◌+◌, suc, List, ℕ, take, Some, sym, ap, ◌∙◌, subst, arith}
use Rattle.ts_checkpoint.proofs.SameLabels.{same-next}
use Rattle.ts_checkpoint.proofs.sayable.same_labels.Goals as goal

pub loop-i-preserved : goal.loop-i-preserved
loop-i-preserved c =
    let i = c.loop-i.i in
    let name : c.label_at.result.now ≡ c.label_at-in-loop-i.result.now = search rules in
    let value : c.value_at.result.now ≡ c.value_at-in-loop-i.result.now = search rules in
    let other_name = c.label_at-in-loop-i.ensures ∙ ap (λ (n : List ℕ). Some n) (sym name) in
    let other_value = c.value_at-in-loop-i.ensures ∙ ap (λ (v : List ℕ). Some v) (sym value) in
    let more = same-next c.args.some.now c.args.others.now i c.label_at.result.now c.value_at.result.now c.label_at.ensures c.value_at.ensures other_name other_value c.loop-i.invariant.same in
    let next : suc i ≡ i + 1 = omega arith in
    record { lengths = c.loop-i.invariant.lengths; same = subst (λ (n : ℕ). take n c.args.some.now ≡ take n c.args.others.now) next more }
