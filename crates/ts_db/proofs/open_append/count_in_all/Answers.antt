use Rattle.std.proofs.Common.{◌<◌, ℕ, List, length, slice_index_or, refl, ap, subst, arith}
use Rattle.std.proofs.lemmas.List.{drop_more}
use Rattle.ts_spec.specs.Aggregate.{Summary}
use Rattle.ts_rules.specs.declared.rule.Rule.{Rule}
use Rattle.ts_rules.specs.Rules.{stored_rule_for}
use Rattle.ts_db.specs.OpenAppend.{counted_once_more, CanCountOneMore}
use Rattle.ts_db.proofs.Grown.{one-more, others-same}
use Rattle.ts_db.proofs.open_append.count_in_all.Goals as goal

pub loop-rule-preserved : goal.loop-rule-preserved
loop-rule-preserved c =
    let all : List Rule = c.deref_mut-rule-items.result.now in
    let now : List Rule = c.loop-rule.rule-items in
    let i : ℕ = c.loop-rule.rule-index in
    let r : Rule = slice_index_or now i c.rule-item.result in
    let below : i < length now = omega (arith, c.loop-rule-test.true, c.loop-rule.auto.rule-items) in
    record {
      done = one-more (counted_once_more c.args.wrote.now) all now i c.rule-item.result _ c.loop-rule-test.true below c.loop-rule.invariant.others c.loop-rule.invariant.done
          (record { dest = refl; kept = λ k. ap (λ (s : Summary). record (stored_rule_for k r) { running = s }) c.push.ensures.pushed });
      others = others-same all now i _ c.loop-rule.invariant.others;
      room = (subst CanCountOneMore (drop_more all i c.rule-item.result c.loop-rule-test.true) c.loop-rule.invariant.room).1;
    }
