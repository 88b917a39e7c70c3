use Rattle.std.proofs.Common.{◌≡◌, ◌+◌, Some, List, length, sym, ap, ◌∙◌, arith, subst}
use Rattle.ts_spec.specs.Sample.{Point, IsAscending, first_of}
use Rattle.ts_spec.specs.Rules.{is_past}
use Rattle.ts_rules.proofs.Meeting.{met-lost, met-shown, met-ended_gone, counts-one}
use Rattle.ts_rules.proofs.IntervalReading.{ascending-rest, rest-length}
use Rattle.ts_rules.proofs.fullness.count_lost.Goals as goal

pub loop-lost-preserved-then-start-sample : goal.loop-lost-preserved-then-start-sample
loop-lost-preserved-then-start-sample g c =
    let one : Some c.in-Some.lost ≡ first_of c.loop-lost.gone = sym c.in-Some.is ∙ c.head.ensures in
    let other : Some c.in-Some-head.sample ≡ first_of c.loop-lost.shown = sym c.in-Some-head.is ∙ c.head-in-Some.ensures in
    let shorter = rest-length c.in-Some.lost c.loop-lost.gone one in
    let left = ap (λ (ps : List Point). length ps) c.advance.ensures.left in
    let same = met-lost (is_past c.args.rule.now.current) c.args.rule.now.grid c.in-Some.lost c.in-Some-head.sample c.loop-lost.gone c.loop-lost.shown c.advance.new.self c.lost.inside.time c.start_of-start.result c.sample.inside.time
    c.loop-lost.invariant.shown one other (ap (λ (p : Point). p.time) c.lost.view_is) c.start_of-start.ensures (ap (λ (p : Point). p.time) c.sample.view_is) c.if-start-sample.true c.advance.ensures.left in
    record {
      gone = subst IsAscending (sym c.advance.ensures.left) (ascending-rest c.loop-lost.gone c.loop-lost.invariant.gone);
      shown = c.loop-lost.invariant.shown;
      met = ap (λ n. c.loop-lost.count + n) same ∙ c.loop-lost.invariant.met;
      few = c.loop-lost.invariant.few;
      counted = omega (arith, c.loop-lost.invariant.counted, c.advance.ensures.steps.counted);
      bounded = omega (arith, c.loop-lost.invariant.bounded, c.advance.ensures.steps.bounded, shorter, left);
    }

pub loop-lost-preserved : goal.loop-lost-preserved
loop-lost-preserved g c =
    let one : Some c.in-Some.lost ≡ first_of c.loop-lost.gone = sym c.in-Some.is ∙ c.head.ensures in
    let other : Some c.in-Some-head.sample ≡ first_of c.loop-lost.shown = sym c.in-Some-head.is ∙ c.head-in-Some.ensures in
    let shorter = rest-length c.in-Some-head.sample c.loop-lost.shown other in
    let left = ap (λ (ps : List Point). length ps) c.advance-else-start-sample.ensures.left in
    let most = counts-one (is_past c.args.rule.now.current) c.args.rule.now.grid c.start_of-start.result c.sample.inside.time c.count_at-count.result c.count_at-count.ensures in
    let same = met-shown (is_past c.args.rule.now.current) c.args.rule.now.grid c.in-Some.lost c.in-Some-head.sample c.loop-lost.gone c.loop-lost.shown c.advance-else-start-sample.new.self c.lost.inside.time c.start_of-start.result c.sample.inside.time
    c.count_at-count.result c.loop-lost.invariant.gone one other (ap (λ (p : Point). p.time) c.lost.view_is) c.start_of-start.ensures (ap (λ (p : Point). p.time) c.sample.view_is) c.if-start-sample.false c.advance-else-start-sample.ensures.left
    c.count_at-count.ensures in
    record {
      gone = c.loop-lost.invariant.gone;
      shown = subst IsAscending (sym c.advance-else-start-sample.ensures.left) (ascending-rest c.loop-lost.shown c.loop-lost.invariant.shown);
      met = omega (arith, same, c.loop-lost.invariant.met);
      few = omega (arith, c.loop-lost.invariant.few, most, shorter, left);
      counted = omega (arith, c.loop-lost.invariant.counted, c.advance-else-start-sample.ensures.steps.counted);
      bounded = omega (arith, c.loop-lost.invariant.bounded, c.advance-else-start-sample.ensures.steps.bounded, shorter, left);
    }

pub returns-clause-count : goal.returns-clause-count
returns-clause-count g c =
    omega (arith, c.loop-lost.invariant.met, met-ended_gone (is_past c.args.rule.now.current) c.args.rule.now.grid c.loop-lost.gone c.loop-lost.shown (sym c.in_default.is ∙ c.head.ensures))
