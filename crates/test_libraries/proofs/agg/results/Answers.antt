use Rattle.std.proofs.Common.{◌≡◌, [], ◌∷◌, ◌++◌, length, refl, ◌∙◌, ap, arith, length-append}
use Rattle.ts_spec.specs.Sample.{Point}
use Rattle.ts_spec.specs.Aggregate.{Summary}
use Rattle.ts_spec.proofs.Aggregates.{summary-count}
use Rattle.test_libraries.proofs.agg.results.Goals as goal

pub loop-millionths-init : goal.loop-millionths-init
loop-millionths-init c = ([], c.new-running.ensures, refl)

pub push-requires : goal.push-requires
push-requires c =
    let taken = c.loop-millionths.invariant in
    let count : c.loop-millionths.running.count ≡ length taken.0 = ap (λ (s : Summary). s.count) taken.1 ∙ summary-count taken.0 in
    omega (arith, count, taken.2)

pub loop-millionths-preserved : goal.loop-millionths-preserved
loop-millionths-preserved c =
    let taken = c.loop-millionths.invariant in
    let next : Point = record { time = 0; value = c.clamp.result; made = 0 } in
    (taken.0 ++ next ∷ [], c.push.ensures.stands taken.0 taken.1, omega (arith, length-append taken.0 (next ∷ []), taken.2))
