use Rattle.std.proofs.Common.{◌≡◌, ◌+◌, suc, drop, ◌∙◌, sym}
use native.Mathlib.Numerals.{unary_clauses}
use Rattle.ts_spec.specs.Filter.{value_of}
use Rattle.ts_labels.specs.Labels.{labels_in}
use Rattle.ts_labels.proofs.PairLemmas.{place-here, value-here, value-after}
use Rattle.ts_labels.proofs.pairs.index_of.Goals as goal

pub returns-then-eq-clause-place : goal.returns-then-eq-clause-place
returns-then-eq-clause-place c = place-here c.args.label.now c.args.pairs.now c.loop-place.place c.index-pairs-place.result c.loop-place-test.true c.index-pairs-place.is (sym c.if-eq.ensures)

pub returns-then-eq-clause-value : goal.returns-then-eq-clause-value
returns-then-eq-clause-value c = value-here c.args.label.now c.args.pairs.now c.loop-place.place c.index-pairs-place.result c.loop-place-test.true c.index-pairs-place.is (sym c.if-eq.ensures) ∙ c.loop-place.invariant

pub loop-place-preserved : goal.loop-place-preserved
loop-place-preserved c =
    let name = c.args.label.now in
    let pairs = c.args.pairs.now in
    let i = c.loop-place.place in
    let next : value_of name (labels_in (drop (i + 1) pairs)) ≡ value_of name (labels_in (drop (suc i) pairs)) = simp unary_clauses in
    next ∙ value-after name pairs i c.index-pairs-place.result c.loop-place-test.true c.index-pairs-place.is (sym c.if-eq.ensures) ∙ c.loop-place.invariant
