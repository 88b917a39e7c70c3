use Rattle.std.proofs.Common.{◌∙◌, ap, Some}
use native.Mathlib.Numerals.{unary_clauses}
use Rattle.ts_spec.specs.Labels.{with_label}
use Rattle.ts_labels.specs.Labels.{labelled, labels_in}
use Rattle.ts_labels.proofs.LabelLemmas.{inserted_label, with_label-next}
use Rattle.ts_labels.proofs.PairLemmas.{name-at, value-at}
use Rattle.ts_labels.proofs.pairs.hashed.Goals as goal

pub loop-i-preserved : goal.loop-i-preserved
loop-i-preserved c =
    let pairs = c.args.pairs.now in
    let i = c.loop-i.i in
    let name = c.in_ok-copy.field-0 in
    let value = c.in_ok-copy-2.field-0 in
    rw c.in_ok-insert.ensures.entries (inserted_label c.loop-i.map.entries name value) ∙ ap (with_label (labelled name value)) c.loop-i.invariant
    ∙ with_label-next (labels_in pairs) i name value c.requires
    (rw c.in_ok-copy.ensures.bytes (name-at pairs i c.index-pairs-i.result c.loop-i-test.true c.index-pairs-i.is ∙ ap (λ p. Some p.0) c.index-pairs-i.is))
    (rw c.in_ok-copy-2.ensures.bytes (value-at pairs i c.index-pairs-i-in-loop-i.result c.loop-i-test.true c.index-pairs-i-in-loop-i.is ∙ ap (λ p. Some p.1) c.index-pairs-i-in-loop-i.is)) ∙ simp unary_clauses
