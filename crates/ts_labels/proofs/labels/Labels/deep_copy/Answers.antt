use Rattle.std.proofs.Common.{◌≡◌, ◌∙◌, ap, option_map, slice_get, Some}
use native.Mathlib.Numerals.{unary_clauses}
use Rattle.ts_spec.specs.Labels.{with_label}
use Rattle.ts_labels.specs.Labels.{labelled}
use Rattle.ts_labels.proofs.LabelLemmas.{with_label-next}
use Rattle.ts_labels.proofs.labels.Labels.deep_copy.Goals as goal

pub loop-i-preserved : goal.loop-i-preserved
loop-i-preserved c =
    let labels = c.args.self.now in
    let i = c.loop-i.i in
    let name = c.in_ok-copy.field-0 in
    let value = c.in_ok-copy-2.field-0 in
    let named : option_map (λ l. l.name) (slice_get labels i) ≡ Some name = rw c.in_ok-copy.ensures.bytes c.label_at.ensures in
    let valued : option_map (λ l. l.value) (slice_get labels i) ≡ Some value = rw c.in_ok-copy-2.ensures.bytes c.value_at.ensures in
    c.in_ok-set.ensures.ok ∙ ap (with_label (labelled name value)) c.loop-i.invariant
    ∙ with_label-next labels i name value c.known.ensures named valued ∙ simp unary_clauses
