-- Filters that ask the same.
use Rattle.std.proofs.Common.{◌≡◌, not, List, Option, None, Some, is_some, refl, sym, ap, subst, ◌∙◌, arith}
use Rattle.std.proofs.lemmas.Map.Lookups.{exact_bytes}
use Rattle.std.specs.Cmp.Lexicographic.{slice_cmp}
use Rattle.std.specs.FinMap.{slice_cmp-IsAntisymmetric}
use Rattle.std.specs.Ordering.{nat_cmp}
use Rattle.std.specs.declared.cmp.Ordering.TheVariants.{Equal}
use Rattle.ts_spec.specs.Key.{Key}
use Rattle.ts_spec.specs.State.{Label}
use Rattle.ts_spec.specs.Filter.{Filter, OneOf, NoneOf, Absent, Present, value_of, has_one_of, holds}
use Rattle.ts_labels.specs.Filter.{label_of, values_of, kind_of}
use Rattle.ts_labels.specs.Values.{AreAlike}

-- a label has one of the same values
pub has-alike : (one other : List Key) → AreAlike one other → (value : Option Key) → has_one_of one value ≡ has_one_of other value
has-alike one other alike None = refl
has-alike one other alike (Some value) = alike value

same-asked : (f g : Filter) → label_of f ≡ label_of g → kind_of f ≡ kind_of g → AreAlike (values_of f) (values_of g) → (labels : List Label) → holds f labels ≡ holds g labels
same-asked (OneOf l vs) (OneOf m ws) e k alike labels = ap (λ (n : Key). has_one_of vs (value_of n labels)) e ∙ has-alike vs ws alike (value_of m labels)
same-asked (NoneOf l vs) (NoneOf m ws) e k alike labels = ap (λ (n : Key). not (has_one_of vs (value_of n labels))) e ∙ ap not (has-alike vs ws alike (value_of m labels))
same-asked (Absent l) (Absent m) e k alike labels = ap (λ (n : Key). not (is_some (value_of n labels))) e
same-asked (Present l) (Present m) e k alike labels = ap (λ (n : Key). is_some (value_of n labels)) e
same-asked (OneOf l vs) (NoneOf m ws) e k alike labels = absurd (omega (arith, k))
same-asked (OneOf l vs) (Absent m) e k alike labels = absurd (omega (arith, k))
same-asked (OneOf l vs) (Present m) e k alike labels = absurd (omega (arith, k))
same-asked (NoneOf l vs) (OneOf m ws) e k alike labels = absurd (omega (arith, k))
same-asked (NoneOf l vs) (Absent m) e k alike labels = absurd (omega (arith, k))
same-asked (NoneOf l vs) (Present m) e k alike labels = absurd (omega (arith, k))
same-asked (Absent l) (OneOf m ws) e k alike labels = absurd (omega (arith, k))
same-asked (Absent l) (NoneOf m ws) e k alike labels = absurd (omega (arith, k))
same-asked (Absent l) (Present m) e k alike labels = absurd (omega (arith, k))
same-asked (Present l) (OneOf m ws) e k alike labels = absurd (omega (arith, k))
same-asked (Present l) (NoneOf m ws) e k alike labels = absurd (omega (arith, k))
same-asked (Present l) (Absent m) e k alike labels = absurd (omega (arith, k))

-- those whose label, condition and sorted values tie
pub same-compared : (f g : Filter) (label other : Key) (values others : List Key) → label ≡ label_of f → other ≡ label_of g → slice_cmp nat_cmp label other ≡ Equal
    → kind_of f ≡ kind_of g → AreAlike values (values_of f) → AreAlike others (values_of g) → slice_cmp (slice_cmp nat_cmp) values others ≡ Equal
    → (labels : List Label) → holds f labels ≡ holds g labels
same-compared f g label other values others a b names kinds first second lists labels =
    let same : values ≡ others = slice_cmp-IsAntisymmetric exact_bytes values others lists in
    same-asked f g (sym a ∙ exact_bytes label other names ∙ b) kinds
    (λ (value : Key). sym (first value) ∙ subst (λ (vs : List Key). AreAlike values vs) same (λ v. refl) value ∙ second value) labels
