-- The candidates that pass the filters.
use Rattle.std.proofs.Common.{◌≡◌, ℕ, ◌+◌, ◌*◌, ◌≤◌, ◌==◌, ◌||◌, ◌&&◌, ◌⊎◌, inl, inr, Bool, true, false, List, [], ◌∷◌, ◌++◌, length, Option, None, Some, refl, sym, ◌∙◌, ap, subst, arith, if◌then◌else◌, eqb-true}
use Rattle.std.proofs.Math.Nat.{mul-le-mul_left, mul-le-mul_right}
use Rattle.std.specs.Prelude.{min}
use Rattle.std.proofs.lemmas.Bool.{false≢true}
use Rattle.std.proofs.lemmas.List.Sorted.{list_any-IsPermutation}
use Rattle.std.specs.List.Sorted.{IsPermutation}
use Rattle.ts_spec.specs.State.{Label}
use Rattle.ts_spec.specs.Filter.{Filter, holds, all_hold, is_positive}
use Rattle.ts_sample.specs.declared.sample.Id.{Id}
use Rattle.ts_index.specs.Bounds.{candidates, fewest}
use Rattle.ts_index.specs.Candidates.{AreApart, Covers}
use Rattle.ts_index.specs.Index.{Labelled, labels_of, ids_where}
use Rattle.ts_index.specs.Numbers.{AreInOrder, has_id, pass}
use Rattle.ts_index.specs.Selecting.{AreSelected}
use Rattle.ts_index.proofs.ApartLemmas.{apart-permuted}
use Rattle.ts_index.proofs.MemberLemmas.{same_numbers}
use Rattle.ts_index.proofs.NarrowLemmas.{min-either, length-where}
use Rattle.ts_index.proofs.NumberLemmas.{has_id-where, AreAscending-where}
use Rattle.ts_index.proofs.OrderLemmas.{AreSorted, ascending}

-- those whose labels pass a test
abbrev pub chosen : (List Label → Bool) → Labelled → List Id → List Id
chosen test es [] = []
chosen test es (i ∷ is) = if pass test (labels_of i.0 es) then i ∷ chosen test es is else chosen test es is

has_id-chosen : (test : List Label → Bool) (es : Labelled) (is : List Id) (q : ℕ) → has_id q (chosen test es is) ≡ (has_id q is && pass test (labels_of q es))
has_id-chosen test es [] q = refl
has_id-chosen test es (i ∷ is) q = by (q == i.0) (pass test (labels_of i.0 es)) refl refl (has_id-chosen test es is q)
  where
    none : (b : Bool) → (b && false) ≡ false
    none true = refl
    none false = refl

    by : (s t : Bool) → (q == i.0) ≡ s → pass test (labels_of i.0 es) ≡ t → has_id q (chosen test es is) ≡ (has_id q is && pass test (labels_of q es))
        → has_id q (if t then i ∷ chosen test es is else chosen test es is) ≡ ((s || has_id q is) && pass test (labels_of q es))
    by true true e p ih =
        let same : pass test (labels_of q es) ≡ true = ap (λ n. pass test (labels_of n es)) (eqb-true q i.0 e) ∙ p in
        rw (e) (sym same)
    by true false e p ih =
        let same : pass test (labels_of q es) ≡ false = ap (λ n. pass test (labels_of n es)) (eqb-true q i.0 e) ∙ p in
        ih ∙ ap (λ b. has_id q is && b) same ∙ none (has_id q is) ∙ sym same
    by false true e p ih = rw (e) ih
    by false false e p ih = ih

apart-chosen : (test : List Label → Bool) (es : Labelled) (is : List Id) → AreApart is → AreApart (chosen test es is)
apart-chosen test es [] a = tt
apart-chosen test es (i ∷ is) a = by (pass test (labels_of i.0 es)) (apart-chosen test es is a.1)
  where
    by : (t : Bool) → AreApart (chosen test es is) → AreApart (if t then i ∷ chosen test es is else chosen test es is)
    by true rest = (has_id-chosen test es is i.0 ∙ ap (λ b. b && pass test (labels_of i.0 es)) a.0, rest)
    by false rest = rest

-- of ids among which all are that pass
pub selected-of : (fs : List Filter) (es : Labelled) (is : List Id) → AreApart is → Covers es fs is → AreSelected (all_hold fs) es (chosen (all_hold fs) es is)
selected-of fs es is a covers = record {
  once = apart-chosen (all_hold fs) es is a;
  which = λ q. has_id-chosen (all_hold fs) es is q ∙ at q (labels_of q es) refl;
}
  where
    by : (h t : Bool) → (t ≡ true → h ≡ true) → (h && t) ≡ t
    by true t f = refl
    by false true f = absurd (false≢true (f refl))
    by false false f = refl

    at : (q : ℕ) (labels : Option (List Label)) → labels_of q es ≡ labels → (has_id q is && pass (all_hold fs) labels) ≡ pass (all_hold fs) labels
    at q None e = by (has_id q is) false (λ h. absurd (false≢true h))
    at q (Some labels) e = by (has_id q is) (all_hold fs labels) (covers q labels e)

-- they are sorted
pub selected-sorted : (test : List Label → Bool) (es : Labelled) (ids new : List Id) → AreInOrder es
    → AreSelected test es ids → IsPermutation ids new → AreSorted new → new ≡ ids_where test es
selected-sorted test es ids new o all p s =
    same_numbers new (ids_where test es) (ascending new s (apart-permuted ids new p all.once)) (AreAscending-where test es o)
    (λ q. sym (list_any-IsPermutation (λ i. q == i.0) ids new p) ∙ all.which q ∙ sym (has_id-where test es o q))

-- there are steps for no more than the fewest
pub steps-start : (each all : ℕ) (is : List Id) (fewest now : ℕ) → each ≤ all → length is ≤ fewest → now + each * length is ≤ now + all * fewest
steps-start each all is fewest now less few =
    let more : each * length is ≤ each * fewest = mul-le-mul_left each few in
    let other : each * fewest ≤ all * fewest = mul-le-mul_right fewest less in
    omega (arith, more, other)

-- before the first
pub selected-start : (test : List Label → Bool) (fs : List Filter) (es : Labelled) (ids is rest : List Id) → ((labels : List Label) → test labels ≡ all_hold fs labels)
    → ids ≡ [] → rest ≡ is → AreApart is → Covers es fs is → AreSelected (all_hold fs) es (ids ++ chosen test es rest)
selected-start test fs es ids is rest same e r a covers =
    let tests : test ≡ all_hold fs = λ i labels. same labels i in
    rw (e, r, tests) (selected-of fs es is a covers)

-- there is capacity for no more than the fewest
pub room-start : (held : ℕ) (is : List Id) (fewest room : ℕ) → held ≡ 0 → length is ≤ fewest → fewest ≤ room → held + length is ≤ room
room-start held is fewest room e few enough = omega (arith, e, few, enough)

-- ---- by a filter that requires a value

-- those that pass two tests are no more than those that pass one of them
length-both : (a b : List Label → Bool) (es : Labelled)
    → (length (ids_where (λ labels. a labels && b labels) es) ≤ length (ids_where a es)) × (length (ids_where (λ labels. a labels && b labels) es) ≤ length (ids_where b es))
length-both a b [] = (omega arith, omega arith)
length-both a b (e ∷ es) = let rest = length-both a b es in by (a e.1) (b e.1) rest.0 rest.1
  where
    by : (s t : Bool) → length (ids_where (λ labels. a labels && b labels) es) ≤ length (ids_where a es) → length (ids_where (λ labels. a labels && b labels) es) ≤ length (ids_where b es)
        → (length (if s && t then record { 0 = e.0 } ∷ ids_where (λ labels. a labels && b labels) es else ids_where (λ labels. a labels && b labels) es) ≤ length (if s then record { 0 = e.0 } ∷ ids_where a es else ids_where a es))
        × (length (if s && t then record { 0 = e.0 } ∷ ids_where (λ labels. a labels && b labels) es else ids_where (λ labels. a labels && b labels) es) ≤ length (if t then record { 0 = e.0 } ∷ ids_where b es else ids_where b es))
    by true true l m = (omega (arith, l), omega (arith, m))
    by true false l m = (omega (arith, l), m)
    by false true l m = (l, omega (arith, m))
    by false false l m = (l, m)

-- those that pass all filters are no more than the fewest candidates
selected-few : (fs : List Filter) (es : Labelled) → length (ids_where (all_hold fs) es) ≤ fewest es fs
selected-few [] es = length-where (all_hold []) es
selected-few (f ∷ fs) es = let both = length-both (holds f) (all_hold fs) es in by (is_positive f) both.0 both.1 (selected-few fs es)
  where
    least : (n a b : ℕ) → n ≤ a → n ≤ b → n ≤ min a b
    least n a b l m = go (min-either a b)
      where
        go : ((a ≤ b) × (min a b ≡ a)) ⊎ ((b ≤ a) × (min a b ≡ b)) → n ≤ min a b
        go (inl h) = omega (arith, h.1, l)
        go (inr h) = omega (arith, h.1, m)

    by : (b : Bool) → length (ids_where (all_hold (f ∷ fs)) es) ≤ candidates es f → length (ids_where (all_hold (f ∷ fs)) es) ≤ length (ids_where (all_hold fs) es)
        → length (ids_where (all_hold fs) es) ≤ fewest es fs → length (ids_where (all_hold (f ∷ fs)) es) ≤ (if b then min (candidates es f) (fewest es fs) else fewest es fs)
    by true own others rest = least (length (ids_where (all_hold (f ∷ fs)) es)) (candidates es f) (fewest es fs) own (omega (arith, others, rest))
    by false own others rest = omega (arith, others, rest)

-- where a filter asks what all ask, those that pass it are no more than the fewest candidates
pub few-matching : (f : Filter) (fs : List Filter) (es : Labelled) (is all : List Id) → ((labels : List Label) → holds f labels ≡ all_hold fs labels)
    → is ≡ all → length all ≡ candidates es f → length is ≤ fewest es fs
few-matching f fs es is all same e count =
    let tests : candidates es f ≡ length (ids_where (all_hold fs) es) = ap (λ (test : List Label → Bool). length (ids_where test es)) (λ i labels. same labels i) in
    omega (arith, ap (λ (ids : List Id). length ids) e, count, tests, selected-few fs es)

-- and they are selected
pub matching-start : (f : Filter) (fs : List Filter) (es : Labelled) (ids is all : List Id) → ((labels : List Label) → holds f labels ≡ all_hold fs labels)
    → ids ≡ [] → is ≡ all → AreSelected (holds f) es all → AreSelected (all_hold fs) es (ids ++ is)
matching-start f fs es ids is all same e r selected =
    let tests : holds f ≡ all_hold fs = λ i labels. same labels i in
    rw (e, r) (subst (λ (test : List Label → Bool). AreSelected test es all) tests selected)

-- where there is one test, it asks what all filters ask
pub only-asked : (tests fs : List Filter) (f : Filter) → tests ≡ f ∷ [] → ((labels : List Label) → all_hold tests labels ≡ all_hold fs labels)
    → (labels : List Label) → holds f labels ≡ all_hold fs labels
only-asked tests fs f e same labels = sym (and-true (holds f labels)) ∙ ap (λ (gs : List Filter). all_hold gs labels) (sym e) ∙ same labels
  where
    and-true : (b : Bool) → (b && true) ≡ b
    and-true true = refl
    and-true false = refl
