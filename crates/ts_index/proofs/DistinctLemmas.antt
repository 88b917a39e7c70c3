-- Filters in another order, and without those that ask the same as the last one.
use Rattle.std.proofs.Common.{◌≡◌, ℕ, suc, ◌<◌, ◌+◌, ◌&&◌, ◌||◌, not, Bool, true, false, List, [], ◌∷◌, ◌++◌, take, length, get_or, refl, sym, ◌∙◌, ap, arith}
use Rattle.std.proofs.Math.Seq.{take-suc}
use Rattle.std.proofs.lemmas.Bool.{false≢true}
use Rattle.std.proofs.lemmas.List.Sorted.{list_any-IsPermutation}
use Rattle.std.specs.Borrow.{Bor}
use Rattle.std.specs.List.{list_any}
use Rattle.std.specs.List.Sorted.{IsPermutation}
use Rattle.ts_spec.specs.State.{Label}
use Rattle.ts_spec.specs.Filter.{Filter, holds, all_hold}
use Rattle.ts_index.specs.Selecting.{lent}

-- labels pass all filters unless they fail one
all-unless : (bs : List (Bor Filter)) (labels : List Label) → all_hold (lent bs) labels ≡ not (list_any (λ b. not (holds b.now labels)) bs)
all-unless [] labels = refl
all-unless (b ∷ bs) labels = ap (λ t. holds b.now labels && t) (all-unless bs labels) ∙ by (holds b.now labels) (list_any (λ b. not (holds b.now labels)) bs)
  where
    by : (s t : Bool) → (s && not t) ≡ not (not s || t)
    by true t = refl
    by false t = refl

pub all-permuted : (bs cs : List (Bor Filter)) → IsPermutation bs cs → (labels : List Label) → all_hold (lent cs) labels ≡ all_hold (lent bs) labels
all-permuted bs cs p labels =
    all-unless cs labels ∙ ap not (sym (list_any-IsPermutation (λ b. not (holds b.now labels)) bs cs p)) ∙ sym (all-unless bs labels)

pub all-push : (bs : List (Bor Filter)) (b : Bor Filter) (labels : List Label) → all_hold (lent (bs ++ b ∷ [])) labels ≡ (all_hold (lent bs) labels && holds b.now labels)
all-push [] b labels = and-true (holds b.now labels)
  where
    and-true : (t : Bool) → (t && true) ≡ t
    and-true true = refl
    and-true false = refl
all-push (a ∷ bs) b labels = ap (λ t. holds a.now labels && t) (all-push bs b labels) ∙ and-assoc (holds a.now labels) (all_hold (lent bs) labels) (holds b.now labels)
  where
    and-assoc : (r s t : Bool) → (r && (s && t)) ≡ ((r && s) && t)
    and-assoc true s t = refl
    and-assoc false s t = refl

-- a filter that asks no more changes nothing
pub all-repeated : (bs : List (Bor Filter)) (f : Filter) → ((labels : List Label) → all_hold (lent bs) labels ≡ true → holds f labels ≡ true)
    → (labels : List Label) → all_hold (lent bs) labels ≡ (all_hold (lent bs) labels && holds f labels)
all-repeated bs f repeats labels = by (all_hold (lent bs) labels) (repeats labels)
  where
    by : (t : Bool) → (t ≡ true → holds f labels ≡ true) → t ≡ (t && holds f labels)
    by true h = sym (h refl)
    by false h = refl

-- the first elements with the next one
next : {X : Type 0} (xs : List X) (i : ℕ) (x : X) → i < length xs → x ≡ get_or xs i x → take i xs ++ x ∷ [] ≡ take (i + 1) xs
next {X = X} xs i x inside is =
    let one : suc i ≡ i + 1 = omega arith in
    ap (λ (y : X). take i xs ++ y ∷ []) is ∙ sym (take-suc xs i x inside) ∙ ap (λ (n : ℕ). take n xs) one

-- what is kept asks what the first filters ask, with the next one
pub kept-next : (new kept all : List (Bor Filter)) (i : ℕ) (b : Bor Filter) → i < length all → b ≡ get_or all i b
    → ((labels : List Label) → all_hold (lent new) labels ≡ (all_hold (lent kept) labels && holds b.now labels))
    → ((labels : List Label) → all_hold (lent kept) labels ≡ all_hold (lent (take i all)) labels)
    → (labels : List Label) → all_hold (lent new) labels ≡ all_hold (lent (take (i + 1) all)) labels
kept-next new kept all i b inside is added so-far labels =
    added labels ∙ ap (λ t. t && holds b.now labels) (so-far labels) ∙ sym (all-push (take i all) b labels)
    ∙ ap (λ (bs : List (Bor Filter)). all_hold (lent bs) labels) (next all i b inside is)

-- the last filter is asked, where all are
pub last-asked : (bs : List (Bor Filter)) (b : Bor Filter) (labels : List Label) → all_hold (lent (bs ++ b ∷ [])) labels ≡ true → holds b.now labels ≡ true
last-asked bs b labels h = by (all_hold (lent bs) labels) (holds b.now labels) (sym (all-push bs b labels) ∙ h)
  where
    by : (s t : Bool) → (s && t) ≡ true → t ≡ true
    by true t h = h
    by false t h = absurd (false≢true h)
