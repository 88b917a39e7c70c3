-- The ids whose labels pass a test: which they are, and their order.
use Rattle.std.proofs.Common.{◌≡◌, ℕ, suc, ◌<◌, ◌==◌, Bool, true, false, List, [], ◌∷◌, None, Some, refl, sym, ◌∙◌, ap, arith, if◌then◌else◌, ne_eqb, eqb-true}
use Rattle.std.proofs.lemmas.Cmp.{ranked}
use Rattle.std.specs.Cmp.{unsigned_tied}
use Rattle.std.specs.List.Sorted.{IsStrictlySortedBy}
use Rattle.std.proofs.lemmas.Map.Keys.{sorted_tail}
use Rattle.std.specs.List.{AllByRecursion, All}
use Rattle.std.specs.Ordering.{nat_cmp}
use Rattle.std.specs.declared.cmp.Ordering.TheVariants.{Less}
use Rattle.std.specs.BTreeMap.{is_at}
use Rattle.std.specs.Map.{keys_of}
use Rattle.std.proofs.lemmas.Map.Views.{All-after_first}
use Rattle.ts_spec.specs.State.{Label}
use Rattle.ts_index.specs.Index.{Labelled, labels_of, ids_where}
use Rattle.ts_index.specs.Numbers.{AreInOrder, AreAscending, has_id, pass}

-- the map finds equal ids
pub is_at-number : (q k : ℕ) → is_at (nat_cmp q) k ≡ (q == k)
is_at-number q k = unsigned_tied q k

pub less-number : (q k : ℕ) → nat_cmp q k ≡ Less → q < k
less-number q k h = ranked q k Less (sym h)

-- an id before all others is not found among them
none_before : (q : ℕ) (es : Labelled) → AllByRecursion (λ f. q < f.0) es → labels_of q es ≡ None
none_before q [] h = refl
none_before q (e ∷ es) h =
    let less : q < e.0 = h.0 in
    rw (is_at-number q e.0, ne_eqb q e.0 (λ d. absurd (omega arith))) (none_before q es h.1)

-- an id is among those whose labels pass, where it has labels that pass
pub has_id-where : (test : List Label → Bool) (es : Labelled) → AreInOrder es → (q : ℕ) → has_id q (ids_where test es) ≡ pass test (labels_of q es)
has_id-where test [] o q = refl
has_id-where test (e ∷ es) o q = rw (is_at-number q e.0) (by (q == e.0) (test e.1) refl refl (has_id-where test es o.1 q))
  where
    by : (b t : Bool) → (q == e.0) ≡ b → test e.1 ≡ t → has_id q (ids_where test es) ≡ pass test (labels_of q es)
        → has_id q (if t then record { 0 = e.0 } ∷ ids_where test es else ids_where test es) ≡ pass test (if b then Some e.1 else labels_of q es)
    by true true p s ih = rw (p, s) refl
    by true false p s ih =
        let same : q ≡ e.0 = eqb-true q e.0 p in
        let none : labels_of q es ≡ None = rw same (none_before e.0 es o.0) in
        rw (s) (ih ∙ ap (pass test) none)
    by false true p s ih = rw (p) ih
    by false false p s ih = ih

-- ids after one stay after it
all_after : (test : List Label → Bool) (i : ℕ) (es : Labelled) → AllByRecursion (λ f. i < f.0) es → AllByRecursion (λ j. i < j.0) (ids_where test es)
all_after test i [] h = tt
all_after test i (e ∷ es) h = by (test e.1) (all_after test i es h.1)
  where
    by : (t : Bool) → AllByRecursion (λ j. i < j.0) (ids_where test es)
        → AllByRecursion (λ j. i < j.0) (if t then record { 0 = e.0 } ∷ ids_where test es else ids_where test es)
    by true rest = (h.0, rest)
    by false rest = rest

-- and ascend
pub AreAscending-where : (test : List Label → Bool) (es : Labelled) → AreInOrder es → AreAscending (ids_where test es)
AreAscending-where test [] o = tt
AreAscending-where test (e ∷ es) o = by (test e.1) (AreAscending-where test es o.1)
  where
    by : (t : Bool) → AreAscending (ids_where test es)
        → AreAscending (if t then record { 0 = e.0 } ∷ ids_where test es else ids_where test es)
    by true rest = (all_after test e.0 es o.0, rest)
    by false rest = rest

-- ---- as std's words have it

lower : (i : ℕ) (es : Labelled) → All (λ q. nat_cmp i q ≡ Less) (keys_of es) → AllByRecursion (λ f. i < f.0) es
lower i [] h = tt
lower i (f ∷ es) h = (less-number i f.0 (h 0 0 (omega arith)), lower i es (λ k d l. h (suc k) d (omega arith)))

-- the keys of a map ascend
pub AreInOrder-by_keys : (es : Labelled) → IsStrictlySortedBy nat_cmp (keys_of es) → AreInOrder es
AreInOrder-by_keys [] s = tt
AreInOrder-by_keys (e ∷ es) s = (lower e.0 es (All-after_first nat_cmp e.0 (keys_of es) s), AreInOrder-by_keys es (sorted_tail nat_cmp e.0 (keys_of es) s))
