-- The posting lists of several values: their ids, that they are distinct, and how many there are.
use Rattle.std.proofs.Common.{◌≡◌, ℕ, ◌+◌, ◌==◌, ◌||◌, Bool, true, false, List, [], ◌∷◌, ◌++◌, length, Option, None, Some, refl, sym, ◌∙◌, ap, arith, if◌then◌else◌, eq-eqb, length-append}
use Rattle.std.proofs.lemmas.Bool.{false≢true}
use Rattle.std.proofs.lemmas.List.Folds.{list_any-append}
use Rattle.std.proofs.lemmas.List.Sums.{sum_by-cons}
use Rattle.std.specs.List.{sum_by}
use Rattle.ts_spec.specs.Key.{Key, same}
use Rattle.ts_spec.specs.State.{Label}
use Rattle.ts_spec.specs.Filter.{Filter, OneOf, NoneOf, Absent, Present, value_of, is_one_of, has_one_of, holds, is_positive}
use Rattle.ts_spec.proofs.Keys.{same-true}
use Rattle.ts_labels.proofs.SameLemmas.{has-alike}
use Rattle.ts_labels.specs.Filter.{label_of, values_of}
use Rattle.ts_labels.specs.Values.{AreAlike, AreOnce}
use Rattle.ts_sample.specs.declared.sample.Id.{Id}
use Rattle.ts_index.specs.Index.{Labelled, labels_of, ids_where, has_pair}
use Rattle.ts_index.specs.Numbers.{AreInOrder, AreAscending, has_id, pass}
use Rattle.ts_index.specs.Candidates.{postings, AreApart}
use Rattle.ts_index.specs.Bounds.{candidates}
use Rattle.ts_index.specs.Selecting.{AreSelected}
use Rattle.ts_index.proofs.NumberLemmas.{has_id-where, AreAscending-where}
use Rattle.ts_index.proofs.MemberLemmas.{none_in}

-- whether labels have one of some values
abbrev pub has_value : (label : List ℕ) (values : List Key) → List Label → Bool
has_value label values labels = has_one_of values (value_of label labels)

-- one value more
one_more : (v : Key) (vs : List Key) (there : Option Key) → (has_one_of (v ∷ []) there || has_one_of vs there) ≡ has_one_of (v ∷ vs) there
one_more v vs None = refl
one_more v vs (Some w) = by (same v w)
  where
    by : (b : Bool) → ((b || false) || is_one_of vs w) ≡ (b || is_one_of vs w)
    by true = refl
    by false = refl

-- labels that have a value have none of the others
parted : (v : Key) (vs : List Key) → is_one_of vs v ≡ false → (there : Option Key) → has_one_of (v ∷ []) there ≡ true → has_one_of vs there ≡ false
parted v vs new None h = absurd (false≢true h)
parted v vs new (Some w) h = by (same v w) refl h
  where
    by : (b : Bool) → same v w ≡ b → (b || false) ≡ true → is_one_of vs w ≡ false
    by true e h = ap (is_one_of vs) (sym (same-true v w e)) ∙ new
    by false e h = absurd (false≢true h)

pub has_id-postings : (label : List ℕ) (values : List Key) (es : Labelled) → AreInOrder es → (q : ℕ)
    → has_id q (postings label values es) ≡ pass (has_value label values) (labels_of q es)
has_id-postings label [] es o q = none (labels_of q es)
  where
    no-value : (value : Option Key) → false ≡ has_one_of [] value
    no-value None = refl
    no-value (Some w) = refl

    none : (labels : Option (List Label)) → false ≡ pass (has_value label []) labels
    none None = refl
    none (Some labels) = no-value (value_of label labels)
has_id-postings label (v ∷ vs) es o q =
    list_any-append (λ i. q == i.0) (ids_where (has_pair label v) es) (postings label vs es)
    ∙ ap (λ a. a || has_id q (postings label vs es)) (has_id-where (has_pair label v) es o q)
    ∙ ap (λ b. pass (has_pair label v) (labels_of q es) || b) (has_id-postings label vs es o q)
    ∙ at (labels_of q es)
  where
    at : (labels : Option (List Label)) → (pass (has_pair label v) labels || pass (has_value label vs) labels) ≡ pass (has_value label (v ∷ vs)) labels
    at None = refl
    at (Some labels) = one_more v vs (value_of label labels)

-- ---- none is there twice

pub apart_ascending : (is : List Id) → AreAscending is → AreApart is
apart_ascending [] h = tt
apart_ascending (i ∷ is) h = (none_in i.0 is h.0, apart_ascending is h.1)

apart_append : (xs ys : List Id) → AreApart xs → AreApart ys → ((q : ℕ) → has_id q xs ≡ true → has_id q ys ≡ false) → AreApart (xs ++ ys)
apart_append [] ys a b h = b
apart_append (x ∷ xs) ys a b h = (
  list_any-append (λ i. x.0 == i.0) xs ys ∙ ap (λ c. c || has_id x.0 ys) a.0 ∙ h x.0 (here x.0 (has_id x.0 xs)),
  apart_append xs ys a.1 b (λ q e. h q (later (q == x.0) (has_id q xs) e)),
)
  where
    here : (n : ℕ) (b : Bool) → ((n == n) || b) ≡ true
    here n b = rw (eq-eqb n n refl) refl

    later : (a b : Bool) → b ≡ true → (a || b) ≡ true
    later true b e = refl
    later false b e = e

pub postings-apart : (label : List ℕ) (values : List Key) (es : Labelled) → AreInOrder es → AreOnce values → AreApart (postings label values es)
postings-apart label [] es o once = tt
postings-apart label (v ∷ vs) es o once =
    apart_append (ids_where (has_pair label v) es) (postings label vs es)
    (apart_ascending (ids_where (has_pair label v) es) (AreAscending-where (has_pair label v) es o))
    (postings-apart label vs es o once.1) others
  where
    by : (labels : Option (List Label)) → pass (has_pair label v) labels ≡ true → pass (has_value label vs) labels ≡ false
    by None h = refl
    by (Some labels) h = parted v vs once.0 (value_of label labels) h

    others : (q : ℕ) → has_id q (ids_where (has_pair label v) es) ≡ true → has_id q (postings label vs es) ≡ false
    others q h = has_id-postings label vs es o q ∙ by (labels_of q es) (sym (has_id-where (has_pair label v) es o q) ∙ h)

-- ---- how many there are

-- where no labels pass both of two tests, those that pass one of them are those that pass the one and those that pass
-- the other
length-either : (a b : List Label → Bool) → ((labels : List Label) → a labels ≡ true → b labels ≡ false) → (es : Labelled)
    → length (ids_where (λ labels. a labels || b labels) es) ≡ length (ids_where a es) + length (ids_where b es)
length-either a b apart [] = refl
length-either a b apart (e ∷ es) = by (a e.1) (b e.1) (apart e.1) (length-either a b apart es)
  where
    by : (s t : Bool) → (s ≡ true → t ≡ false) → length (ids_where (λ labels. a labels || b labels) es) ≡ length (ids_where a es) + length (ids_where b es)
        → length (if s || t then record { 0 = e.0 } ∷ ids_where (λ labels. a labels || b labels) es else ids_where (λ labels. a labels || b labels) es)
        ≡ length (if s then record { 0 = e.0 } ∷ ids_where a es else ids_where a es) + length (if t then record { 0 = e.0 } ∷ ids_where b es else ids_where b es)
    by true true apart ih = absurd (false≢true (sym (apart refl)))
    by true false apart ih = omega (arith, ih)
    by false true apart ih = omega (arith, ih)
    by false false apart ih = ih

-- the lengths of the posting lists, added up
abbrev pub total : (label : List ℕ) → Labelled → List Key → ℕ
total label es values = sum_by (λ v. length (ids_where (has_pair label v) es)) values

count-values : (label : List ℕ) (values : List Key) (es : Labelled) → AreOnce values → total label es values ≡ length (ids_where (has_value label values) es)
count-values label [] es once = none es
  where
    no : (value : Option Key) → has_one_of [] value ≡ false
    no None = refl
    no (Some w) = refl

    none : (es : Labelled) → 0 ≡ length (ids_where (has_value label []) es)
    none [] = refl
    none (e ∷ es) = rw (no (value_of label e.1)) (none es)
count-values label (v ∷ vs) es once =
    let first : total label es (v ∷ vs) ≡ length (ids_where (has_pair label v) es) + total label es vs = sum_by-cons (λ v. length (ids_where (has_pair label v) es)) v vs in
    first
    ∙ ap (λ (n : ℕ). length (ids_where (has_pair label v) es) + n) (count-values label vs es once.1)
    ∙ sym (length-either (has_pair label v) (has_value label vs) (λ labels. parted v vs once.0 (value_of label labels)) es)
    ∙ ap (λ (test : List Label → Bool). length (ids_where test es)) (λ i labels. one_more v vs (value_of label labels) i)

length-postings : (label : List ℕ) (values : List Key) (es : Labelled) → length (postings label values es) ≡ total label es values
length-postings label [] es = refl
length-postings label (v ∷ vs) es =
    length-append (ids_where (has_pair label v) es) (postings label vs es)
    ∙ ap (λ (n : ℕ). length (ids_where (has_pair label v) es) + n) (length-postings label vs es)
    ∙ sym (sum_by-cons (λ v. length (ids_where (has_pair label v) es)) v vs)

-- ---- by a filter that requires a value

-- labels pass it exactly where they have one of its values
passed : (f : Filter) (values : List Key) → is_positive f ≡ true → AreAlike values (values_of f) → (labels : List Label) → has_value (label_of f) values labels ≡ holds f labels
passed (OneOf label named) values p alike labels = has-alike values named alike (value_of label labels)
passed (NoneOf label named) values p alike labels = absurd (false≢true p)
passed (Absent label) values p alike labels = absurd (false≢true p)
passed (Present label) values p alike labels = absurd (false≢true p)

pub count-filter : (f : Filter) (label : List ℕ) (values : List Key) (es : Labelled) → is_positive f ≡ true → label ≡ label_of f → AreAlike values (values_of f) → AreOnce values
    → total label es values ≡ candidates es f
count-filter f label values es p named alike once =
    count-values label values es once
    ∙ ap (λ (name : List ℕ). length (ids_where (has_value name values) es)) named
    ∙ ap (λ (test : List Label → Bool). length (ids_where test es)) (λ i labels. passed f values p alike labels i)

pub length-filter : (f : Filter) (label : List ℕ) (values : List Key) (es : Labelled) (is : List Id) → is_positive f ≡ true → label ≡ label_of f → AreAlike values (values_of f) → AreOnce values
    → is ≡ postings label values es → length is ≡ candidates es f
length-filter f label values es is p named alike once at =
    ap (λ (ids : List Id). length ids) at ∙ length-postings label values es ∙ count-filter f label values es p named alike once

pub selected-filter : (f : Filter) (label : List ℕ) (values : List Key) (es : Labelled) (is : List Id) → AreInOrder es → is_positive f ≡ true → label ≡ label_of f
    → AreAlike values (values_of f) → AreOnce values → is ≡ postings label values es → AreSelected (holds f) es is
selected-filter f label values es is o p named alike once at = rw at (record {
  once = postings-apart label values es o once;
  which = λ q. has_id-postings label values es o q
      ∙ ap (λ (name : List ℕ). pass (has_value name values) (labels_of q es)) named
      ∙ ap (λ (test : List Label → Bool). pass test (labels_of q es)) (λ i labels. passed f values p alike labels i);
})
