-- The fewest candidates, one filter after another.
use Rattle.std.proofs.Common.{◌≡◌, ℕ, ◌≤◌, ◌<◌, ◌+◌, ◌||◌, ◌⊎◌, inl, inr, Bool, true, false, List, [], ◌∷◌, ◌++◌, length, refl, sym, ◌∙◌, ap, subst, arith, if◌then◌else◌, suc, drop, get_or}
use Rattle.std.proofs.Math.Nat.{min-eq_left, min_comm}
use Rattle.std.proofs.Math.Seq.{drop-cons}
use Rattle.std.proofs.lemmas.List.{drop_all}
use Rattle.std.proofs.lemmas.List.Sums.{sum_by-cons}
use Rattle.std.specs.List.{sum_by}
use Rattle.std.specs.Prelude.{min, Option, None, Some, option_map}
use Rattle.std.proofs.lemmas.Bool.{and_parts, false≢true, cases_order}
use Rattle.ts_spec.specs.Filter.{Filter, holds, all_hold, is_positive, has_positive}
use Rattle.ts_spec.specs.State.{Label}
use Rattle.ts_index.specs.Index.{Labelled, ids_where}
use Rattle.ts_index.specs.Bounds.{candidates, fewest}
use Rattle.ts_index.specs.MostSelective.{IsBest}

-- ---- the lesser of two numbers

pub min-first : (a b : ℕ) → a ≤ b → min a b ≡ a
min-first a b less = min-eq_left {n = a} {m = b} less

pub min-second : (a b : ℕ) → b ≤ a → min a b ≡ b
min-second a b less = min_comm a b ∙ min-eq_left {n = b} {m = a} less

pub min-either : (a b : ℕ) → ((a ≤ b) × (min a b ≡ a)) ⊎ ((b ≤ a) × (min a b ≡ b))
min-either a b = go (cases_order a b)
  where
    go : (a ≡ b) ⊎ ((a < b) ⊎ (b < a)) → ((a ≤ b) × (min a b ≡ a)) ⊎ ((b ≤ a) × (min a b ≡ b))
    go (inl same) = let less : a ≤ b = omega (arith, same) in inl (less, min-first a b less)
    go (inr (inl less)) = let first : a ≤ b = omega (arith, less) in inl (first, min-first a b first)
    go (inr (inr more)) = let second : b ≤ a = omega (arith, more) in inr (second, min-second a b second)

-- ---- the values of a filter, one after another

-- the number of the next value is added
pub count-on : {X : Type 0} (g : X → ℕ) (xs : List X) (i : ℕ) (x : X) (count all : ℕ) → i < length xs → x ≡ get_or xs i x
    → count + sum_by g (drop i xs) ≡ all → count + g x + sum_by g (drop (i + 1) xs) ≡ all
count-on g xs i x count all inside is so-far =
    let one : suc i ≡ i + 1 = omega arith in
    let next : drop i xs ≡ x ∷ drop (i + 1) xs = drop-cons xs i x inside ∙ (λ j. (sym is) j ∷ drop (one j) xs) in
    let rest : sum_by g (drop i xs) ≡ g x + sum_by g (drop (i + 1) xs) = ap (sum_by g) next ∙ sum_by-cons g x (drop (i + 1) xs) in
    omega (arith, rest, so-far)

-- and after the last one nothing is
pub count-all : {X : Type 0} (g : X → ℕ) (xs : List X) (i count all : ℕ) → length xs ≤ i → count + sum_by g (drop i xs) ≡ all → count ≡ all
count-all g xs i count all end so-far =
    let empty : sum_by g (drop i xs) ≡ 0 = ap (sum_by g) (drop_all i xs end) in
    omega (arith, empty, so-far)

-- a filter has no more candidates than there are series
pub length-where : (test : List Label → Bool) (es : Labelled) → length (ids_where test es) ≤ length es
length-where test [] = omega arith
length-where test (e ∷ es) = by (test e.1) (length-where test es)
  where
    by : (b : Bool) → length (ids_where test es) ≤ length es → length (if b then record { 0 = e.0 } ∷ ids_where test es else ids_where test es) ≤ length (e ∷ es)
    by true rest = omega (arith, rest)
    by false rest = omega (arith, rest)

-- ---- the fewest candidates

pub fewest-none : (es : Labelled) (fs : List Filter) → has_positive fs ≡ false → fewest es fs ≡ length es
fewest-none es [] lacks = refl
fewest-none es (f ∷ fs) lacks = go (is_positive f) (fewest-none es fs) lacks
  where
    go : (b : Bool) → (has_positive fs ≡ false → fewest es fs ≡ length es) → (b || has_positive fs) ≡ false → (if b then min (candidates es f) (fewest es fs) else fewest es fs) ≡ length es
    go true rest fails = absurd (false≢true (sym fails))
    go false rest fails = rest fails

-- ---- one filter more

min-assoc : (a b c : ℕ) → min a (min b c) ≡ min (min a b) c
min-assoc a b c = go (min-either a b) (min-either b c)
  where
    go : ((a ≤ b) × (min a b ≡ a)) ⊎ ((b ≤ a) × (min a b ≡ b)) → ((b ≤ c) × (min b c ≡ b)) ⊎ ((c ≤ b) × (min b c ≡ c)) → min a (min b c) ≡ min (min a b) c
    go (inl l) (inl m) =
        let low : a ≤ c = omega (arith, l.0, m.0) in
        ap (min a) m.1 ∙ l.1 ∙ sym (ap (λ (n : ℕ). min n c) l.1 ∙ min-first a c low)
    go (inl l) (inr m) = ap (min a) m.1 ∙ sym (ap (λ (n : ℕ). min n c) l.1)
    go (inr l) (inl m) = ap (min a) m.1 ∙ l.1 ∙ sym (ap (λ (n : ℕ). min n c) l.1 ∙ m.1)
    go (inr l) (inr m) =
        let low : c ≤ a = omega (arith, l.0, m.0) in
        ap (min a) m.1 ∙ min-second a c low ∙ sym (ap (λ (n : ℕ). min n c) l.1 ∙ m.1)

pub fewest-push : (es : Labelled) (fs : List Filter) (f : Filter) → is_positive f ≡ true → fewest es (fs ++ f ∷ []) ≡ min (fewest es fs) (candidates es f)
fewest-push es [] f is = rw is (min_comm (candidates es f) (length es))
fewest-push es (g ∷ fs) f is = go (is_positive g) (fewest-push es fs f is)
  where
    go : (b : Bool) → fewest es (fs ++ f ∷ []) ≡ min (fewest es fs) (candidates es f)
        → (if b then min (candidates es g) (fewest es (fs ++ f ∷ [])) else fewest es (fs ++ f ∷ [])) ≡ min (if b then min (candidates es g) (fewest es fs) else fewest es fs) (candidates es f)
    go true rest = ap (min (candidates es g)) rest ∙ min-assoc (candidates es g) (fewest es fs) (candidates es f)
    go false rest = rest

pub fewest-pass : (es : Labelled) (fs : List Filter) (f : Filter) → is_positive f ≡ false → fewest es (fs ++ f ∷ []) ≡ fewest es fs
fewest-pass es [] f is = rw is refl
fewest-pass es (g ∷ fs) f is = ap (λ (n : ℕ). if is_positive g then min (candidates es g) n else n) (fewest-pass es fs f is)

positive-push : (fs : List Filter) (f : Filter) → has_positive fs ≡ false → is_positive f ≡ false → has_positive (fs ++ f ∷ []) ≡ false
positive-push [] f lacks is = rw is refl
positive-push (g ∷ fs) f lacks is = go (is_positive g) (positive-push fs f) lacks
  where
    go : (b : Bool) → (has_positive fs ≡ false → is_positive f ≡ false → has_positive (fs ++ f ∷ []) ≡ false) → (b || has_positive fs) ≡ false → (b || has_positive (fs ++ f ∷ [])) ≡ false
    go true rest fails = absurd (false≢true (sym fails))
    go false rest fails = rest fails is

hold-push : (fs : List Filter) (f : Filter) (labels : List Label) → all_hold (fs ++ f ∷ []) labels ≡ true → (all_hold fs labels ≡ true) × (holds f labels ≡ true)
hold-push [] f labels all = (refl, (and_parts (holds f labels) true all).0)
hold-push (g ∷ fs) f labels all =
    let parts = and_parts (holds g labels) (all_hold (fs ++ f ∷ []) labels) all in
    let rest = hold-push fs f labels parts.1 in
    (rw (parts.0) rest.0, rest.1)

module _ (es : Labelled) (fs : List Filter) (f : Filter) where
  -- a filter that asks for no value changes nothing
  pub best-pass : (best : Option (Filter × ℕ)) → is_positive f ≡ false → IsBest es fs best → IsBest es (fs ++ f ∷ []) best
  best-pass None fails is = positive-push fs f is fails
  best-pass (Some best) fails is = (
    record {
      positive = is.0.positive;
      among = λ labels all. is.0.among labels (hold-push fs f labels all).0;
      few = is.0.few ∙ sym (fewest-pass es fs f fails);
    },
    is.1 ∙ sym (fewest-pass es fs f fails),
  )

  -- nor does one with as many candidates
  pub best-stays : (best : Filter × ℕ) → is_positive f ≡ true → best.1 ≤ candidates es f → IsBest es fs (Some best) → IsBest es (fs ++ f ∷ []) (Some best)
  best-stays best asks least is =
      let few : fewest es fs ≤ candidates es f = omega (arith, is.1, least) in
      let same : fewest es fs ≡ fewest es (fs ++ f ∷ []) = sym (min-first (fewest es fs) (candidates es f) few) ∙ sym (fewest-push es fs f asks) in (
        record {
          positive = is.0.positive;
          among = λ labels all. is.0.among labels (hold-push fs f labels all).0;
          few = is.0.few ∙ same;
        },
        is.1 ∙ same,
      )

  -- one with fewer is the best
  more_selective : (count : ℕ) → is_positive f ≡ true → count ≡ candidates es f → candidates es f ≤ fewest es fs → IsBest es (fs ++ f ∷ []) (Some (f, count))
  more_selective count asks is few =
      let same : candidates es f ≡ fewest es (fs ++ f ∷ []) = sym (min-second (fewest es fs) (candidates es f) few) ∙ sym (fewest-push es fs f asks) in
      (record { positive = asks; among = λ labels all. (hold-push fs f labels all).1; few = same }, is ∙ same)

  pub best-first : (count : ℕ) → is_positive f ≡ true → count ≡ candidates es f → has_positive fs ≡ false → IsBest es (fs ++ f ∷ []) (Some (f, count))
  best-first count asks is lacks = more_selective count asks is (omega (arith, length-where (holds f) es, fewest-none es fs lacks))

  pub best-fewer : (best : Filter × ℕ) (count : ℕ) → is_positive f ≡ true → count ≡ candidates es f → count < best.1 → IsBest es fs (Some best) → IsBest es (fs ++ f ∷ []) (Some (f, count))
  best-fewer best count asks is fewer was = more_selective count asks is (omega (arith, is, fewer, was.1))

-- ---- borrowed filters

module _ (es : Labelled) (fs : List Filter) where
  pub none-best : {X : Type 0} (f : X → Filter × ℕ) (o : Option X) → ((x : X) → o ≡ Some x → ⊥) → IsBest es fs (option_map f o) → has_positive fs ≡ false
  none-best f None lacks is = is
  none-best f (Some x) lacks is = absurd (lacks x refl)

  pub some-best : {X : Type 0} (f : X → Filter × ℕ) (o : Option X) (x : X) → o ≡ Some x → IsBest es fs (option_map f o) → IsBest es fs (Some (f x))
  some-best {X = X} f o x same is = subst (λ (p : Option X). IsBest es fs (option_map f p)) same is

  pub best-some : {X : Type 0} (f : X → Filter × ℕ) (o : Option X) (x : X) → o ≡ Some x → IsBest es fs (Some (f x)) → IsBest es fs (option_map f o)
  best-some {X = X} f o x same is = subst (λ (p : Option X). IsBest es fs (option_map f p)) (sym same) is
