-- Samples selected by their times.
use Rattle.std.proofs.Common.{◌≡◌, ℕ, ◌<◌, ◌≤◌, Bool, true, false, not, ◌&&◌, nat_lt, nat_le, cond, List, [], ◌∷◌, ◌++◌, ◌⊎◌, inl, inr, refl, sym, ap, ◌∙◌, arith, ltb-true, lt-ltb, leb-true, le-leb}
use Rattle.std.proofs.lemmas.Bool.{cases_lt, false≢true, and_parts, and_from}
use Rattle.ts_spec.specs.Sample.{Point, IsAfter, IsAscending, at_times, is_within}
use Rattle.ts_sample.proofs.Between.{times-alike}
use Rattle.ts_rules.specs.Spans.{from_until}

-- ---- tests

pub same-test : (x y : Bool) → (x ≡ true → y ≡ true) → (y ≡ true → x ≡ true) → x ≡ y
same-test true true h k = refl
same-test true false h k = sym (h refl)
same-test false true h k = k refl
same-test false false h k = refl

pub and-false : (x : Bool) → (x && false) ≡ false
and-false true = refl
and-false false = refl

pub not-true : (x : Bool) → not x ≡ true → x ≡ false
not-true true h = sym h
not-true false h = refl

pub true-unless : (x : Bool) → (x ≡ true → ⊥) → x ≡ false
true-unless true h = absurd (h refl)
true-unless false h = refl

pub not-past : (t u : ℕ) → nat_lt t u ≡ false → u ≤ t
not-past t u e = go (cases_lt t u)
  where
    go : (t < u) ⊎ (u ≤ t) → u ≤ t
    go (inl x) = absurd (false≢true (sym e ∙ lt-ltb t u x))
    go (inr x) = x

pub within : (from to t : ℕ) → from ≤ t → t ≤ to → is_within from to t ≡ true
within from to t h k = and_from (nat_le from t) (nat_le t to) (le-leb from t h) (le-leb t to k)

pub within-from : (from to t : ℕ) → is_within from to t ≡ true → from ≤ t
within-from from to t e = leb-true from t (and_parts (nat_le from t) (nat_le t to) e).0

pub within-to : (from to t : ℕ) → is_within from to t ≡ true → t ≤ to
within-to from to t e = leb-true t to (and_parts (nat_le from t) (nat_le t to) e).1

pub without : (from to t : ℕ) → (t < from) ⊎ (to < t) → is_within from to t ≡ false
without from to t h = true-unless (is_within from to t) (λ e. go h (within-from from to t e) (within-to from to t e))
  where
    go : (t < from) ⊎ (to < t) → from ≤ t → t ≤ to → ⊥
    go (inl x) y z = absurd (omega arith)
    go (inr x) y z = absurd (omega arith)

pub in-span : (from end t : ℕ) → from ≤ t → t < end → (nat_le from t && nat_lt t end) ≡ true
in-span from end t h k = and_from (nat_le from t) (nat_lt t end) (le-leb from t h) (lt-ltb t end k)

pub span-from : (from end t : ℕ) → (nat_le from t && nat_lt t end) ≡ true → from ≤ t
span-from from end t e = leb-true from t (and_parts (nat_le from t) (nat_lt t end) e).0

pub span-end : (from end t : ℕ) → (nat_le from t && nat_lt t end) ≡ true → t < end
span-end from end t e = ltb-true t end (and_parts (nat_le from t) (nat_lt t end) e).1

-- ---- lists

pub times-none : (test : ℕ → Bool) (ps : List Point) → ((t : ℕ) → test t ≡ false) → at_times test ps ≡ []
times-none test ps h = times-alike test (λ t. false) ps h ∙ none ps
  where
    none : (qs : List Point) → at_times (λ t. false) qs ≡ []
    none [] = refl
    none (q ∷ qs) = none qs

-- a test that fails past a time takes no later samples
pub none-past : (test : ℕ → Bool) (u : ℕ) (ps : List Point) → IsAfter u ps → ((t : ℕ) → u < t → test t ≡ false) → at_times test ps ≡ []
none-past test u [] a h = refl
none-past test u (p ∷ ps) a h = ap (λ (x : Bool). cond x (p ∷ at_times test ps) (at_times test ps)) (h p.time a.0) ∙ none-past test u ps a.1 h

pub all-past : (test : ℕ → Bool) (u : ℕ) (ps : List Point) → IsAfter u ps → ((t : ℕ) → u < t → test t ≡ true) → at_times test ps ≡ ps
all-past test u [] a h = refl
all-past test u (p ∷ ps) a h = ap (λ (x : Bool). cond x (p ∷ at_times test ps) (at_times test ps)) (h p.time a.0) ∙ ap (λ (qs : List Point). p ∷ qs) (all-past test u ps a.1 h)

-- An ascending list is the samples before a time, and then those from it on.
pub parts : (cut : ℕ) (ps : List Point) → IsAscending ps → at_times (λ t. nat_lt t cut) ps ++ at_times (nat_le cut) ps ≡ ps
parts cut [] a = refl
parts cut (p ∷ ps) a = go (cases_lt p.time cut) (parts cut ps a.1)
  where
    go : (p.time < cut) ⊎ (cut ≤ p.time) → at_times (λ t. nat_lt t cut) ps ++ at_times (nat_le cut) ps ≡ ps →
        cond (nat_lt p.time cut) (p ∷ at_times (λ t. nat_lt t cut) ps) (at_times (λ t. nat_lt t cut) ps)
        ++ cond (nat_le cut p.time) (p ∷ at_times (nat_le cut) ps) (at_times (nat_le cut) ps) ≡ p ∷ ps
    go (inl x) ih =
        let late : nat_le cut p.time ≡ false = true-unless (nat_le cut p.time) (λ e. (let y : cut ≤ p.time = leb-true cut p.time e in absurd (omega arith))) in
        rw (lt-ltb p.time cut x) (rw late (ap (λ (qs : List Point). p ∷ qs) ih))
    go (inr x) ih =
        let early : nat_lt p.time cut ≡ false = true-unless (nat_lt p.time cut) (λ e. (let y : p.time < cut = ltb-true p.time cut e in absurd (omega arith))) in
        rw early
        (rw (le-leb cut p.time x)
        (rw (none-past (λ t. nat_lt t cut) p.time ps a.0 (λ t h. true-unless (nat_lt t cut) (λ e. (let y : t < cut = ltb-true t cut e in absurd (omega arith)))))
        (ap (λ (qs : List Point). p ∷ qs) (all-past (nat_le cut) p.time ps a.0 (λ t h. le-leb cut t (omega arith))))))

-- ---- spans

pub until-none : (from end : ℕ) (ps : List Point) → end ≤ from → from_until from end ps ≡ []
until-none from end ps h =
    times-none (λ t. nat_le from t && nat_lt t end) ps
    (λ t. true-unless (nat_le from t && nat_lt t end)
    (λ e. (let x : from ≤ t = span-from from end t e in let y : t < end = span-end from end t e in absurd (omega arith))))
