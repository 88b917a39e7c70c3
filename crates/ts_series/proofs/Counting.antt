-- The number of samples in a list after an insertion.
use Rattle.std.proofs.Common.{◌≡◌, ℕ, suc, ◌+◌, ◌<◌, ◌≤◌, Bool, true, false, cond, List, [], ◌∷◌, ◌++◌, length, refl, sym, ◌∙◌, ap, subst, arith, length-append}
use Rattle.std.specs.Prelude.{nat_lt, nat_le, if◌then◌else◌, Option, None, Some, not}
use Rattle.std.proofs.lemmas.Bool.{cases_order}
use Rattle.std.proofs.Common.{inl, inr, ◌⊎◌, lt-ltb, le-ltb, eq-eqb, ne_eqb}
use Rattle.std.proofs.lemmas.List.Elements.{filter-append}
use Rattle.std.proofs.lemmas.List.Filters.{length-filter_both}
use Rattle.ts_spec.specs.Sample.{Point, IsAscending, IsAfter, at, at_times, put}
use Rattle.ts_spec.proofs.Samples.{at-after}
use Rattle.ts_sample.proofs.Replacing.{none-before, all-past}

-- one where the test passes
abbrev pub one_if : Bool → ℕ
one_if true = 1
one_if false = 0

pub times-append : (test : ℕ → Bool) (ps qs : List Point) → at_times test (ps ++ qs) ≡ at_times test ps ++ at_times test qs
times-append test ps qs = filter-append (λ (p : Point). test p.time) ps qs

pub length-cons_if : (b : Bool) (p : Point) (ps : List Point) → length (cond b (p ∷ ps) ps) ≡ one_if b + length ps
length-cons_if true p ps = omega arith
length-cons_if false p ps = omega arith

abbrev Parts : (ℕ → Bool) → ℕ → List Point → Type 0
Parts test t ps = length (at_times test (at_times (λ u. nat_lt u t) ps)) + length (at_times test (at_times (nat_lt t) ps)) ≡ length (at_times test ps)

-- the samples before a time without a sample, and those after it, are all of them
parts-length : (test : ℕ → Bool) (t : ℕ) (ps : List Point) → at t ps ≡ None
    → length (at_times test (at_times (λ u. nat_lt u t) ps)) + length (at_times test (at_times (nat_lt t) ps)) ≡ length (at_times test ps)
parts-length test t [] none = refl
parts-length test t (p ∷ ps) none = go (parts-length test t ps) (cases_order p.time t)
  where
    step : (b c : Bool) → nat_lt p.time t ≡ b → nat_lt t p.time ≡ c → one_if b + one_if c ≡ 1 → Parts test t ps
        → length (at_times test (at_times (λ u. nat_lt u t) (p ∷ ps))) + length (at_times test (at_times (nat_lt t) (p ∷ ps))) ≡ length (at_times test (p ∷ ps))
    step true true x y two n = absurd (omega arith)
    step false false x y two n = absurd (omega arith)
    step true false x y two n =
        rw (x, y) (let here = length-cons_if (test p.time) p (at_times test (at_times (λ u. nat_lt u t) ps)) in
        let all = length-cons_if (test p.time) p (at_times test ps) in omega (arith, here, all, n))
    step false true x y two n =
        rw (x, y) (let here = length-cons_if (test p.time) p (at_times test (at_times (nat_lt t) ps)) in
        let all = length-cons_if (test p.time) p (at_times test ps) in omega (arith, here, all, n))

    go : (at t ps ≡ None → Parts test t ps) → (p.time ≡ t) ⊎ ((p.time < t) ⊎ (t < p.time)) → length (at_times test (at_times (λ u. nat_lt u t) (p ∷ ps))) + length (at_times test (at_times (nat_lt t) (p ∷ ps))) ≡ length (at_times test (p ∷ ps))
    go ih (inl same) = absurd (cc (ap (λ b. if b then Some p else at t ps) (eq-eqb p.time t same), none))
    go ih (inr (inl less)) = step true false (lt-ltb p.time t less) (le-ltb t p.time (omega arith)) refl (ih (sym (ap (λ b. if b then Some p else at t ps) (ne_eqb p.time t (λ d. absurd (omega arith)))) ∙ none))
    go ih (inr (inr more)) = step false true (le-ltb p.time t (omega arith)) (lt-ltb t p.time more) refl (ih (sym (ap (λ b. if b then Some p else at t ps) (ne_eqb p.time t (λ d. absurd (omega arith)))) ∙ none))

-- a new sample is one more, where it passes the test
pub length-put : (test : ℕ → Bool) (p : Point) (ps : List Point) → at p.time ps ≡ None
    → length (at_times test (put p ps)) ≡ length (at_times test ps) + one_if (test p.time)
length-put test p ps none =
    let before = at_times (λ u. nat_lt u p.time) ps in
    let later = at_times (nat_lt p.time) ps in
    let joined : length (at_times test (put p ps)) ≡ length (at_times test before) + length (at_times test (p ∷ later)) =
    ap length (times-append test before (p ∷ later)) ∙ length-append (at_times test before) (at_times test (p ∷ later)) in
    let here : length (at_times test (p ∷ later)) ≡ one_if (test p.time) + length (at_times test later) = length-cons_if (test p.time) p (at_times test later) in
    omega (arith, joined, here, parts-length test p.time ps none)

pub times-each : (ps : List Point) → at_times (λ t. true) ps ≡ ps
times-each [] = refl
times-each (p ∷ ps) = ap (λ (l : List Point). p ∷ l) (times-each ps)

-- a part is no longer than the whole
pub times-length : (test : ℕ → Bool) (ps : List Point) → length (at_times test ps) ≤ length ps
times-length test ps = omega (arith, length-filter_both (λ (p : Point). test p.time) (λ (p : Point). not (test p.time)) (λ p. refl) ps)

-- a test that another one follows passes no more samples
pub times-fewer : (a d : ℕ → Bool) (ps : List Point) → ((t : ℕ) → a t ≡ true → d t ≡ true) → length (at_times a ps) ≤ length (at_times d ps)
times-fewer a d [] h = omega arith
times-fewer a d (p ∷ ps) h =
    let here : one_if (a p.time) ≤ one_if (d p.time) = less (a p.time) (d p.time) (h p.time) in
    omega (arith, times-fewer a d ps h, here, length-cons_if (a p.time) p (at_times a ps), length-cons_if (d p.time) p (at_times d ps))
  where
    less : (x w : Bool) → (x ≡ true → w ≡ true) → one_if x ≤ one_if w
    less true w f = let e : one_if w ≡ 1 = ap one_if (f refl) in omega (arith, e)
    less false w f = omega arith

-- below the limit there is room for one more
pub not_full : (limit : ℕ) (test : ℕ → Bool) (p : Point) (ps : List Point) → at p.time ps ≡ None → length ps < limit → false ≡ nat_lt limit (length (at_times test (put p ps)))
not_full limit test p ps none below =
    let more = length-put test p ps none in
    let part = times-length test ps in
    let one : one_if (test p.time) ≤ 1 = at_most_one (test p.time) in
    let fits : length (at_times test (put p ps)) ≤ limit = omega (arith, more, part, one) in
    sym (le-ltb limit (length (at_times test (put p ps))) fits)
  where
    at_most_one : (b : Bool) → one_if b ≤ 1
    at_most_one true = omega arith
    at_most_one false = omega arith

-- a sample in the place of another one leaves as many
pub length-put_there : (p q : Point) (ps : List Point) → IsAscending ps → at p.time ps ≡ Some q → length (put p ps) ≡ length ps
length-put_there p q ps h there =
    length-append (at_times (λ u. nat_lt u p.time) ps) (p ∷ at_times (nat_lt p.time) ps)
    ∙ (let both = around p.time ps q h there in omega (arith, both))
  where
    around : (t : ℕ) (ps : List Point) (q : Point) → IsAscending ps → at t ps ≡ Some q → length (at_times (λ u. nat_lt u t) ps) + suc (length (at_times (nat_lt t) ps)) ≡ length ps
    around t [] q h there = absurd (cc there)
    around t (r ∷ ps) q h there = go (around t ps q h.1) (cases_order r.time t)
      where
        go : (at t ps ≡ Some q → length (at_times (λ u. nat_lt u t) ps) + suc (length (at_times (nat_lt t) ps)) ≡ length ps) → (r.time ≡ t) ⊎ ((r.time < t) ⊎ (t < r.time))
            → length (at_times (λ u. nat_lt u t) (r ∷ ps)) + suc (length (at_times (nat_lt t) (r ∷ ps))) ≡ length (r ∷ ps)
        go ih (inl same) =
            let after : IsAfter t ps = subst (λ u. IsAfter u ps) same h.0 in
            rw (le-ltb r.time t (omega arith), le-ltb t r.time (omega arith))
            (let a = ap length (none-before t ps after) in let b = ap length (all-past t ps after) in omega (arith, a, b))
        go ih (inr (inl less)) =
            let rest = ih (sym (ap (λ b. if b then Some r else at t ps) (ne_eqb r.time t (λ d. absurd (omega arith)))) ∙ there) in
            rw (lt-ltb r.time t less, le-ltb t r.time (omega arith)) (omega (arith, rest))
        go ih (inr (inr more)) =
            let here : at t ps ≡ Some q = sym (ap (λ b. if b then Some r else at t ps) (ne_eqb r.time t (λ d. absurd (omega arith)))) ∙ there in
            let none : at t ps ≡ None = at-after t r.time ps h.0 (omega arith) in
            absurd (cc (here, none))

-- the list after a write stays within a limit that it kept
pub length-after : (limit low : ℕ) (p : Point) (ps : List Point) → IsAscending ps → (at p.time ps ≡ None → length (at_times (nat_le low) (put p ps)) ≤ limit) → length ps ≤ limit
    → length (at_times (nat_le low) (put p ps)) ≤ limit
length-after limit low p ps h fits le = go (at p.time ps) refl
  where
    go : (o : Option Point) → at p.time ps ≡ o → length (at_times (nat_le low) (put p ps)) ≤ limit
    go None is = fits is
    go (Some q) is = omega (arith, times-length (nat_le low) (put p ps), length-put_there p q ps h is)
