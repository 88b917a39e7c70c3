-- Samples of an ascending list, and of a part of it.
use Rattle.std.proofs.Common.{◌≡◌, ◌≢◌, ℕ, ◌<◌, ◌≤◌, Bool, true, false, ◌==◌, nat_le, if◌then◌else◌, List, [], ◌∷◌, ◌++◌, refl, sym, ap, ◌∙◌, subst, arith}
use Rattle.std.proofs.lemmas.Bool.{leb-true, eqb-true, eq-eqb}
use Rattle.std.proofs.lemmas.List.Elements.{filter-append}
use Rattle.std.specs.Option.{option_or}
use Rattle.std.specs.Prelude.{Some, None}
use Rattle.ts_spec.specs.Sample.{Point, IsAfter, IsAscending, at, at_times, last_of, later_or}
use Rattle.ts_spec.proofs.Samples.{at-times, at-append, at-after}
use Rattle.ts_sample.proofs.Lists.{after-right}

-- ---- at a time

-- a sample at the end of a list
pub at-right : (ps qs : List Point) (t : ℕ) (p : Point) → IsAscending (ps ++ qs) → at t qs ≡ Some p → at t (ps ++ qs) ≡ Some p
at-right [] qs t p h e = e
at-right (q ∷ ps) qs t p h e = go (q.time == t) refl (at-right ps qs t p h.1 e)
  where
    go : (b : Bool) → (q.time == t) ≡ b → at t (ps ++ qs) ≡ Some p → (if b then Some q else at t (ps ++ qs)) ≡ Some p
    go true same more =
        let early : t ≤ q.time = omega (arith, eqb-true q.time t same) in
        let none : None ≡ Some p = sym (at-after t q.time qs (after-right q.time ps qs h.0) early) ∙ e in
        absurd cc
    go false same more = more

-- a sample at the start of a list
pub at-left : (ps qs : List Point) (t : ℕ) (p : Point) → at t ps ≡ Some p → at t (ps ++ qs) ≡ Some p
at-left ps qs t p e = at-append t ps qs ∙ ap (λ o. option_or o (at t qs)) e

-- a sample whose time passes
pub at-passing : (test : ℕ → Bool) (ps : List Point) (t : ℕ) (p : Point) → test t ≡ true → at t ps ≡ Some p → at t (at_times test ps) ≡ Some p
at-passing test ps t p passes e = at-times t test ps ∙ ap (λ (b : Bool). if b then at t ps else None) passes ∙ e

-- it is in the whole list, and its time passes
pub record IsPassing (test : ℕ → Bool) (ps : List Point) (t : ℕ) (p : Point) : Type 0 where
  pub passes : test t ≡ true
  pub there : at t ps ≡ Some p

pub passing-at : (test : ℕ → Bool) (ps : List Point) (t : ℕ) (p : Point) → at t (at_times test ps) ≡ Some p → IsPassing test ps t p
passing-at test ps t p e = go (test t) refl (sym (at-times t test ps) ∙ e)
  where
    go : (b : Bool) → test t ≡ b → (if b then at t ps else None) ≡ Some p → IsPassing test ps t p
    go true passes e = record { passes = passes; there = e }
    go false passes e = absurd cc

-- ---- the last sample

-- it comes after the first
first-last : (q : Point) (ps : List Point) (p : Point) → IsAfter q.time ps → last_of ps ≡ Some p → q.time < p.time
first-last q [] p h e = absurd cc
first-last q (r ∷ []) p h e =
    let same : r ≡ p = cc in
    omega (arith, h.0, ap (λ (x : Point). x.time) same)
first-last q (r ∷ s ∷ ps) p h e = first-last q (s ∷ ps) p h.1 e

-- it is there
pub last-at : (ps : List Point) (p : Point) → IsAscending ps → last_of ps ≡ Some p → at p.time ps ≡ Some p
last-at [] p h e = absurd cc
last-at (q ∷ []) p h e =
    let same : q ≡ p = cc in
    ap (λ (b : Bool). if b then Some q else None) (eq-eqb q.time p.time (ap (λ (x : Point). x.time) same)) ∙ e
last-at (q ∷ r ∷ ps) p h e = at-right (q ∷ []) (r ∷ ps) p.time p h (last-at (r ∷ ps) p h.1 e)

-- if one of the samples is at or after an edge, it is too
pub last-from : (edge : ℕ) (ps : List Point) (p : Point) → IsAscending ps → at_times (λ t. nat_le edge t) ps ≢ [] → last_of ps ≡ Some p → edge ≤ p.time
last-from edge [] p h some e = absurd (some refl)
last-from edge (q ∷ []) p h some e = go (nat_le edge q.time) refl some
  where
    go : (b : Bool) → nat_le edge q.time ≡ b → (if b then q ∷ [] else []) ≢ [] → edge ≤ p.time
    go true its some =
        let same : q ≡ p = cc in
        omega (arith, leb-true edge q.time its, ap (λ (x : Point). x.time) same)
    go false its some = absurd (some refl)
last-from edge (q ∷ r ∷ ps) p h some e = go (nat_le edge q.time) refl some (λ others. last-from edge (r ∷ ps) p h.1 others e)
  where
    go : (b : Bool) → nat_le edge q.time ≡ b → (if b then q ∷ at_times (λ t. nat_le edge t) (r ∷ ps) else at_times (λ t. nat_le edge t) (r ∷ ps)) ≢ []
        → (at_times (λ t. nat_le edge t) (r ∷ ps) ≢ [] → edge ≤ p.time) → edge ≤ p.time
    go true its some others = omega (arith, leb-true edge q.time its, first-last q (r ∷ ps) p h.0 e)
    go false its some others = others some

-- the last sample of a list is that of its end, if this has one
pub last-right : (ps qs : List Point) (p : Point) → last_of qs ≡ Some p → last_of (ps ++ qs) ≡ Some p
last-right [] qs p e = e
last-right (q ∷ ps) qs p e = ap (λ o. Some (later_or q o)) (last-right ps qs p e)

-- ---- samples of a part

some-left : (ps qs : List Point) → ps ≢ [] → ps ++ qs ≢ []
some-left [] qs some = absurd (some refl)
some-left (p ∷ ps) qs some = λ e. cc

pub times-left : (test : ℕ → Bool) (ps qs : List Point) → at_times test ps ≢ [] → at_times test (ps ++ qs) ≢ []
times-left test ps qs some = subst (λ (l : List Point). l ≢ []) (sym (filter-append (λ (p : Point). test p.time) ps qs)) (some-left (at_times test ps) (at_times test qs) some)
