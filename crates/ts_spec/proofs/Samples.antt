-- Lists of samples, by the sample at each time.
use Rattle.std.proofs.Common.{◌≡◌, ℕ, ◌<◌, ◌≤◌, Bool, true, false, cond, ◌==◌, nat_lt, if◌then◌else◌, List, [], ◌∷◌, ◌++◌, Option, Some, None, filter, refl, sym, ap, ◌∙◌, subst, arith, inl, inr, eqb-true, ltb-true, lt-ltb, le-ltb, eq-eqb, ne_eqb}
use Rattle.std.specs.Option.{option_or}
use Rattle.std.proofs.lemmas.Bool.{cases_order, false≢true}
use Rattle.ts_spec.specs.Sample.{Point, IsAfter, IsAscending, at, at_times, put, put_all}

pub at-time : (t : ℕ) (ps : List Point) (p : Point) → at t ps ≡ Some p → p.time ≡ t
at-time t [] p h = absurd (cc h)
at-time t (q ∷ ps) p h = go (q.time == t) refl h (at-time t ps p)
  where
    go : (b : Bool) → (q.time == t) ≡ b → cond b (Some q) (at t ps) ≡ Some p → (at t ps ≡ Some p → p.time ≡ t) → p.time ≡ t
    go true e h ih = let same : q ≡ p = cc h in ap (λ (x : Point). x.time) (sym same) ∙ eqb-true q.time t e
    go false e h ih = ih h

pub at-times : (t : ℕ) (test : ℕ → Bool) (ps : List Point) → at t (at_times test ps) ≡ (if test t then at t ps else None)
at-times t test [] = go (test t)
  where
    go : (b : Bool) → at t [] ≡ (if b then at t [] else None)
    go true = refl
    go false = refl
at-times t test (q ∷ ps) = go (test q.time) (q.time == t) (test t) refl refl refl (at-times t test ps)
  where
    go : (a b c : Bool) → test q.time ≡ a → (q.time == t) ≡ b → test t ≡ c → at t (at_times test ps) ≡ (if test t then at t ps else None) →
        at t (cond a (q ∷ at_times test ps) (at_times test ps)) ≡ (if c then (cond b (Some q) (at t ps)) else None)
    go true true true x y z ih = rw y refl
    go true true false x y z ih = let e : q.time ≡ t = eqb-true q.time t y in absurd (false≢true (sym z ∙ ap test (sym e) ∙ x))
    go true false c x y z ih = rw y (rw (← z) ih)
    go false true true x y z ih = let e : q.time ≡ t = eqb-true q.time t y in absurd (false≢true (sym x ∙ ap test e ∙ z))
    go false true false x y z ih = rw z at ih
    go false false c x y z ih = rw (← z) ih

pub at-append : (t : ℕ) (ps qs : List Point) → at t (ps ++ qs) ≡ option_or (at t ps) (at t qs)
at-append t [] qs = refl
at-append t (p ∷ ps) qs = go (p.time == t) (at-append t ps qs)
  where
    go : (b : Bool) → at t (ps ++ qs) ≡ option_or (at t ps) (at t qs) → cond b (Some p) (at t (ps ++ qs)) ≡ option_or (cond b (Some p) (at t ps)) (at t qs)
    go true ih = refl
    go false ih = ih

or-none : {T : Type 0} (x : Option T) → option_or x None ≡ x
or-none None = refl
or-none (Some x) = refl

pub at-put : (t : ℕ) (p : Point) (ps : List Point) → at t (put p ps) ≡ (if p.time == t then Some p else at t ps)
at-put t p ps =
    rw (at-append t (at_times (λ u. nat_lt u p.time) ps) (p ∷ at_times (nat_lt p.time) ps), at-times t (λ u. nat_lt u p.time) ps, at-times t (nat_lt p.time) ps)
    (elim (cases_order p.time t) [
      | inl e ↦ rw (eq-eqb p.time t e, le-ltb t p.time (omega arith)) refl
      | inr (inl e) ↦ rw (ne_eqb p.time t (λ d. absurd (omega arith)), le-ltb t p.time (omega arith), lt-ltb p.time t e) refl
      | inr (inr e) ↦ rw (ne_eqb p.time t (λ d. absurd (omega arith)), lt-ltb t p.time e, le-ltb p.time t (omega arith)) (or-none (at t ps))
    ])

pub at-put_all : (t : ℕ) (qs ps : List Point) → at t (put_all qs ps) ≡ option_or (at t qs) (at t ps)
at-put_all t [] ps = refl
at-put_all t (q ∷ qs) ps = rw (at-put t q (put_all qs ps), at-put_all t qs ps) (go (q.time == t))
  where
    go : (b : Bool) → (if b then Some q else option_or (at t qs) (at t ps)) ≡ option_or (cond b (Some q) (at t qs)) (at t ps)
    go true = refl
    go false = refl

-- ---- ascending lists

pub at-after : (t u : ℕ) (ps : List Point) → IsAfter u ps → t ≤ u → at t ps ≡ None
at-after t u [] h le = refl
at-after t u (p ∷ ps) h le =
    let first : u < p.time = h.0 in
    rw (ne_eqb p.time t (λ d. absurd (omega arith))) (at-after t u ps h.1 le)

after-less : (t u : ℕ) (ps : List Point) → IsAfter u ps → t ≤ u → IsAfter t ps
after-less t u [] h le = tt
after-less t u (p ∷ ps) h le = (let first : u < p.time = h.0 in omega arith, after-less t u ps h.1 le)

after-times : (u : ℕ) (test : ℕ → Bool) (ps : List Point) → IsAfter u ps → IsAfter u (at_times test ps)
after-times u test [] h = tt
after-times u test (p ∷ ps) h = go (test p.time) (after-times u test ps h.1)
  where
    go : (b : Bool) → IsAfter u (at_times test ps) → IsAfter u (cond b (p ∷ at_times test ps) (at_times test ps))
    go true ih = (h.0, ih)
    go false ih = ih

pub ascending-times : (test : ℕ → Bool) (ps : List Point) → IsAscending ps → IsAscending (at_times test ps)
ascending-times test [] h = tt
ascending-times test (p ∷ ps) h = go (test p.time) (ascending-times test ps h.1)
  where
    go : (b : Bool) → IsAscending (at_times test ps) → IsAscending (cond b (p ∷ at_times test ps) (at_times test ps))
    go true ih = (after-times p.time test ps h.0, ih)
    go false ih = ih

after-append : (u : ℕ) (ps qs : List Point) → IsAfter u ps → IsAfter u qs → IsAfter u (ps ++ qs)
after-append u [] qs h k = k
after-append u (p ∷ ps) qs h k = (h.0, after-append u ps qs h.1 k)

-- each sample is before this time
abbrev pub IsBefore : ℕ → List Point → Type 0
IsBefore u [] = Unit {0}
IsBefore u (p ∷ ps) = (p.time < u) × IsBefore u ps

pub ascending-join : (ps : List Point) (q : Point) (qs : List Point) → IsAscending ps → IsBefore q.time ps → IsAscending (q ∷ qs) → IsAscending (ps ++ q ∷ qs)
ascending-join [] q qs h up k = k
ascending-join (p ∷ ps) q qs h up k =
    let first : p.time < q.time = up.0 in
    (after-append p.time ps (q ∷ qs) h.0 (first, after-less p.time q.time qs k.0 (omega arith)), ascending-join ps q qs h.1 up.1 k)

before-times : (u : ℕ) (ps : List Point) → IsBefore u (at_times (λ t. nat_lt t u) ps)
before-times u [] = tt
before-times u (p ∷ ps) = go (nat_lt p.time u) refl (before-times u ps)
  where
    go : (b : Bool) → nat_lt p.time u ≡ b → IsBefore u (at_times (λ t. nat_lt t u) ps) →
        IsBefore u (cond b (p ∷ at_times (λ t. nat_lt t u) ps) (at_times (λ t. nat_lt t u) ps))
    go true e ih = (ltb-true p.time u e, ih)
    go false e ih = ih

after-past : (u : ℕ) (ps : List Point) → IsAfter u (at_times (nat_lt u) ps)
after-past u [] = tt
after-past u (p ∷ ps) = go (nat_lt u p.time) refl (after-past u ps)
  where
    go : (b : Bool) → nat_lt u p.time ≡ b → IsAfter u (at_times (nat_lt u) ps) →
        IsAfter u (cond b (p ∷ at_times (nat_lt u) ps) (at_times (nat_lt u) ps))
    go true e ih = (ltb-true u p.time e, ih)
    go false e ih = ih

pub ascending-put : (p : Point) (ps : List Point) → IsAscending ps → IsAscending (put p ps)
ascending-put p ps h =
    ascending-join (at_times (λ t. nat_lt t p.time) ps) p (at_times (nat_lt p.time) ps) (ascending-times (λ t. nat_lt t p.time) ps h) (before-times p.time ps)
    (after-past p.time ps, ascending-times (nat_lt p.time) ps h)

pub ascending-put_all : (qs ps : List Point) → IsAscending ps → IsAscending (put_all qs ps)
ascending-put_all [] ps h = h
ascending-put_all (q ∷ qs) ps h = ascending-put q (put_all qs ps) (ascending-put_all qs ps h)

at-first : (p : Point) (ps : List Point) → at p.time (p ∷ ps) ≡ Some p
at-first p ps = rw (eq-eqb p.time p.time refl) refl

-- the samples in the rest of an ascending list are in the whole list
at-rest : (p : Point) (ps : List Point) (t : ℕ) (q : Point) → IsAscending (p ∷ ps) → at t ps ≡ Some q → at t (p ∷ ps) ≡ Some q
at-rest p ps t q h e = go (p.time == t) refl
  where
    go : (b : Bool) → (p.time == t) ≡ b → cond b (Some p) (at t ps) ≡ Some q
    go true x = let later : at t ps ≡ None = at-after t p.time ps h.0 (let k : p.time ≡ t = eqb-true p.time t x in omega arith) in absurd (cc)
    go false x = e

-- the rest of an ascending list has what the whole has, but for the first
rest-at : (p : Point) (ps qs : List Point) → IsAscending (p ∷ ps) → IsAscending (p ∷ qs) → ((t : ℕ) → at t (p ∷ ps) ≡ at t (p ∷ qs)) → (t : ℕ) → at t ps ≡ at t qs
rest-at p ps qs h k e t = go (p.time == t) refl (e t)
  where
    go : (b : Bool) → (p.time == t) ≡ b → cond b (Some p) (at t ps) ≡ cond b (Some p) (at t qs) → at t ps ≡ at t qs
    go true x f =
        let same : p.time ≡ t = eqb-true p.time t x in
        at-after t p.time ps h.0 (omega arith) ∙ sym (at-after t p.time qs k.0 (omega arith))
    go false x f = f

-- Two ascending lists with the same sample at each time are equal.
pub ascending-same : (ps qs : List Point) → IsAscending ps → IsAscending qs → ((t : ℕ) → at t ps ≡ at t qs) → ps ≡ qs
ascending-same [] [] h k e = refl
ascending-same [] (q ∷ qs) h k e = let here : at q.time (q ∷ qs) ≡ Some q = at-first q qs in let other : None ≡ at q.time (q ∷ qs) = e q.time in absurd (cc)
ascending-same (p ∷ ps) [] h k e = let here : at p.time (p ∷ ps) ≡ Some p = at-first p ps in let other : at p.time (p ∷ ps) ≡ None = e p.time in absurd (cc)
ascending-same (p ∷ ps) (q ∷ qs) h k e =
    let same : p ≡ q = heads p ps q qs h k e in
    go q same (subst (λ (x : Point). IsAscending (x ∷ qs)) (sym same) k) (λ t. e t ∙ ap (λ (x : Point). at t (x ∷ qs)) (sym same)) (λ k' e'. ascending-same ps qs h.1 k' e')
  where
    heads : (p : Point) (ps : List Point) (q : Point) (qs : List Point) → IsAscending (p ∷ ps) → IsAscending (q ∷ qs) → ((t : ℕ) → at t (p ∷ ps) ≡ at t (q ∷ qs)) → p ≡ q
    heads p ps q qs h k e = elim (cases_order p.time q.time) [
      | inl x ↦ let one : Some p ≡ Some q = sym (at-first p ps) ∙ e p.time ∙ ap (λ t. at t (q ∷ qs)) x ∙ at-first q qs in cc
      | inr (inl x) ↦
          let none : at p.time (q ∷ qs) ≡ None = at-after p.time p.time (q ∷ qs) (x, after-less p.time q.time qs k.0 (omega arith)) (omega arith) in
          let one : Some p ≡ None = sym (at-first p ps) ∙ e p.time ∙ none in absurd (cc)
      | inr (inr x) ↦
          let none : at q.time (p ∷ ps) ≡ None = at-after q.time q.time (p ∷ ps) (x, after-less q.time p.time ps h.0 (omega arith)) (omega arith) in
          let one : None ≡ Some q = sym none ∙ e q.time ∙ at-first q qs in absurd (cc)
    ]

    go : (x : Point) → p ≡ x → IsAscending (p ∷ qs) → ((t : ℕ) → at t (p ∷ ps) ≡ at t (p ∷ qs)) → (IsAscending qs → ((t : ℕ) → at t ps ≡ at t qs) → ps ≡ qs) → p ∷ ps ≡ x ∷ qs
    go x same k' e' ih = let rest : ps ≡ qs = ih k'.1 (rest-at p ps qs h k' e') in cc

-- ---- a test of samples

-- the sample, if it passes
abbrev pub passing : (Point → Bool) → Option Point → Option Point
passing test None = None
passing test (Some p) = if test p then Some p else None

after-filter : (u : ℕ) (test : Point → Bool) (ps : List Point) → IsAfter u ps → IsAfter u (filter test ps)
after-filter u test [] h = tt
after-filter u test (p ∷ ps) h = go (test p) (after-filter u test ps h.1)
  where
    go : (b : Bool) → IsAfter u (filter test ps) → IsAfter u (cond b (p ∷ filter test ps) (filter test ps))
    go true ih = (h.0, ih)
    go false ih = ih

pub ascending-filter : (test : Point → Bool) (ps : List Point) → IsAscending ps → IsAscending (filter test ps)
ascending-filter test [] h = tt
ascending-filter test (p ∷ ps) h = go (test p) (ascending-filter test ps h.1)
  where
    go : (b : Bool) → IsAscending (filter test ps) → IsAscending (cond b (p ∷ filter test ps) (filter test ps))
    go true ih = (after-filter p.time test ps h.0, ih)
    go false ih = ih

pub at-filter : (t : ℕ) (test : Point → Bool) (ps : List Point) → IsAscending ps → at t (filter test ps) ≡ passing test (at t ps)
at-filter t test [] h = refl
at-filter t test (p ∷ ps) h = go (test p) (p.time == t) refl refl (at-filter t test ps h.1)
  where
    go : (a b : Bool) → test p ≡ a → (p.time == t) ≡ b → at t (filter test ps) ≡ passing test (at t ps) →
        at t (cond a (p ∷ filter test ps) (filter test ps)) ≡ passing test (cond b (Some p) (at t ps))
    go true true x y ih = rw (x, y) refl
    go true false x y ih = rw y ih
    go false true x y ih =
        let same : p.time ≡ t = eqb-true p.time t y in
        rw x (ih ∙ ap (passing test) (at-after t p.time ps h.0 (omega arith)))
    go false false x y ih = ih

-- ---- what holds of each sample

-- P holds of each sample of an ascending list
pub each_before : (u : ℕ) (ps : List Point) → IsAscending ps → ((t : ℕ) (p : Point) → at t ps ≡ Some p → p.time < u) → IsBefore u ps
each_before u [] h f = tt
each_before u (p ∷ ps) h f = (f p.time p (at-first p ps), each_before u ps h.1 (λ t q e. f t q (at-rest p ps t q h e)))
