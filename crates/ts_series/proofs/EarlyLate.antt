-- The samples of a list before a time and after it.
use Rattle.std.proofs.Common.{◌≡◌, ◌≢◌, ℕ, zero, suc, drop, ◌<◌, ◌≤◌, Bool, true, false, cond, List, [], ◌∷◌, ◌++◌, refl, sym, ◌∙◌, ap, arith, ltb-false, ltb-true, lt-ltb, leb-false, leb-true, le-leb}
use Rattle.std.specs.Prelude.{nat_lt, nat_le, Option, None, Some}
use Rattle.std.proofs.lemmas.Bool.{false≢true}
use Rattle.std.proofs.lemmas.Bool.Decides.{nat_tests}
use Rattle.ts_spec.specs.Sample.{Point, IsAfter, IsAscending, at_times, first_of, last_of}
use Rattle.ts_spec.proofs.Samples.{IsBefore}
use Rattle.ts_series.proofs.Counting.{times-append}
use Rattle.ts_sample.specs.Chunk.{joined}
use Rattle.ts_sample.proofs.Lists.{after-right, ascending-right}
use Rattle.ts_series.specs.Stored.{IsTrimmed}

-- the last sample is before the time, if there is one
abbrev pub is_before : ℕ → Option Point → Bool
is_before t None = true
is_before t (Some p) = nat_lt p.time t

-- the first sample is up to the time, if there is one
abbrev pub is_upto : ℕ → Option Point → Bool
is_upto t None = true
is_upto t (Some p) = nat_le p.time t

-- ---- where a test takes every sample

pub none-head : (test : ℕ → Bool) (p : Point) (ps : List Point) → at_times test (p ∷ ps) ≡ [] → test p.time ≡ false
none-head test p ps n = go (test p.time) n
  where
    go : (b : Bool) → cond b (p ∷ at_times test ps) (at_times test ps) ≡ [] → b ≡ false
    go true m = absurd (cc m)
    go false m = refl

pub none-tail : (test : ℕ → Bool) (p : Point) (ps : List Point) → at_times test (p ∷ ps) ≡ [] → at_times test ps ≡ []
none-tail test p ps n = go (test p.time) n
  where
    go : (b : Bool) → cond b (p ∷ at_times test ps) (at_times test ps) ≡ [] → at_times test ps ≡ []
    go true m = absurd (cc m)
    go false m = m

pub none-cons : (test : ℕ → Bool) (p : Point) (ps : List Point) → test p.time ≡ false → at_times test ps ≡ [] → at_times test (p ∷ ps) ≡ []
none-cons test p ps fails n = ap (λ b. cond b (p ∷ at_times test ps) (at_times test ps)) fails ∙ n

pub none-left : (test : ℕ → Bool) (ps qs : List Point) → at_times test (ps ++ qs) ≡ [] → at_times test ps ≡ []
none-left test [] qs n = refl
none-left test (p ∷ ps) qs n = none-cons test p ps (none-head test p (ps ++ qs) n) (none-left test ps qs (none-tail test p (ps ++ qs) n))

pub none-right : (test : ℕ → Bool) (ps qs : List Point) → at_times test (ps ++ qs) ≡ [] → at_times test qs ≡ []
none-right test [] qs n = n
none-right test (p ∷ ps) qs n = none-right test ps qs (none-tail test p (ps ++ qs) n)

pub none-both : (test : ℕ → Bool) (ps qs : List Point) → at_times test ps ≡ [] → at_times test qs ≡ [] → at_times test (ps ++ qs) ≡ []
none-both test ps qs n m = times-append test ps qs ∙ ap (λ (l : List Point). l ++ at_times test qs) n ∙ m

-- what fails one test fails another
pub none-less : (test other : ℕ → Bool) → ((t : ℕ) → test t ≡ false → other t ≡ false) → (ps : List Point) → at_times test ps ≡ [] → at_times other ps ≡ []
none-less test other less [] n = refl
none-less test other less (p ∷ ps) n = none-cons other p ps (less p.time (none-head test p ps n)) (none-less test other less ps (none-tail test p ps n))

-- ---- lists before a time, and past it

pub after-less : (t u : ℕ) (ps : List Point) → IsAfter u ps → t ≤ u → IsAfter t ps
after-less t u [] h le = tt
after-less t u (p ∷ ps) h le = (let first : u < p.time = h.0 in omega arith, after-less t u ps h.1 le)

pub last-before : (t : ℕ) (ps : List Point) → IsAscending ps → is_before t (last_of ps) ≡ true → IsBefore t ps
last-before t [] h e = tt
last-before t (p ∷ []) h e = (ltb-true p.time t e, tt)
last-before t (p ∷ q ∷ ps) h e =
    let rest : IsBefore t (q ∷ ps) = last-before t (q ∷ ps) h.1 e in
    let up : p.time < q.time = h.0.0 in
    let less : q.time < t = rest.0 in
    (omega arith, rest)

pub before-last : (t : ℕ) (ps : List Point) → IsBefore t ps → is_before t (last_of ps) ≡ true
before-last t [] h = refl
before-last t (p ∷ []) h = lt-ltb p.time t h.0
before-last t (p ∷ q ∷ ps) h = before-last t (q ∷ ps) h.1

pub before-first : (t : ℕ) (ps : List Point) → IsBefore t ps → is_upto t (first_of ps) ≡ true
before-first t [] h = refl
before-first t (p ∷ ps) h = let less : p.time < t = h.0 in le-leb p.time t (omega arith)

pub before-none : (t : ℕ) (ps : List Point) → IsBefore t ps → at_times (nat_le t) ps ≡ []
before-none t [] h = refl
before-none t (p ∷ ps) h =
    let less : p.time < t = h.0 in
    none-cons (nat_le t) p ps (let fails : nat_le t p.time ≡ false = grind (arith, nat_tests) in fails) (before-none t ps h.1)

pub after-none : (t u : ℕ) (ps : List Point) → u ≤ t → IsAfter t ps → at_times (λ v. nat_le v u) ps ≡ []
after-none t u [] le h = refl
after-none t u (p ∷ ps) le h =
    let more : t < p.time = h.0 in
    none-cons (λ v. nat_le v u) p ps (let fails : nat_le p.time u ≡ false = grind (arith, nat_tests) in fails) (after-none t u ps le h.1)

pub some-before : (t : ℕ) (ps : List Point) → ps ≢ [] → IsBefore t ps → at_times (λ u. nat_le u t) ps ≢ []
some-before t [] filled h n = filled refl
some-before t (p ∷ ps) filled h n =
    let less : p.time < t = h.0 in
    let past : t < p.time = leb-false p.time t (none-head (λ u. nat_le u t) p ps n) in
    absurd (omega arith)

-- a list whose last sample is not before the time has one from it on
pub late-some : (t : ℕ) (ps : List Point) → is_before t (last_of ps) ≡ false → at_times (nat_le t) ps ≢ []
late-some t [] e n = false≢true (sym e)
late-some t (p ∷ []) e n =
    let low : t ≤ p.time = ltb-false p.time t e in
    let less : p.time < t = leb-false t p.time (none-head (nat_le t) p [] n) in
    absurd (omega arith)
late-some t (p ∷ q ∷ ps) e n = late-some t (q ∷ ps) e (none-tail (nat_le t) p (q ∷ ps) n)

-- a list whose first sample is up to the time has one
pub first-some : (t : ℕ) (ps : List Point) → ps ≢ [] → is_upto t (first_of ps) ≡ true → at_times (λ u. nat_le u t) ps ≢ []
first-some t [] filled e n = filled refl
first-some t (p ∷ ps) filled e n = false≢true (sym (none-head (λ u. nat_le u t) p ps n) ∙ e)

pub first-none : (t : ℕ) (ps : List Point) → IsAscending ps → is_upto t (first_of ps) ≡ false → at_times (λ u. nat_le u t) ps ≡ []
first-none t [] h e = refl
first-none t (p ∷ ps) h e =
    let past : t < p.time = leb-false p.time t e in
    none-cons (λ u. nat_le u t) p ps e (after-none p.time t ps (omega arith) h.0)

-- ---- two parts of an ascending list

below : (t u : ℕ) (qs : List Point) → IsAfter u qs → at_times (λ v. nat_le v t) qs ≢ [] → u < t
below t u [] h f = absurd (f refl)
below t u (q ∷ qs) h f = go (below t u qs h.1) (nat_le q.time t) refl
  where
    go : (at_times (λ v. nat_le v t) qs ≢ [] → u < t) → (b : Bool) → nat_le q.time t ≡ b → u < t
    go rest true e = let first : u < q.time = h.0 in let le : q.time ≤ t = leb-true q.time t e in omega arith
    go rest false e = rest (λ n. f (none-cons (λ v. nat_le v t) q qs e n))

-- the front is before a time that the rest has a sample up to
pub before-some : (t : ℕ) (ps qs : List Point) → IsAscending (ps ++ qs) → at_times (λ u. nat_le u t) qs ≢ [] → IsBefore t ps
before-some t [] qs h f = tt
before-some t (p ∷ ps) qs h f = (below t p.time qs (after-right p.time ps qs h.0) f, before-some t ps qs h.1 f)

-- the rest is past a time that the front has a sample from
pub after-some : (t : ℕ) (ps qs : List Point) → IsAscending (ps ++ qs) → at_times (nat_le t) ps ≢ [] → IsAfter t qs
after-some t [] qs h f = absurd (f refl)
after-some t (p ∷ ps) qs h f = go (after-some t ps qs h.1) (nat_le t p.time) refl
  where
    go : (at_times (nat_le t) ps ≢ [] → IsAfter t qs) → (b : Bool) → nat_le t p.time ≡ b → IsAfter t qs
    go rest true e = after-less t p.time qs (after-right p.time ps qs h.0) (leb-true t p.time e)
    go rest false e = rest (λ n. f (none-cons (nat_le t) p ps e n))

-- what follows the first piece that has a sample from a time on is past that time
pub rest-past : (t i : ℕ) (pss : List (List Point)) → IsAscending (joined pss) → IsTrimmed t (drop i pss) → IsAfter t (joined (drop (suc i) pss))
rest-past t i [] h trimmed = tt
rest-past t zero (ps ∷ pss) h trimmed = after-some t ps (joined pss) h trimmed
rest-past t (suc i) (ps ∷ pss) h trimmed = rest-past t i pss (ascending-right ps (joined pss) h) trimmed
