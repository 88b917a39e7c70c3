-- A row merged into a list of samples.
use Rattle.std.proofs.Common.{◌≡◌, ℕ, ◌<◌, ◌≤◌, Bool, true, false, cond, List, [], ◌∷◌, ◌++◌, refl, sym, ◌∙◌, ap, arith, ltb-true, lt-ltb, le-ltb}
use Rattle.std.specs.Prelude.{nat_lt, if◌then◌else◌, Option, None, Some}
use Rattle.std.specs.Option.{option_or}
use Rattle.std.proofs.lemmas.Bool.Decides.{nat_tests}
use Rattle.ts_spec.specs.Sample.{Point, IsAfter, IsAscending, at, at_times, is_within, between, put, put_all, first_of, last_of, later_or}
use Rattle.ts_rules.specs.Rules.{one_of}
use Rattle.ts_db.specs.DbState.{ends_of}
use Rattle.ts_spec.proofs.Samples.{at-times, at-put_all, ascending-times, ascending-put_all, ascending-same}
use Rattle.ts_spec.proofs.Tidy.{some-same}
use Rattle.ts_sample.proofs.Replacing.{none-before, all-past}

-- the samples at some times are put among those at these times
pub times-put_all : (test : ℕ → Bool) (rows ps : List Point) → IsAscending ps → at_times test (put_all rows ps) ≡ put_all (at_times test rows) (at_times test ps)
times-put_all test rows ps h =
    ascending-same (at_times test (put_all rows ps)) (put_all (at_times test rows) (at_times test ps))
    (ascending-times test (put_all rows ps) (ascending-put_all rows ps h))
    (ascending-put_all (at_times test rows) (at_times test ps) (ascending-times test ps h))
    (λ t. at-times t test (put_all rows ps)
    ∙ ap (λ (o : Option Point). if test t then o else None) (at-put_all t rows ps)
    ∙ both (test t) (at t rows) (at t ps)
    ∙ sym (at-put_all t (at_times test rows) (at_times test ps)
    ∙ ap (λ (o : Option Point). option_or o (at t (at_times test ps))) (at-times t test rows)
    ∙ ap (option_or (if test t then at t rows else None)) (at-times t test ps)))
  where
    both : (b : Bool) (x y : Option Point) → (if b then option_or x y else None) ≡ option_or (if b then x else None) (if b then y else None)
    both true x y = refl
    both false x y = refl

-- and so it is of a row among them
pub before-put : (t : ℕ) (row : Option Point) (early : Option Point) (ps : List Point) → IsAscending ps → one_of early ≡ at_times (λ u. nat_lt u t) (one_of row)
    → put_all (one_of early) (at_times (λ u. nat_lt u t) ps) ≡ at_times (λ u. nat_lt u t) (put_all (one_of row) ps)
before-put t row early ps h is = ap (λ (rows : List Point). put_all rows (at_times (λ u. nat_lt u t) ps)) is ∙ sym (times-put_all (λ u. nat_lt u t) (one_of row) ps h)

pub within-put : (from to : ℕ) (row : Option Point) (inside : Option Point) (ps : List Point) → IsAscending ps → one_of inside ≡ between from to (one_of row)
    → put_all (one_of inside) (between from to ps) ≡ between from to (put_all (one_of row) ps)
within-put from to row inside ps h is = ap (λ (rows : List Point). put_all rows (between from to ps)) is ∙ sym (times-put_all (is_within from to) (one_of row) ps h)

-- the samples of an interval with a row among them are those of the list with the row asked
pub put-within : (from to : ℕ) (asked inside : Option Point) (row : Point) (ps : List Point) → IsAscending ps → one_of inside ≡ between from to (one_of asked) → inside ≡ Some row
    → put row (between from to ps) ≡ between from to (put_all (one_of asked) ps)
put-within from to asked inside row ps up is there =
    ap (λ (o : Option Point). put_all (one_of o) (between from to ps)) (sym there) ∙ within-put from to asked inside ps up is

-- samples after a time are after an earlier one
pub later : (t u : ℕ) (l : List Point) → t ≤ u → IsAfter u l → IsAfter t l
later t u [] le a = tt
later t u (r ∷ l) le a = (let up : u < r.time = a.0 in omega arith, later t u l le a.1)

-- ---- the first and the last

-- the first of a list with p put in
pub first-put : (p q : Point) (ps : List Point) → IsAscending (q ∷ ps) → first_of (put p (q ∷ ps)) ≡ (if nat_lt q.time p.time then Some q else Some p)
first-put p q ps h = go (nat_lt q.time p.time) refl
  where
    go : (b : Bool) → nat_lt q.time p.time ≡ b → first_of (cond b (q ∷ at_times (λ u. nat_lt u p.time) ps) (at_times (λ u. nat_lt u p.time) ps) ++ p ∷ at_times (nat_lt p.time) (q ∷ ps)) ≡ (if b then Some q else Some p)
    go true x = refl
    go false x = ap (λ (l : List Point). first_of (l ++ p ∷ at_times (nat_lt p.time) (q ∷ ps))) (none-before p.time ps (later p.time q.time ps (at_least x) h.0))
      where
        at_least : nat_lt q.time p.time ≡ false → p.time ≤ q.time
        at_least y = grind (arith, nat_tests)

last-join : (ps : List Point) (p : Point) (qs : List Point) → last_of (ps ++ p ∷ qs) ≡ Some (later_or p (last_of qs))
last-join [] p qs = refl
last-join (q ∷ ps) p qs = ap (λ (o : Option Point). Some (later_or q o)) (last-join ps p qs)

-- the last of the samples past a time
last-past : (t : ℕ) (q : Point) (ps : List Point) → IsAscending (q ∷ ps)
    → last_of (at_times (nat_lt t) (q ∷ ps)) ≡ (if nat_lt t (later_or q (last_of ps)).time then Some (later_or q (last_of ps)) else None)
last-past t q [] h = go (nat_lt t q.time)
  where
    go : (b : Bool) → last_of (cond b (q ∷ []) []) ≡ (if b then Some q else None)
    go true = refl
    go false = refl
last-past t q (r ∷ ps) h = go (nat_lt t q.time) refl (last-past t r ps h.1)
  where
    go : (b : Bool) → nat_lt t q.time ≡ b → last_of (at_times (nat_lt t) (r ∷ ps)) ≡ (if nat_lt t (later_or r (last_of ps)).time then Some (later_or r (last_of ps)) else None)
        → last_of (cond b (q ∷ at_times (nat_lt t) (r ∷ ps)) (at_times (nat_lt t) (r ∷ ps))) ≡ (if nat_lt t (later_or r (last_of ps)).time then Some (later_or r (last_of ps)) else None)
    go true x ih =
        let here : t < q.time = ltb-true t q.time x in
        let next : q.time < r.time = h.0.0 in
        ap (λ (l : List Point). last_of (q ∷ l)) (all-past t (r ∷ ps) (omega arith, later t r.time ps (omega arith) h.1.0))
        ∙ sym (ap (λ b. if b then Some (later_or r (last_of ps)) else None) (lt-ltb t (later_or r (last_of ps)).time (up t r ps h.1 (omega arith))))
      where
        up : (t : ℕ) (y : Point) (l : List Point) → IsAscending (y ∷ l) → t < y.time → t < (later_or y (last_of l)).time
        up t y [] a lt = lt
        up t y (z ∷ l) a lt = up t z l a.1 (let next : y.time < z.time = a.0.0 in omega arith)
    go false x ih = ih

-- the last of a list with p put in
pub last-put : (p q : Point) (ps : List Point) → IsAscending (q ∷ ps)
    → last_of (put p (q ∷ ps)) ≡ (if nat_lt p.time (later_or q (last_of ps)).time then Some (later_or q (last_of ps)) else Some p)
last-put p q ps h =
    last-join (at_times (λ u. nat_lt u p.time) (q ∷ ps)) p (at_times (nat_lt p.time) (q ∷ ps))
    ∙ ap (λ (o : Option Point). Some (later_or p o)) (last-past p.time q ps h)
    ∙ go (nat_lt p.time (later_or q (last_of ps)).time)
  where
    go : (b : Bool) → Some (later_or p (if b then Some (later_or q (last_of ps)) else None)) ≡ (if b then Some (later_or q (last_of ps)) else Some p)
    go true = refl
    go false = refl

-- ---- by the first and the last alone

pub first-alone : (p : Point) (ps : List Point) → None ≡ first_of ps → Some p ≡ first_of (put_all (p ∷ []) ps)
first-alone p [] is = refl
first-alone p (q ∷ ps) is = absurd (cc is)

pub first-stays : (p q : Point) (ps : List Point) → IsAscending ps → Some q ≡ first_of ps → q.time < p.time → Some q ≡ first_of (put_all (p ∷ []) ps)
first-stays p q [] h is less = absurd (cc is)
first-stays p q (r ∷ ps) h is less =
    let same : r ≡ q = cc is in
    sym (first-put p r ps h ∙ ap (λ (x : Point). if nat_lt x.time p.time then Some x else Some p) same ∙ ap (λ b. if b then Some q else Some p) (lt-ltb q.time p.time less))

pub first-row : (p q : Point) (ps : List Point) → IsAscending ps → Some q ≡ first_of ps → p.time ≤ q.time → Some p ≡ first_of (put_all (p ∷ []) ps)
first-row p q [] h is less = absurd (cc is)
first-row p q (r ∷ ps) h is less =
    let same : r ≡ q = cc is in
    sym (first-put p r ps h ∙ ap (λ (x : Point). if nat_lt x.time p.time then Some x else Some p) same ∙ ap (λ b. if b then Some q else Some p) (le-ltb q.time p.time less))

pub last-alone : (p : Point) (ps : List Point) → None ≡ last_of ps → Some p ≡ last_of (put_all (p ∷ []) ps)
last-alone p [] is = refl
last-alone p (q ∷ ps) is = absurd (cc is)

pub last-stays : (p q : Point) (ps : List Point) → IsAscending ps → Some q ≡ last_of ps → p.time < q.time → Some q ≡ last_of (put_all (p ∷ []) ps)
last-stays p q [] h is less = absurd (cc is)
last-stays p q (r ∷ ps) h is less =
    let same : later_or r (last_of ps) ≡ q = cc is in
    sym (last-put p r ps h ∙ ap (λ (x : Point). if nat_lt p.time x.time then Some x else Some p) same ∙ ap (λ b. if b then Some q else Some p) (lt-ltb p.time q.time less))

pub last-row : (p q : Point) (ps : List Point) → IsAscending ps → Some q ≡ last_of ps → q.time ≤ p.time → Some p ≡ last_of (put_all (p ∷ []) ps)
last-row p q [] h is less = absurd (cc is)
last-row p q (r ∷ ps) h is less =
    let same : later_or r (last_of ps) ≡ q = cc is in
    sym (last-put p r ps h ∙ ap (λ (x : Point). if nat_lt p.time x.time then Some x else Some p) same ∙ ap (λ b. if b then Some q else Some p) (le-ltb p.time q.time less))

-- ---- both ends

-- the ends of a list, by its first and its last sample
pub ends-both : (ps : List Point) (a b : ℕ) (first last : Point) → a ≡ first.time → b ≡ last.time → Some first ≡ first_of ps → Some last ≡ last_of ps → Some (a, b) ≡ ends_of ps
ends-both [] a b first last at up x y = absurd (cc x)
ends-both (p ∷ ps) a b first last at up x y =
    let one : a ≡ p.time = at ∙ ap (λ (q : Point). q.time) (some-same first p x) in
    let two : b ≡ (later_or p (last_of ps)).time = up ∙ ap (λ (q : Point). q.time) (some-same last (later_or p (last_of ps)) y) in
    λ i. Some (one i, two i)

pub ends-none : (ps : List Point) → None ≡ first_of ps → None ≡ ends_of ps
ends-none [] x = refl
ends-none (p ∷ ps) x = absurd (cc x)

pub ends-no-last : (ps : List Point) → None ≡ last_of ps → None ≡ ends_of ps
ends-no-last [] x = refl
ends-no-last (p ∷ ps) x = absurd (cc x)
