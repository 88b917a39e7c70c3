-- The samples of pieces from the first one of a piece to a time.
use Rattle.std.proofs.Common.{◌≡◌, ◌⊎◌, inl, inr, ℕ, zero, suc, ◌+◌, ◌<◌, ◌≤◌, subst, Bool, true, false, cond, List, [], ◌∷◌, ◌++◌, length, get_or, take, drop, refl, sym, ◌∙◌, ap, arith, length-append, ltb-false}
use Rattle.std.specs.Prelude.{nat_lt, nat_le, max, Some}
use Rattle.std.proofs.lemmas.Bool.Decides.{nat_tests}
use Rattle.ts_spec.specs.Sample.{Point, IsAscending, at_times, is_within, between, first_of}
use Rattle.ts_sample.specs.Chunk.{joined}
use Rattle.ts_sample.proofs.Replacing.{none-before}
use Rattle.ts_sample.proofs.Lists.{ascending-left, ascending-right}
use Rattle.ts_series.proofs.Counting.{times-append}
use Rattle.ts_series.proofs.EarlyLate.{none-cons, none-head, none-tail, none-left, none-right, none-less}
use Rattle.ts_series.proofs.Joined.{joined-parts}

-- no sample is past the time
abbrev AreUpto : ℕ → List Point → Type 0
AreUpto to ps = at_times (nat_lt to) ps ≡ []

-- no sample is before the time
abbrev AreFrom : ℕ → List Point → Type 0
AreFrom from ps = at_times (λ t. nat_lt t from) ps ≡ []

-- where a test takes no sample, it does not take the first one
pub first-fails : (test : ℕ → Bool) (ps : List Point) (p : Point) → first_of ps ≡ Some p → at_times test ps ≡ [] → test p.time ≡ false
first-fails test [] p is n = absurd (cc is)
first-fails test (q ∷ ps) p is n = let same : q ≡ p = cc is in ap (λ (r : Point). test r.time) (sym same) ∙ none-head test q ps n

-- samples from the first one on are from its time on
pub from-first-on : (ps qs : List Point) (p : Point) → IsAscending (ps ++ qs) → first_of ps ≡ Some p → AreFrom p.time (ps ++ qs)
from-first-on [] qs p rises is = absurd (cc is)
from-first-on (q ∷ ps) qs p rises is =
    let same : q ≡ p = cc is in
    subst (λ (r : Point). AreFrom r.time (q ∷ (ps ++ qs))) same
    (none-cons (λ t. nat_lt t q.time) q (ps ++ qs) (let fails : nat_lt q.time q.time ≡ false = grind (arith, nat_tests) in fails) (none-before q.time (ps ++ qs) rises.0))

-- samples from one time up to another are all in the interval
pub all-between : (from to : ℕ) (ps : List Point) → AreFrom from ps → AreUpto to ps → length (between from to ps) ≡ length ps
all-between from to [] n m = refl
all-between from to (p ∷ ps) n m =
    let low : from ≤ p.time = ltb-false p.time from (none-head (λ t. nat_lt t from) p ps n) in
    let high : p.time ≤ to = ltb-false to p.time (none-head (nat_lt to) p ps m) in
    let yes : is_within from to p.time ≡ true = grind (arith, nat_tests) in
    ap (λ b. length (cond b (p ∷ between from to ps) (between from to ps))) yes ∙ ap suc (all-between from to ps (none-tail (λ t. nat_lt t from) p ps n) (none-tail (nat_lt to) p ps m))

pub both-parts : (from to : ℕ) (ps qs : List Point) → length (between from to (ps ++ qs)) ≡ length (between from to ps) + length (between from to qs)
both-parts from to ps qs = ap length (times-append (is_within from to) ps qs) ∙ length-append (between from to ps) (between from to qs)

-- a front of the samples that is in the interval
front-between : (from to : ℕ) (end : ℕ) (pss : List (List Point)) → AreFrom from (joined (take end pss)) → AreUpto to (joined (take end pss))
    → length (joined (take end pss)) ≤ length (between from to (joined pss))
front-between from to end pss n m =
    omega (
      arith,
      ap (λ (ps : List Point). length (between from to ps)) (joined-parts end pss),
      both-parts from to (joined (take end pss)) (joined (drop end pss)),
      all-between from to (joined (take end pss)) n m,
    )

module _ (to : ℕ) (p : Point) where
  -- no sample of the first pieces, so many as `end`, is past `to`, and `p` is the first sample of the piece at `k`
  pub counted-upto : (k end : ℕ) (pss : List (List Point)) → k < end → IsAscending (joined pss) → AreUpto to (joined (take end pss)) → first_of (get_or pss k []) ≡ Some p
      → length (joined (take end pss)) ≤ length (joined (take k pss)) + length (between p.time to (joined pss))
  counted-upto k zero pss less rises n is = absurd (omega arith)
  counted-upto k (suc end) [] less rises n is = absurd (cc is)
  counted-upto zero (suc end) (ps ∷ pss) less rises n is =
      let front : IsAscending (joined (take (suc end) (ps ∷ pss))) =
      ascending-left (joined (take (suc end) (ps ∷ pss))) (joined (drop (suc end) (ps ∷ pss))) (subst IsAscending (joined-parts (suc end) (ps ∷ pss)) rises) in
      omega (arith, front-between p.time to (suc end) (ps ∷ pss) (from-first-on ps (joined (take end pss)) p front is) n)
  counted-upto (suc k) (suc end) (ps ∷ pss) less rises n is =
      omega (
        arith,
        length-append ps (joined (take end pss)),
        length-append ps (joined (take k pss)),
        both-parts p.time to ps (joined pss),
        counted-upto k end pss (omega arith) (ascending-right ps (joined pss) rises) (none-right (nat_lt to) ps (joined (take end pss)) n) is,
      )

  pub first-upto : (k end : ℕ) (pss : List (List Point)) → k < end → AreUpto to (joined (take end pss)) → first_of (get_or pss k []) ≡ Some p → p.time ≤ to
  first-upto k zero pss less n is = absurd (omega arith)
  first-upto k (suc end) [] less n is = absurd (cc is)
  first-upto zero (suc end) (ps ∷ pss) less n is = ltb-false to p.time (first-fails (nat_lt to) ps p is (none-left (nat_lt to) ps (joined (take end pss)) n))
  first-upto (suc k) (suc end) (ps ∷ pss) less n is = first-upto k end pss (omega arith) (none-right (nat_lt to) ps (joined (take end pss)) n) is

-- what is before the time after is not past the time
pub upto-next : (time next : ℕ) (ps : List Point) → next ≤ time + 1 → at_times (nat_le next) ps ≡ [] → AreUpto time ps
upto-next time next ps le n = none-less (nat_le next) (nat_lt time) (λ t e. fails t e) ps n
  where
    fails : (t : ℕ) → nat_le next t ≡ false → nat_lt time t ≡ false
    fails t e = grind (arith, nat_tests)

-- the later of the first time and the start of the interval
pub later-start : (from to first count start : ℕ) (ps : List Point) → start ≡ max first from → count ≤ length (between first to ps) → (start ≡ from) ⊎ (count ≤ length (between start to ps))
later-start from to first count start ps is enough = go (cases from first)
  where
    cases : (i j : ℕ) → (i ≤ j) ⊎ (j ≤ i)
    cases i j = grind arith

    go : (from ≤ first) ⊎ (first ≤ from) → (start ≡ from) ⊎ (count ≤ length (between start to ps))
    go (inl le) = let same : first ≡ start = omega arith in inr (subst (λ t. count ≤ length (between t to ps)) same enough)
    go (inr le) = inl (omega arith)
