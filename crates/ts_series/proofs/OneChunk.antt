-- Queries on a single chunk: its first, last and counted samples.
use Rattle.std.proofs.Common.{◌≡◌, ◌≢◌, ◌⊎◌, inl, inr, ℕ, ◌+◌, ◌-◌, ◌*◌, ◌<◌, ◌≤◌, true, false, cond, List, [], ◌∷◌, length, refl, sym, ◌∙◌, ap, subst, arith, le-leb, le-ltb, eq-eqb, ne_eqb}
use Rattle.std.specs.Prelude.{nat_lt, nat_le, if◌then◌else◌, Option, None, Some}
use Rattle.std.specs.Option.{option_or}
use Rattle.std.proofs.lemmas.Bool.Decides.{nat_tests}
use Rattle.ts_spec.specs.Sample.{Point, IsAfter, IsAscending, at, at_times, is_within, between, first_of, last_of, later_or}
use Rattle.ts_spec.proofs.Samples.{at-after}
use Rattle.ts_sample.specs.Chunk.{IsChunk, AreInBounds}
use Rattle.ts_sample.specs.Visit.{visited}
use Rattle.ts_sample.proofs.Parted.{filter_alike}
use Rattle.ts_sample.proofs.Replacing.{none-before}
use Rattle.ts_series.specs.declared.chunk_queries.ScanEnds.{ScanEnds}
use Rattle.ts_series.proofs.Counting.{times-length}
use Rattle.ts_series.proofs.EarlyLate.{after-less}

-- ---- the ends of the samples that a visitor takes

abbrev after : ScanEnds → Point → ScanEnds
after e p = record { first = option_or e.first (Some p); last = Some p; count = e.count + 1 }

pub or-none : (o : Option Point) → option_or o None ≡ o
or-none None = refl
or-none (Some p) = refl

last-visited : (e : ScanEnds) (ps : List Point) → (visited after e ps).last ≡ option_or (last_of ps) e.last
last-visited e [] = refl
last-visited e (p ∷ ps) = last-visited (after e p) ps ∙ go (last_of ps)
  where
    go : (o : Option Point) → option_or o (Some p) ≡ Some (later_or p o)
    go None = refl
    go (Some q) = refl

first-visited : (e : ScanEnds) (ps : List Point) → (visited after e ps).first ≡ option_or e.first (first_of ps)
first-visited e [] = sym (or-none e.first)
first-visited e (p ∷ ps) = first-visited (after e p) ps ∙ go e.first
  where
    go : (o : Option Point) → option_or (option_or o (Some p)) (first_of ps) ≡ option_or o (Some p)
    go None = refl
    go (Some q) = refl

count-visited : (e : ScanEnds) (ps : List Point) → (visited after e ps).count ≡ e.count + length ps
count-visited e [] = omega arith
count-visited e (p ∷ ps) = let rest = count-visited (after e p) ps in omega (arith, rest)

-- from no samples
pub ends-last : (e : ScanEnds) (ps : List Point) → e.last ≡ None → (visited after e ps).last ≡ last_of ps
ends-last e ps none = last-visited e ps ∙ ap (option_or (last_of ps)) none ∙ or-none (last_of ps)

pub ends-first : (e : ScanEnds) (ps : List Point) → e.first ≡ None → (visited after e ps).first ≡ first_of ps
ends-first e ps none = first-visited e ps ∙ ap (λ (o : Option Point). option_or o (first_of ps)) none

pub ends-count : (e : ScanEnds) (ps : List Point) → e.count ≡ 0 → (visited after e ps).count ≡ length ps
ends-count e ps none = let all = count-visited e ps in omega (arith, all)

-- ---- one chunk

-- a chunk has few samples
pub few : (format : List Point → List ℕ) (n : ℕ) (ps : List Point) → IsChunk format n ps → ((qs : List Point) → 3 * length qs ≤ length (format qs)) → length ps ≤ 1048576
few format n ps h least = omega (arith, h.fits, h.bounds.greatest, least ps)

pub room-for : (from to count : ℕ) (ps : List Point) → length ps ≤ 1048576 → count ≡ 0 → length (between from to ps) ≤ 18446744073709551615 - count
room-for from to count ps few none = omega (arith, times-length (is_within from to) ps)

-- the samples before a time are those up to the one before it
pub before-is : (t : ℕ) (ps : List Point) → 0 < t → between 0 (t - 1) ps ≡ at_times (λ u. nat_lt u t) ps
before-is t ps some = filter_alike (λ (p : Point). is_within 0 (t - 1) p.time) (λ (p : Point). nat_lt p.time t) (λ p. same p.time) ps
  where
    same : (u : ℕ) → is_within 0 (t - 1) u ≡ nat_lt u t
    same u = grind (arith, nat_tests)

-- where the first sample is not before the time, none is
pub none-earlier : (t : ℕ) (ps : List Point) (p : Point) → IsAscending ps → first_of ps ≡ Some p → t ≤ p.time → at_times (λ u. nat_lt u t) ps ≡ []
none-earlier t [] p h is le = refl
none-earlier t (q ∷ ps) p h is le =
    let same : q ≡ p = cc is in
    let low : t ≤ q.time = subst (λ (r : Point). t ≤ r.time) (sym same) le in
    ap (λ b. cond b (q ∷ at_times (λ u. nat_lt u t) ps) (at_times (λ u. nat_lt u t) ps)) (le-ltb q.time t low)
    ∙ none-before t ps (after-less t q.time ps h.0 low)

pub empty-first : (ps : List Point) → first_of ps ≡ None → ps ≡ []
empty-first [] is = refl
empty-first (p ∷ ps) is = absurd (cc is)

all-from : (t u : ℕ) (ps : List Point) → t ≤ u → IsAfter u ps → at_times (nat_le t) ps ≡ ps
all-from t u [] le h = refl
all-from t u (p ∷ ps) le h =
    let more : u < p.time = h.0 in
    ap (λ b. cond b (p ∷ at_times (nat_le t) ps) (at_times (nat_le t) ps)) (le-leb t p.time (omega arith)) ∙ ap (λ (l : List Point). p ∷ l) (all-from t u ps le h.1)

-- where the first sample is from the time on, all are
pub all-late : (t : ℕ) (ps : List Point) (p : Point) → IsAscending ps → first_of ps ≡ Some p → t ≤ p.time → at_times (nat_le t) ps ≡ ps
all-late t [] p h is le = refl
all-late t (q ∷ ps) p h is le =
    let same : q ≡ p = cc is in
    let low : t ≤ q.time = subst (λ (r : Point). t ≤ r.time) (sym same) le in
    ap (λ b. cond b (q ∷ at_times (nat_le t) ps) (at_times (nat_le t) ps)) (le-leb t q.time low) ∙ ap (λ (l : List Point). q ∷ l) (all-from t q.time ps low h.0)

-- the samples from a time on are those up to the greatest number
pub late-is : (t : ℕ) (ps : List Point) → AreInBounds ps → between t 18446744073709551615 ps ≡ at_times (nat_le t) ps
late-is t [] h = refl
late-is t (p ∷ ps) h =
    let high : p.time ≤ 9223372036854775807 = h.0.time in
    let same : is_within t 18446744073709551615 p.time ≡ nat_le t p.time = grind (arith, nat_tests) in
    ap (λ b. cond b (p ∷ between t 18446744073709551615 ps) (between t 18446744073709551615 ps)) same
    ∙ ap (λ (l : List Point). cond (nat_le t p.time) (p ∷ l) l) (late-is t ps h.1)

-- the last sample of one time is the one at it
pub at-last : (t : ℕ) (ps : List Point) → IsAscending ps → last_of (between t t ps) ≡ at t ps
at-last t [] h = refl
at-last t (p ∷ ps) h = go (cases p.time t) (at-last t ps h.1)
  where
    cases : (u t : ℕ) → (u ≡ t) ⊎ (u ≢ t)
    cases u t = grind arith

    go : (p.time ≡ t) ⊎ (p.time ≢ t) → last_of (between t t ps) ≡ at t ps → last_of (between t t (p ∷ ps)) ≡ at t (p ∷ ps)
    go (inl same) rest =
        let here : is_within t t p.time ≡ true = grind (arith, nat_tests) in
        let none : at t ps ≡ None = at-after t p.time ps h.0 (omega arith) in
        ap (λ b. last_of (cond b (p ∷ between t t ps) (between t t ps))) here
        ∙ ap (λ (o : Option Point). Some (later_or p o)) (rest ∙ none)
        ∙ sym (ap (λ b. if b then Some p else at t ps) (eq-eqb p.time t same))
    go (inr other) rest =
        let gone : is_within t t p.time ≡ false = grind (arith, nat_tests) in
        ap (λ b. last_of (cond b (p ∷ between t t ps) (between t t ps))) gone
        ∙ rest ∙ sym (ap (λ b. if b then Some p else at t ps) (ne_eqb p.time t other))
