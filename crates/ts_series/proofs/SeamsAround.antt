-- There are seams near each interval.
use Rattle.std.proofs.Common.{◌≡◌, ◌≢◌, ◌⊎◌, inl, inr, ℕ, zero, suc, ◌+◌, ◌*◌, ◌<◌, ◌≤◌, List, [], ◌∷◌, length, take, drop, refl, ap, subst, arith}
use Rattle.std.specs.Prelude.{nat_le, max, Option}
use Rattle.std.proofs.lemmas.Bool.Decides.{nat_tests}
use Rattle.ts_spec.specs.Sample.{Point, IsAscending, at_times, between}
use Rattle.ts_sample.specs.Chunk.{joined}
use Rattle.ts_spec.specs.declared.series.Options.{Options}
use Rattle.ts_spec.specs.State.{edge_of}
use Rattle.ts_sample.proofs.Lists.{ascending-right}
use Rattle.ts_series.specs.Stored.{Stored, AreChunks, IsOverlapping, IsTrimmed, HaveBegun, longest, points}
use Rattle.ts_series.specs.History.{History, history_of, list_of, reach, IsKeptIn}
use Rattle.ts_series.specs.Seams.{Around}
use Rattle.ts_series.proofs.EarlyLate.{none-head, none-left, none-both, after-none, after-some}
use Rattle.ts_series.proofs.Joined.{joined-parts, longest-at}
use Rattle.ts_series.proofs.Meeting.{meets}
use Rattle.ts_series.proofs.Walking.{walked}
use Rattle.ts_series.proofs.EdgeQuestions.{between-from}
use Rattle.ts_series.proofs.Reach.{within_reach}
use Rattle.ts_series.proofs.Seams.{Parts, PartsPast, parted, parted-past, seam-at, inner-few}
use Rattle.ts_series.proofs.ShareEnds.{past-trimmed}
use Rattle.ts_series.proofs.PieceCounts.{length-more}

-- the first place from which on a piece has a sample from a time on
record Start (t : ℕ) (pss : List (List Point)) : Type 0 where
  place : ℕ
  within : place ≤ length pss
  earlier : at_times (nat_le t) (joined (take place pss)) ≡ []
  reached : IsTrimmed t (drop place pss)

start-of : (t : ℕ) (pss : List (List Point)) → Start t pss
start-of t [] = record { place = 0; within = omega arith; earlier = refl; reached = tt }
start-of t (ps ∷ pss) = go (start-of t pss) (at_times (nat_le t) ps) refl
  where
    go : Start t pss → (l : List Point) → at_times (nat_le t) ps ≡ l → Start t (ps ∷ pss)
    go rest [] is = record { place = suc rest.place; within = omega arith; earlier = none-both (nat_le t) ps (joined (take rest.place pss)) is rest.earlier; reached = rest.reached }
    go rest (p ∷ l) is = record { place = 0; within = omega arith; earlier = refl; reached = λ n. absurd (cc (is, n)) }

-- the place up to which each piece has a sample up to a time
record Upto (t : ℕ) (pss : List (List Point)) : Type 0 where
  place : ℕ
  within : place ≤ length pss
  later : at_times (λ u. nat_le u t) (joined (drop place pss)) ≡ []
  begun : HaveBegun t (take place pss)

filled-late : (t : ℕ) (ps : List Point) → ps ≢ [] → at_times (λ u. nat_le u t) ps ≡ [] → at_times (nat_le t) ps ≢ []
filled-late t [] f n m = f refl
filled-late t (p ∷ ps) f n m = absurd (grind (arith, nat_tests, none-head (λ u. nat_le u t) p ps n, none-head (nat_le t) p ps m))

upto-of : (format : List Point → List ℕ) (t : ℕ) (pss : List (List Point)) (ns : List ℕ) → AreChunks format pss ns → IsAscending (joined pss) → Upto t pss
upto-of format t [] ns h rises = record { place = 0; within = omega arith; later = refl; begun = tt }
upto-of format t (ps ∷ pss) [] h rises = absurd h
upto-of format t (ps ∷ pss) (m ∷ ns) h rises = go (upto-of format t pss ns h.1.1 (ascending-right ps (joined pss) rises)) (at_times (λ u. nat_le u t) ps) refl
  where
    go : Upto t pss → (l : List Point) → at_times (λ u. nat_le u t) ps ≡ l → Upto t (ps ∷ pss)
    go rest [] is = record {
      place = 0;
      within = omega arith;
      later = none-both (λ u. nat_le u t) ps (joined pss) is (after-none t t (joined pss) (omega arith) (after-some t ps (joined pss) rises (filled-late t ps h.1.0 is)));
      begun = tt;
    }
    go rest (p ∷ l) is = record { place = suc rest.place; within = omega arith; later = rest.later; begun = (λ n. absurd (cc (is, n)), rest.begun) }

-- before an edge there are none, or the time is from it on
early-pieces : (edge from start i : ℕ) (pss : List (List Point)) → start ≡ max from edge → IsTrimmed edge pss → at_times (nat_le start) (joined (take i pss)) ≡ [] → at_times (nat_le from) (joined (take i pss)) ≡ []
early-pieces edge from start zero pss is trimmed n = refl
early-pieces edge from start (suc i) [] is trimmed n = refl
early-pieces edge from start (suc i) (ps ∷ pss) is trimmed n = go (orders edge from)
  where
    orders : (a b : ℕ) → (a ≤ b) ⊎ (b < a)
    orders a b = grind arith

    go : (edge ≤ from) ⊎ (from < edge) → at_times (nat_le from) (joined (take (suc i) (ps ∷ pss))) ≡ []
    go (inl le) = let same : start ≡ from = omega arith in subst (λ t. at_times (nat_le t) (joined (take (suc i) (ps ∷ pss))) ≡ []) same n
    go (inr less) = let same : start ≡ edge = omega arith in absurd (trimmed (subst (λ t. at_times (nat_le t) ps ≡ []) same (none-left (nat_le start) ps (joined (take i pss)) n)))

module _ (from to start place end : ℕ) (pss : List (List Point)) (overlapping : IsOverlapping start to pss place end) (rises : IsAscending (joined pss))
    (early : at_times (nat_le from) (joined (take place pss)) ≡ []) where
  pub around : (n : ℕ) → length (between start to (joined pss)) + 2 * longest pss ≤ n → Around from to n pss
  around n le =
      let a : Parts from (joined (take place pss)) (joined (drop place pss)) =
      parted from (joined (take place pss)) (joined (drop place pss)) (subst IsAscending (joined-parts place pss) rises) early in
      let b : PartsPast to (joined (take end pss)) (joined (drop end pss)) =
      parted-past to (joined (take end pss)) (joined (drop end pss)) (subst IsAscending (joined-parts end pss) rises) overlapping.past in
      record {
        first = a.time;
        last = b.time;
        starts = seam-at a.time place pss a.early a.late;
        ends = seam-at (suc b.time) end pss b.early b.late;
        before = a.upto;
        past = b.from;
        few = omega (arith, le, inner-few a.time b.time place end pss overlapping.ordered a.early b.late, walked start to place end pss overlapping);
      }

-- around each interval of a series
pub around-series : (format : List Point → List ℕ) → ((ps : List Point) → 3 * length ps ≤ length (format ps)) → (o : Options) (high : Option ℕ) (born : ℕ) (held : Stored) (h : History)
    → IsKeptIn format (history_of o high born held) → history_of o high born held ≡ h → (from to : ℕ) → Around from to (length (between from to (list_of h)) + 2 * reach h) h.held.pieces
around-series format at_least o high born held h kept view from to =
    let pss = held.pieces in
    let edge : ℕ = edge_of o.retention high in
    let start : ℕ = max from edge in
    let rises = kept.chunks.ascending in
    let a : Start start pss = start-of start pss in
    let b : Upto to pss = upto-of format to pss held.limits kept.chunks.chunks rises in
    let end : ℕ = max b.place a.place in
    let overlapping : IsOverlapping start to pss a.place end = meets start to pss a.place b.place end rises refl a.within b.within a.earlier a.reached b.later b.begun in
    let early = early-pieces edge from start a.place pss refl kept.trimmed a.earlier in
    let shown = ap length (between-from edge (points held) from to) in
    let far = within_reach at_least kept refl in
    subst (λ (k : History). Around from to (length (between from to (list_of k)) + 2 * reach k) k.held.pieces) view
    (around from to start a.place end pss overlapping rises early (length (between from to (list_of (history_of o high born held))) + 2 * reach (history_of o high born held)) (omega (arith, shown, far)))

-- between one time and the next at most one piece is cut
cut : (t : ℕ) (pss : List (List Point)) → IsAscending (joined pss) → (n : ℕ) → longest pss ≤ n → Around (suc t) t n pss
cut t pss rises n le =
    let a : Start (suc t) pss = start-of (suc t) pss in
    let end : ℕ = suc a.place in
    let x : Parts (suc t) (joined (take a.place pss)) (joined (drop a.place pss)) =
    parted (suc t) (joined (take a.place pss)) (joined (drop a.place pss)) (subst IsAscending (joined-parts a.place pss) rises) a.earlier in
    let y : PartsPast (suc t) (joined (take end pss)) (joined (drop end pss)) =
    parted-past (suc t) (joined (take end pss)) (joined (drop end pss)) (subst IsAscending (joined-parts end pss) rises) (past-trimmed (suc t) a.place pss rises a.reached) in
    record {
      first = x.time;
      last = y.time;
      starts = seam-at x.time a.place pss x.early x.late;
      ends = seam-at (suc y.time) end pss y.early y.late;
      before = x.upto;
      past = omega (arith, y.from);
      few = omega (arith, le, inner-few x.time y.time a.place end pss (omega arith) x.early y.late, length-more a.place end pss refl, longest-at a.place pss);
    }

pub cut-series : (format : List Point → List ℕ) → ((ps : List Point) → 3 * length ps ≤ length (format ps)) → (o : Options) (high : Option ℕ) (born : ℕ) (held : Stored) (h : History)
    → IsKeptIn format (history_of o high born held) → history_of o high born held ≡ h → (t : ℕ) → Around (suc t) t (reach h) h.held.pieces
cut-series format at_least o high born held h kept view t =
    subst (λ (k : History). Around (suc t) t (reach k) k.held.pieces) view
    (cut t held.pieces kept.chunks.ascending (reach (history_of o high born held)) (within_reach at_least kept refl))
