-- The new chunks that a chunk is split into.
use Rattle.std.proofs.Common.{◌≡◌, ◌≢◌, inl, inr, ℕ, zero, suc, ◌+◌, ◌-◌, ◌<◌, ◌≤◌, List, [], ◌∷◌, ◌++◌, length, get_or, take, drop, map, refl, sym, ap, subst, arith, length-append}
use Rattle.std.specs.Prelude.{max, slice_range}
use Rattle.std.specs.List.{All}
use Rattle.std.proofs.lemmas.List.Elements.{All-head, All-tail}
use Rattle.ts_spec.specs.Sample.{Point, IsAscending, outside}
use Rattle.ts_sample.specs.Chunk.{IsLimit, IsChunk, IsCut, Fits, HaveLimit, AreInBounds, joined}
use Rattle.ts_sample.proofs.Cuts.{joined-cut, cut-some, cut-fits}
use Rattle.ts_sample.proofs.Lists.{ascending-left, ascending-right, fine-left, fine-right, fine-append}
use Rattle.ts_series.specs.Stored.{AreChunks, IsAmong, AreAmong, longest}
use Rattle.ts_series.proofs.Joined.{longest-at}
use Rattle.ts_series.proofs.TakenOut.{kept-less}

-- ---- the longest piece

pub longest-joined : (pss : List (List Point)) → longest pss ≤ length (joined pss)
longest-joined [] = omega arith
longest-joined (ps ∷ pss) = omega (arith, longest-joined pss, length-append ps (joined pss))

pub longest-append : (pss qss : List (List Point)) → longest (pss ++ qss) ≡ max (longest pss) (longest qss)
longest-append [] qss = omega arith
longest-append (ps ∷ pss) qss = omega (arith, longest-append pss qss)

pub longest-cut : (i : ℕ) (pss new : List (List Point)) (from to : ℕ) → joined new ≡ outside from to (get_or pss i []) → longest new ≤ longest pss
longest-cut i pss new from to is = omega (arith, longest-joined new, ap length is, kept-less from to (get_or pss i []), longest-at i pss)

pub longest-both : (pss qss : List (List Point)) (n : ℕ) → longest pss ≤ n → longest qss ≤ n → longest (pss ++ qss) ≤ n
longest-both pss qss n h k = omega (arith, longest-append pss qss)

-- ---- samples within their bounds

-- the samples of all chunks are
pub fine-joined : (format : List Point → List ℕ) (pss : List (List Point)) (ns : List ℕ) → AreChunks format pss ns → AreInBounds (joined pss)
fine-joined format [] ns h = tt
fine-joined format (ps ∷ pss) [] h = absurd h
fine-joined format (ps ∷ pss) (n ∷ ns) h = fine-append ps (joined pss) h.0.fine (fine-joined format pss ns h.1.1)

-- ---- new chunks

module _ {X : Type 0} (format : List Point → List ℕ) (list : X → List Point) (most : X → ℕ) (n : ℕ) (bounds : IsLimit n) where
  chunks-of : (cs : List X) → HaveLimit most n cs → IsAscending (joined (map list cs)) → AreInBounds (joined (map list cs)) → All (λ ps. ps ≢ []) (map list cs) → All (Fits format n) (map list cs)
      → AreChunks format (map list cs) (map most cs)
  chunks-of [] same rises fine some fit = tt
  chunks-of (c ∷ cs) same rises fine some fit = (
    subst (λ m. IsChunk format m (list c)) (sym same.0) (record {
      bounds = bounds;
      ascending = ascending-left (list c) (joined (map list cs)) rises;
      fine = fine-left (list c) (joined (map list cs)) fine;
      fits = All-head (Fits format n) (list c) (map list cs) fit;
    }),
    (
      All-head (λ ps. ps ≢ []) (list c) (map list cs) some,
      chunks-of cs same.1 (ascending-right (list c) (joined (map list cs)) rises) (fine-right (list c) (joined (map list cs)) fine)
          (All-tail (λ ps. ps ≢ []) (list c) (map list cs) some) (All-tail (Fits format n) (list c) (map list cs) fit),
    ),
  )

  pub cut-chunks : (ps : List Point) (cs : List X) → IsCut format n ps (map list cs) → HaveLimit most n cs → IsAscending ps → AreInBounds ps → AreChunks format (map list cs) (map most cs)
  cut-chunks ps cs cut same rises fine =
      let is : joined (map list cs) ≡ ps = joined-cut format n ps (map list cs) cut in
      chunks-of cs same (subst IsAscending (sym is) rises) (subst AreInBounds (sym is) fine) (cut-some format n ps (map list cs) cut) (cut-fits format n ps (map list cs) cut)

pub among-one : (one : ℕ) (ms : List ℕ) → IsAmong one ms one
among-one one [] = refl
among-one one (m ∷ ms) = inr (among-one one ms)

among-front : (one i n : ℕ) (ms : List ℕ) → i < n → i < length ms → IsAmong one (take n ms) (get_or ms i 0)
among-front one i zero ms below within = absurd (omega arith)
among-front one i (suc n) [] below within = absurd (omega arith)
among-front one zero (suc n) (m ∷ ms) below within = inl refl
among-front one (suc i) (suc n) (m ∷ ms) below within = inr (among-front one i n ms (omega arith) (omega arith))

among-part : (one i a n : ℕ) (ms : List ℕ) → a ≤ i → i < a + n → i < length ms → IsAmong one (take n (drop a ms)) (get_or ms i 0)
among-part one i zero n ms from below within = among-front one i n ms (omega arith) within
among-part one i (suc a) n [] from below within = absurd (omega arith)
among-part one zero (suc a) n (m ∷ ms) from below within = absurd (omega arith)
among-part one (suc i) (suc a) n (m ∷ ms) from below within = among-part one i a n ms (omega arith) (omega arith) (omega arith)

-- one at a place from a place up to another is among those
pub among-range : (one i start end : ℕ) (ms : List ℕ) → start ≤ i → i < end → i < length ms → IsAmong one (slice_range ms start end) (get_or ms i 0)
among-range one i start end ms from below within = among-part one i start (end - start) ms from (omega arith) within

pub among-all : {X : Type 0} (most : X → ℕ) (one n : ℕ) (ms : List ℕ) (cs : List X) → IsAmong one ms n → HaveLimit most n cs → AreAmong one ms (map most cs)
among-all most one n ms [] h same = tt
among-all most one n ms (c ∷ cs) h same = (subst (IsAmong one ms) (sym same.0) h, among-all most one n ms cs h same.1)

pub among-append : (one : ℕ) (ms ns ks : List ℕ) → AreAmong one ms ns → AreAmong one ms ks → AreAmong one ms (ns ++ ks)
among-append one ms [] ks h k = k
among-append one ms (n ∷ ns) ks h k = (h.0, among-append one ms ns ks h.1 k)
