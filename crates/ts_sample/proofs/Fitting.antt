-- Samples split into chunks.
use Rattle.std.proofs.Common.{◌≡◌, ℕ, zero, suc, ◌/◌, ◌<◌, ◌≤◌, false, List, [], ◌∷◌, ◌++◌, length, map, get_or, take, drop, sym, ◌∙◌, ap, subst, append-nil, append_assoc, arith}
use Rattle.std.specs.Prelude.{nat_le}
use Rattle.std.proofs.Math.Seq.{take-suc}
use Rattle.std.proofs.lemmas.List.{length-take, length-drop, map-append, take-append-drop}
use Rattle.std.proofs.lemmas.Bool.{leb-false}
use Rattle.ts_spec.specs.Sample.{Point, IsAscending, last_of}
use Rattle.ts_sample.specs.Chunk.{IsLimit, IsPast, Fits, IsCut, HaveLimit, least_limit, nothing, whole, halves}
use Rattle.ts_sample.specs.Sample.{IsInBounds}
use Rattle.ts_sample.proofs.Lists.{past-later}
use Rattle.ts_sample.proofs.Parted.{after_each}

-- ---- samples

-- a sample is past those before it
pub past-taken : (ps : List Point) (i : ℕ) (p : Point) → IsAscending ps → i < length ps → p ≡ get_or ps i p → IsPast (last_of (take i ps)) p.time
past-taken [] i p h lt is = absurd (omega arith)
past-taken (q ∷ ps) zero p h lt is = tt
past-taken (q ∷ ps) (suc i) p h lt is =
    let later : q.time < p.time = subst (λ (r : Point). q.time < r.time) (sym is) (after_each q.time ps i p h.0 (omega arith)) in
    past-later q (last_of (take i ps)) p.time later (past-taken ps i p h.1 (omega arith) is)

-- ---- bytes

module _ (format : List Point → List ℕ) (grows : (ps : List Point) (p : Point) → length (format ps) ≤ length (format (ps ++ p ∷ []))) where
  pub grows-on : (ps qs : List Point) → length (format ps) ≤ length (format (ps ++ qs))
  grows-on ps [] = let same : length (format (ps ++ [])) ≡ length (format ps) = ap (λ l. length (format l)) (append-nil ps) in omega arith
  grows-on ps (q ∷ qs) =
      let same : length (format ((ps ++ q ∷ []) ++ qs)) ≡ length (format (ps ++ q ∷ qs)) = ap (λ l. length (format l)) (append_assoc ps (q ∷ []) qs) in
      omega (arith, grows ps q, grows-on (ps ++ q ∷ []) qs)

  -- if a prefix of a list does not fit, the list does not
  pub too-long : (limit : ℕ) (ps : List Point) (i : ℕ) (p : Point) → i < length ps → p ≡ get_or ps i p → false ≡ nat_le (length (format (take i ps ++ p ∷ []))) limit
      → limit < length (format ps)
  too-long limit ps i p lt is more =
      let front : limit < length (format (take i ps ++ p ∷ [])) = leb-false _ limit (sym more) in
      let next : take i ps ++ p ∷ [] ≡ take (suc i) ps = ap (λ (q : Point). take i ps ++ q ∷ []) is ∙ sym (take-suc ps i p lt) in
      let long : limit < length (format (take (suc i) ps)) = subst (λ l. limit < length (format l)) next front in
      let part : length (format (take (suc i) ps)) ≤ length (format ps) =
      subst (λ l. length (format (take (suc i) ps)) ≤ length (format l)) (take-append-drop (suc i) ps) (grows-on (take (suc i) ps) (drop (suc i) ps)) in
      omega arith

-- a list that doesn't fit has two samples or more
pub two : (format : List Point → List ℕ) → ((p : Point) → IsInBounds p → length (format (p ∷ [])) ≤ least_limit) → (limit : ℕ) → IsLimit limit → (ps : List Point) (first : Point)
    → IsInBounds first → 0 < length ps → first ≡ get_or ps 0 first → limit < length (format ps) → 2 ≤ length ps
two format one_fits limit bounds [] first fine some is more = absurd (omega arith)
two format one_fits limit bounds (p ∷ []) first fine some is more =
    let here : length (format (p ∷ [])) ≤ least_limit = one_fits p (subst IsInBounds is fine) in
    absurd (omega (arith, bounds.least))
two format one_fits limit bounds (p ∷ q ∷ ps) first fine some is more = omega arith

-- ---- parts that are shorter

pub shorter-front : (n : ℕ) (ps : List Point) (measure : ℕ) → n < length ps → length ps ≤ measure → length (take n ps) < measure
shorter-front n ps measure less most = omega (arith, length-take n ps)

pub shorter-rest : (m n : ℕ) (ps : List Point) (measure : ℕ) → 0 < n → 0 < length ps → length ps ≤ measure → length (take m (drop n ps)) < measure
shorter-rest m n ps measure some more most = omega (arith, length-take m (drop n ps), length-drop n ps)

-- ---- limits

pub limits-append : {C : Type 0} (most : C → ℕ) (limit : ℕ) (cs ds : List C) → HaveLimit most limit cs → HaveLimit most limit ds → HaveLimit most limit (cs ++ ds)
limits-append most limit [] ds h k = k
limits-append most limit (c ∷ cs) ds h k = (h.0, limits-append most limit cs ds h.1 k)

-- ---- a cut

module _ {C : Type 0} (format : List Point → List ℕ) (list : C → List Point) (limit : ℕ) where
  pub cut-nothing : (ps : List Point) (cs : List C) → length ps ≤ 0 → cs ≡ [] → IsCut format limit ps (map list cs)
  cut-nothing [] cs none is = rw is nothing
  cut-nothing (p ∷ ps) cs none is = absurd (omega arith)

  pub cut-whole : (ps : List Point) (c : C) (none cs : List C) → 0 < length ps → list c ≡ ps → Fits format limit (list c) → none ≡ [] → cs ≡ none ++ c ∷ []
      → IsCut format limit ps (map list cs)
  cut-whole ps c none cs some same fits empty is =
      rw (is, empty, same)
      (whole ps (λ nil. let zero_long : length ps ≡ 0 = ap length nil in absurd (omega arith)) (subst (Fits format limit) same fits))

  pub cut-halves : (ps : List Point) (cs ds es : List C) → limit < length (format ps)
      → IsCut format limit (take (length ps / 2) ps) (map list cs) → IsCut format limit (drop (length ps / 2) ps) (map list ds) → es ≡ cs ++ ds
      → IsCut format limit ps (map list es)
  cut-halves ps cs ds es more first last is =
      rw (is, map-append list cs ds) (halves ps (map list cs) (map list ds) more first last)
