-- Queries on chunks, answered from the chunk at an index.
use Rattle.std.proofs.Common.{◌≡◌, ◌≢◌, ◌⊎◌, inl, inr, ℕ, zero, suc, ◌+◌, ◌<◌, ◌≤◌, Bool, true, false, cond, List, [], ◌∷◌, ◌++◌, length, get_or, take, drop, map, refl, sym, ◌∙◌, ap, subst, arith, append-nil, length-append, length-take, le-leb, lt-ltb, leb-false}
use Rattle.std.specs.Prelude.{nat_lt, nat_le, if◌then◌else◌, Option, None, Some}
use Rattle.std.specs.Option.{option_or}
use Rattle.std.proofs.lemmas.Bool.{false≢true}
use Rattle.std.proofs.lemmas.List.{get_or-take, length-map}
use Rattle.ts_spec.specs.Sample.{Point, IsAscending, at, at_times, first_of, last_of, later_or}
use Rattle.ts_spec.proofs.Samples.{at-times, at-append, at-after}
use Rattle.ts_sample.specs.Chunk.{IsChunk, joined}
use Rattle.ts_sample.proofs.Replacing.{none-before}
use Rattle.ts_series.specs.Stored.{Stored, AreChunks, AreStoredChunks, IsTrimmed}
use Rattle.ts_series.proofs.Counting.{times-append}
use Rattle.ts_series.proofs.Joined.{chunk-at, chunks-take, map-at, joined-at}
use Rattle.ts_series.proofs.Meeting.{last-joined, trimmed-at}
use Rattle.ts_series.proofs.OneChunk.{or-none}
use Rattle.ts_series.proofs.EarlyLate.{rest-past}

pub get-past : (i : ℕ) (pss : List (List Point)) → length pss ≤ i → get_or pss i [] ≡ []
get-past i [] le = refl
get-past zero (ps ∷ pss) le = absurd (omega arith)
get-past (suc i) (ps ∷ pss) le = get-past i pss (omega arith)

pub take-past : (i : ℕ) (pss : List (List Point)) → length pss ≤ i → take i pss ≡ pss
take-past zero [] le = refl
take-past zero (ps ∷ pss) le = absurd (omega arith)
take-past (suc i) [] le = refl
take-past (suc i) (ps ∷ pss) le = ap (λ (l : List (List Point)). ps ∷ l) (take-past i pss (omega arith))

pub not-less : (i n : ℕ) → (i < n → false ≡ true) → n ≤ i
not-less i n h = go (cases i n)
  where
    cases : (i n : ℕ) → (i < n) ⊎ (n ≤ i)
    cases i n = grind arith

    go : (i < n) ⊎ (n ≤ i) → n ≤ i
    go (inl less) = absurd (false≢true (h less))
    go (inr le) = le

-- as many pieces as chunks
pub pieces-length : {X : Type 0} (list : X → List Point) (cs : List X) (limits : List ℕ) (room : ℕ) (h : Stored) → ◌≡◌ {A = Stored} (record { pieces = map list cs; limits = limits; room = room }) h
    → length h.pieces ≡ length cs
pieces-length list cs limits room h view = ap (λ (k : Stored). length k.pieces) (sym view) ∙ length-map cs list

-- what is known of the chunk that stands at a place
pub record IsPiece (format : List Point → List ℕ) (h : Stored) (i : ℕ) (ps : List Point) : Type 0 where
  pub within : i < length h.pieces
  pub here : ps ≡ get_or h.pieces i []
  pub chunk : IsChunk format (get_or h.limits i 0) ps

pub piece : {X : Type 0} (format : List Point → List ℕ) (list : X → List Point) (most : X → ℕ) (cs : List X) (room count : ℕ) (h : Stored)
    → ◌≡◌ {A = Stored} (record { pieces = map list cs; limits = map most cs; room = room }) h → AreStoredChunks format (map list cs) (map most cs) count
    → (i : ℕ) (x : X) → i < length cs → x ≡ get_or cs i x → IsPiece format h i (list x)
piece format list most cs room count h view kept i x less there =
    subst (λ (k : Stored). IsPiece format k i (list x)) view
    (let within : i < length (map list cs) = omega (arith, length-map cs list) in
    let here : list x ≡ get_or (map list cs) i [] = ap list there ∙ sym (map-at list i cs x [] less) in
    record { within = within; here = here; chunk = subst (λ (ps : List Point). IsChunk format (get_or (map most cs) i 0) ps) (sym here) (chunk-at format i (map list cs) (map most cs) kept.chunks within) })

-- samples none of which is from a time on are before it
none-at : (t : ℕ) (ps : List Point) → at_times (nat_le t) ps ≡ [] → at t ps ≡ None
none-at t ps n = sym (ap (λ b. if b then at t ps else None) (le-leb t t (omega arith))) ∙ sym (at-times t (nat_le t) ps) ∙ ap (at t) n

all-earlier : (t : ℕ) (ps : List Point) → at_times (nat_le t) ps ≡ [] → at_times (λ u. nat_lt u t) ps ≡ ps
all-earlier t [] n = refl
all-earlier t (p ∷ ps) n = go (nat_le t p.time) refl n (all-earlier t ps)
  where
    go : (b : Bool) → nat_le t p.time ≡ b → cond b (p ∷ at_times (nat_le t) ps) (at_times (nat_le t) ps) ≡ [] → (at_times (nat_le t) ps ≡ [] → at_times (λ u. nat_lt u t) ps ≡ ps)
        → at_times (λ u. nat_lt u t) (p ∷ ps) ≡ p ∷ ps
    go true e m rest = absurd (cc m)
    go false e m rest =
        let yes : nat_lt p.time t ≡ true = lt-ltb p.time t (leb-false t p.time e) in
        ap (λ b. cond b (p ∷ at_times (λ u. nat_lt u t) ps) (at_times (λ u. nat_lt u t) ps)) yes ∙ ap (λ (l : List Point). p ∷ l) (rest m)

pub first-front : (ps qs : List Point) → ps ≢ [] → first_of (ps ++ qs) ≡ first_of ps
first-front [] qs f = absurd (f refl)
first-front (p ∷ ps) qs f = refl

-- the last one of two lists
last-append : (ps qs : List Point) → last_of (ps ++ qs) ≡ option_or (last_of qs) (last_of ps)
last-append [] qs = sym (or-none (last_of qs))
last-append (p ∷ ps) qs = ap (λ (o : Option Point). Some (later_or p o)) (last-append ps qs) ∙ go (last_of qs)
  where
    go : (o : Option Point) → Some (later_or p (option_or o (last_of ps))) ≡ option_or o (Some (later_or p (last_of ps)))
    go None = refl
    go (Some q) = refl

-- at the place `i` the samples reach the time `t`
module _ (t i : ℕ) (pss : List (List Point)) (rises : IsAscending (joined pss)) (early : at_times (nat_le t) (joined (take i pss)) ≡ []) (trimmed : IsTrimmed t (drop i pss)) where
  pub at-piece : at t (joined pss) ≡ at t (get_or pss i [])
  at-piece =
      let none : at t (joined (drop (suc i) pss)) ≡ None = at-after t t (joined (drop (suc i) pss)) (rest-past t i pss rises trimmed) (omega arith) in
      ap (at t) (joined-at i pss)
      ∙ at-append t (joined (take i pss)) (get_or pss i [] ++ joined (drop (suc i) pss))
      ∙ ap (λ (o : Option Point). option_or o (at t (get_or pss i [] ++ joined (drop (suc i) pss)))) (none-at t (joined (take i pss)) early)
      ∙ at-append t (get_or pss i []) (joined (drop (suc i) pss))
      ∙ ap (option_or (at t (get_or pss i []))) none
      ∙ or-none (at t (get_or pss i []))

  pub before-pieces : at_times (λ u. nat_lt u t) (joined pss) ≡ joined (take i pss) ++ at_times (λ u. nat_lt u t) (get_or pss i [])
  before-pieces =
      ap (at_times (λ u. nat_lt u t)) (joined-at i pss)
      ∙ times-append (λ u. nat_lt u t) (joined (take i pss)) (get_or pss i [] ++ joined (drop (suc i) pss))
      ∙ ap (λ (l : List Point). l ++ at_times (λ u. nat_lt u t) (get_or pss i [] ++ joined (drop (suc i) pss))) (all-earlier t (joined (take i pss)) early)
      ∙ ap (λ (l : List Point). joined (take i pss) ++ l)
      (times-append (λ u. nat_lt u t) (get_or pss i []) (joined (drop (suc i) pss))
      ∙ ap (λ (l : List Point). at_times (λ u. nat_lt u t) (get_or pss i []) ++ l) (none-before t (joined (drop (suc i) pss)) (rest-past t i pss rises trimmed))
      ∙ append-nil (at_times (λ u. nat_lt u t) (get_or pss i [])))

  -- the last sample before the time, from the last one of the chunk and the last one of those before it
  pub last-pieces : (here before : Option Point) → here ≡ last_of (at_times (λ u. nat_lt u t) (get_or pss i [])) → before ≡ last_of (joined (take i pss))
      → last_of (at_times (λ u. nat_lt u t) (joined pss)) ≡ option_or here before
  last-pieces here before is was =
      ap last_of before-pieces ∙ last-append (joined (take i pss)) (at_times (λ u. nat_lt u t) (get_or pss i []))
      ∙ ap (λ (o : Option Point). option_or o (last_of (joined (take i pss)))) (sym is) ∙ ap (option_or here) (sym was)

  pub late-pieces : at_times (nat_le t) (joined pss) ≡ at_times (nat_le t) (get_or pss i []) ++ at_times (nat_le t) (joined (drop (suc i) pss))
  late-pieces =
      ap (at_times (nat_le t)) (joined-at i pss)
      ∙ times-append (nat_le t) (joined (take i pss)) (get_or pss i [] ++ joined (drop (suc i) pss))
      ∙ ap (λ (l : List Point). l ++ at_times (nat_le t) (get_or pss i [] ++ joined (drop (suc i) pss))) early
      ∙ times-append (nat_le t) (get_or pss i []) (joined (drop (suc i) pss))

  pub first-late : i < length pss → first_of (at_times (nat_le t) (joined pss)) ≡ first_of (at_times (nat_le t) (get_or pss i []))
  first-late within =
      ap first_of late-pieces ∙ first-front (at_times (nat_le t) (get_or pss i [])) (at_times (nat_le t) (joined (drop (suc i) pss))) (trimmed-at t i pss trimmed within)

  pub none-late : length pss ≤ i → first_of (at_times (nat_le t) (joined pss)) ≡ None
  none-late past = ap (λ (l : List (List Point)). first_of (at_times (nat_le t) (joined l))) (sym (take-past i pss past)) ∙ ap first_of early

  pub all-before : length pss ≤ i → at_times (λ u. nat_lt u t) (joined pss) ≡ joined pss
  all-before past = all-earlier t (joined pss) (ap (λ (l : List (List Point)). at_times (nat_le t) (joined l)) (sym (take-past i pss past)) ∙ early)

  pub length-before : length (at_times (λ u. nat_lt u t) (joined pss)) ≡ length (joined (take i pss)) + length (at_times (λ u. nat_lt u t) (get_or pss i []))
  length-before = ap length before-pieces ∙ length-append (joined (take i pss)) (at_times (λ u. nat_lt u t) (get_or pss i []))

-- the last sample of so many chunks
pub last-first : (format : List Point → List ℕ) (pss : List (List Point)) (ns : List ℕ) → AreChunks format pss ns → (i n : ℕ) → n ≡ suc i → n ≤ length pss
    → last_of (joined (take n pss)) ≡ last_of (get_or pss i [])
last-first format pss ns h i n is within =
    last-joined format (take n pss) (take n ns) (chunks-take format n pss ns h) i (omega (arith, length-take n pss)) ∙ ap last_of (get_or-take n pss i [] (omega arith))
