-- Chunks after a sample is appended to the last one.
use Rattle.std.proofs.Common.{◌≡◌, ◌≢◌, ℕ, zero, suc, ◌+◌, if◌then◌else◌, Bool, true, false, List, [], ◌∷◌, ◌++◌, length, get_or, map, refl, sym, ◌∙◌, ap, subst, arith, append_assoc, append-nil, length-append}
use Rattle.std.specs.Prelude.{nat_le, slice_set, Option, None, Some}
use Rattle.std.proofs.lemmas.Bool.Decides.{nat_tests}
use Rattle.ts_spec.specs.Sample.{Point, IsAscending, last_of}
use Rattle.ts_sample.specs.Chunk.{IsChunk, IsPast, Fits, joined}
use Rattle.ts_sample.proofs.Lists.{ascending-left}
use Rattle.ts_series.specs.Stored.{AreChunks, AreStoredChunks, LastChunkFits, with_last}

-- the last of these lists has a sample more
pub map-last : {X : Type 0} (list : X → List Point) (p : Point) (i : ℕ) (xs : List X) (x d : X) → length xs ≡ suc i → list x ≡ list (get_or xs i d) ++ p ∷ []
    → map list (slice_set xs i x) ≡ with_last (Some p) (map list xs)
map-last list p i [] x d long is = absurd (omega arith)
map-last list p zero (y ∷ []) x d long is = ap (λ (l : List Point). l ∷ []) is
map-last list p (suc i) (y ∷ []) x d long is = absurd (omega arith)
map-last list p zero (y ∷ z ∷ xs) x d long is = absurd (omega arith)
map-last list p (suc i) (y ∷ z ∷ xs) x d long is = ap (λ (pss : List (List Point)). list y ∷ pss) (map-last list p i (z ∷ xs) x d (omega arith) is)

-- the limits stay
pub map-same : {X : Type 0} (most : X → ℕ) (i : ℕ) (xs : List X) (x d : X) → most x ≡ most (get_or xs i d) → map most (slice_set xs i x) ≡ map most xs
map-same most i [] x d is = refl
map-same most zero (y ∷ xs) x d is = ap (λ n. n ∷ map most xs) is
map-same most (suc i) (y ∷ xs) x d is = ap (λ (ns : List ℕ). most y ∷ ns) (map-same most i xs x d is)

chunks-set : {X : Type 0} (format : List Point → List ℕ) (list : X → List Point) (most : X → ℕ) (i : ℕ) (xs : List X) (x : X) → AreChunks format (map list xs) (map most xs)
    → IsChunk format (most x) (list x) → list x ≢ [] → AreChunks format (map list (slice_set xs i x)) (map most (slice_set xs i x))
chunks-set format list most i [] x h is filled = h
chunks-set format list most zero (y ∷ xs) x h is filled = (is, (filled, h.1.1))
chunks-set format list most (suc i) (y ∷ xs) x h is filled = (h.0, (h.1.0, chunks-set format list most i xs x h.1.1 is filled))

-- the room of the last chunk
pub room-last : {X : Type 0} (format : List Point → List ℕ) (list : X → List Point) (most : X → ℕ) (p : Point) (i : ℕ) (xs : List X) (d : X) → length xs ≡ suc i
    → LastChunkFits format (Some p) (map list xs) (map most xs) → IsPast (last_of (list (get_or xs i d))) p.time × Fits format (most (get_or xs i d)) (list (get_or xs i d) ++ p ∷ [])
room-last format list most p i [] d long h = absurd h
room-last format list most p zero (y ∷ []) d long h = h
room-last format list most p (suc i) (y ∷ []) d long h = absurd (omega arith)
room-last format list most p zero (y ∷ z ∷ xs) d long h = absurd (omega arith)
room-last format list most p (suc i) (y ∷ z ∷ xs) d long h = room-last format list most p i (z ∷ xs) d (omega arith) h

-- the samples are those before and this one
joined-more : (p : Point) (ps : List Point) (pss : List (List Point)) → joined (with_last (Some p) (ps ∷ pss)) ≡ joined (ps ∷ pss) ++ p ∷ []
joined-more p ps [] = append-nil (ps ++ p ∷ []) ∙ ap (λ (l : List Point). l ++ p ∷ []) (sym (append-nil ps))
joined-more p ps (qs ∷ pss) = ap (λ (l : List Point). ps ++ l) (joined-more p qs pss) ∙ sym (append_assoc ps (joined (qs ∷ pss)) (p ∷ []))

pub joined-last : (format : List Point → List ℕ) (p : Point) (pss : List (List Point)) (ns : List ℕ) → LastChunkFits format (Some p) pss ns → joined (with_last (Some p) pss) ≡ joined pss ++ p ∷ []
joined-last format p [] ns h = absurd h
joined-last format p (ps ∷ pss) ns h = joined-more p ps pss

-- without the sample the others are ascending too
pub ascending-before : (o : Option Point) (pss : List (List Point)) → IsAscending (joined (with_last o pss)) → IsAscending (joined pss)
ascending-before None pss h = h
ascending-before (Some p) [] h = _
ascending-before (Some p) (ps ∷ pss) h = ascending-left (joined (ps ∷ pss)) (p ∷ []) (subst IsAscending (joined-more p ps pss) h)

-- what the chunk has that took the sample
pub list-taken : (format : List Point → List ℕ) (n : ℕ) (ps qs : List Point) (p : Point) (b : Bool) → b ≡ nat_le (length (format (ps ++ p ∷ []))) n
    → qs ≡ (if b then ps ++ p ∷ [] else ps) → Fits format n (ps ++ p ∷ []) → qs ≡ ps ++ p ∷ []
list-taken format n ps qs p true test is fits = is
list-taken format n ps qs p false test is fits =
    let yes : nat_le (length (format (ps ++ p ∷ []))) n ≡ true = grind (arith, nat_tests) in
    absurd (cc (test ∙ yes))

filled-last : (ps : List Point) (p : Point) (qs : List Point) → qs ≡ ps ++ p ∷ [] → qs ≢ []
filled-last [] p qs is = λ e. absurd (cc (sym e ∙ is))
filled-last (r ∷ ps) p qs is = λ e. absurd (cc (sym e ∙ is))

-- what is kept once the last chunk took the sample
pub kept-last : {X : Type 0} (format : List Point → List ℕ) (list : X → List Point) (most : X → ℕ) (p : Point) (i : ℕ) (xs : List X) (x d : X) (count : ℕ) → length xs ≡ suc i
    → list x ≡ list (get_or xs i d) ++ p ∷ [] → IsChunk format (most x) (list x) → LastChunkFits format (Some p) (map list xs) (map most xs)
    → IsAscending (joined (with_last (Some p) (map list xs))) → AreStoredChunks format (map list xs) (map most xs) count
    → AreStoredChunks format (map list (slice_set xs i x)) (map most (slice_set xs i x)) (count + 1)
kept-last format list most p i xs x d count long is chunk room up kept =
    let pieces : map list (slice_set xs i x) ≡ with_last (Some p) (map list xs) = map-last list p i xs x d long is in
    record {
      chunks = chunks-set format list most i xs x kept.chunks chunk (filled-last (list (get_or xs i d)) p (list x) is);
      ascending = subst (λ (pss : List (List Point)). IsAscending (joined pss)) (sym pieces) up;
      counted = omega (
        arith,
        kept.counted,
        ap (λ (pss : List (List Point)). length (joined pss)) pieces,
        ap length (joined-last format p (map list xs) (map most xs) room),
        length-append (joined (map list xs)) (p ∷ []),
      );
    }
