-- Decoding samples one after another.
use Rattle.std.proofs.Common.{◌≡◌, ℕ, zero, suc, ◌≤◌, Bool, true, false, pos, ◌≤ℤ◌, if◌then◌else◌, List, [], ◌∷◌, ◌++◌, length, refl, sym, ap, ◌∙◌, append_assoc, append-nil, arith}
use Rattle.std.specs.Prelude.{unwrap_or, is_some}
use Rattle.std.proofs.lemmas.Int.{ints}
use Rattle.ts_spec.specs.Sample.{Point, MAX_TIME, IsAfter, IsAscending, last_of, later_or}
use Rattle.ts_sample.specs.Chunk.{AreInBounds, IsPast}
use Rattle.ts_sample.specs.Sample.{IsInBounds}
use Rattle.ts_chunk_packed.specs.Laws.{IsKnown, nothing_known}
use Rattle.ts_chunk_packed.specs.Packed.{State, begin, gap, next, coded, packed_from, packed, state_from, sample_of, decoded_from, decoded, samples_of}
use Rattle.ts_chunk_packed.specs.Reading.{StartsFrom}
use Rattle.ts_chunk_packed.proofs.Decoding.{sample_back}

-- ---- the law of the format

after_first : State → ℕ → Point × List ℕ → List Point × List ℕ
after_first s n first = (first.0 ∷ (decoded_from (next s first.0) n first.1).0, (decoded_from (next s first.0) n first.1).1)

pub back_from : (s : State) (ps : List Point) (rest : List ℕ) → decoded_from s (length ps) (packed_from s ps ++ rest) ≡ (ps, rest)
unfolding after_first
back_from s [] rest = refl
back_from s (p ∷ ps) rest =
    let apart : (coded s p ++ packed_from (next s p) ps) ++ rest ≡ coded s p ++ (packed_from (next s p) ps ++ rest) = append_assoc (coded s p) (packed_from (next s p) ps) rest in
    ap (λ (l : List ℕ). after_first s (length ps) (sample_of s l)) apart
    ∙ ap (after_first s (length ps)) (sample_back s p (packed_from (next s p) ps ++ rest))
    ∙ ap (λ (r : List Point × List ℕ). (p ∷ r.0, r.1)) (back_from (next s p) ps rest)

-- What was packed is read back, and what follows it is left.
pub law : (ps : List Point) (rest : List ℕ) → decoded (length ps) (packed ps ++ rest) ≡ (ps, rest)
unfolding decoded
law ps rest = back_from begin ps rest

pub samples_back : (ps : List Point) → samples_of (length ps) (packed ps) ≡ ps
unfolding samples_of
samples_back ps = ap (λ (l : List ℕ). (decoded (length ps) l).0) (sym (append-nil (packed ps))) ∙ ap (λ (r : List Point × List ℕ). r.0) (law ps [])

pub length_from : (s : State) (n : ℕ) (bytes : List ℕ) → length (decoded_from s n bytes).0 ≡ n
length_from s zero bytes = refl
length_from s (suc n) bytes = ap suc (length_from (next s (sample_of s bytes).0) n (sample_of s bytes).1)

-- so many samples are read as are asked for
-- ---- the state after samples

ends_of : (s : State) (p : Point) (ps : List Point) → (state_from s (p ∷ ps)).before ≡ later_or p (last_of ps)
ends_of s p [] = refl
ends_of s p (q ∷ ps) = ends_of (next s p) q ps

pub begun_of : (s : State) (p : Point) (ps : List Point) → (state_from s (p ∷ ps)).begun ≡ true
begun_of s p [] = refl
begun_of s p (q ∷ ps) = begun_of (next s p) q ps

-- it is told by the last sample and its step
pub state_is : (ps : List Point) → (record { before = unwrap_or (last_of ps) begin.before; step = (state_from begin ps).step; begun = is_some (last_of ps) }) ≡ state_from begin ps
state_is [] = refl
state_is (p ∷ ps) = λ i. record { before = sym (ends_of begin p ps) i; step = (state_from begin (p ∷ ps)).step; begun = sym (begun_of begin p ps) i }

pub past_before : (ps : List Point) (t : ℕ) → IsPast (last_of ps) t → (state_from begin ps).before.time ≤ t
past_before [] t past = omega arith
past_before (p ∷ ps) t past = omega (arith, ap (λ (q : Point). q.time) (ends_of begin p ps), past)

pub starts_after : (t : ℕ) (ps : List Point) → IsAfter t ps → StartsFrom t ps
starts_after t [] after = tt
starts_after t (p ∷ ps) after = omega (arith, after.0)

pub known_next : (s : State) (p : Point) → IsKnown s → IsInBounds p → s.before.time ≤ p.time → IsKnown (next s p)
known_next s p known fine later = record { fine = fine; from = least s.begun; to = most s.begun }
  where
    least : (b : Bool) → pos 0 ≤ℤ (if b then gap s p.time else pos 0)
    least true = omega (arith, ints, later)
    least false = omega (arith, ints)

    most : (b : Bool) → (if b then gap s p.time else pos 0) ≤ℤ pos MAX_TIME
    most true = omega (arith, ints, fine.time)
    most false = omega (arith, ints)

known_from : (s : State) (ps : List Point) → IsKnown s → AreInBounds ps → IsAscending ps → StartsFrom s.before.time ps → IsKnown (state_from s ps)
known_from s [] known fine rises starts = known
known_from s (p ∷ ps) known fine rises starts =
    known_from (next s p) ps (known_next s p known fine.0 starts) fine.1 rises.1 (starts_after p.time ps rises.0)

pub starts_anywhere : (ps : List Point) → StartsFrom 0 ps
starts_anywhere [] = tt
starts_anywhere (p ∷ ps) = omega arith

pub all_known : (ps : List Point) → AreInBounds ps → IsAscending ps → IsKnown (state_from begin ps)
all_known ps fine rises = known_from begin ps nothing_known fine rises (starts_anywhere ps)

-- ---- one more sample

pub packed-push : (s : State) (ps : List Point) (p : Point) → packed_from s (ps ++ p ∷ []) ≡ packed_from s ps ++ coded (state_from s ps) p
packed-push s [] p = append-nil (coded s p)
packed-push s (q ∷ ps) p =
    ap (λ (l : List ℕ). coded s q ++ l) (packed-push (next s q) ps p) ∙ sym (append_assoc (coded s q) (packed_from (next s q) ps) (coded (state_from (next s q) ps) p))

pub state-push : (s : State) (ps : List Point) (p : Point) → state_from s (ps ++ p ∷ []) ≡ next (state_from s ps) p
state-push s [] p = refl
state-push s (q ∷ ps) p = state-push (next s q) ps p
