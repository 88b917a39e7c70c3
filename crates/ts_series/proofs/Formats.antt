-- The same samples in both formats, and copies sample by sample.
use Rattle.std.proofs.Common.{◌≡◌, ℕ, zero, suc, ◌+◌, ◌*◌, ◌<◌, ◌≤◌, List, [], ◌∷◌, ◌++◌, length, get_or, take, drop, refl, sym, ◌∙◌, ap, arith, length-append}
use Rattle.std.specs.Prelude.{Option, None, Some, IfNone, IsSome}
use Rattle.std.proofs.Math.Seq.{take-suc}
use Rattle.ts_spec.specs.Sample.{Point, IsAscending, first_of}
use Rattle.ts_sample.specs.Chunk.{IsChunk, AreInBounds}
use Rattle.ts_chunk_packed.specs.Laws.{IsKnown, nothing_known, most_coded, three_each}
use Rattle.ts_chunk_packed.specs.Packed.{State, begin, next, coded, packed_from, packed, sample_of}
use Rattle.ts_chunk_packed.specs.Reading.{StartsFrom}
use Rattle.ts_chunk_packed.proofs.Decoding.{sample_back}
use Rattle.ts_chunk_packed.proofs.Listing.{starts_after, known_next}
use Rattle.ts_chunk_plain.specs.Laws.{length-plain}
use Rattle.ts_chunk_plain.specs.Plain.{plain}

-- ---- packed bytes

same-from : (s : State) (ps qs : List Point) → packed_from s ps ≡ packed_from s qs → ps ≡ qs
same-from s [] [] is = refl
same-from s [] (q ∷ qs) is = absurd (omega (arith, ap length is, three_each s (q ∷ qs)))
same-from s (p ∷ ps) [] is = absurd (omega (arith, ap length is, three_each s (p ∷ ps)))
same-from s (p ∷ ps) (q ∷ qs) is =
    let both = sym (sample_back s p (packed_from (next s p) ps)) ∙ ap (sample_of s) is ∙ sample_back s q (packed_from (next s q) qs) in
    let one : p ≡ q = ap (λ (r : Point × List ℕ). r.0) both in
    let rest : packed_from (next s p) ps ≡ packed_from (next s p) qs = ap (λ (r : Point × List ℕ). r.1) both ∙ ap (λ (r : Point). packed_from (next s r) qs) (sym one) in
    ap (λ (l : List Point). p ∷ l) (same-from (next s p) ps qs rest) ∙ ap (λ (r : Point). r ∷ qs) one

-- no two lists have the same packed bytes
pub same-packed : (ps qs : List Point) → packed ps ≡ packed qs → ps ≡ qs
same-packed ps qs is = same-from begin ps qs is

shorter-from : (s : State) (ps : List Point) → IsKnown s → AreInBounds ps → IsAscending ps → StartsFrom s.before.time ps → length (packed_from s ps) ≤ 28 * length ps
shorter-from s [] known fine up from = omega arith
shorter-from s (p ∷ ps) known fine up from =
    omega (
      arith,
      length-append (coded s p) (packed_from (next s p) ps),
      most_coded s p known fine.0 from,
      shorter-from (next s p) ps (known_next s p known fine.0 from) fine.1 up.1 (starts_after p.time ps up.0),
    )

starts_anywhere : (ps : List Point) → StartsFrom 0 ps
starts_anywhere [] = tt
starts_anywhere (p ∷ ps) = omega arith

-- the samples of a plain chunk fit in a packed one
pub plain-packs : (limit : ℕ) (ps : List Point) → IsChunk plain limit ps → IsChunk packed limit ps
plain-packs limit ps chunk = record {
  bounds = chunk.bounds;
  ascending = chunk.ascending;
  fine = chunk.fine;
  fits = omega (arith, shorter-from begin ps nothing_known chunk.fine chunk.ascending (starts_anywhere ps), length-plain ps, chunk.fits);
}

-- ---- one sample after another

-- the next sample is the one at the index
pub next-there : (ps : List Point) (n : ℕ) (p : Point) → first_of (drop n ps) ≡ Some p → (n < length ps) × (p ≡ get_or ps n p)
next-there [] zero p is = absurd (cc is)
next-there [] (suc n) p is = absurd (cc is)
next-there (q ∷ ps) zero p is = (omega arith, cc)
next-there (q ∷ ps) (suc n) p is = let rest = next-there ps n p is in (omega (arith, rest.0), rest.1)

-- without a next sample all were read
pub all-read : (ps : List Point) (n : ℕ) → first_of (drop n ps) ≡ None → take n ps ≡ ps
all-read [] zero is = refl
all-read [] (suc n) is = refl
all-read (q ∷ ps) zero is = absurd (cc is)
all-read (q ∷ ps) (suc n) is = ap (λ (l : List Point). q ∷ l) (all-read ps n is)

-- one sample further
pub one-further : (ps : List Point) (n m : ℕ) (p : Point) → first_of (drop n ps) ≡ Some p → m ≡ n + length (take 1 (drop n ps)) → (m ≡ n + 1) × (take m ps ≡ take n ps ++ p ∷ [])
one-further ps n m p is further =
    let here = next-there ps n p is in
    let next : m ≡ suc n = omega (arith, further, one ps n is) in
    (omega arith, ap (λ k. take k ps) next ∙ take-suc ps n p here.0 ∙ ap (λ (q : Point). take n ps ++ q ∷ []) (sym here.1))
  where
    one : (ps : List Point) (n : ℕ) → first_of (drop n ps) ≡ Some p → length (take 1 (drop n ps)) ≡ 1
    one [] zero is = absurd (cc is)
    one [] (suc n) is = absurd (cc is)
    one (q ∷ ps) zero is = refl
    one (q ∷ ps) (suc n) is = one ps n is

-- a chunk whose copy does not fit is none of a plain series
pub none-plain : (limit most : ℕ) (bytes : List ℕ) (qs : List Point) → most < length (plain qs) → most ≡ limit → packed qs ≡ bytes
    → (ps : List Point) → IsChunk plain limit ps → packed ps ≡ bytes → ⊥
none-plain limit most bytes qs full same coded ps chunk also =
    let one : length (plain ps) ≡ length (plain qs) = ap (λ (l : List Point). length (plain l)) (same-packed ps qs (also ∙ sym coded)) in
    omega (arith, chunk.fits, one, full)

-- the copy of a plain chunk fits
pub some-packed : {X : Type 0} (o : Option X) (limit : ℕ) (ps : List Point) → IfNone o (limit < length (packed ps)) → IsChunk plain limit ps → IsSome o
some-packed None limit ps full chunk = absurd (omega (arith, full, IsChunk.fits (plain-packs limit ps chunk)))
some-packed (Some x) limit ps full chunk = refl
