-- Packed bytes stand for the samples that they were made of.
use Rattle.std.proofs.Common.{◌≡◌, ℕ, ◌≤◌, zero, suc, Bool, true, false, if◌then◌else◌, List, [], ◌∷◌, length, Some, refl, sym, ap, ◌∙◌, arith}
use Rattle.std.proofs.lemmas.Slice.Eq.{bytes_eq-Decides}
use Rattle.std.specs.Prelude.{None}
use Rattle.std.specs.Str.{bytes_eq}
use Rattle.ts_spec.specs.Sample.{Point}
use Rattle.ts_chunk_packed.specs.Laws.{three_each, three_or_more}
use Rattle.ts_chunk_packed.specs.Packed.{State, begin, next, packed_from, packed, sample_of}
use Rattle.ts_chunk_packed.proofs.Decoding.{sample_back}
use Rattle.ts_checkpoint.specs.Unpacked.{all_samples_from, if_packed, unpacked}

-- all samples after a context are read back
all-back : (s : State) (n : ℕ) (ps : List Point) → length ps ≤ n → all_samples_from s n (packed_from s ps) ≡ ps
all-back s zero [] few = refl
all-back s (suc n) [] few = refl
all-back s zero (p ∷ ps) few = absurd (omega arith)
all-back s (suc n) (p ∷ ps) few = go (packed_from s (p ∷ ps)) refl (all-back (next s p) n ps (omega arith))
  where
    go : (bytes : List ℕ) → packed_from s (p ∷ ps) ≡ bytes → all_samples_from (next s p) n (packed_from (next s p) ps) ≡ ps
        → all_samples_from s (suc n) bytes ≡ p ∷ ps
    go [] e rest = absurd (omega (arith, ap length e, three_each s (p ∷ ps)))
    go (byte ∷ bytes) e rest =
        let first : sample_of s (byte ∷ bytes) ≡ (p, packed_from (next s p) ps) = ap (sample_of s) (sym e) ∙ sample_back s p (packed_from (next s p) ps) in
        ap (λ (r : Point × List ℕ). r.0 ∷ all_samples_from (next s r.0) n r.1) first ∙ ap (λ (qs : List Point). p ∷ qs) rest

-- The packed form of samples unpacks to them.
pub unpacks : (ps : List Point) → unpacked (packed ps) ≡ Some ps
unfolding unpacked
unpacks ps =
    let enough : length ps ≤ length (packed ps) = omega (arith, three_or_more ps) in
    let same : bytes_eq (packed ps) (packed ps) ≡ true = (bytes_eq-Decides (packed ps) (packed ps)).1 refl in
    ap (if_packed (packed ps)) (all-back begin (length (packed ps)) ps enough) ∙ ap (λ (b : Bool). if b then Some ps else None) same

if-packed : (bytes : List ℕ) (qs ps : List Point) → if_packed bytes qs ≡ Some ps → packed ps ≡ bytes
if-packed bytes qs ps = go (bytes_eq (packed qs) bytes) refl
  where
    go : (b : Bool) → bytes_eq (packed qs) bytes ≡ b → (if b then Some qs else None) ≡ Some ps → packed ps ≡ bytes
    go true e is = let same : qs ≡ ps = cc is in ap packed (sym same) ∙ (bytes_eq-Decides (packed qs) bytes).0 e
    go false e is = absurd (cc is)

-- Bytes that unpack are the packed form of these samples.
pub packs : (bytes : List ℕ) (ps : List Point) → unpacked bytes ≡ Some ps → packed ps ≡ bytes
unfolding unpacked
packs bytes ps = if-packed bytes (all_samples_from begin (length bytes) bytes) ps
