-- Appending a sample.
use Rattle.std.proofs.Common.{◌≡◌, ℕ, ◌+◌, ◌/◌, ◌≤◌, List, [], ◌∷◌, ◌++◌, length, refl, sym, ap, ◌∙◌, subst, append_assoc, append-nil, arith, length-append}
use Rattle.std.specs.Prelude.{Option, None, Some, nat_le}
use Rattle.std.specs.Option.{option_or}
use Rattle.ts_spec.specs.Sample.{Point, first_of, last_of}
use Rattle.ts_sample.specs.Sample.{IsInBounds}
use Rattle.ts_sample.specs.Chunk.{AreInBounds, IsChunk, IsLimit, IsPast}
use Rattle.ts_sample.proofs.Lists.{fine-append, ascending-push, last-push}
use Rattle.ts_chunk_plain.specs.Chunk.{Samples, IsPlain}
use Rattle.ts_chunk_plain.specs.Laws.{length-bytes_of, length-plain}
use Rattle.ts_chunk_plain.specs.Plain.{bytes_of, plain, decoded, samples_of}
use Rattle.ts_chunk_plain.proofs.Coding.{samples_back}

pub plain-append : (ps qs : List Point) → plain (ps ++ qs) ≡ plain ps ++ plain qs
plain-append [] qs = refl
plain-append (p ∷ ps) qs = ap (λ (l : List ℕ). bytes_of p ++ l) (plain-append ps qs) ∙ sym (append_assoc (bytes_of p) (plain ps) (plain qs))

first-push : (ps : List Point) (p : Point) → first_of (ps ++ p ∷ []) ≡ option_or (first_of ps) (Some p)
first-push [] p = refl
first-push (q ∷ ps) p = refl

-- no bytes are a chunk without samples
pub empty : (limit capacity : ℕ) (written : List ℕ) → written ≡ [] → IsLimit limit → limit ≤ capacity → IsPlain limit capacity written None None
unfolding samples_of decoded
empty limit capacity written none bounds room =
    let chunk : IsPlain limit capacity [] None None =
    record { chunk = record { bounds = bounds; ascending = tt; fine = tt; fits = omega arith }; room = room; bytes = refl; first = refl; last = refl } in
    subst (λ (l : List ℕ). IsPlain limit capacity l None None) (sym none) chunk

pub no_samples : (written : List ℕ) → written ≡ [] → samples_of written ≡ []
unfolding samples_of decoded
no_samples written none = ap samples_of none

module _ (written : List ℕ) (are : written ≡ plain (samples_of written)) where
  pub count_of : length written / 28 ≡ length (samples_of written)
  count_of = omega (arith, ap length are, length-plain (samples_of written))

  one_more : (p : Point) → length written + 28 ≡ length (plain (samples_of written ++ p ∷ []))
  one_more p = omega (arith, ap length are, length-plain (samples_of written), length-plain (samples_of written ++ p ∷ []), length-append (samples_of written) (p ∷ []))

  -- one sample more fits where 28 bytes more do
  pub fits_more : {limit : ℕ} {now : Samples} → (record { limit = limit; list = samples_of written }) ≡ now → (p : Point)
      → nat_le (length written + 28) limit ≡ nat_le (length (plain (now.list ++ p ∷ []))) now.limit
  fits_more {limit} is p = ap (λ n. nat_le n limit) (one_more p) ∙ ap (λ (x : Samples). nat_le (length (plain (x.list ++ p ∷ []))) x.limit) is

-- the bytes of a sample past the last one make a chunk of its samples and that one
module _ {limit capacity grown : ℕ} {written : List ℕ} {begin end : Option Point} (p : Point) (was : IsPlain limit capacity written begin end) (fine : IsInBounds p)
    (past : IsPast (last_of (samples_of written)) p.time) (more : capacity ≤ grown) (fits : length written + 28 ≤ limit) where
  both : written ++ bytes_of p ≡ plain (samples_of written ++ p ∷ [])
  both =
      ap (λ (l : List ℕ). l ++ bytes_of p) was.bytes ∙ ap (λ (l : List ℕ). plain (samples_of written) ++ l) (sym (append-nil (bytes_of p)))
      ∙ sym (plain-append (samples_of written) (p ∷ []))

  all_fine : AreInBounds (samples_of written ++ p ∷ [])
  all_fine = fine-append (samples_of written) (p ∷ []) was.chunk.fine (fine, tt)

  pub list-pushed : samples_of (written ++ bytes_of p) ≡ samples_of written ++ p ∷ []
  list-pushed = ap samples_of both ∙ samples_back (samples_of written ++ p ∷ []) all_fine

  shorter : length (plain (samples_of written ++ p ∷ [])) ≤ limit
  shorter = omega (arith, ap length both, length-append written (bytes_of p), length-bytes_of p)

  pub plain-pushed : {after : List ℕ} {head : Option Point} → after ≡ written ++ bytes_of p → head ≡ option_or begin (Some p) → IsPlain limit grown after head (Some p)
  plain-pushed {after} is first_is =
      let list : samples_of after ≡ samples_of written ++ p ∷ [] = ap samples_of is ∙ list-pushed in
      let chunk : IsChunk plain limit (samples_of written ++ p ∷ []) =
      record { bounds = was.chunk.bounds; ascending = ascending-push (samples_of written) p was.chunk.ascending past; fine = all_fine; fits = shorter } in
      record {
        chunk = subst (IsChunk plain limit) (sym list) chunk;
        room = omega (arith, was.room, more);
        bytes = is ∙ both ∙ ap plain (sym list);
        first = first_is ∙ ap (λ o. option_or o (Some p)) was.first ∙ sym (first-push (samples_of written) p) ∙ ap first_of (sym list);
        last = sym (last-push (samples_of written) p) ∙ ap last_of (sym list);
      }
