-- The starts of consecutive buckets by their index.
use Rattle.std.proofs.Common.{◌≡◌, ℕ, suc, ◌+◌, ◌-◌, ◌≤◌, map, length, refl, sym, ◌∙◌, ap, arith, List}
use Rattle.std.specs.Prelude.{Some, slice_get}
use Rattle.std.specs.List.{range_with_len}
use Rattle.std.proofs.lemmas.List.FromFn.{length-map-range_with_len, get_or-map-range_with_len}
use Rattle.std.proofs.lemmas.Option.{slice_get_within, get_or_from_slice_get}
use Rattle.ts_spec.specs.Bucket.{Grid}
use Rattle.ts_spec.specs.Answer.{starts_between}
use Rattle.ts_bucket.proofs.Numbers.{number}
use Rattle.ts_range.proofs.Line.{begin, between-is, number-mono}

-- b is where the bucket of this number begins, which is one of these
pub record IsNumbered (g : Grid) (low high b k : ℕ) : Type 0 where
  pub begins : b ≡ begin g k
  pub from : low ≤ k
  pub upto : k ≤ high

module _ (g : Grid) (some : 1 ≤ g.duration) (lo hi : ℕ) (le : lo ≤ hi) where
  pub length-line : length (starts_between g lo hi) ≡ suc (number g hi - number g lo)
  length-line = ap length (between-is g some lo hi le) ∙ length-map-range_with_len (begin g) (number g lo) (suc (number g hi - number g lo))

  pub at-line : (i b : ℕ) → slice_get (starts_between g lo hi) i ≡ Some b → IsNumbered g (number g lo) (number g hi) b (number g lo + i)
  at-line i b is =
      let n = suc (number g hi - number g lo) in
      let mono = number-mono g some lo hi le in
      let there : slice_get (map (begin g) (range_with_len (number g lo) n)) i ≡ Some b = ap (λ (xs : List ℕ). slice_get xs i) (sym (between-is g some lo hi le)) ∙ is in
      let within = slice_get_within (map (begin g) (range_with_len (number g lo) n)) i b there in
      let long = length-map-range_with_len (begin g) (number g lo) n in
      record {
        begins = sym (get_or_from_slice_get (map (begin g) (range_with_len (number g lo) n)) i b 0 there) ∙ get_or-map-range_with_len (begin g) (number g lo) n i (number g lo + i) 0 (omega arith) refl;
        from = omega arith;
        upto = omega arith;
      }
