-- The pieces that a scan visits.
use Rattle.std.proofs.Common.{◌≡◌, ℕ, ◌-◌, ◌/◌, ◌≤◌, List, length, map, take, drop, sym, ap, ◌∙◌, subst, take_all, arith}
use Rattle.std.specs.Prelude.{nat_le}
use Rattle.std.specs.Simd.{first_chunks}
use Rattle.std.proofs.lemmas.List.{length-drop, length-map}
use Rattle.ts_spec.specs.Sample.{Point, IsAscending, at_times, between}
use Rattle.ts_spec.proofs.Samples.{ascending-times}
use Rattle.ts_sample.specs.Chunk.{AreInBounds}
use Rattle.ts_sample.proofs.Between.{filter-filter}
use Rattle.ts_sample.proofs.Lists.{fine-times}
use Rattle.ts_chunk_plain.specs.Plain.{sample_of, decoded, samples_of}

-- the pieces of bytes are their samples
pub pieces_are : (bs : List (List ℕ)) (bytes written : List ℕ) → bs ≡ first_chunks 28 (length bytes / 28) bytes → bytes ≡ written → map sample_of bs ≡ samples_of written
unfolding samples_of decoded
pieces_are bs bytes written cut same = ap (map sample_of) cut ∙ ap samples_of same

module _ (from : ℕ) (bs : List (List ℕ)) (start : ℕ) (after : map sample_of (drop start bs) ≡ at_times (nat_le from) (map sample_of bs)) where
  all_after : take (length bs - start) (drop start bs) ≡ drop start bs
  all_after = take_all (length bs - start) (drop start bs) (omega (arith, length-drop start bs))

  -- the pieces from the place on
  from_there : map sample_of (take (length bs - start) (drop start bs)) ≡ at_times (nat_le from) (map sample_of bs)
  from_there = ap (map sample_of) all_after ∙ after

  pub ascending_there : IsAscending (map sample_of bs) → IsAscending (map sample_of (take (length bs - start) (drop start bs)))
  ascending_there rises = subst IsAscending (sym from_there) (ascending-times (nat_le from) (map sample_of bs) rises)

  pub fine_there : AreInBounds (map sample_of bs) → AreInBounds (map sample_of (take (length bs - start) (drop start bs)))
  fine_there fine = subst AreInBounds (sym from_there) (fine-times (nat_le from) (map sample_of bs) fine)

  -- those of them that are up to a time are those of the interval
  pub interval : (to : ℕ) (list : List Point) → map sample_of bs ≡ list → at_times (λ t. nat_le t to) (map sample_of (take (length bs - start) (drop start bs))) ≡ between from to list
  interval to list are =
      ap (at_times (λ t. nat_le t to)) from_there ∙ filter-filter (λ (p : Point). nat_le p.time to) (λ (p : Point). nat_le from p.time) (map sample_of bs) ∙ ap (between from to) are

  pub no_more : (list : List Point) → map sample_of bs ≡ list → length (take (length bs - start) (drop start bs)) ≤ length list
  no_more list are = omega (arith, ap length all_after, length-drop start bs, ap length are, length-map bs sample_of)
