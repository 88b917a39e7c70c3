-- Inserting a sample among those of a chunk.
use Rattle.std.proofs.Common.{◌≡◌, ℕ, zero, suc, ◌+◌, ◌-◌, ◌*◌, ◌^◌, ◌<◌, ◌≤◌, Bool, List, [], ◌∷◌, ◌++◌, length, map, take, drop, refl, sym, ap, ◌∙◌, subst, arith, length-append}
use Rattle.std.specs.Prelude.{Option, Some, nat_lt}
use Rattle.std.proofs.lemmas.List.{length-take, length-drop, length-map, take-map, drop-map, take_at, drop_at, take-append-drop}
use Rattle.ts_spec.specs.Sample.{Point, IsAscending, at_times, first_of, last_of, later_or, put}
use Rattle.ts_spec.proofs.Samples.{ascending-put}
use Rattle.ts_sample.specs.Sample.{IsInBounds}
use Rattle.ts_sample.specs.Chunk.{AreInBounds, IsChunk}
use Rattle.ts_sample.proofs.Lists.{fine-put}
use Rattle.ts_chunk_plain.specs.Chunk.{Samples, IsPlain}
use Rattle.ts_chunk_plain.specs.Laws.{length-plain}
use Rattle.ts_chunk_plain.specs.Plain.{bytes_of, plain, sample_of, samples_of}
use Rattle.ts_chunk_plain.proofs.Coding.{samples_back}
use Rattle.ts_chunk_plain.proofs.Pushing.{plain-append}

-- ---- parts of a list

-- the first of pieces are those of their samples that pass a test
pub taken : (test : ℕ → Bool) (n : ℕ) (bs : List (List ℕ)) (list : List Point) → map sample_of bs ≡ list → map sample_of (take n bs) ≡ at_times test (map sample_of bs)
    → take n list ≡ at_times test list
taken test n bs list are is = ap (take n) (sym are) ∙ take-map sample_of n bs ∙ is ∙ ap (at_times test) are

pub dropped : (test : ℕ → Bool) (n : ℕ) (bs : List (List ℕ)) (list : List Point) → map sample_of bs ≡ list → map sample_of (drop n bs) ≡ at_times test (map sample_of bs)
    → drop n list ≡ at_times test list
dropped test n bs list are is = ap (drop n) (sym are) ∙ drop-map sample_of n bs ∙ is ∙ ap (at_times test) are

-- ---- the ends of a list

first-before : (ps qs : List Point) (p : Point) → first_of (ps ++ p ∷ []) ≡ first_of (ps ++ p ∷ qs)
first-before [] qs p = refl
first-before (q ∷ ps) qs p = refl

last-after : (ps qs : List Point) (p : Point) → last_of (p ∷ qs) ≡ last_of (ps ++ p ∷ qs)
last-after [] qs p = refl
last-after (q ∷ ps) qs p = ap (λ o. Some (later_or q o)) (last-after ps qs p)

pub last-of-drop : (n : ℕ) (ps : List Point) (p : Point) → n < length ps → last_of ps ≡ last_of (p ∷ drop n ps)
last-of-drop n [] p within = absurd (omega arith)
last-of-drop zero (q ∷ ps) p within = refl
last-of-drop (suc n) (q ∷ ps) p within = last-of-cons q ps (omega arith) ∙ last-of-drop n ps p (omega arith)
  where
    last-of-cons : (q : Point) (ps : List Point) → 0 < length ps → last_of (q ∷ ps) ≡ last_of ps
    last-of-cons q [] some = absurd (omega arith)
    last-of-cons q (r ∷ ps) some = refl

-- ---- bytes

module _ (n : ℕ) (ps : List Point) (within : n ≤ length ps) where
  parts : plain (take n ps) ++ plain (drop n ps) ≡ plain ps
  parts = sym (plain-append (take n ps) (drop n ps)) ∙ ap plain (take-append-drop n ps)

  long_front : length (plain (take n ps)) ≡ n * 28
  long_front = omega (arith, length-plain (take n ps), length-take n ps)

  pub plain-take : take (n * 28) (plain ps) ≡ plain (take n ps)
  plain-take = ap (take (n * 28)) (sym parts) ∙ take_at (plain (take n ps)) (plain (drop n ps)) (n * 28) long_front

  pub plain-drop : drop (n * 28) (plain ps) ≡ plain (drop n ps)
  plain-drop = ap (drop (n * 28)) (sym parts) ∙ drop_at (plain (take n ps)) (plain (drop n ps)) (n * 28) long_front

-- what a chunk has of the first so many of its samples
module _ {limit capacity : ℕ} {written : List ℕ} {begin end : Option Point} (was : IsPlain limit capacity written begin end) {now : Samples}
    (is : (record { limit = limit; list = samples_of written }) ≡ now) where
  pub list_is : samples_of written ≡ now.list
  list_is = ap (λ (x : Samples). x.list) is

  -- so many samples are so many bytes
  pub bytes_are : length written ≡ length now.list * 28
  bytes_are = omega (arith, ap length was.bytes, length-plain (samples_of written), ap length list_is)

  pub not_many : length now.list * 28 ≤ 1048576
  not_many = omega (arith, bytes_are, ap length was.bytes, was.chunk.fits, was.chunk.bounds.greatest)

  pub written_is : written ≡ plain now.list
  written_is = was.bytes ∙ ap plain list_is

  -- its last one is the last of any before and of the others
  pub last-kept : (n : ℕ) (p : Point) → n < length now.list → end ≡ last_of (p ∷ drop n now.list)
  last-kept n p within = was.last ∙ ap last_of list_is ∙ last-of-drop n now.list p within

  -- the place of a sample among the pieces, and how many are up to its time
  module _ (p : Point) (bs : List (List ℕ)) (are : map sample_of bs ≡ now.list) {t : ℕ} (time : t ≡ p.time) {start : ℕ} (stop : ℕ)
      (within : start ≤ length bs) (begins : map sample_of (take start bs) ≡ at_times (λ n. nat_lt n t) (map sample_of bs)) (goes_on : map sample_of (drop stop bs) ≡ at_times (nat_lt t) (map sample_of bs)) where
    both : take start now.list ++ p ∷ drop stop now.list ≡ put p now.list
    both =
        let first : take start now.list ≡ at_times (λ n. nat_lt n p.time) now.list =
        taken (λ n. nat_lt n t) start bs now.list are begins ∙ ap (λ m. at_times (λ n. nat_lt n m) now.list) time in
        let others : drop stop now.list ≡ at_times (nat_lt p.time) now.list =
        dropped (nat_lt t) stop bs now.list are goes_on ∙ ap (λ m. at_times (nat_lt m) now.list) time in
        λ i. first i ++ p ∷ others i

    count : length bs ≡ length now.list
    count = omega (arith, length-map bs sample_of, ap length are)

    long : length (put p now.list) ≡ start + 1 + (length bs - stop)
    long =
        omega (
          arith,
          count,
          ap length both,
          length-append (take start now.list) (p ∷ drop stop now.list),
          length-take start now.list,
          length-drop stop now.list,
        )

    pub count_within : (start + 1 + (length bs - stop)) * 28 < 2 ^ 64
    count_within = omega (arith, count, not_many)

    -- the sample makes it too long
    pub too_long : limit < (start + 1 + (length bs - stop)) * 28 → now.limit < length (plain (put p now.list))
    too_long more = omega (arith, long, length-plain (put p now.list), ap (λ (x : Samples). x.limit) is)

    -- the bytes before the place, its own and those after it make a chunk of the list with the sample
    module _ (fine : IsInBounds p) {front back after : List ℕ} (front_is : front ≡ plain (take start now.list)) (back_is : back ≡ plain (drop stop now.list))
        (after_is : after ≡ front ++ (bytes_of p ++ back)) where
      all_fine : AreInBounds (put p now.list)
      all_fine = fine-put p now.list fine (subst AreInBounds list_is was.chunk.fine)

      spliced_bytes : after ≡ plain (put p now.list)
      spliced_bytes =
          after_is ∙ (λ i. front_is i ++ (bytes_of p ++ back_is i)) ∙ sym (plain-append (take start now.list) (p ∷ drop stop now.list)) ∙ ap plain both

      pub spliced_list : samples_of after ≡ put p now.list
      spliced_list = ap samples_of spliced_bytes ∙ samples_back (put p now.list) all_fine

      pub plain-spliced : {room : ℕ} {head last : Option Point} → limit ≤ room → head ≡ first_of (take start now.list ++ p ∷ []) → last ≡ last_of (p ∷ drop stop now.list)
          → (start + 1 + (length bs - stop)) * 28 ≤ limit → IsPlain limit room after head last
      plain-spliced enough first_is last_is fits =
          let chunk : IsChunk plain limit (put p now.list) =
          record {
            bounds = was.chunk.bounds;
            ascending = ascending-put p now.list (subst IsAscending list_is was.chunk.ascending);
            fine = all_fine;
            fits = omega (arith, length-plain (put p now.list), long);
          } in
          record {
            chunk = subst (IsChunk plain limit) (sym spliced_list) chunk;
            room = enough;
            bytes = spliced_bytes ∙ ap plain (sym spliced_list);
            first = first_is ∙ first-before (take start now.list) (drop stop now.list) p ∙ ap first_of (both ∙ sym spliced_list);
            last = last_is ∙ last-after (take start now.list) (drop stop now.list) p ∙ ap last_of (both ∙ sym spliced_list);
          }
