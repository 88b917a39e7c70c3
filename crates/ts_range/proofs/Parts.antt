-- The first or last rows of consecutive buckets are those of a part of the buckets.
use Rattle.std.proofs.Common.{◌≡◌, ℕ, zero, suc, ◌+◌, ◌-◌, ◌<◌, ◌≤◌, max, min, Bool, true, false, List, map, take, drop, length, length-drop, reverse, refl, sym, ◌∙◌, ap, arith, inl, inr}
use Rattle.std.specs.Prelude.{Option, None, Some, slice_get}
use Rattle.std.specs.List.{range_with_len}
use Rattle.std.proofs.lemmas.Bool.{cases_lt}
use Rattle.std.proofs.lemmas.List.{take-append-drop, take-append-le, take_all, reverse-append, length-reverse, length-map, drop-map}
use Rattle.std.proofs.lemmas.List.FromFn.{take-map-range_with_len}
use Rattle.ts_spec.specs.Sample.{MAX_TIME}
use Rattle.ts_spec.specs.Bucket.{Grid, start}
use Rattle.ts_spec.specs.Answer.{Row, starts_between, limit_rows, in_requested_order}
use Rattle.ts_spec.proofs.Buckets.{start-le, start-mono}
use Rattle.ts_bucket.specs.Grid.{IsLastOf}
use Rattle.ts_bucket.proofs.Numbers.{number, start_number}
use Rattle.ts_range.specs.BucketRanges.{IsPart}
use Rattle.ts_range.specs.AskedSamples.{most_of}
use Rattle.ts_range.proofs.Gaps.{begin-mono}
use Rattle.ts_range.proofs.Later.{begin-past, number-begin, begin-start}
use Rattle.ts_range.proofs.Line.{begin, between-is}
use Rattle.ts_range.proofs.Reversed.{map-take, first_rows}
use Rattle.ts_range.proofs.Turns.{length-line, IsNumbered, at-line}

-- ---- lists

drop-range : (k a n : ℕ) → k ≤ n → drop k (range_with_len a n) ≡ range_with_len (a + k) (n - k)
drop-range zero a n le = ap (λ (x : ℕ). range_with_len x n) (let e : a ≡ a + 0 = omega arith in e) ∙ ap (λ (y : ℕ). range_with_len (a + 0) y) (let e : n ≡ n - 0 = omega arith in e)
drop-range (suc k) a zero le = absurd (omega arith)
drop-range (suc k) a (suc n) le =
    drop-range k (a + 1) n (omega arith)
    ∙ ap (λ (x : ℕ). range_with_len x (n - k)) (let e : a + 1 + k ≡ a + suc k = omega arith in e)
    ∙ ap (λ (y : ℕ). range_with_len (a + suc k) y) (let e : n - k ≡ suc n - suc k = omega arith in e)

-- the first ones of a list that is turned round are its last ones
last-ones : (rows : List Row) (w k : ℕ) → k + w ≡ length rows → take w (reverse rows) ≡ reverse (drop k rows)
last-ones rows w k parts =
    let long : length (reverse (drop k rows)) ≡ w = omega (arith, length-reverse (drop k rows), length-drop k rows) in
    ap (λ (l : List Row). take w (reverse l)) (sym (take-append-drop k rows))
    ∙ ap (take w) (reverse-append (take k rows) (drop k rows))
    ∙ take-append-le w (reverse (drop k rows)) (reverse (take k rows)) (omega arith)
    ∙ take_all w (reverse (drop k rows)) (omega arith)

pub most-within : (count : Option ℕ) (n : ℕ) → most_of count n ≤ n
most-within None n = omega arith
most-within (Some c) n = omega arith

length-in_requested_order : (r : Bool) (rows : List Row) → length (in_requested_order r rows) ≡ length rows
length-in_requested_order true rows = length-reverse rows
length-in_requested_order false rows = refl

module _ (g : Grid) (some : 1 ≤ g.duration) (lo hi : ℕ) (le : lo ≤ hi) where
  module _ (count : Option ℕ) (r : Bool) (f : ℕ → Row) where
    wanted : limit_rows count (in_requested_order r (map f (starts_between g lo hi))) ≡ take (most_of count (length (starts_between g lo hi))) (in_requested_order r (map f (starts_between g lo hi)))
    wanted = sym (first_rows count (length (starts_between g lo hi)) (in_requested_order r (map f (starts_between g lo hi))) (omega (arith, length-in_requested_order r (map f (starts_between g lo hi)), length-map (starts_between g lo hi) f)))

  -- ---- some buckets, the first ones

  module _ (w b : ℕ) (few : 1 ≤ w) (most : w ≤ length (starts_between g lo hi)) (is : slice_get (starts_between g lo hi) (w - 1) ≡ Some b) where
    pub upto-within : b ≤ hi
    upto-within =
        let at = at-line g some lo hi le (w - 1) b is in
        let e = begin-start g some lo (number g lo + (w - 1)) at.from in
        let m = at.upto in
        let n = begin-within m in
        let begins = at.begins in
        omega arith
      where
        begin-within : number g lo + (w - 1) ≤ number g hi → begin g (number g lo + (w - 1)) ≤ hi
        begin-within m = let e = begin-mono g some (number g lo + (w - 1)) (number g hi) m in let f = start_number g some hi in let h = start-le g hi some in omega arith

    number-upto : number g (max lo b) ≡ number g lo + (w - 1)
    number-upto =
        let at = at-line g some lo hi le (w - 1) b is in
        let begins = at.begins in
        elim (cases_lt 1 w) [
          | inl more ↦
              let past : lo < b = (let e = begin-past g some lo (number g lo + (w - 1)) (omega arith) in omega arith) in
              ap (number g) (let e : max lo b ≡ begin g (number g lo + (w - 1)) = omega arith in e) ∙ number-begin g some lo (number g lo + (w - 1)) (omega arith)
          | inr one ↦
              let same : b ≡ start g lo = begins ∙ ap (begin g) (let e : number g lo + (w - 1) ≡ number g lo = omega arith in e) ∙ sym (start_number g some lo) in
              let low = start-le g lo some in
              ap (number g) (let e : max lo b ≡ lo = omega arith in e) ∙ (let e : number g lo ≡ number g lo + (w - 1) = omega arith in e)
        ]

    first-starts : take w (starts_between g lo hi) ≡ starts_between g lo (max lo b)
    first-starts =
        let n = suc (number g hi - number g lo) in
        let long = length-line g some lo hi le in
        ap (take w) (between-is g some lo hi le)
        ∙ take-map-range_with_len (begin g) (number g lo) n w (omega arith)
        ∙ ap (λ (k : ℕ). map (begin g) (range_with_len (number g lo) k)) (let e : w ≡ suc (number g (max lo b) - number g lo) = omega (arith, number-upto) in e)
        ∙ sym (between-is g some lo (max lo b) (omega arith))

    pub first-wanted : (count : Option ℕ) (f : ℕ → Row) → w ≡ most_of count (length (starts_between g lo hi)) → limit_rows count (map f (starts_between g lo hi)) ≡ map f (starts_between g lo (max lo b))
    first-wanted count f same =
        wanted count false f ∙ ap (λ (k : ℕ). take k (map f (starts_between g lo hi))) (sym same)
        ∙ sym (map-take f w (starts_between g lo hi)) ∙ ap (map f) first-starts

  -- ---- the last ones

  module _ (k b : ℕ) (few : 1 ≤ k) (is : slice_get (starts_between g lo hi) k ≡ Some b) where
    at : IsNumbered g (number g lo) (number g hi) b (number g lo + k)
    at = at-line g some lo hi le k b is

    number-from : number g b ≡ number g lo + k
    number-from = ap (number g) at.begins ∙ number-begin g some lo (number g lo + k) (omega arith)

    pub from-past : lo < b
    from-past = let e = begin-past g some lo (number g lo + k) (omega arith) in let begins = at.begins in omega arith

    pub from-within : b ≤ hi
    from-within =
        let e = begin-mono g some (number g lo + k) (number g hi) at.upto in
        let f = start_number g some hi in
        let h = start-le g hi some in
        let begins = at.begins in
        omega arith

    -- it is the start of a bucket
    pub from-whole : (t : ℕ) → start g b ≤ start g t → b ≤ t
    from-whole t not-before =
        let begins : start g b ≡ b = ap (start g) at.begins ∙ begin-start g some lo (number g lo + k) at.from ∙ sym at.begins in
        let e = start-le g t some in
        omega arith

    last-starts : drop k (starts_between g lo hi) ≡ starts_between g b hi
    last-starts =
        let n = suc (number g hi - number g lo) in
        let long = length-line g some lo hi le in
        let upto = at.upto in
        ap (drop k) (between-is g some lo hi le)
        ∙ drop-map (begin g) k (range_with_len (number g lo) n)
        ∙ ap (map (begin g)) (drop-range k (number g lo) n (omega arith))
        ∙ ap (λ (m : ℕ). map (begin g) (range_with_len m (n - k))) (sym number-from)
        ∙ ap (λ (m : ℕ). map (begin g) (range_with_len (number g b) m)) (let e : n - k ≡ suc (number g hi - number g b) = omega (arith, number-from) in e)
        ∙ sym (between-is g some b hi from-within)

    pub last-wanted : (count : Option ℕ) (f : ℕ → Row) → k + most_of count (length (starts_between g lo hi)) ≡ length (starts_between g lo hi)
        → limit_rows count (reverse (map f (starts_between g lo hi))) ≡ reverse (map f (starts_between g b hi))
    last-wanted count f parts =
        let all = starts_between g lo hi in
        wanted count true f
        ∙ last-ones (map f all) (most_of count (length all)) k (omega (arith, length-map all f))
        ∙ ap reverse (drop-map f k all ∙ ap (map f) last-starts)

-- ---- the times of a part

-- up to the last time of a bucket
pub part-is : (g : Grid) → 1 ≤ g.duration → (first last from upto end to : ℕ) → first ≤ from → from ≤ upto → upto ≤ last → last ≤ MAX_TIME → IsLastOf g upto end → to ≡ min last end
    → ((t : ℕ) → first ≤ t → start g from ≤ start g t → from ≤ t) → IsPart g first last from upto to
part-is g some first last from upto end to early ordered inside time ends is whole =
    let reached : upto ≤ end = ends.latest upto (omega arith) refl in
    record {
      early = early;
      ordered = ordered;
      reached = omega arith;
      late = omega arith;
      within = λ t le. let e = start-mono g t end some (omega arith) in let same = ends.same in omega arith;
      whole = λ t low high not-before not-past. (
        whole t low not-before,
        (let upto-end : t ≤ end = elim (cases_lt (start g t) (start g upto)) [
          | inl less ↦ elim (cases_lt t upto) [
            | inl before ↦ omega arith
            | inr after ↦ (let e = start-mono g upto t some after in absurd (omega arith))
          ]
          | inr more ↦ ends.latest t (omega arith) (omega arith)
        ] in omega arith),
      );
    }
