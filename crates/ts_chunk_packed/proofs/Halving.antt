-- Splitting a list at a time, and inserting a sample into one part.
use Rattle.std.proofs.Common.{◌≡◌, ℕ, false, ◌/◌, ◌+◌, ◌<◌, ◌≤◌, List, [], ◌∷◌, ◌++◌, length, take, drop, sym, ap, ◌∙◌, subst, append_assoc, append-nil, arith, length-append}
use Rattle.std.specs.Prelude.{Some, ◌&&◌, nat_lt, nat_le}
use Rattle.std.proofs.lemmas.Bool.Decides.{nat_tests}
use Rattle.std.proofs.lemmas.List.{take_at, drop_at, append_cancel_left}
use Rattle.std.proofs.lemmas.List.Elements.{filter-append}
use Rattle.ts_spec.specs.Sample.{Point, IsAfter, IsAscending, at_times, first_of, put}
use Rattle.ts_sample.proofs.Between.{filter-filter}
use Rattle.ts_sample.proofs.Lists.{ascending-right}
use Rattle.ts_sample.proofs.Parted.{filter_alike}
use Rattle.ts_sample.proofs.Replacing.{none-before}
use Rattle.ts_chunk_packed.specs.Decoder.{AreBefore}
use Rattle.ts_chunk_packed.proofs.Resting.{parts_of}
use Rattle.ts_chunk_packed.proofs.Starting.{all_before}

module _ (p : Point) (time : ℕ) (all : List Point) (rises : IsAscending all) where
  abbrev early : List Point
  early = at_times (λ t. nat_lt t time) all

  abbrev late : List Point
  late = at_times (nat_le time) all

  whole : early ++ late ≡ all
  whole = parts_of time all rises

  -- a sample before the time is put into the first part
  pub put-early : p.time < time → put p early ++ late ≡ put p all
  put-early less =
      let low : at_times (λ t. nat_lt t p.time) early ≡ at_times (λ t. nat_lt t p.time) all =
      filter-filter (λ (q : Point). nat_lt q.time p.time) (λ (q : Point). nat_lt q.time time) all
      ∙ filter_alike (λ (q : Point). nat_lt q.time time && nat_lt q.time p.time) (λ (q : Point). nat_lt q.time p.time) (λ q. before p.time time q.time less) all in
      let same : late ≡ at_times (nat_lt p.time) late =
      sym (filter-filter (λ (q : Point). nat_lt p.time q.time) (λ (q : Point). nat_le time q.time) all
      ∙ filter_alike (λ (q : Point). nat_le time q.time && nat_lt p.time q.time) (λ (q : Point). nat_le time q.time) (λ q. past p.time time q.time less) all) in
      let high : at_times (nat_lt p.time) early ++ late ≡ at_times (nat_lt p.time) all =
      ap (λ (l : List Point). at_times (nat_lt p.time) early ++ l) same
      ∙ sym (filter-append (λ (q : Point). nat_lt p.time q.time) early late)
      ∙ ap (at_times (nat_lt p.time)) whole in
      append_assoc (at_times (λ t. nat_lt t p.time) early) (p ∷ at_times (nat_lt p.time) early) late
      ∙ (λ i. low i ++ p ∷ high i)
    where
      before : (s t n : ℕ) → s < t → (nat_lt n t && nat_lt n s) ≡ nat_lt n s
      before s t n less = grind (arith, nat_tests)

      past : (s t n : ℕ) → s < t → (nat_le t n && nat_lt s n) ≡ nat_le t n
      past s t n less = grind (arith, nat_tests)

  -- and any other into the second one
  pub put-late : time ≤ p.time → early ++ put p late ≡ put p all
  put-late more =
      let same : early ≡ at_times (λ t. nat_lt t p.time) early =
      sym (filter-filter (λ (q : Point). nat_lt q.time p.time) (λ (q : Point). nat_lt q.time time) all
      ∙ filter_alike (λ (q : Point). nat_lt q.time time && nat_lt q.time p.time) (λ (q : Point). nat_lt q.time time) (λ q. before p.time time q.time more) all) in
      let low : early ++ at_times (λ t. nat_lt t p.time) late ≡ at_times (λ t. nat_lt t p.time) all =
      ap (λ (l : List Point). l ++ at_times (λ t. nat_lt t p.time) late) same
      ∙ sym (filter-append (λ (q : Point). nat_lt q.time p.time) early late)
      ∙ ap (at_times (λ t. nat_lt t p.time)) whole in
      let high : at_times (nat_lt p.time) late ≡ at_times (nat_lt p.time) all =
      filter-filter (λ (q : Point). nat_lt p.time q.time) (λ (q : Point). nat_le time q.time) all
      ∙ filter_alike (λ (q : Point). nat_le time q.time && nat_lt p.time q.time) (λ (q : Point). nat_lt p.time q.time) (λ q. past p.time time q.time more) all in
      sym (append_assoc early (at_times (λ t. nat_lt t p.time) late) (p ∷ at_times (nat_lt p.time) late))
      ∙ (λ i. low i ++ p ∷ high i)
    where
      before : (s t n : ℕ) → t ≤ s → (nat_lt n t && nat_lt n s) ≡ nat_lt n t
      before s t n more = grind (arith, nat_tests)

      past : (s t n : ℕ) → t ≤ s → (nat_le t n && nat_lt s n) ≡ nat_lt s n
      past s t n more = grind (arith, nat_tests)

-- a part that begins with this sample, and one before it
module _ (b : Point) where
  low-none : (rs : List Point) → Some b ≡ first_of rs → IsAscending rs → at_times (λ t. nat_lt t b.time) rs ≡ []
  low-none [] is up = absurd (cc)
  low-none (r ∷ rs) is up =
      let same : b ≡ r = cc in
      let not-it : nat_lt b.time b.time ≡ false = grind (arith, nat_tests) in
      ap (λ (x : Point). at_times (λ t. nat_lt t b.time) (x ∷ rs)) (sym same) ∙ rw not-it (none-before b.time rs (subst (λ (x : Point). IsAfter x.time rs) (sym same) up.0))

  before-it : (ps rs : List Point) → Some b ≡ first_of rs → IsAscending (ps ++ rs) → AreBefore b.time ps
  before-it [] rs is up = tt
  before-it (q ∷ ps) rs is up = (past-all q.time ps rs is up.0, before-it ps rs is up.1)
    where
      past-all : (t : ℕ) (ps rs : List Point) → Some b ≡ first_of rs → IsAfter t (ps ++ rs) → t < b.time
      past-all t [] [] is after = absurd (cc)
      past-all t [] (r ∷ rs) is after = let same : b ≡ r = cc in subst (λ (x : Point). t < x.time) (sym same) after.0
      past-all t (q ∷ ps) rs is after = past-all t ps rs is after.1

-- of two parts, a sample before the first of the second is put into the first, and any other into the second
module _ (p : Point) (ps qs all : List Point) (whole : ps ++ qs ≡ all) (rises : IsAscending all) (b : Point) (begins : Some b ≡ first_of qs) where
  up : IsAscending (ps ++ qs)
  up = subst IsAscending (sym whole) rises

  first-part : early p b.time all rises ≡ ps
  first-part =
      ap (at_times (λ t. nat_lt t b.time)) (sym whole) ∙ all_before b.time ps qs (before-it b ps qs begins up)
      ∙ ap (λ (l : List Point). ps ++ l) (low-none b qs begins (ascending-right ps qs up)) ∙ append-nil ps

  second-part : late p b.time all rises ≡ qs
  second-part =
      append_cancel_left ps (at_times (nat_le b.time) all) qs
      (ap (λ (l : List Point). l ++ at_times (nat_le b.time) all) (sym first-part) ∙ parts_of b.time all rises ∙ sym whole)

  pub into-first : p.time < b.time → put p ps ++ qs ≡ put p all
  into-first less = sym (λ i. put p (first-part i) ++ second-part i) ∙ put-early p b.time all rises less

  pub into-second : b.time ≤ p.time → ps ++ put p qs ≡ put p all
  into-second more = sym (λ i. first-part i ++ put p (second-part i)) ∙ put-late p b.time all rises more

-- the halves of a list that is so many samples and then so many others
module _ (ps qs all : List Point) (parts : ps ++ qs ≡ all) (even : length ps ≡ (length ps + length qs) / 2) where
  half : length all / 2 ≡ length ps
  half = omega (arith, ap length parts, length-append ps qs)

  pub first-half : ps ≡ take (length all / 2) all
  first-half = sym (ap (take (length all / 2)) (sym parts) ∙ take_at ps qs (length all / 2) (sym half))

  pub second-half : qs ≡ drop (length all / 2) all
  second-half = sym (ap (drop (length all / 2)) (sym parts) ∙ drop_at ps qs (length all / 2) (sym half))
