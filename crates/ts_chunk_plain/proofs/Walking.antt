-- Scanning the pieces of samples.
use Rattle.std.proofs.Common.{◌≡◌, ℕ, ◌+◌, ◌<◌, ◌≤◌, Bool, true, false, not, cond, List, [], ◌∷◌, length, map, take, drop, get_or, refl, ap, ◌∙◌, subst, arith, add-one}
use Rattle.std.specs.Prelude.{nat_lt, nat_le, filter}
use Rattle.std.specs.List.Sorted.{IsPartitionPoint, IsNonDecreasingBy}
use Rattle.std.proofs.lemmas.List.{get_or-map, length-map}
use Rattle.std.proofs.lemmas.Bool.Decides.{nat_tests}
use Rattle.std.proofs.Math.Seq.{drop-cons}
use Rattle.ts_spec.specs.Sample.{Point, IsAfter, IsAscending, at_times}
use Rattle.ts_sample.specs.Chunk.{AreInBounds}
use Rattle.ts_sample.specs.Visit.{visited}
use Rattle.ts_sample.proofs.Parted.{rising, parted, filter_alike, not_before, not_past}
use Rattle.ts_chunk_plain.specs.Plain.{sample_of}

-- the samples up to a time
abbrev pub upto : ℕ → List Point → List Point
upto to ps = at_times (λ t. nat_le t to) ps

-- What holds after some pieces: the walk goes on over the rest as it went over all, with a step for each sample so far.
pub record Walked {V : Type 0} (step : V → Point → V) (places : V → ℕ) (to : ℕ) (begin now : V) (ps rest : List Point) (from steps count : ℕ) : Type 0 where
  pub ascending : IsAscending rest
  pub fine : AreInBounds rest
  pub visited : visited step now (upto to rest) ≡ visited step begin (upto to ps)
  pub room : length (upto to rest) ≤ places now
  pub counted : from + length (upto to ps) ≤ steps + length (upto to rest)
  pub bounded : steps ≡ from + count

-- none are up to a time that the first is past
none_upto : (to : ℕ) (p : Point) (rest : List Point) → IsAfter p.time rest → to < p.time → upto to rest ≡ []
none_upto to p [] after past = refl
none_upto to p (q ∷ rest) after past =
    let later : nat_le q.time to ≡ false = (let here : p.time < q.time = after.0 in grind (arith, nat_tests)) in
    rw later (none_upto to p rest after.1 past)

stopped : (to : ℕ) (p : Point) (rest : List Point) → IsAscending (p ∷ rest) → to < p.time → upto to (p ∷ rest) ≡ []
stopped to p rest rises past =
    let later : nat_le p.time to ≡ false = grind (arith, nat_tests) in
    rw later (none_upto to p rest rises.0 past)

pub rising_of : (bs : List (List ℕ)) → IsAscending (map sample_of bs) → IsNonDecreasingBy (λ b. (sample_of b).time) bs
rising_of bs rises i j d ordered within =
    omega (
      arith,
      rising (map sample_of bs) rises i j (sample_of d) ordered (let long : j < length (map sample_of bs) = omega (arith, length-map bs sample_of) in long),
      ap (λ (p : Point). p.time) (get_or-map sample_of bs i d (sample_of d) (omega arith)),
      ap (λ (p : Point). p.time) (get_or-map sample_of bs j d (sample_of d) within),
    )

filter-map : {X Y : Type 0} (f : X → Y) (test : Y → Bool) (xs : List X) → map f (filter (λ x. test (f x)) xs) ≡ filter test (map f xs)
filter-map f test [] = refl
filter-map {X} {Y} f test (x ∷ xs) = go (test (f x)) (filter-map f test xs)
  where
    go : (b : Bool) → map f (filter (λ y. test (f y)) xs) ≡ filter test (map f xs)
        → map f (cond b (x ∷ filter (λ y. test (f y)) xs) (filter (λ y. test (f y)) xs)) ≡ cond b (f x ∷ filter test (map f xs)) (filter test (map f xs))
    go true ih = ap (λ (l : List Y). f x ∷ l) ih
    go false ih = ih

-- the place where the times reach t has the samples from t on behind it
pub from_place : (t : ℕ) (bs : List (List ℕ)) (i : ℕ) → IsPartitionPoint (λ b. nat_lt (sample_of b).time t ≡ true) (λ b. nat_lt (sample_of b).time t ≡ false) bs i → i ≤ length bs
    → map sample_of (drop i bs) ≡ at_times (nat_le t) (map sample_of bs)
from_place t bs i point within =
    ap (map sample_of) (parted (λ b. nat_lt (sample_of b).time t) bs i point within).1
    ∙ filter-map sample_of (λ (p : Point). not (nat_lt p.time t)) bs
    ∙ filter_alike (λ (p : Point). not (nat_lt p.time t)) (λ (p : Point). nat_le t p.time) (λ p. not_before t p.time) (map sample_of bs)

-- and those before t before it
pub before_place : (t : ℕ) (bs : List (List ℕ)) (i : ℕ) → IsPartitionPoint (λ b. nat_lt (sample_of b).time t ≡ true) (λ b. nat_lt (sample_of b).time t ≡ false) bs i → i ≤ length bs
    → map sample_of (take i bs) ≡ at_times (λ n. nat_lt n t) (map sample_of bs)
before_place t bs i point within =
    ap (map sample_of) (parted (λ b. nat_lt (sample_of b).time t) bs i point within).0 ∙ filter-map sample_of (λ (p : Point). nat_lt p.time t) bs

-- the place where the times pass t has the samples past t behind it
pub past_place : (t : ℕ) (bs : List (List ℕ)) (i : ℕ) → IsPartitionPoint (λ b. nat_le (sample_of b).time t ≡ true) (λ b. nat_le (sample_of b).time t ≡ false) bs i → i ≤ length bs
    → map sample_of (drop i bs) ≡ at_times (nat_lt t) (map sample_of bs)
past_place t bs i point within =
    ap (map sample_of) (parted (λ b. nat_le (sample_of b).time t) bs i point within).1
    ∙ filter-map sample_of (λ (p : Point). not (nat_le p.time t)) bs
    ∙ filter_alike (λ (p : Point). not (nat_le p.time t)) (λ (p : Point). nat_lt t p.time) (λ p. not_past t p.time) (map sample_of bs)

-- the piece at an index stands before the rest
pub piece_at : (bs : List (List ℕ)) (i : ℕ) → i < length bs → map sample_of (drop i bs) ≡ sample_of (get_or bs i []) ∷ map sample_of (drop (i + 1) bs)
piece_at bs i within = let cut : drop i bs ≡ get_or bs i [] ∷ drop (i + 1) bs = rw (add-one) (drop-cons bs i [] within) in ap (map sample_of) cut

-- none are up to a time from a piece on that is past it
pub none_left : (to : ℕ) (bs : List (List ℕ)) (i : ℕ) → i < length bs → IsAscending (map sample_of (drop i bs)) → to < (sample_of (get_or bs i [])).time
    → upto to (map sample_of (drop i bs)) ≡ []
none_left to bs i within rises past =
    ap (upto to) (piece_at bs i within) ∙ stopped to (sample_of (get_or bs i [])) (map sample_of (drop (i + 1) bs)) (subst IsAscending (piece_at bs i within) rises) past
