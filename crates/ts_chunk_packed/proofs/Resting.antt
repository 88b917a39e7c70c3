-- Decoding the remaining samples of a chunk, one by one.
use Rattle.std.proofs.Common.{◌≡◌, ℕ, zero, suc, ◌-◌, ◌<◌, ◌≤◌, true, false, List, [], ◌∷◌, ◌++◌, length, refl, sym, ap, ◌∙◌, subst, append-nil, arith, inl, inr}
use Rattle.std.specs.Prelude.{nat_lt, nat_le}
use Rattle.std.proofs.lemmas.Bool.{cases_lt}
use Rattle.std.proofs.lemmas.Bool.Decides.{nat_tests}
use Rattle.ts_spec.specs.Sample.{Point, IsAfter, IsAscending, at_times}
use Rattle.ts_sample.specs.Chunk.{AreInBounds}
use Rattle.ts_chunk_packed.specs.Laws.{IsKnown, nothing_known}
use Rattle.ts_chunk_packed.specs.Packed.{State, begin, next, coded, packed_from, state_from, packed, sample_of, decoded_from, decoded, samples_of}
use Rattle.ts_chunk_packed.specs.Reading.{Follows, StartsFrom}
use Rattle.ts_chunk_packed.specs.Decoder.{IsUndecoded, samples_from}
use Rattle.ts_chunk_packed.proofs.Decoding.{sample_back}
use Rattle.ts_chunk_packed.proofs.Listing.{starts_after, starts_anywhere, known_next, length_from, back_from}

pub length-samples_from : (s : State) (n : ℕ) (bytes : List ℕ) → length (samples_from s n bytes) ≡ n
unfolding samples_from
length-samples_from s n bytes = length_from s n bytes

-- samples that were packed are those that are left
pub samples_are : (s : State) (n : ℕ) (bytes : List ℕ) (ps : List Point) → n ≡ length ps → bytes ≡ packed_from s ps → samples_from s n bytes ≡ ps
unfolding samples_from
samples_are s n bytes ps count are =
    (λ i. (decoded_from s (count i) ((are ∙ sym (append-nil (packed_from s ps))) i)).0) ∙ ap (λ (r : List Point × List ℕ). r.0) (back_from s ps [])

pub is_left : (s : State) (n : ℕ) (bytes : List ℕ) (ps : List Point) → n ≡ length ps → bytes ≡ packed_from s ps → IsKnown s → AreInBounds ps → IsAscending ps → StartsFrom s.before.time ps → IsUndecoded s n bytes
is_left s n bytes ps count are known fine rises starts =
    let same : ps ≡ samples_from s n bytes = sym (samples_are s n bytes ps count are) in
    record {
      known = known;
      bytes = are ∙ ap (packed_from s) same;
      fine = subst AreInBounds same fine;
      ascending = subst IsAscending same rises;
      starts = subst (StartsFrom s.before.time) same starts;
    }

-- all samples of a chunk are left at its beginning
pub all_are : (n : ℕ) (bytes : List ℕ) → samples_from begin n bytes ≡ samples_of n bytes
unfolding samples_from samples_of decoded
all_are n bytes = refl

pub all_left : (s : State) (n : ℕ) (bytes : List ℕ) → s ≡ begin → bytes ≡ packed (samples_of n bytes) → IsAscending (samples_of n bytes) → AreInBounds (samples_of n bytes) → IsUndecoded s n bytes
unfolding samples_from samples_of decoded
all_left s n bytes first are rises fine =
    let whole : IsUndecoded begin n bytes =
    record { known = nothing_known; bytes = are; fine = fine; ascending = rises; starts = starts_anywhere (samples_of n bytes) } in
    subst (λ (t : State). IsUndecoded t n bytes) (sym first) whole

none : (s : State) (bytes : List ℕ) → samples_from s zero bytes ≡ []
unfolding samples_from
none s bytes = refl

pub none_left : (s : State) (n : ℕ) (bytes : List ℕ) → n ≡ 0 → samples_from s n bytes ≡ []
none_left s n bytes is = ap (λ (m : ℕ). samples_from s m bytes) is ∙ none s bytes

-- where there are samples, there is a next one
module _ (s : State) (n : ℕ) (bytes : List ℕ) where
  abbrev first : Point
  first = (sample_of s bytes).0

  abbrev others : List ℕ
  others = (sample_of s bytes).1

  next_one : samples_from s (suc n) bytes ≡ first ∷ samples_from (next s first) n others
  unfolding samples_from
  next_one = refl

  module _ (left : IsUndecoded s (suc n) bytes) where
    abbrev rest : List Point
    rest = samples_from (next s first) n others

    bytes_are : bytes ≡ coded s first ++ packed_from (next s first) rest
    bytes_are = left.bytes ∙ ap (packed_from s) next_one

    fine_both : AreInBounds (first ∷ rest)
    fine_both = subst AreInBounds next_one left.fine

    rising_both : IsAscending (first ∷ rest)
    rising_both = subst IsAscending next_one left.ascending

    not_earlier : s.before.time ≤ first.time
    not_earlier = subst (StartsFrom s.before.time) next_one left.starts

    follows_it : Follows s bytes
    follows_it = record { sample = first; rest = packed_from (next s first) rest; is = bytes_are; fine = fine_both.0; later = not_earlier }

    left_after : IsUndecoded (next s first) n others
    left_after = record {
      known = known_next s first left.known fine_both.0 not_earlier;
      bytes = ap (λ (l : List ℕ). (sample_of s l).1) bytes_are ∙ ap (λ (r : Point × List ℕ). r.1) (sample_back s first (packed_from (next s first) rest));
      fine = fine_both.1;
      ascending = rising_both.1;
      starts = starts_after first.time rest rising_both.0;
    }

-- the same of a count that is not 0
module _ {s : State} {count : ℕ} {bytes : List ℕ} (some : 0 < count) (left : IsUndecoded s count bytes) where
  is_more : count ≡ suc (count - 1)
  is_more = omega (arith, some)

  left_more : IsUndecoded s (suc (count - 1)) bytes
  left_more = subst (λ (n : ℕ). IsUndecoded s n bytes) is_more left

  pub follows : Follows s bytes
  follows = follows_it s (count - 1) bytes left_more

  -- the sample that is read, and the bytes after it
  module _ {p : Point} {after : List ℕ} (first_is : p ≡ (sample_of s bytes).0) (after_is : after ≡ (sample_of s bytes).1) where
    pub no_earlier : s.before.time ≤ p.time
    no_earlier = subst (λ (q : Point). s.before.time ≤ q.time) (sym first_is) (not_earlier s (count - 1) bytes left_more)

    pub first_then : (t : State) → t ≡ next s p → samples_from s count bytes ≡ p ∷ samples_from t (count - 1) after
    first_then t state =
        ap (λ (n : ℕ). samples_from s n bytes) is_more ∙ next_one s (count - 1) bytes
        ∙ sym (λ i. first_is i ∷ samples_from ((state ∙ ap (next s) first_is) i) (count - 1) (after_is i))

    pub left_then : (t : State) → t ≡ next s p → IsUndecoded t (count - 1) after
    left_then t state =
        let there = left_after s (count - 1) bytes left_more in
        subst (λ (u : State). IsUndecoded u (count - 1) after) (sym (state ∙ ap (next s) first_is)) (subst (λ (l : List ℕ). IsUndecoded (next s (sample_of s bytes).0) (count - 1) l) (sym after_is) there)

-- ---- times

none_under : (t u : ℕ) (ps : List Point) → IsAfter u ps → t ≤ u → at_times (λ n. nat_lt n t) ps ≡ []
none_under t u [] after low = refl
none_under t u (p ∷ ps) after low =
    let out : nat_lt p.time t ≡ false = (let later : u < p.time = after.0 in grind (arith, nat_tests)) in
    rw out (none_under t u ps after.1 low)

all_from : (t u : ℕ) (ps : List Point) → IsAfter u ps → t ≤ u → at_times (nat_le t) ps ≡ ps
all_from t u [] after low = refl
all_from t u (p ∷ ps) after low =
    let here : nat_le t p.time ≡ true = (let later : u < p.time = after.0 in grind (arith, nat_tests)) in
    rw here (ap (λ (l : List Point). p ∷ l) (all_from t u ps after.1 low))

-- none of the samples is before a time that the first has reached
pub none_before : (t : ℕ) (p : Point) (ps : List Point) → IsAscending (p ∷ ps) → t ≤ p.time → at_times (λ n. nat_lt n t) (p ∷ ps) ≡ []
none_before t p ps rises low = let out : nat_lt p.time t ≡ false = grind (arith, nat_tests) in rw out (none_under t p.time ps rises.0 low)

pub all_reach : (t : ℕ) (p : Point) (ps : List Point) → IsAscending (p ∷ ps) → t ≤ p.time → at_times (nat_le t) (p ∷ ps) ≡ p ∷ ps
all_reach t p ps rises low =
    let here : nat_le t p.time ≡ true = grind (arith, nat_tests) in
    rw here (ap (λ (l : List Point). p ∷ l) (all_from t p.time ps rises.0 low))

-- the same of a list that begins so
pub none_there : (t : ℕ) (all : List Point) (p : Point) (ps : List Point) → all ≡ p ∷ ps → IsAscending all → t ≤ p.time → at_times (λ n. nat_lt n t) all ≡ []
none_there t all p ps is rises low = ap (at_times (λ n. nat_lt n t)) is ∙ none_before t p ps (subst IsAscending is rises) low

pub all_there : (t : ℕ) (all : List Point) (p : Point) (ps : List Point) → all ≡ p ∷ ps → IsAscending all → t ≤ p.time → at_times (nat_le t) all ≡ all
all_there t all p ps is rises low = ap (at_times (nat_le t)) is ∙ all_reach t p ps (subst IsAscending is rises) low ∙ sym is

-- a sample before the time stands first among those before it
pub one_before : (t : ℕ) (p : Point) (ps : List Point) → p.time < t → at_times (λ n. nat_lt n t) (p ∷ ps) ≡ p ∷ at_times (λ n. nat_lt n t) ps
one_before t p ps early = let here : nat_lt p.time t ≡ true = grind (arith, nat_tests) in rw here refl

pub not_reached : (t : ℕ) (p : Point) (ps : List Point) → p.time < t → at_times (nat_le t) (p ∷ ps) ≡ at_times (nat_le t) ps
not_reached t p ps early = let out : nat_le t p.time ≡ false = grind (arith, nat_tests) in rw out refl

-- an ascending list is what is before a time, and then the rest
pub parts_of : (t : ℕ) (ps : List Point) → IsAscending ps → at_times (λ n. nat_lt n t) ps ++ at_times (nat_le t) ps ≡ ps
parts_of t [] rises = refl
parts_of t (p ∷ ps) rises = elim (cases_lt p.time t) [
  | inl early ↦
      (λ i. one_before t p ps early i ++ not_reached t p ps early i) ∙ ap (λ (l : List Point). p ∷ l) (parts_of t ps rises.1)
  | inr late ↦ λ i. none_before t p ps rises late i ++ all_reach t p ps rises late i
]

-- past a sample before the time the rest goes on as all did
module _ (t : ℕ) (all : List Point) (p : Point) (ps : List Point) (is : all ≡ p ∷ ps) (early : p.time < t) where
  pub same_rest : at_times (nat_le t) ps ≡ at_times (nat_le t) all
  same_rest = sym (ap (at_times (nat_le t)) is ∙ not_reached t p ps early)

  pub same_state : (s u : State) → u ≡ next s p → state_from u (at_times (λ n. nat_lt n t) ps) ≡ state_from s (at_times (λ n. nat_lt n t) all)
  same_state s u state =
      ap (λ (x : State). state_from x (at_times (λ n. nat_lt n t) ps)) state
      ∙ sym (ap (λ (l : List Point). state_from s (at_times (λ n. nat_lt n t) l)) is ∙ ap (state_from s) (one_before t p ps early))
