-- Scanning the samples of some bytes.
use Rattle.std.proofs.Common.{◌≡◌, ℕ, ◌+◌, ◌<◌, ◌≤◌, Bool, true, false, cond, if◌then◌else◌, List, [], ◌∷◌, length, drop, get_or, refl, sym, ap, ◌∙◌, subst, arith, add-one}
use Rattle.std.specs.Prelude.{nat_le}
use Rattle.std.proofs.lemmas.Bool.Decides.{nat_tests}
use Rattle.std.proofs.Math.Seq.{drop-cons}
use Rattle.std.proofs.lemmas.List.{drop_all}
use Rattle.ts_spec.specs.Sample.{Point, IsAfter, IsAscending, is_within, between}
use Rattle.ts_sample.specs.Chunk.{AreInBounds}
use Rattle.ts_sample.specs.Visit.{visited}
use Rattle.ts_chunk_packed.specs.Laws.{IsKnown}
use Rattle.ts_chunk_packed.specs.Packed.{State, begin, next, packed_from, sample_of}
use Rattle.ts_chunk_packed.specs.Reading.{Follows, StartsFrom}
use Rattle.ts_chunk_packed.specs.Decoder.{IsUndecoded, samples_from}
use Rattle.ts_chunk_packed.proofs.Decoding.{sample_back}
use Rattle.ts_chunk_packed.proofs.Listing.{starts_after, known_next}

-- What holds after some samples: the bytes that are left are those of the rest, and the walk goes on over it as it went
-- over all, with a step for each sample so far.
pub record Walked {V : Type 0} (step : V → Point → V) (places : V → ℕ) (from to : ℕ) (begins now : V) (all rest : List Point) (s : State) (left : List ℕ) (before steps count : ℕ) : Type 0 where
  pub bytes : left ≡ packed_from s rest
  pub known : IsKnown s
  pub fine : AreInBounds rest
  pub ascending : IsAscending rest
  pub starts : StartsFrom s.before.time rest
  pub visited : visited step now (between from to rest) ≡ visited step begins (between from to all)
  pub room : length (between from to rest) ≤ places now
  pub counted : before + length (between from to all) ≤ steps + length (between from to rest)
  pub bounded : steps ≡ before + count

-- none are in an interval that the first is past
none_within : (from to : ℕ) (p : Point) (rest : List Point) → IsAfter p.time rest → to < p.time → between from to rest ≡ []
none_within from to p [] after past = refl
none_within from to p (q ∷ rest) after past =
    let later : is_within from to q.time ≡ false = (let here : p.time < q.time = after.0 in grind (arith, nat_tests)) in
    rw later (none_within from to p rest after.1 past)

pub stopped : (from to : ℕ) (p : Point) (rest : List Point) → IsAscending (p ∷ rest) → to < p.time → between from to (p ∷ rest) ≡ []
stopped from to p rest rises past =
    let later : is_within from to p.time ≡ false = grind (arith, nat_tests) in
    rw later (none_within from to p rest rises.0 past)

within_from : (from to t : ℕ) → t ≤ to → is_within from to t ≡ nat_le from t
within_from from to t early = grind (arith, nat_tests)

-- a first sample that is not past the interval, and then the others
module _ {V : Type 0} (step : V → Point → V) (room : V → ℕ) (lowers : (v : V) (p : Point) → room v ≤ room (step v p) + 1) (from to : ℕ) (now : V) (p : Point) (rest : List Point) (early : p.time ≤ to) where
  abbrev following : List Point
  following = between from to rest

  either : Bool → List Point
  either b = cond b (p ∷ following) following

  both : between from to (p ∷ rest) ≡ either (nat_le from p.time)
  unfolding either
  both = ap (λ (b : Bool). cond b (p ∷ following) following) (within_from from to p.time early)

  taken_first : (b : Bool) → visited step (if b then step now p else now) following ≡ visited step now (either b)
  unfolding either
  taken_first true = refl
  taken_first false = refl

  room_past : (b : Bool) → length (either b) ≤ room now → length following ≤ room (if b then step now p else now)
  unfolding either
  room_past true enough = omega (arith, lowers now p)
  room_past false enough = enough

  one_more : (b : Bool) → length (either b) ≤ length following + 1
  unfolding either
  one_more true = omega arith
  one_more false = omega arith

  some_first : (b : Bool) → b ≡ true → 1 ≤ length (either b)
  unfolding either
  some_first true is = omega arith
  some_first false is = cc

  pub first_room : length (between from to (p ∷ rest)) ≤ room now → nat_le from p.time ≡ true → 1 ≤ room now
  first_room enough is = omega (arith, ap length both, some_first (nat_le from p.time) is)

  pub room_then : length (between from to (p ∷ rest)) ≤ room now → (v : V) → v ≡ (if nat_le from p.time then step now p else now) → length (between from to rest) ≤ room v
  room_then enough v is =
      subst (λ (w : V). length following ≤ room w) (sym is)
      (room_past (nat_le from p.time) (subst (λ (l : List Point). length l ≤ room now) both enough))

  pub visited_then : (v : V) → v ≡ (if nat_le from p.time then step now p else now) → visited step v (between from to rest) ≡ visited step now (between from to (p ∷ rest))
  visited_then v is = ap (λ (w : V). visited step w following) is ∙ taken_first (nat_le from p.time) ∙ ap (visited step now) (sym both)

  pub at_most_one : length (between from to (p ∷ rest)) ≤ length (between from to rest) + 1
  at_most_one = omega (arith, ap length both, one_more (nat_le from p.time))

module _ {V : Type 0} {step : V → Point → V} {room : V → ℕ} (lowers : (v : V) (p : Point) → room v ≤ room (step v p) + 1) {from to : ℕ} {begins : V} {all : List Point} {before : ℕ} where
  pub begun : (s : State) (count : ℕ) (left : List ℕ) → IsUndecoded s count left → samples_from s count left ≡ all → length (between from to all) ≤ room begins
      → Walked step room from to begins begins all all s left before before 0
  begun s count left is list enough = record {
    bytes = is.bytes ∙ ap (packed_from s) list;
    known = is.known;
    fine = subst AreInBounds list is.fine;
    ascending = subst IsAscending list is.ascending;
    starts = subst (StartsFrom s.before.time) list is.starts;
    visited = refl;
    room = enough;
    counted = omega arith;
    bounded = omega arith;
  }

  -- at the sample of an index
  module _ {i : ℕ} {now : V} {s : State} {left : List ℕ} {steps : ℕ} (inside : i < length all) (walk : Walked step room from to begins now all (drop i all) s left before steps i) where
    abbrev pub p : Point
    p = get_or all i begin.before

    abbrev pub rest : List Point
    rest = drop (i + 1) all

    walked : Walked step room from to begins now all (p ∷ rest) s left before steps i
    walked = subst (λ (ps : List Point). Walked step room from to begins now all ps s left before steps i) (rw (add-one) (drop-cons all i begin.before inside)) walk

    pub follows : Follows s left
    follows = record { sample = p; rest = packed_from (next s p) rest; is = walked.bytes; fine = walked.fine.0; later = walked.starts }

    read : sample_of s left ≡ (p, packed_from (next s p) rest)
    read = ap (sample_of s) walked.bytes ∙ sample_back s p (packed_from (next s p) rest)

    on : p.time ≤ to → (after : V) → after ≡ (if nat_le from p.time then step now p else now) → (others : List ℕ) → others ≡ packed_from (next s p) rest
        → Walked step room from to begins after all rest (next s p) others before (steps + 1) (i + 1)
    on early after is others bytes = record {
      bytes = bytes;
      known = known_next s p walked.known walked.fine.0 walked.starts;
      fine = walked.fine.1;
      ascending = walked.ascending.1;
      starts = starts_after p.time rest walked.ascending.0;
      visited = visited_then step room lowers from to now p rest early after is ∙ walked.visited;
      room = room_then step room lowers from to now p rest early walked.room after is;
      counted = omega (arith, at_most_one step room lowers from to now p rest early, walked.counted);
      bounded = omega (arith, walked.bounded);
    }

    -- of the sample that is read there
    module _ {q : Point} {others : List ℕ} (first : q ≡ (sample_of s left).0) (after : others ≡ (sample_of s left).1) where
      q_is : q ≡ p
      q_is = first ∙ ap (λ (r : Point × List ℕ). r.0) read

      pub no_earlier : s.before.time ≤ q.time
      no_earlier = omega (arith, walked.starts, ap (λ (r : Point). r.time) q_is)

      -- there is room for it, if it is in the interval
      pub some_room : q.time ≤ to → nat_le from q.time ≡ true → 1 ≤ room now
      some_room early late =
          let e = ap (λ (r : Point). r.time) q_is in
          first_room step room lowers from to now p rest (omega (arith, e)) walked.room (ap (nat_le from) (sym e) ∙ late)

      pub walked_on : q.time ≤ to → (v : V) → v ≡ (if nat_le from q.time then step now q else now) → (t : State) → t ≡ next s q
          → Walked step room from to begins v all rest t others before (steps + 1) (i + 1)
      walked_on early v is t state =
          let seen = is ∙ ap (λ (r : Point). if nat_le from r.time then step now r else now) q_is in
          let moved = on (omega (arith, ap (λ (r : Point). r.time) q_is)) v seen others (after ∙ ap (λ (r : Point × List ℕ). r.1) read) in
          subst (λ (u : State). Walked step room from to begins v all rest u others before (steps + 1) (i + 1)) (sym (state ∙ ap (next s) q_is)) moved

      -- a sample past the interval ends the walk
      pub ended : to < q.time → (now ≡ visited step begins (between from to all)) × (before + length (between from to all) ≤ steps)
      ended past =
          let none = stopped from to p rest walked.ascending (omega (arith, ap (λ (r : Point). r.time) q_is)) in
          (sym (ap (visited step now) none) ∙ walked.visited, omega (arith, ap length none, walked.counted))

  -- and so does the end of the samples
  pub all_walked : {i : ℕ} {now : V} {s : State} {left : List ℕ} {steps : ℕ} → length all ≤ i → Walked step room from to begins now all (drop i all) s left before steps i
      → (now ≡ visited step begins (between from to all)) × (before + length (between from to all) ≤ steps)
  all_walked {i} {now} past walk =
      let none : between from to (drop i all) ≡ [] = ap (between from to) (drop_all i all past) in
      (sym (ap (visited step now) none) ∙ walk.visited, omega (arith, ap length none, walk.counted))
