-- Samples skipped on the way to a late one, and the marks set after them.
use Rattle.std.proofs.Common.{◌≡◌, ℕ, ◌<◌, ◌≤◌, List, [], ◌∷◌, ◌++◌, length, take, sym, ap, ◌∙◌, subst, append_assoc, arith, length-append}
use Rattle.std.specs.Prelude.{nat_lt, nat_le, IfOk, Result, Ok, Err}
use Rattle.std.proofs.lemmas.List.{take_at, append_cancel_right}
use Rattle.ts_spec.specs.Sample.{Point, at_times}
use Rattle.ts_chunk_packed.specs.Marks.{MarkState, AreMarks}
use Rattle.ts_chunk_packed.specs.Packed.{State, begin, next, state_from}
use Rattle.ts_chunk_packed.specs.Decoder.{UndecodedList, IsUndecodedOf, IsUndecodedFrom, HasPassed, AreBefore}
use Rattle.ts_chunk_packed.proofs.Appending.{state-append}
use Rattle.ts_chunk_packed.proofs.Marking.{marks_on}
use Rattle.ts_chunk_packed.proofs.Starting.{all_before, rest_reach, rest_state}

-- ---- the samples before what is left

module _ (all : List Point) (r : UndecodedList) (of : IsUndecodedOf all r) (count : ℕ) (samples : count ≡ length of.front) where
  pub front_within : count ≤ length all
  front_within = omega (arith, samples, ap length of.whole, length-append of.front r.list)

  pub front_taken : take count all ≡ of.front
  front_taken = ap (take count) of.whole ∙ take_at of.front r.list count (sym samples)

-- which are the same, however they are found
pub same_front : (all : List Point) (r : UndecodedList) (of other : IsUndecodedOf all r) → of.front ≡ other.front
same_front all r of other = append_cancel_right of.front other.front r.list (sym of.whole ∙ other.whole)

-- one sample further
module _ (all : List Point) (r q : UndecodedList) {time : ℕ} (passed : HasPassed time r q) (of : IsUndecodedOf all r) where
  pub one_further : IsUndecodedOf all q
  one_further = record {
    front = of.front ++ passed.sample ∷ [];
    whole = of.whole ∙ ap (λ (l : List Point). of.front ++ l) passed.list ∙ sym (append_assoc of.front (passed.sample ∷ []) q.list);
    state = passed.state ∙ ap (λ (s : State). next s passed.sample) of.state ∙ sym (state-append begin of.front (passed.sample ∷ []));
  }

  pub marks_one : (ms : List MarkState) → AreMarks of.front ms → (other : IsUndecodedOf all q) → AreMarks other.front ms
  unfolding one_further
  marks_one ms are other = subst (λ (l : List Point). AreMarks l ms) (same_front all q one_further other) (marks_on of.front (passed.sample ∷ []) ms are)

-- what holds of a value because of what else does
pub if_ok : {X E : Type 0} {P Q : X → Type 0} (r : Result X E) → ((x : X) → P x → Q x) → IfOk r P → IfOk r Q
if_ok (Ok x) then p = then x p
if_ok (Err e) then p = tt

-- ---- on the way to a time

-- what is left goes on from samples before a time, and the marks stand past these
pub record OnTheWay (time : ℕ) (all : List Point) (left : UndecodedList) (ms : List MarkState) : Type 0 where
  pub from : IsUndecodedFrom time all left
  pub marks : AreMarks from.rest.front ms

before_on : (t : ℕ) (ps : List Point) (p : Point) → AreBefore t ps → p.time < t → AreBefore t (ps ++ p ∷ [])
before_on t [] p before early = (early, tt)
before_on t (q ∷ ps) p before early = (before.0, before_on t ps p before.1 early)

-- one sample further
module _ (time : ℕ) (all : List Point) (r q : UndecodedList) (passed : HasPassed time r q) (from : IsUndecodedFrom time all r) where
  pub further : IsUndecodedFrom time all q
  unfolding one_further
  further = record {
    rest = one_further all r q passed from.rest;
    before = before_on time from.rest.front passed.sample from.before passed.before;
  }

  pub marks_further : (ms : List MarkState) → AreMarks from.rest.front ms → AreMarks further.rest.front ms
  unfolding further one_further
  marks_further ms are = marks_on from.rest.front (passed.sample ∷ []) ms are

-- and where no more is before the time
module _ (time : ℕ) (all : List Point) (r q : UndecodedList) (from : IsUndecodedFrom time all r) where
  pub end_list : at_times (nat_le time) q.list ≡ at_times (nat_le time) r.list → at_times (nat_le time) q.list ≡ q.list → q.list ≡ at_times (nat_le time) all
  end_list same reach = sym reach ∙ same ∙ rest_reach time all r from

  pub end_state : state_from q.state (at_times (λ n. nat_lt n time) q.list) ≡ state_from r.state (at_times (λ n. nat_lt n time) r.list) → at_times (λ n. nat_lt n time) q.list ≡ []
      → q.state ≡ state_from begin (at_times (λ n. nat_lt n time) all)
  end_state same none = sym (ap (state_from q.state) none) ∙ same ∙ rest_state time all r from

  pub end_marks : (ms : List MarkState) → AreMarks from.rest.front ms → AreMarks (at_times (λ n. nat_lt n time) all) ms
  end_marks ms are =
      let early : List Point = at_times (λ n. nat_lt n time) r.list in
      let whole : at_times (λ n. nat_lt n time) all ≡ from.rest.front ++ early =
      ap (at_times (λ n. nat_lt n time)) from.rest.whole ∙ all_before time from.rest.front r.list from.before in
      subst (λ (l : List Point). AreMarks l ms) (sym whole) (marks_on from.rest.front early ms are)
