-- The samples after a mark, and queries on them.
use Rattle.std.proofs.Common.{◌≡◌, ℕ, ◌-◌, ◌<◌, ◌≤◌, true, false, List, [], ◌∷◌, ◌++◌, length, take, drop, refl, sym, ap, ◌∙◌, subst, append_assoc, arith, length-append}
use Rattle.std.specs.Prelude.{Option, None, Some, IfSome, IfNone, not, nat_lt, nat_le}
use Rattle.std.proofs.lemmas.Bool.Decides.{nat_tests}
use Rattle.std.proofs.lemmas.List.{take_all, take-append-drop, drop_at, length-drop}
use Rattle.std.proofs.lemmas.List.Filters.{length-filter_both}
use Rattle.ts_spec.specs.Sample.{Point, IsAscending, at_times, is_within, between}
use Rattle.ts_sample.specs.Chunk.{AreInBounds}
use Rattle.ts_sample.proofs.Lists.{ascending-left, ascending-right, past-before, fine-left, fine-right}
use Rattle.ts_chunk_packed.specs.Chunk.{Samples, IsMarked}
use Rattle.ts_chunk_packed.specs.Laws.{IsKnown}
use Rattle.ts_chunk_packed.specs.Marks.{MarkState, IsMark, AreMarks}
use Rattle.ts_chunk_packed.specs.Packed.{State, begin, next, packed_from, packed, state_from, samples_of}
use Rattle.ts_chunk_packed.specs.Reading.{StartsFrom}
use Rattle.ts_chunk_packed.specs.Decoder.{UndecodedList, IsUndecoded, IsUndecodedOf, IsUndecodedPast, IsUndecodedFrom, AreBefore, samples_from}
use Rattle.ts_chunk_packed.proofs.Appending.{packed-append, state-append}
use Rattle.ts_chunk_packed.proofs.Listing.{all_known, past_before}
use Rattle.ts_chunk_packed.proofs.Joining.{list_is, written_is, count_is, fine, rises}
use Rattle.ts_chunk_packed.proofs.Resting.{is_left, samples_are, all_are, all_left, parts_of}

-- ---- samples before a time

early_from : (s : State) (ps : List Point) (t : ℕ) → IsAscending ps → (state_from s ps).before.time < t → AreBefore t ps
early_from s [] t rises early = tt
early_from s (p ∷ []) t rises early = (early, tt)
early_from s (p ∷ q ∷ ps) t rises early =
    let rest = early_from (next s p) (q ∷ ps) t rises.1 early in
    (omega (arith, rises.0.0, rest.0), rest)

pub none_reach : (t : ℕ) (front rest : List Point) → AreBefore t front → at_times (nat_le t) (front ++ rest) ≡ at_times (nat_le t) rest
none_reach t [] rest before = refl
none_reach t (p ∷ front) rest before =
    let out : nat_le t p.time ≡ false = (let early : p.time < t = before.0 in grind (arith, nat_tests)) in
    rw out (none_reach t front rest before.1)

pub all_before : (t : ℕ) (front rest : List Point) → AreBefore t front → at_times (λ n. nat_lt n t) (front ++ rest) ≡ front ++ at_times (λ n. nat_lt n t) rest
all_before t [] rest before = refl
all_before t (p ∷ front) rest before =
    let here : nat_lt p.time t ≡ true = (let early : p.time < t = before.0 in grind (arith, nat_tests)) in
    rw here (ap (λ (l : List Point). p ∷ l) (all_before t front rest before.1))

pub none_between : (t to : ℕ) (front rest : List Point) → AreBefore t front → between t to (front ++ rest) ≡ between t to rest
none_between t to [] rest before = refl
none_between t to (p ∷ front) rest before =
    let out : is_within t to p.time ≡ false = (let early : p.time < t = before.0 in grind (arith, nat_tests)) in
    rw out (none_between t to front rest before.1)

-- ---- some passed

module _ (all : List Point) (r q : UndecodedList) (of : IsUndecodedOf all r) where
  pub some_passed : (passed : List Point) → passed ++ q.list ≡ r.list → q.state ≡ state_from r.state passed → IsUndecodedOf all q
  some_passed passed parts known = record {
    front = of.front ++ passed;
    whole = of.whole ∙ ap (λ (l : List Point). of.front ++ l) (sym parts) ∙ sym (append_assoc of.front passed q.list);
    state = known ∙ ap (λ (s : State). state_from s passed) of.state ∙ sym (state-append begin of.front passed);
  }

  rises_rest : IsAscending all → IsAscending r.list
  rises_rest rises = ascending-right of.front r.list (subst IsAscending of.whole rises)

  pub times_passed : (time : ℕ) → IsAscending all → q.list ≡ at_times (nat_le time) r.list → q.state ≡ state_from r.state (at_times (λ n. nat_lt n time) r.list) → IsUndecodedOf all q
  times_passed time rises list known =
      some_passed (at_times (λ n. nat_lt n time) r.list) (ap (λ (l : List Point). at_times (λ n. nat_lt n time) r.list ++ l) list ∙ parts_of time r.list (rises_rest rises)) known

  pub end_known : state_from begin all ≡ state_from r.state r.list
  end_known =
      ap (state_from begin) of.whole ∙ state-append begin of.front r.list ∙ ap (λ (s : State). state_from s r.list) (sym of.state)

  pub shorter : length r.list ≤ length all
  shorter = omega (arith, ap length of.whole, length-append of.front r.list)

-- with all before a time passed
abbrev pub rest_at : (time : ℕ) (all : List Point) → IsAscending all → (r : UndecodedList) → r.list ≡ at_times (nat_le time) all → r.state ≡ state_from begin (at_times (λ n. nat_lt n time) all) → IsUndecodedOf all r
rest_at time all rises r list known = record {
  front = at_times (λ n. nat_lt n time) all;
  whole = sym (ap (λ (l : List Point). at_times (λ n. nat_lt n time) all ++ l) list ∙ parts_of time all rises);
  state = known;
}

pub no_more : (time : ℕ) (ps : List Point) → length (at_times (nat_le time) ps) ≤ length ps
no_more time ps =
    omega (arith, length-filter_both (λ (p : Point). nat_le time p.time) (λ (p : Point). not (nat_le time p.time)) (λ p. refl) ps)

-- ---- from a mark on

module _ (all : List Point) (m : MarkState) (is : IsMark all m) (written : List ℕ) (many : ℕ) (bytes : written ≡ packed all) (count : many ≡ length all) (fine : AreInBounds all) (rises : IsAscending all) where
  abbrev front : List Point
  front = take m.count all

  abbrev back : List Point
  back = drop m.count all

  parts : front ++ back ≡ all
  parts = take-append-drop m.count all

  both : written ≡ packed front ++ packed_from m.state back
  both =
      bytes ∙ ap packed (sym parts) ∙ packed-append begin front back
      ∙ ap (λ (s : State). packed front ++ packed_from s back) (sym is.state)

  pub at_within : m.at ≤ length written
  at_within = omega (arith, is.bytes, ap length both, length-append (packed front) (packed_from m.state back))

  pub count_within : m.count ≤ many
  count_within = omega (arith, is.within, count)

  left_bytes : drop m.at written ≡ packed_from m.state back
  left_bytes = ap (drop m.at) both ∙ drop_at (packed front) (packed_from m.state back) m.at (sym is.bytes)

  left_count : many - m.count ≡ length back
  left_count = omega (arith, count, length-drop m.count all)

  starts : (ps : List Point) → IsAscending (front ++ ps) → StartsFrom (state_from begin front).before.time ps
  starts [] up = tt
  starts (p ∷ ps) up = past_before front p.time (past-before front p ps up)

  rises_both : IsAscending (front ++ back)
  rises_both = subst IsAscending (sym parts) rises

  fine_both : AreInBounds (front ++ back)
  fine_both = subst AreInBounds (sym parts) fine

  -- with what is known there, and the bytes from there on
  module _ (s : State) (left : List ℕ) (state : s ≡ m.state) (left_is : left ≡ drop m.at written) where
    there : s ≡ state_from begin front
    there = state ∙ is.state

    left_are : left ≡ packed_from s back
    left_are = left_is ∙ left_bytes ∙ ap (λ (x : State). packed_from x back) (sym state)

    pub left_of : IsUndecoded s (many - m.count) left
    left_of =
        is_left s (many - m.count) left back left_count left_are
        (subst IsKnown (sym there) (all_known front (fine-left front back fine_both) (ascending-left front back rises_both)))
        (fine-right front back fine_both)
        (ascending-right front back rises_both)
        (subst (λ (x : State). StartsFrom x.before.time back) (sym there) (starts back rises_both))

    pub rest_past : (r : UndecodedList) → r.state ≡ s → r.list ≡ samples_from s (many - m.count) left → IsUndecodedPast m.count all r
    rest_past r known list = record { within = is.within; list = list ∙ samples_are s (many - m.count) left back left_count left_are; state = known ∙ there }

-- what stands past some of the samples is the rest of them
module _ (all : List Point) (n : ℕ) (r : UndecodedList) (past : IsUndecodedPast n all r) where
  abbrev pub rest_of : IsUndecodedOf all r
  rest_of = record {
    front = take n all;
    whole = sym (take-append-drop n all) ∙ ap (λ (l : List Point). take n all ++ l) (sym past.list);
    state = past.state;
  }

  pub rest_from : (time : ℕ) → IsAscending all → (state_from begin (take n all)).before.time < time → IsUndecodedFrom time all r
  rest_from time up early = record {
    rest = rest_of;
    before = early_from begin (take n all) time (ascending-left (take n all) (drop n all) (subst IsAscending (sym (take-append-drop n all)) up)) early;
  }

-- what holds anyhow holds where there is no mark
pub where_none : {X : Type 0} {P : Type 0} (o : Option X) → P → IfNone o P
where_none None p = p
where_none (Some x) p = tt

-- from a mark on, or from the first sample on
pub rest_either : {X : Type 0} (mark : X → MarkState) (time : ℕ) (all : List Point) (r : UndecodedList) → IsAscending all → (o : Option X)
    → IfSome o (λ x. IsMark all (mark x)) → IfSome o (λ x. (mark x).state.before.time < time) → IfNone o (IsUndecodedPast 0 all r) → IfSome o (λ x. IsUndecodedPast (mark x).count all r) → IsUndecodedFrom time all r
rest_either mark time all r up None is early none past = record { rest = rest_of all 0 r none; before = tt }
rest_either mark time all r up (Some x) is early none past =
    rest_from all (mark x).count r past time up (subst (λ (s : State). s.before.time < time) is.state early)

-- the same of a chunk's fields
module _ {limit capacity : ℕ} {written : List ℕ} {many far : ℕ} {begins ends : Option Point} {places : List MarkState} (was : IsMarked limit capacity written many far begins ends places)
    {now : Samples} (is : (record { limit = limit; list = samples_of many written }) ≡ now) where
  list_here : samples_of many written ≡ now.list
  list_here = list_is was.packed is

  pub list_rises : IsAscending now.list
  list_rises = rises was.packed is

  pub marks_are : AreMarks now.list places
  marks_are = subst (λ (l : List Point). AreMarks l places) list_here was.marks

  module _ (m : MarkState) (mark : IsMark now.list m) where
    bytes_here : written ≡ packed now.list
    bytes_here = written_is was.packed is

    count_here : many ≡ length now.list
    count_here = count_is was.packed is

    fine_here : AreInBounds now.list
    fine_here = fine was.packed is

    rises_here : IsAscending now.list
    rises_here = rises was.packed is

    pub mark_count : m.count ≤ many
    mark_count = count_within now.list m mark written many bytes_here count_here fine_here rises_here

    module _ (all : List ℕ) (all_are : all ≡ written) (at : ℕ) (at_is : at ≡ m.at) where
      pub mark_at : at ≤ length all
      mark_at = omega (arith, at_within now.list m mark written many bytes_here count_here fine_here rises_here, at_is, ap length all_are)

      slice : take (length all - at) (drop at all) ≡ drop m.at written
      slice = take_all (length all - at) (drop at all) (omega (arith, length-drop at all)) ∙ (λ i. drop (at_is i) (all_are i))

      module _ (count : ℕ) (count_same : count ≡ m.count) (s : State) (state : s ≡ m.state) where
        pub mark_left : IsUndecoded s (many - count) (take (length all - at) (drop at all))
        mark_left =
            subst (λ (n : ℕ). IsUndecoded s (many - n) (take (length all - at) (drop at all))) (sym count_same)
            (left_of now.list m mark written many bytes_here count_here fine_here rises_here s (take (length all - at) (drop at all)) state slice)

        pub mark_rest : (r : UndecodedList) → r.state ≡ s → r.list ≡ samples_from s (many - count) (take (length all - at) (drop at all)) → IsUndecodedPast m.count now.list r
        mark_rest r known list =
            rest_past now.list m mark written many bytes_here count_here fine_here rises_here s (take (length all - at) (drop at all)) state slice r known
            (list ∙ ap (λ (n : ℕ). samples_from s (many - n) (take (length all - at) (drop at all))) count_same)

  -- and of all its samples
  module _ (s : State) (first : s ≡ begin) (all : List ℕ) (all_bytes : all ≡ written) where
    pub first_left : IsUndecoded s many all
    first_left =
        subst (λ (l : List ℕ). IsUndecoded s many l) (sym all_bytes) (all_left s many written first was.packed.bytes was.packed.chunk.ascending was.packed.chunk.fine)

    pub first_rest : (r : UndecodedList) → r.state ≡ s → r.list ≡ samples_from s many all → IsUndecodedPast 0 now.list r
    first_rest r known list = record {
      within = omega arith;
      list = list ∙ (λ i. samples_from (first i) many (all_bytes i)) ∙ all_are many written ∙ list_here;
      state = known ∙ first;
    }

-- ---- what is asked of them

module _ (time : ℕ) (all : List Point) (r : UndecodedList) (from : IsUndecodedFrom time all r) where
  pub rest_reach : at_times (nat_le time) r.list ≡ at_times (nat_le time) all
  rest_reach = sym (ap (at_times (nat_le time)) from.rest.whole ∙ none_reach time from.rest.front r.list from.before)

  pub rest_state : state_from r.state (at_times (λ n. nat_lt n time) r.list) ≡ state_from begin (at_times (λ n. nat_lt n time) all)
  rest_state =
      let early : List Point = at_times (λ n. nat_lt n time) r.list in
      ap (λ (s : State). state_from s early) from.rest.state ∙ sym (state-append begin from.rest.front early)
      ∙ sym (ap (λ (l : List Point). state_from begin (at_times (λ n. nat_lt n time) l)) from.rest.whole ∙ ap (state_from begin) (all_before time from.rest.front r.list from.before))

  pub rest_between : (to : ℕ) → between time to r.list ≡ between time to all
  rest_between to = sym (ap (between time to) from.rest.whole ∙ none_between time to from.rest.front r.list from.before)
