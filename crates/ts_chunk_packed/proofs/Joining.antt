-- Parts of a chunk's samples, and of its bytes.
use Rattle.std.proofs.Common.{◌≡◌, ℕ, ◌+◌, ◌-◌, ◌*◌, ◌<◌, ◌≤◌, true, false, pos, if◌then◌else◌, ◌&&◌, ◌==◌, List, [], ◌∷◌, ◌++◌, length, take, drop, refl, sym, ap, ◌∙◌, subst, append_assoc, append-nil, arith, length-append}
use Rattle.std.specs.Prelude.{Option, None, Some, nat_lt, nat_le, unwrap_or, is_some}
use Rattle.std.proofs.lemmas.Bool.Decides.{nat_tests}
use Rattle.std.proofs.lemmas.List.{take_at, take-append-drop}
use Rattle.ts_spec.specs.Sample.{Point, IsAscending, at_times, first_of, last_of, put}
use Rattle.ts_spec.proofs.Samples.{ascending-put}
use Rattle.ts_sample.proofs.Between.{filter-filter}
use Rattle.ts_sample.proofs.Parted.{filter_alike}
use Rattle.ts_sample.specs.Chunk.{AreInBounds, IsChunk, IsPast}
use Rattle.ts_sample.proofs.Lists.{fine-append, ascending-left, past-before, fine-left}
use Rattle.ts_sample.proofs.Fitting.{grows-on}
use Rattle.ts_chunk_packed.specs.Chunk.{Samples, IsPacked}
use Rattle.ts_chunk_packed.specs.Laws.{three_each, three_or_more, no_fewer}
use Rattle.ts_chunk_packed.specs.Packed.{State, begin, packed_from, packed, state_from, samples_of}
use Rattle.ts_chunk_packed.specs.Decoder.{UndecodedList, IsUndecodedOf}
use Rattle.ts_chunk_packed.proofs.Appending.{packed-append, state-append, first-front, first-both}
use Rattle.ts_chunk_packed.proofs.Listing.{samples_back, state_is}
use Rattle.ts_chunk_packed.proofs.Pushing.{written_within}

-- ---- what is known after samples

kept : (o : Option Point) (p : Point) → (if is_some o then Some (unwrap_or o p) else None) ≡ o
kept None p = refl
kept (Some q) p = refl

pub last-known : (ps : List Point) → (if (state_from begin ps).begun then Some (state_from begin ps).before else None) ≡ last_of ps
last-known ps = ap (λ (s : State). if s.begun then Some s.before else None) (sym (state_is ps)) ∙ kept (last_of ps) begin.before

-- after two samples the same is known, whatever was known before
two_alike : (s t : State) (p q : Point) → state_from s (p ∷ q ∷ []) ≡ state_from t (p ∷ q ∷ [])
two_alike s t p q = refl

pub alike : (ps qs : List Point) (s : State) → 0 < length (drop 2 qs) → state_from begin (ps ++ take 2 qs) ≡ state_from s (take 2 qs)
alike ps [] s some = absurd (omega arith)
alike ps (p ∷ []) s some = absurd (omega arith)
alike ps (p ∷ q ∷ qs) s some = state-append begin ps (p ∷ q ∷ []) ∙ two_alike (state_from begin ps) s p q

-- no bytes are no samples
pub no_bytes : (s : State) (ps : List Point) (bytes : List ℕ) → bytes ≡ packed_from s ps → length bytes ≡ 0 → ps ≡ []
no_bytes s [] bytes are none = refl
no_bytes s (p ∷ ps) bytes are none = absurd (omega (arith, three_each s (p ∷ ps), ap length are))

-- where a list with the first of others is too long, it is with all of them
pub longer : (ps qs : List Point) (n limit : ℕ) → false ≡ nat_le (length (packed (ps ++ take n qs))) limit → false ≡ nat_le (length (packed (ps ++ qs))) limit
longer ps qs n limit more =
    let same : length (packed ((ps ++ take n qs) ++ drop n qs)) ≡ length (packed (ps ++ qs)) =
    ap (λ (l : List Point). length (packed l)) (append_assoc ps (take n qs) (drop n qs) ∙ ap (λ (l : List Point). ps ++ l) (take-append-drop n qs)) in
    grind (arith, nat_tests, grows-on packed no_fewer (ps ++ take n qs) (drop n qs))

-- What holds once the first so many of other samples have been taken over: they stand past those that there were, and
-- the others are left.
pub record Taken (limit : ℕ) (ps qs : List Point) (s : State) (count now_limit : ℕ) (now left : List Point) (known : State) : Type 0 where
  pub list : now ≡ ps ++ take count qs
  pub rest : left ≡ drop count qs
  pub state : known ≡ state_from s (take count qs)
  pub same : now_limit ≡ limit

module _ {limit : ℕ} {ps qs : List Point} {s : State} where
  module _ {count now_limit : ℕ} {now left : List Point} {known : State} (taken : Taken limit ps qs s count now_limit now left known) where
    pub all_of : now ++ left ≡ ps ++ qs
    all_of =
        (λ i. taken.list i ++ taken.rest i) ∙ append_assoc ps (take count qs) (drop count qs) ∙ ap (λ (l : List Point). ps ++ l) (take-append-drop count qs)

    pub longer_still : false ≡ nat_le (length (packed (now ++ take 1 left))) now_limit → false ≡ nat_le (length (packed (ps ++ qs))) limit
    longer_still more = longer now left 1 now_limit more ∙ (λ i. nat_le (length (packed (all_of i))) (taken.same i))

  -- after two the same is known
  pub known_alike : {count now_limit : ℕ} {now left : List Point} {known : State} → Taken limit ps qs s count now_limit now left known → count ≡ 2 → 0 < length left
      → state_from begin now ≡ known
  known_alike {left = left} taken two some =
      ap (state_from begin) (taken.list ∙ ap (λ (n : ℕ). ps ++ take n qs) two) ∙ alike ps qs s (omega (arith, ap length (taken.rest ∙ ap (λ (n : ℕ). drop n qs) two)))
      ∙ sym (taken.state ∙ ap (λ (n : ℕ). state_from s (take n qs)) two)

-- ---- the next sample

pub past-next : (ps qs : List Point) (q : Point) → Some q ≡ first_of qs → IsAscending (ps ++ qs) → IsPast (last_of ps) q.time
past-next ps [] q is rises = absurd (cc)
past-next ps (r ∷ qs) q is rises = let same : q ≡ r = cc in subst (λ (p : Point). IsPast (last_of ps) p.time) (sym same) (past-before ps r qs rises)

-- ---- a sample at its time

past_it : (t : ℕ) (ps : List Point) → at_times (nat_le (t + 1)) (at_times (nat_le t) ps) ≡ at_times (nat_lt t) ps
past_it t ps =
    filter-filter (λ (p : Point). nat_le (t + 1) p.time) (λ (p : Point). nat_le t p.time) ps
    ∙ filter_alike (λ (p : Point). nat_le t p.time && nat_le (t + 1) p.time) (λ (p : Point). nat_lt t p.time) (λ p. both_are t p.time) ps
  where
    both_are : (t n : ℕ) → (nat_le t n && nat_le (t + 1) n) ≡ nat_lt t n
    both_are t n = grind (arith, nat_tests)

-- what is before the time of a sample, and what isn't
module _ (p : Point) (all : List Point) (rises : IsAscending all) {t : ℕ} (time : t ≡ p.time) {front back : List Point} (front_is : front ≡ at_times (λ n. nat_lt n t) all)
    (back_is : back ≡ at_times (nat_le t) all) where
  front_then : front ≡ at_times (λ n. nat_lt n p.time) all
  front_then = front_is ∙ ap (λ m. at_times (λ n. nat_lt n m) all) time

  put_is : (front ++ p ∷ []) ++ at_times (nat_lt p.time) all ≡ put p all
  put_is = append_assoc front (p ∷ []) (at_times (nat_lt p.time) all) ∙ ap (λ (l : List Point). l ++ p ∷ at_times (nat_lt p.time) all) front_then

  pub past_front : IsPast (last_of front) p.time
  past_front =
      subst (λ (l : List Point). IsPast (last_of l) p.time) (sym front_then)
      (past-before (at_times (λ n. nat_lt n p.time) all) p (at_times (nat_lt p.time) all) (ascending-put p all rises))

  pub front_too_long : (limit most : ℕ) → limit ≡ most → false ≡ nat_le (length (packed (front ++ p ∷ []))) limit → most < length (packed (put p all))
  front_too_long limit most same more =
      let long : length (packed (front ++ p ∷ [])) ≤ length (packed (put p all)) =
      subst (λ (l : List Point). length (packed (front ++ p ∷ [])) ≤ length (packed l)) put_is (grows-on packed no_fewer (front ++ p ∷ []) (at_times (nat_lt p.time) all)) in
      grind (arith, nat_tests)

  -- with the sample, and past it
  module _ {with_it others : List Point} (with_is : with_it ≡ front ++ p ∷ []) (others_are : others ≡ at_times (nat_le (t + 1)) back) where
    others_then : others ≡ at_times (nat_lt p.time) all
    others_then = others_are ∙ ap (at_times (nat_le (t + 1))) back_is ∙ past_it t all ∙ ap (λ n. at_times (nat_lt n) all) time

    pub all_put : with_it ++ others ≡ put p all
    all_put = (λ i. with_is i ++ others_then i) ∙ put_is

    pub rises_all : IsAscending (with_it ++ others)
    rises_all = subst IsAscending (sym all_put) (ascending-put p all rises)

    pub all_too_long : (limit most : ℕ) → limit ≡ most → false ≡ nat_le (length (packed (with_it ++ others))) limit → most < length (packed (put p all))
    all_too_long limit most same more =
        let long : length (packed (with_it ++ others)) ≡ length (packed (put p all)) = ap (λ (l : List Point). length (packed l)) all_put in
        grind (arith, nat_tests)

-- ---- the samples before a time, in a chunk of their own

module _ {limit capacity : ℕ} {written : List ℕ} {count step : ℕ} {begins ends : Option Point} (was : IsPacked limit capacity written count step begins ends) {now : Samples}
    (is : (record { limit = limit; list = samples_of count written }) ≡ now) where
  pub list_is : samples_of count written ≡ now.list
  list_is = ap (λ (x : Samples). x.list) is

  pub written_is : written ≡ packed now.list
  written_is = was.bytes ∙ ap packed list_is

  pub count_is : count ≡ length now.list
  count_is = was.count ∙ ap length list_is

  pub rises : IsAscending now.list
  rises = subst IsAscending list_is was.chunk.ascending

  pub fine : AreInBounds now.list
  fine = subst AreInBounds list_is was.chunk.fine

  -- the bytes of the rest, which is known after the samples before it
  module _ {r : UndecodedList} (of : IsUndecodedOf now.list r) {bytes : List ℕ} (bytes_are : bytes ≡ packed_from r.state r.list) where
    both : written ≡ packed of.front ++ bytes
    both =
        written_is ∙ ap packed of.whole ∙ packed-append begin of.front r.list
        ∙ ap (λ (l : List ℕ). packed of.front ++ l) (sym (bytes_are ∙ ap (λ (s : State). packed_from s r.list) of.state))

    pub bytes_within : length bytes ≤ length written
    bytes_within = omega (arith, ap length both, length-append (packed of.front) bytes)

    pub count_within : length r.list ≤ count
    count_within = omega (arith, count_is, ap length of.whole, length-append of.front r.list)

    front_bytes : take (length written - length bytes) written ≡ packed of.front
    front_bytes =
        ap (take (length written - length bytes)) both
        ∙ take_at (packed of.front) bytes (length written - length bytes) (omega (arith, ap length both, length-append (packed of.front) bytes))

    pub front_length : length written - length bytes ≡ length (packed of.front)
    front_length = omega (arith, ap length both, length-append (packed of.front) bytes)

    pub front_count : count - length r.list ≡ length of.front
    front_count = omega (arith, count_is, ap length of.whole, length-append of.front r.list)

    pub front_list : {taken : List ℕ} → taken ≡ take (length written - length bytes) written → samples_of (count - length r.list) taken ≡ of.front
    front_list is = (λ i. samples_of (front_count i) ((is ∙ front_bytes) i)) ∙ samples_back of.front

    pub front_chunk : {room : ℕ} {taken : List ℕ} {far : ℕ} {head last : Option Point} → limit ≤ room → taken ≡ take (length written - length bytes) written → pos far ≡ r.state.step
        → head ≡ (if count - length r.list == 0 then None else begins) → last ≡ (if r.state.begun then Some r.state.before else None)
        → IsPacked limit room taken (count - length r.list) far head last
    front_chunk {room} {taken} {far} {head} {last} enough is step_is head_is last_is =
        let all : samples_of (count - length r.list) taken ≡ of.front = front_list is in
        let chunk : IsChunk packed limit of.front =
        record {
          bounds = was.chunk.bounds;
          ascending = ascending-left of.front r.list (subst IsAscending of.whole rises);
          fine = fine-left of.front r.list (subst AreInBounds of.whole fine);
          fits = omega (arith, written_within was, ap length both, length-append (packed of.front) bytes);
        } in
        let last_front : last ≡ last_of of.front = last_is ∙ ap (λ (t : State). if t.begun then Some t.before else None) of.state ∙ last-known of.front in
        let first_all : begins ≡ first_of (of.front ++ r.list) = was.first ∙ ap first_of (list_is ∙ of.whole) in
        record {
          chunk = subst (IsChunk packed limit) (sym all) chunk;
          room = enough;
          bytes = is ∙ front_bytes ∙ ap packed (sym all);
          count = front_count ∙ ap length (sym all);
          step = step_is ∙ ap (λ (t : State). t.step) of.state ∙ ap (λ (l : List Point). (state_from begin l).step) (sym all);
          first = head_is ∙ first-front begins (count - length r.list) of.front r.list (front_count) first_all ∙ ap first_of (sym all);
          last = last_front ∙ ap last_of (sym all);
        }

  -- samples past the others, as they are coded after them
  module _ (some : 0 < length now.list) (r : UndecodedList) {bytes : List ℕ} (ascending : IsAscending (now.list ++ r.list)) (left_fine : AreInBounds r.list)
      (bytes_are : bytes ≡ packed_from r.state r.list) where
    -- none
    pub same_list : length bytes ≡ 0 → now.list ≡ now.list ++ r.list
    same_list none = sym (ap (λ (l : List Point). now.list ++ l) (no_bytes r.state r.list bytes bytes_are none) ∙ append-nil now.list)

    pub same_fits : length bytes ≡ 0 → true ≡ nat_le (length (packed (now.list ++ r.list))) now.limit
    same_fits none =
        let here : true ≡ nat_le (length written) limit = grind (arith, nat_tests, written_within was) in
        here ∙ (λ i. nat_le (length ((written_is ∙ ap packed (same_list none)) i)) (ap (λ (x : Samples). x.limit) is i))

    -- or any
    module _ (known : 0 < length r.list → state_from begin now.list ≡ r.state) (any : 0 < length bytes) where
      pub some_left : 0 < length r.list
      some_left = go r.list refl
        where
          go : (ps : List Point) → r.list ≡ ps → 0 < length r.list
          go [] e = absurd (omega (arith, ap length bytes_are, ap (λ (l : List Point). length (packed_from r.state l)) e))
          go (p ∷ ps) e = omega (arith, ap length e)

      pub joined : written ++ bytes ≡ packed (now.list ++ r.list)
      joined =
          (λ i. written_is i ++ (bytes_are ∙ ap (λ (t : State). packed_from t r.list) (sym (known some_left))) i) ∙ sym (packed-append begin now.list r.list)

      joined_long : length written + length bytes ≡ length (packed (now.list ++ r.list))
      joined_long = omega (arith, ap length joined, length-append written bytes)

      pub does_not_fit : limit < length written + length bytes → false ≡ nat_le (length (packed (now.list ++ r.list))) now.limit
      does_not_fit more =
          let test : false ≡ nat_le (length (packed (now.list ++ r.list))) limit = grind (arith, nat_tests, joined_long) in
          test ∙ ap (λ (x : Samples). nat_le (length (packed (now.list ++ r.list))) x.limit) is

      pub does_fit : length written + length bytes ≤ limit → true ≡ nat_le (length (packed (now.list ++ r.list))) now.limit
      does_fit fits =
          let test : true ≡ nat_le (length (packed (now.list ++ r.list))) limit = grind (arith, nat_tests, joined_long) in
          test ∙ ap (λ (x : Samples). nat_le (length (packed (now.list ++ r.list))) x.limit) is

      pub few_more : length written + length bytes ≤ limit → 3 * (count + length r.list) ≤ 1048576
      few_more fits =
          omega (arith, three_or_more (now.list ++ r.list), length-append now.list r.list, joined_long, count_is, was.chunk.bounds.greatest)

      both_count : (many : ℕ) → many ≡ length r.list → count + many ≡ length (now.list ++ r.list)
      both_count many is = omega (arith, count_is, length-append now.list r.list)

      pub joined_list : (many : ℕ) (after : List ℕ) → many ≡ length r.list → after ≡ written ++ bytes → samples_of (count + many) after ≡ now.list ++ r.list
      joined_list many after many_is is = (λ i. samples_of (both_count many many_is i) ((is ∙ joined) i)) ∙ samples_back (now.list ++ r.list)

      pub joined_chunk : (room : ℕ) (after : List ℕ) (many far : ℕ) (last : Option Point) (end : State) → capacity ≤ room → after ≡ written ++ bytes → many ≡ length r.list
          → end ≡ state_from r.state r.list → pos far ≡ end.step → last ≡ (if end.begun then Some end.before else None) → length written + length bytes ≤ limit
          → IsPacked limit room after (count + many) far begins last
      joined_chunk room after many far last end more is many_is end_is step_is last_is fits =
          let all : samples_of (count + many) after ≡ now.list ++ r.list = joined_list many after many_is is in
          let state : end ≡ state_from begin (now.list ++ r.list) =
          end_is ∙ ap (λ (t : State). state_from t r.list) (sym (known some_left)) ∙ sym (state-append begin now.list r.list) in
          let chunk : IsChunk packed limit (now.list ++ r.list) =
          record { bounds = was.chunk.bounds; ascending = ascending; fine = fine-append now.list r.list fine left_fine; fits = omega (arith, joined_long) } in
          record {
            chunk = subst (IsChunk packed limit) (sym all) chunk;
            room = omega (arith, was.room);
            bytes = is ∙ joined ∙ ap packed (sym all);
            count = both_count many many_is ∙ ap length (sym all);
            step = step_is ∙ ap (λ (t : State). t.step) state ∙ ap (λ (l : List Point). (state_from begin l).step) (sym all);
            first = was.first ∙ ap first_of list_is ∙ first-both now.list r.list some ∙ ap first_of (sym all);
            last = last_is ∙ ap (λ (t : State). if t.begun then Some t.before else None) state ∙ last-known (now.list ++ r.list) ∙ ap last_of (sym all);
          }
