-- Appending a sample.
use Rattle.std.proofs.Common.{◌≡◌, ℕ, ◌+◌, ◌*◌, ◌-◌, ◌≤◌, true, pos, List, [], ◌∷◌, ◌++◌, length, refl, sym, ap, ◌∙◌, subst, arith, length-append}
use Rattle.std.specs.Prelude.{Option, None, Some, nat_le, unwrap_or, is_some}
use Rattle.std.proofs.lemmas.Bool.Decides.{nat_tests}
use Rattle.std.proofs.lemmas.Int.{ints}
use Rattle.ts_spec.specs.Sample.{Point, MAX_TIME, first_of, last_of}
use Rattle.ts_sample.specs.Sample.{IsInBounds}
use Rattle.ts_sample.specs.Chunk.{IsChunk, IsLimit, IsPast}
use Rattle.ts_sample.proofs.Lists.{fine-append, ascending-push, last-push}
use Rattle.ts_chunk_packed.specs.Chunk.{Samples, IsPacked}
use Rattle.ts_chunk_packed.specs.Laws.{IsKnown, most_coded, three_or_more}
use Rattle.ts_chunk_packed.specs.Packed.{State, begin, next, coded, packed, state_from, samples_of, decoded}
use Rattle.ts_chunk_packed.proofs.Listing.{samples_back, state_is, past_before, all_known, packed-push, state-push}

pub first-push : (begins : Option Point) (ps : List Point) (p : Point) → begins ≡ first_of ps → Some (unwrap_or begins p) ≡ first_of (ps ++ p ∷ [])
first-push begins [] p is = ap (λ (o : Option Point). Some (unwrap_or o p)) is
first-push begins (r ∷ ps) p is = ap (λ (o : Option Point). Some (unwrap_or o p)) is

-- no bytes are a chunk without samples
pub empty : (limit capacity : ℕ) (written : List ℕ) → written ≡ [] → IsLimit limit → limit ≤ capacity → IsPacked limit capacity written 0 0 None None
unfolding samples_of decoded
empty limit capacity written none bounds room = record {
  chunk = record { bounds = bounds; ascending = tt; fine = tt; fits = omega arith };
  room = room;
  bytes = none;
  count = refl;
  step = refl;
  first = refl;
  last = refl;
}

pub no_samples : (written : List ℕ) → samples_of 0 written ≡ []
unfolding samples_of decoded
no_samples written = refl

-- what a chunk knows of its samples
module _ {limit capacity : ℕ} {written : List ℕ} {count step : ℕ} {begins ends : Option Point} (was : IsPacked limit capacity written count step begins ends) where
  abbrev pub list : List Point
  list = samples_of count written

  pub known : IsKnown (state_from begin list)
  known = all_known list was.chunk.fine was.chunk.ascending

  pub step_within : step ≤ MAX_TIME
  step_within = omega (arith, ints, was.step, known.to)

  pub state : {now : Samples} → (record { limit = limit; list = list }) ≡ now
      → (record { before = unwrap_or ends begin.before; step = pos step; begun = is_some ends }) ≡ state_from begin now.list
  state {now} is =
      (λ i. record { before = unwrap_or (was.last i) begin.before; step = was.step i; begun = is_some (was.last i) }) ∙ state_is list ∙ ap (λ (x : Samples). state_from begin x.list) is

  pub first_is : {now : Samples} → (record { limit = limit; list = list }) ≡ now → begins ≡ first_of now.list
  first_is {now} is = was.first ∙ ap (λ (x : Samples). first_of x.list) is

  -- the bytes with one sample more
  pub with_more : (p : Point) → written ++ coded (state_from begin list) p ≡ packed (list ++ p ∷ [])
  with_more p = ap (λ (l : List ℕ). l ++ coded (state_from begin list) p) was.bytes ∙ sym (packed-push begin list p)

  pub length_more : (p : Point) → length written + length (coded (state_from begin list) p) ≡ length (packed (list ++ p ∷ []))
  length_more p = omega (arith, ap length (with_more p), length-append written (coded (state_from begin list) p))

  pub written_within : length written ≤ limit
  written_within = omega (arith, was.chunk.fits, ap length was.bytes)

  pub few : 3 * count ≤ limit
  few = omega (arith, three_or_more list, was.chunk.fits, was.count)

  -- where there is room for the widest sample, any fits
  pub surely_fits : {now : Samples} → (record { limit = limit; list = list }) ≡ now → (p : Point) → IsInBounds p → IsPast (last_of now.list) p.time → 27 + length written ≤ limit
      → true ≡ nat_le (length (packed (now.list ++ p ∷ []))) now.limit
  surely_fits {now} is p fine past room =
      let here : IsPast (last_of list) p.time = subst (λ (x : Samples). IsPast (last_of x.list) p.time) (sym is) past in
      let wide : length (packed (list ++ p ∷ [])) ≤ limit = omega (arith, length_more p, most_coded (state_from begin list) p known fine (past_before list p.time here)) in
      let test : true ≡ nat_le (length (packed (list ++ p ∷ []))) limit = grind (arith, nat_tests) in
      test ∙ ap (λ (x : Samples). nat_le (length (packed (x.list ++ p ∷ []))) x.limit) is

  -- where its bytes fit beside those that there are, it fits
  pub fits_more : {now : Samples} → (record { limit = limit; list = list }) ≡ now → (p : Point) (width : ℕ) → width ≡ length (coded (state_from begin now.list) p)
      → nat_le width (limit - length written) ≡ nat_le (length (packed (now.list ++ p ∷ []))) now.limit
  fits_more {now} is p width exact =
      let same : width ≡ length (coded (state_from begin list) p) = exact ∙ ap (λ (x : Samples). length (coded (state_from begin x.list) p)) (sym is) in
      let test : nat_le width (limit - length written) ≡ nat_le (length (packed (list ++ p ∷ []))) limit = grind (arith, nat_tests, length_more p, written_within) in
      test ∙ ap (λ (x : Samples). nat_le (length (packed (x.list ++ p ∷ []))) x.limit) is

  pub later : {now : Samples} → (record { limit = limit; list = list }) ≡ now → (t : ℕ) → IsPast (last_of now.list) t → (state_from begin now.list).before.time ≤ t
  later {now} is t past = past_before now.list t past

  -- what is said of the view, said of the fields
  module _ {now : Samples} (is : (record { limit = limit; list = list }) ≡ now) where
    pub state_here : (s : State) → s ≡ state_from begin now.list → s ≡ state_from begin list
    state_here s same = same ∙ ap (λ (x : Samples). state_from begin x.list) (sym is)

    pub past_here : (t : ℕ) → IsPast (last_of now.list) t → IsPast (last_of list) t
    past_here t past = subst (λ (x : Samples). IsPast (last_of x.list) t) (sym is) past

    pub fits_here : (p : Point) → nat_le (length (packed (now.list ++ p ∷ []))) now.limit ≡ true → length (packed (list ++ p ∷ [])) ≤ limit
    fits_here p fits =
        let test : nat_le (length (packed (list ++ p ∷ []))) limit ≡ true = ap (λ (x : Samples). nat_le (length (packed (x.list ++ p ∷ []))) x.limit) is ∙ fits in
        grind (arith, nat_tests)

  -- its bytes past the others make a chunk of the samples and this one
  module _ (p : Point) (fine : IsInBounds p) (past : IsPast (last_of list) p.time) (fits : length (packed (list ++ p ∷ [])) ≤ limit) where
    long : length (list ++ p ∷ []) ≡ count + 1
    long = omega (arith, length-append list (p ∷ []), was.count)

    pub list-pushed : samples_of (count + 1) (written ++ coded (state_from begin list) p) ≡ list ++ p ∷ []
    list-pushed =
        ap (samples_of (count + 1)) (with_more p) ∙ ap (λ (n : ℕ). samples_of n (packed (list ++ p ∷ []))) (sym long) ∙ samples_back (list ++ p ∷ [])

    pub packed-pushed : (grown : ℕ) (after : List ℕ) (far : ℕ) (head : Option Point) → capacity ≤ grown → after ≡ written ++ coded (state_from begin list) p
        → pos far ≡ (next (state_from begin list) p).step → head ≡ Some (unwrap_or begins p) → IsPacked limit grown after (count + 1) far head (Some p)
    packed-pushed grown after far head more is step_is head_is =
        let all : samples_of (count + 1) after ≡ list ++ p ∷ [] = ap (samples_of (count + 1)) is ∙ list-pushed in
        let chunk : IsChunk packed limit (list ++ p ∷ []) =
        record { bounds = was.chunk.bounds; ascending = ascending-push list p was.chunk.ascending past; fine = fine-append list (p ∷ []) was.chunk.fine (fine, tt); fits = fits } in
        record {
          chunk = subst (IsChunk packed limit) (sym all) chunk;
          room = omega (arith, was.room);
          bytes = is ∙ with_more p ∙ ap packed (sym all);
          count = sym long ∙ ap length (sym all);
          step = step_is ∙ ap (λ (x : State). x.step) (sym (state-push begin list p)) ∙ ap (λ (l : List Point). (state_from begin l).step) (sym all);
          first = head_is ∙ first-push begins list p was.first ∙ ap first_of (sym all);
          last = sym (last-push list p) ∙ ap last_of (sym all);
        }
