-- Positions in a chunk, and the samples after them.
use Rattle.std.proofs.Common.{Bor, ◌≡◌, ℕ, ◌+◌, false, List, [], ◌∷◌, ◌++◌, length, take, drop, refl, sym, ap, ◌∙◌, subst, arith, length-append}
use Rattle.std.specs.Prelude.{Option, None, Some, IfSome, IfNone}
use Rattle.std.specs.Option.{option_copied}
use Rattle.std.proofs.lemmas.Bool.{false≢true}
use Rattle.std.proofs.lemmas.List.{drop_at, take-append-drop, length-drop}
use Rattle.ts_spec.specs.Sample.{Point}
use Rattle.ts_chunk_packed.specs.Marks.{MarkState, IsMark, IsPlace, EndsAt, passed}
use Rattle.ts_chunk_packed.specs.Packed.{State, begin, state_from}
use Rattle.ts_chunk_packed.specs.Decoder.{UndecodedList, IsUndecodedOf, IsUndecodedPast}
use Rattle.ts_chunk_packed.proofs.Listing.{begun_of}
use Rattle.ts_chunk_packed.proofs.Marking.{mark_on, mark_at_end}
use Rattle.ts_chunk_packed.proofs.Starting.{some_passed, rest_of}

-- where nothing is known, there are no samples before
none_yet : (ps : List Point) → (state_from begin ps).begun ≡ false → ps ≡ []
none_yet [] is = refl
none_yet (p ∷ ps) is = absurd (false≢true (sym is ∙ begun_of begin p ps))

module _ (all : List Point) (r : UndecodedList) (of : IsUndecodedOf all r) where
  -- a mark past all that is before what is left, or none where there is nothing before
  pub placed : (o : Option MarkState) (s : State) (at count : ℕ) → s ≡ r.state → EndsAt of.front at count
      → IfSome o (λ m. m.state ≡ s) → IfSome o (λ m. m.at ≡ at) → IfSome o (λ m. m.count ≡ count) → IfNone o (s.begun ≡ false) → IsPlace all o × (passed o + length r.list ≡ length all)
  placed None s at count known ends state byte many none =
      let front = none_yet of.front (ap (λ (t : State). t.begun) (sym (known ∙ of.state)) ∙ none) in
      (tt, omega (arith, ap length of.whole, length-append of.front r.list, ap length front))
  placed (Some m) s at count known ends state byte many none =
      let here : EndsAt of.front m.at m.count = record { bytes = byte ∙ ends.bytes; samples = many ∙ ends.samples } in
      let mark : IsMark of.front m = mark_at_end of.front m (state ∙ known ∙ of.state) here in
      (subst (λ (l : List Point). IsMark l m) (sym of.whole) (mark_on of.front r.list m mark), omega (arith, here.samples, ap length of.whole, length-append of.front r.list))

  -- what is left are the samples past so many
  pub left_past : (n : ℕ) → n + length r.list ≡ length all → drop n all ≡ r.list
  left_past n is =
      ap (drop n) of.whole ∙ drop_at of.front r.list n (omega (arith, is, ap length of.whole, length-append of.front r.list))

-- from a place on
pub from_place : (all : List Point) (r : UndecodedList) (o : Option (Bor MarkState)) (place : Option MarkState) → option_copied o ≡ place
    → IfNone o (IsUndecodedPast 0 all r) → IfSome o (λ b. IsUndecodedPast b.now.count all r) → IsUndecodedPast (passed place) all r
from_place all r None place is none some = subst (λ (p : Option MarkState). IsUndecodedPast (passed p) all r) is none
from_place all r (Some b) place is none some = subst (λ (p : Option MarkState). IsUndecodedPast (passed p) all r) is some

-- with one more sample passed
module _ (all : List Point) (n : ℕ) (r q : UndecodedList) (past : IsUndecodedPast n all r) (list : q.list ≡ drop 1 r.list) where
  pub one_passed : q.state ≡ state_from r.state (take 1 r.list) → IsUndecodedOf all q
  one_passed state =
      some_passed all r q (rest_of all n r past) (take 1 r.list) (ap (λ (l : List Point). take 1 r.list ++ l) list ∙ take-append-drop 1 r.list) state

  pub one_more : (m : ℕ) → m + length q.list ≡ length all → m ≡ n + length (take 1 (drop n all))
  one_more m is =
      let parts : length r.list ≡ length (take 1 r.list) + length (drop 1 r.list) = ap length (sym (take-append-drop 1 r.list)) ∙ length-append (take 1 r.list) (drop 1 r.list) in
      let first : length (take 1 r.list) ≡ length (take 1 (drop n all)) = ap (λ (l : List Point). length (take 1 l)) past.list in
      omega (arith, is, ap length list, parts, first, ap length past.list, length-drop n all, past.within)
