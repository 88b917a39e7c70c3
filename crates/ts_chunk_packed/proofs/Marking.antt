-- The marks of a list, and of lists with the same continuation.
use Rattle.std.proofs.Common.{◌≡◌, ℕ, ◌+◌, ◌-◌, ◌≤◌, List, ◌++◌, length, take, drop, sym, ap, ◌∙◌, arith, length-append}
use Rattle.std.proofs.lemmas.List.{take_all, take-append-drop, take-append-le, length-take-le}
use Rattle.std.proofs.Math.Seq.{take-append-add}
use Rattle.ts_spec.specs.Sample.{Point}
use Rattle.ts_chunk_packed.specs.Marks.{MarkState, IsMark, AreMarks, EndsAt}
use Rattle.ts_chunk_packed.specs.Packed.{State, begin, packed_from, packed, state_from}
use Rattle.ts_chunk_packed.proofs.Appending.{packed-append, state-append}

-- lists that have the same first samples have the same marks past these
alike : (ps qs : List Point) (m : MarkState) → take m.count qs ≡ take m.count ps → m.count ≤ length qs → IsMark ps m → IsMark qs m
alike ps qs m same within is = record {
  within = within;
  state = is.state ∙ ap (state_from begin) (sym same);
  bytes = is.bytes ∙ ap (λ (l : List Point). length (packed l)) (sym same);
}

-- where the list goes on
pub mark_on : (ps qs : List Point) (m : MarkState) → IsMark ps m → IsMark (ps ++ qs) m
mark_on ps qs m is = alike ps (ps ++ qs) m (take-append-le m.count ps qs is.within) (omega (arith, is.within, length-append ps qs)) is

pub marks_on : (ps qs : List Point) (ms : List MarkState) → AreMarks ps ms → AreMarks (ps ++ qs) ms
marks_on ps qs ms are = λ i d within. mark_on ps qs _ (are i d within)

-- where it ends sooner
pub mark_within : (ps : List Point) (m : MarkState) (n : ℕ) → m.count ≤ n → n ≤ length ps → IsMark ps m → IsMark (take n ps) m
mark_within ps m n few within is =
    let long : length (take n ps) ≡ n = length-take-le n ps within in
    let same : take m.count ps ≡ take m.count (take n ps) =
    ap (take m.count) (sym (take-append-drop n ps)) ∙ take-append-le m.count (take n ps) (drop n ps) (omega (arith, long)) in
    alike ps (take n ps) m (sym same) (omega (arith, long)) is

-- at its end
pub mark_at_end : (ps : List Point) (m : MarkState) → m.state ≡ state_from begin ps → EndsAt ps m.at m.count → IsMark ps m
mark_at_end ps m state ends =
    let all : take m.count ps ≡ ps = take_all m.count ps (omega (arith, ends.samples)) in
    record {
      within = omega (arith, ends.samples);
      state = state ∙ ap (state_from begin) (sym all);
      bytes = ends.bytes ∙ ap (λ (l : List Point). length (packed l)) (sym all);
    }

-- and past other first samples, after which the same is known
module _ (ps qs rest : List Point) (at_from from at_to to : ℕ) (old : EndsAt ps at_from from) (new : EndsAt qs at_to to) (same : state_from begin ps ≡ state_from begin qs) where
  pub mark_moved : (m n : MarkState) → IsMark (ps ++ rest) m → from ≤ m.count → n.state ≡ m.state → n.at + at_from ≡ m.at + at_to → n.count + from ≡ m.count + to → IsMark (qs ++ rest) n
  mark_moved m n is past state at count =
      let more : ℕ = m.count - from in
      let tail : List Point = take more rest in
      let here : take m.count (ps ++ rest) ≡ ps ++ tail =
      ap (λ (k : ℕ). take k (ps ++ rest)) (let sum : m.count ≡ length ps + more = omega (arith, old.samples) in sum) ∙ take-append-add ps rest more in
      let there : take n.count (qs ++ rest) ≡ qs ++ tail =
      ap (λ (k : ℕ). take k (qs ++ rest)) (let sum : n.count ≡ length qs + more = omega (arith, new.samples, count) in sum) ∙ take-append-add qs rest more in
      let old_bytes : m.at ≡ at_from + length (packed_from (state_from begin ps) tail) =
      omega (arith, is.bytes, ap (λ (l : List Point). length (packed l)) here, ap length (packed-append begin ps tail), length-append (packed ps) (packed_from (state_from begin ps) tail), old.bytes) in
      let new_bytes : length (packed (take n.count (qs ++ rest))) ≡ at_to + length (packed_from (state_from begin ps) tail) =
      omega (
        arith,
        ap (λ (l : List Point). length (packed l)) there,
        ap length (packed-append begin qs tail),
        length-append (packed qs) (packed_from (state_from begin qs) tail),
        ap (λ (s : State). length (packed_from s tail)) same,
        new.bytes,
      ) in
      record {
        within = omega (arith, is.within, length-append ps rest, length-append qs rest, old.samples, new.samples, count);
        state =
            state ∙ is.state ∙ ap (state_from begin) here ∙ state-append begin ps tail ∙ ap (λ (s : State). state_from s tail) same
            ∙ sym (ap (state_from begin) there ∙ state-append begin qs tail);
        bytes = omega (arith, old_bytes, new_bytes, at);
      }
