-- Marks are spaced, so there are few.
use Rattle.std.proofs.Common.{◌≡◌, ℕ, ◌+◌, ◌*◌, ◌≤◌, List, [], ◌∷◌, ◌++◌, length, take, drop, refl, sym, ap, ◌∙◌, arith, length-append}
use Rattle.std.proofs.lemmas.List.{take-append-drop}
use Rattle.std.proofs.lemmas.List.Elements.{All-head, All-tail}
use Rattle.ts_spec.specs.Sample.{Point}
use Rattle.ts_chunk_packed.specs.Marks.{MarkState, IsMark, AreMarks, AreSpaced, end_of}
use Rattle.ts_chunk_packed.specs.Packed.{begin, packed, packed_from, state_from}
use Rattle.ts_chunk_packed.proofs.Appending.{packed-append}

-- one more, past the last
pub spaced-push : (place : ℕ) (ms : List MarkState) (m : MarkState) → AreSpaced place ms → end_of place ms + 256 ≤ m.at → AreSpaced place (ms ++ m ∷ [])
spaced-push place [] m apart past = (past, tt)
spaced-push place (l ∷ ms) m apart past = (apart.0, spaced-push l.at ms m apart.1 past)

pub end-push : (place : ℕ) (ms : List MarkState) (m : MarkState) → end_of place (ms ++ m ∷ []) ≡ m.at
end-push place [] m = refl
end-push place (l ∷ ms) m = end-push l.at ms m

-- a mark stands within the bytes
at-within : (ps : List Point) (m : MarkState) → IsMark ps m → m.at ≤ length (packed ps)
at-within ps m is =
    let front = take m.count ps in
    let rest = drop m.count ps in
    let whole : length (packed ps) ≡ length (packed front) + length (packed_from (state_from begin front) rest) =
    ap (λ (l : List Point). length (packed l)) (sym (take-append-drop m.count ps)) ∙ ap length (packed-append begin front rest) ∙ length-append (packed front) (packed_from (state_from begin front) rest) in
    omega (arith, is.bytes, whole)

-- so they are few
pub spaced-few : (ps : List Point) (place : ℕ) (ms : List MarkState) → place ≤ length (packed ps) → AreMarks ps ms → AreSpaced place ms → place + 256 * length ms ≤ length (packed ps)
spaced-few ps place [] within are apart = omega (arith, within)
spaced-few ps place (m ∷ ms) within are apart =
    let rest = spaced-few ps m.at ms (at-within ps m (All-head (IsMark ps) m ms are)) (All-tail (IsMark ps) m ms are) apart.1 in
    omega (arith, rest, apart.0)
