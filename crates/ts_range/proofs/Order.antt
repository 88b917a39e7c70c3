-- Lists in the requested order, and starts by their index.
use Rattle.std.proofs.Common.{◌≡◌, ℕ, zero, suc, ◌+◌, ◌-◌, ◌*◌, ◌<◌, ◌≤◌, List, map, reverse, length, sym, ◌∙◌, ap, arith}
use Rattle.std.specs.Prelude.{Some, slice_get}
use Rattle.std.specs.List.{range_with_len}
use Rattle.std.proofs.lemmas.List.{get_or-reverse, length-reverse}
use Rattle.std.proofs.lemmas.List.FromFn.{length-map-range_with_len, get_or-map-range_with_len}
use Rattle.std.proofs.lemmas.Option.{slice_get-get_or}
use Rattle.ts_range.specs.declared.starts.Starts.{Starts}
use Rattle.ts_range.specs.Starts.{starts_of}

-- a place counted from the last one
pub reverse-at : (xs : List ℕ) (i : ℕ) → i < length xs → slice_get (reverse xs) i ≡ slice_get xs (length xs - 1 - i)
reverse-at xs i within =
    slice_get-get_or (reverse xs) i 0 (omega (arith, length-reverse xs))
    ∙ ap (λ (x : ℕ). Some x) (get_or-reverse xs i 0 within)
    ∙ sym (slice_get-get_or xs (length xs - 1 - i) 0 (omega arith))

-- how many starts there are
pub length-starts : (s : Starts) → length (starts_of s) ≡ s.count
length-starts s = let some = s.some in omega (arith, length-map-range_with_len (λ i. s.second + i * s.duration) 0 (s.count - 1))

-- each of them
pub start-at : (s : Starts) (k : ℕ) → 1 ≤ k → k < s.count → slice_get (starts_of s) k ≡ Some (s.second + (k - 1) * s.duration)
start-at s zero some within = absurd (omega arith)
start-at s (suc k) some within =
    let f : ℕ → ℕ = λ i. s.second + i * s.duration in
    slice_get-get_or (map f (range_with_len 0 (s.count - 1))) k 0 (omega (arith, length-map-range_with_len f 0 (s.count - 1)))
    ∙ ap (λ (x : ℕ). Some x) (get_or-map-range_with_len f 0 (s.count - 1) k k 0 (omega arith) (omega arith))
    ∙ ap (λ (n : ℕ). Some (s.second + n * s.duration)) (let e : k ≡ suc k - 1 = omega arith in e)
