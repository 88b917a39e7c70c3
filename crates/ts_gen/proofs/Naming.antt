-- The key of a kind of three letters and a unit of one digit.
use Rattle.std.proofs.Common.{◌≡◌, ◌<◌, ℕ, ◌+◌, List, [], ◌∷◌, length, slice_index_or, sym, ap, arith}
use Rattle.std.proofs.lemmas.Fmt.{decimal_digit}
use Rattle.ts_gen.specs.Workload.{key}

pub key_is : (kind : List ℕ) (unit : ℕ) → length kind ≡ 3 → unit < 10
    → slice_index_or kind 0 0 ∷ slice_index_or kind 1 0 ∷ slice_index_or kind 2 0 ∷ 58 ∷ (48 + unit) ∷ [] ≡ key kind unit
key_is [] unit len small = absurd (omega arith)
key_is (a ∷ []) unit len small = absurd (omega arith)
key_is (a ∷ b ∷ []) unit len small = absurd (omega arith)
key_is (a ∷ b ∷ d ∷ []) unit len small = ap (λ (l : List ℕ). a ∷ b ∷ d ∷ 58 ∷ l) (sym (decimal_digit unit small))
key_is (a ∷ b ∷ d ∷ e ∷ kind) unit len small = absurd (omega arith)
