-- A line written to the front of a slice.
use Rattle.std.proofs.Common.{◌≡◌, ℕ, suc, ◌+◌, ◌≤◌, List, [], ◌∷◌, ◌++◌, length, take, drop, sym, ◌∙◌, ap, arith}
use Rattle.std.specs.Prelude.{slice_set}
use Rattle.std.proofs.Math.Seq.{take-append_seam, drop-append_seam}
use borrow.Rule.Slice.PartMut.{put_mid}
use lib.Seq.{drop-drop}

-- its first byte, the others, and two that end it
pub written : (f : ℕ) (others crlf room : List ℕ) (k m : ℕ) → length others + 3 ≤ length room → k ≡ length others → m ≡ 2
    → put_mid (length others + 1) m (put_mid 1 k (slice_set room 0 f) others) crlf ≡ f ∷ (others ++ (crlf ++ drop (length others + 3) room))
written f others crlf [] k m fits k_is m_is = absurd (omega arith)
written f others crlf (r ∷ rs) k m fits k_is m_is =
    let n = length others in
    let rest = others ++ drop n rs in
    let one : n + 1 ≡ suc n = omega arith in
    let three : n + 3 ≡ suc (n + 2) = omega arith in
    let past : drop 2 (drop n rs) ≡ drop (n + 3) (r ∷ rs) = drop-drop 2 n rs ∙ sym (ap (λ (i : ℕ). drop i (r ∷ rs)) three) in
    ap (λ (i : ℕ). put_mid (n + 1) m (f ∷ (others ++ drop i rs)) crlf) k_is
    ∙ ap (λ (i : ℕ). put_mid (n + 1) i (f ∷ rest) crlf) m_is
    ∙ ap (λ (i : ℕ). take i (f ∷ rest) ++ (crlf ++ drop 2 (drop i (f ∷ rest)))) one
    ∙ ap (λ (l : List ℕ). f ∷ (l ++ (crlf ++ drop 2 (drop n rest)))) (take-append_seam others (drop n rs))
    ∙ ap (λ (l : List ℕ). f ∷ (others ++ (crlf ++ drop 2 l))) (drop-append_seam others (drop n rs))
    ∙ ap (λ (l : List ℕ). f ∷ (others ++ (crlf ++ l))) past
