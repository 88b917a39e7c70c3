-- Reading pieces sample by sample.
use Rattle.std.proofs.Common.{◌≡◌, ◌⊎◌, inl, inr, ℕ, zero, suc, ◌+◌, ◌<◌, ◌≤◌, true, false, cond, List, [], ◌∷◌, ◌++◌, length, get_or, take, drop, refl, sym, ◌∙◌, ap, arith}
use Rattle.std.specs.Prelude.{◌≢◌, nat_le, is_some}
use Rattle.std.proofs.Math.ListN.{drop_of_length-le}
use Rattle.std.proofs.lemmas.Bool.{false≢true}
use Rattle.std.proofs.lemmas.Bool.Decides.{nat_tests}
use Rattle.std.proofs.lemmas.List.{drop_more, drop-append-le}
use Rattle.ts_spec.specs.Sample.{Point, IsAfter, IsAscending, at_times, first_of}
use Rattle.ts_sample.specs.Chunk.{joined}
use Rattle.ts_series.specs.Stored.{IsTrimmed}
use Rattle.ts_series.specs.Reading.{left_at}
use Rattle.ts_series.proofs.Answering.{get-past, take-past, late-pieces, first-front}
use Rattle.ts_series.proofs.EarlyLate.{rest-past}

cases : (i n : ℕ) → (i < n) ⊎ (n ≤ i)
cases i n = grind arith

drop-nil : (n : ℕ) → drop {A = Point} n [] ≡ []
drop-nil n = drop_of_length-le [] (omega arith)

one-on : (n : ℕ) (ps : List Point) → drop 1 (drop n ps) ≡ drop (suc n) ps
one-on zero ps = refl
one-on (suc n) [] = refl
one-on (suc n) (p ∷ ps) = one-on n ps

one-of : (ps : List Point) → ps ≢ [] → length (take 1 ps) ≡ 1
one-of [] some = absurd (some refl)
one-of (p ∷ ps) some = refl

-- whether there is a first sample
pub some-first : (ps : List Point) → is_some (first_of ps) ≡ true → ps ≢ []
some-first [] is = absurd (false≢true is)
some-first (p ∷ ps) is = λ none. absurd (cc none)

pub none-first : (ps : List Point) → is_some (first_of ps) ≡ false → ps ≡ []
none-first [] is = refl
none-first (p ∷ ps) is = absurd (false≢true (sym is))

pub nothing-at : (pss : List (List Point)) (at n : ℕ) → length pss ≤ at → left_at at n pss ≡ []
nothing-at pss at n past = ap (λ (l : List (List Point)). drop n (joined l)) (drop_of_length-le pss past) ∙ drop-nil n

module _ (pss : List (List Point)) (at n : ℕ) (few : n ≤ length (get_or pss at [])) where
  -- what is left of the piece at hand, and then the pieces after it
  parts : at < length pss → left_at at n pss ≡ drop n (get_or pss at []) ++ joined (drop (at + 1) pss)
  parts less = ap (λ (l : List (List Point)). drop n (joined l)) (drop_more pss at [] less) ∙ drop-append-le n (get_or pss at []) (joined (drop (at + 1) pss)) few

  -- where nothing is left of it, the next one is at hand
  pub next-piece : at < length pss → drop n (get_or pss at []) ≡ [] → left_at at n pss ≡ left_at (at + 1) 0 pss
  next-piece less none = parts less ∙ ap (λ (l : List Point). l ++ joined (drop (at + 1) pss)) none

  -- where something is left of it, or no piece is at hand
  module _ (filled : at < length pss → drop n (get_or pss at []) ≢ []) where
    pub first-left : first_of (drop n (get_or pss at [])) ≡ first_of (left_at at n pss)
    first-left = go (cases at (length pss))
      where
        go : (at < length pss) ⊎ (length pss ≤ at) → first_of (drop n (get_or pss at [])) ≡ first_of (left_at at n pss)
        go (inl less) = sym (ap first_of (parts less) ∙ first-front (drop n (get_or pss at [])) (joined (drop (at + 1) pss)) (filled less))
        go (inr past) = ap (λ (l : List Point). first_of (drop n l)) (get-past at pss past) ∙ ap first_of (drop-nil n) ∙ sym (ap first_of (nothing-at pss at n past))

    pub left-on : (m : ℕ) → m ≡ n + length (take 1 (drop n (get_or pss at []))) → left_at at m pss ≡ drop 1 (left_at at n pss)
    left-on m is = go (cases at (length pss))
      where
        go : (at < length pss) ⊎ (length pss ≤ at) → left_at at m pss ≡ drop 1 (left_at at n pss)
        go (inl less) =
            let more : m ≡ suc n = omega (arith, is, one-of (drop n (get_or pss at [])) (filled less)) in
            ap (λ (k : ℕ). left_at at k pss) more ∙ sym (one-on n (joined (drop at pss)))
        go (inr past) = nothing-at pss at m past ∙ sym (ap (drop 1) (nothing-at pss at n past))

after-all : (t : ℕ) (ps : List Point) → IsAfter t ps → at_times (nat_le t) ps ≡ ps
after-all t [] after = refl
after-all t (p ∷ ps) after =
    let here : nat_le t p.time ≡ true = (let later : t < p.time = after.0 in grind (arith, nat_tests)) in
    ap (λ b. cond b (p ∷ at_times (nat_le t) ps) (at_times (nat_le t) ps)) here ∙ ap (λ (l : List Point). p ∷ l) (after-all t ps after.1)

-- from the piece on that reaches a time
pub begun-at : (t at n : ℕ) (pss : List (List Point)) → IsAscending (joined pss) → at_times (nat_le t) (joined (take at pss)) ≡ [] → IsTrimmed t (drop at pss)
    → n ≤ length (get_or pss at []) → drop n (get_or pss at []) ≡ at_times (nat_le t) (get_or pss at []) → left_at at n pss ≡ at_times (nat_le t) (joined pss)
begun-at t at n pss rises early trimmed few left = go (cases at (length pss))
  where
    go : (at < length pss) ⊎ (length pss ≤ at) → left_at at n pss ≡ at_times (nat_le t) (joined pss)
    go (inl less) =
        let rest = joined (drop (suc at) pss) in
        let one : at + 1 ≡ suc at = omega arith in
        parts pss at n few less
        ∙ ap (λ (k : ℕ). drop n (get_or pss at []) ++ joined (drop k pss)) one
        ∙ (λ i. left i ++ sym (after-all t rest (rest-past t at pss rises trimmed)) i)
        ∙ sym (late-pieces t at pss rises early trimmed)
    go (inr past) = nothing-at pss at n past ∙ sym early ∙ ap (λ (l : List (List Point)). at_times (nat_le t) (joined l)) (take-past at pss past)
