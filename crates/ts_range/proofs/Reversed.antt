-- Reversing lists and cutting them off.
use Rattle.std.proofs.Common.{◌≡◌, ℕ, zero, suc, List, [], ◌∷◌, ◌++◌, map, take, length, min, ◌<◌, ◌≤◌, ◌⊎◌, inl, inr, refl, sym, ◌∙◌, ap, arith}
use Rattle.std.specs.Prelude.{reverse, Option, None, Some}
use Rattle.std.proofs.lemmas.Bool.{cases_lt}
use Rattle.std.proofs.lemmas.List.{map-append, reverse-append, take_all}
use Rattle.ts_spec.specs.Answer.{Row, limit_rows}
use Rattle.ts_range.specs.AskedSamples.{most_of}

pub map-reverse : {X Y : Type 0} (f : X → Y) (xs : List X) → map f (reverse xs) ≡ reverse (map f xs)
map-reverse f [] = refl
map-reverse f (x ∷ xs) =
    ap (map f) (reverse-append (x ∷ []) xs) ∙ map-append f (reverse xs) (x ∷ []) ∙ ap (λ ys. ys ++ f x ∷ []) (map-reverse f xs) ∙ sym (reverse-append (f x ∷ []) (map f xs))

pub map-take : {X Y : Type 0} (f : X → Y) (n : ℕ) (xs : List X) → map f (take n xs) ≡ take n (map f xs)
map-take f zero xs = refl
map-take f (suc n) [] = refl
map-take f (suc n) (x ∷ xs) = ap (λ ys. f x ∷ ys) (map-take f n xs)

take_least : {X : Type 0} (n m : ℕ) (xs : List X) → length xs ≤ n → take (min n m) xs ≡ take m xs
take_least n m xs short = go (cases_lt m n)
  where
    go : (m < n) ⊎ (n ≤ m) → take (min n m) xs ≡ take m xs
    go (inl less) = ap (λ k. take k xs) (omega arith)
    go (inr more) = take_all (min n m) xs (omega arith) ∙ sym (take_all m xs (omega arith))

pub first_rows : (count : Option ℕ) (n : ℕ) (rows : List Row) → length rows ≤ n → take (most_of count n) rows ≡ limit_rows count rows
first_rows None n rows short = take_all n rows short
first_rows (Some m) n rows short = take_least n m rows short
