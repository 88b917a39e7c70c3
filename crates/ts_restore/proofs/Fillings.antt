-- Lists of numbers with a given sum, each up to a greatest one.
use Rattle.std.proofs.Common.{◌≡◌, ℕ, zero, suc, ◌+◌, ◌-◌, ◌≤◌, List, [], ◌∷◌, ◌++◌, map, length, inl, inr, refl, arith, ◌+ℤ◌, ◌≤ℤ◌}
use Rattle.std.specs.Prelude.{ℤ, pos, min}
use Rattle.std.proofs.lemmas.Int.{ints}
use Rattle.ts_restore.specs.Summaries.{times, filling}
use Rattle.ts_restore.proofs.PushedValues.{AllFrom, AllTo, Has, total}

-- ---- the filling

abbrev pub sums : ℕ → ℕ → ℕ
sums zero g = 0
sums (suc n) g = g + sums n g

abbrev pub summed : List ℕ → ℕ
summed [] = 0
summed (x ∷ xs) = x + summed xs

pub filling-sum : (n g d : ℕ) → d ≤ sums n g → summed (filling n g d) ≡ d
filling-sum zero g d h = omega arith
filling-sum (suc n) g d h = let ih : summed (filling n g (d - min g d)) ≡ d - min g d = filling-sum n g (d - min g d) (omega arith) in omega arith

pub filling-length : (n g d : ℕ) → length (filling n g d) ≡ n
filling-length zero g d = refl
filling-length (suc n) g d = let ih : length (filling n g (d - min g d)) ≡ n = filling-length n g (d - min g d) in omega arith

-- the values of a filling
abbrev pub raised : ℤ → List ℕ → List ℤ
raised l xs = map (λ x. l +ℤ pos x) xs

pub raised-total : (l : ℤ) (xs : List ℕ) → total (raised l xs) ≡ times (length xs) l +ℤ pos (summed xs)
raised-total l [] = refl
raised-total l (x ∷ xs) = let ih : total (raised l xs) ≡ times (length xs) l +ℤ pos (summed xs) = raised-total l xs in omega (arith, ints)

pub raised-from : (l : ℤ) (xs : List ℕ) → AllFrom l (raised l xs)
raised-from l [] = tt
raised-from l (x ∷ xs) = (omega (arith, ints), raised-from l xs)

pub filling-to : (l g' : ℤ) (n g d : ℕ) → g' ≡ l +ℤ pos g → AllTo g' (raised l (filling n g d))
filling-to l g' zero g d e = tt
filling-to l g' (suc n) g d e = (omega (arith, ints), filling-to l g' n g (d - min g d) e)

-- it has the least where the sum is no more than that of one number fewer, and the greatest where it is no less than
-- the greatest
pub filling-least : (l : ℤ) (k g d : ℕ) → d ≤ sums k g → Has l (raised l (filling (suc k) g d))
filling-least l zero g d h = inl (omega (arith, ints))
filling-least l (suc k) g d h = inr (filling-least l k g (d - min g d) (omega arith))

pub filling-greatest : (l g' : ℤ) (k g d : ℕ) → g' ≡ l +ℤ pos g → g ≤ d → Has g' (raised l (filling (suc k) g d))
filling-greatest l g' k g d e h = inl (omega (arith, ints))

-- ---- lists with one more value at the end

pub from-append : (l x : ℤ) (vs : List ℤ) → AllFrom l vs → l ≤ℤ x → AllFrom l (vs ++ x ∷ [])
from-append l x [] all h = (h, tt)
from-append l x (v ∷ vs) all h = (all.0, from-append l x vs all.1 h)

pub to-append : (g x : ℤ) (vs : List ℤ) → AllTo g vs → x ≤ℤ g → AllTo g (vs ++ x ∷ [])
to-append g x [] all h = (h, tt)
to-append g x (v ∷ vs) all h = (all.0, to-append g x vs all.1 h)

pub has-front : (y x : ℤ) (vs : List ℤ) → Has y vs → Has y (vs ++ x ∷ [])
has-front y x [] h = absurd h
has-front y x (v ∷ vs) (inl e) = inl e
has-front y x (v ∷ vs) (inr h) = inr (has-front y x vs h)

pub has-last : (y x : ℤ) (vs : List ℤ) → x ≡ y → Has y (vs ++ x ∷ [])
has-last y x [] e = inl e
has-last y x (v ∷ vs) e = inr (has-last y x vs e)

pub total-append : (x : ℤ) (vs : List ℤ) → total (vs ++ x ∷ []) ≡ total vs +ℤ x
total-append x [] = omega (arith, ints)
total-append x (v ∷ vs) = let ih : total (vs ++ x ∷ []) ≡ total vs +ℤ x = total-append x vs in omega (arith, ints)

pub length-append_one : (x : ℤ) (vs : List ℤ) → length (vs ++ x ∷ []) ≡ length vs + 1
length-append_one x [] = omega arith
length-append_one x (v ∷ vs) = let ih : length (vs ++ x ∷ []) ≡ length vs + 1 = length-append_one x vs in omega arith

pub length-raised : (l : ℤ) (xs : List ℕ) → length (raised l xs) ≡ length xs
length-raised l [] = refl
length-raised l (x ∷ xs) = let ih : length (raised l xs) ≡ length xs = length-raised l xs in omega arith

-- n times the greatest value is n times the least one and n gaps
pub times-gap : (n g : ℕ) (l g' : ℤ) → g' ≡ l +ℤ pos g → times n g' ≡ times n l +ℤ pos (sums n g)
times-gap zero g l g' e = refl
times-gap (suc n) g l g' e = let ih : times n g' ≡ times n l +ℤ pos (sums n g) = times-gap n g l g' e in omega (arith, ints)
