-- Bytes compare like their big-endian numbers.
use Rattle.std.proofs.Common.{◌≡◌, ℕ, zero, suc, ◌+◌, ◌-◌, ◌*◌, ◌<◌, ◌≤◌, min, List, [], ◌∷◌, length, drop, slice_index_or, Fits, w8, refl, sym, ap, ◌∙◌, arith}
use Rattle.std.proofs.lemmas.List.{drop-drop, length-drop}
use Rattle.std.specs.declared.cmp.Ordering.{Ordering}
use Rattle.std.specs.declared.cmp.Ordering.TheVariants.{Less, Equal, Greater}
use Rattle.std.specs.Cmp.{ranks, nat_cmp_is}
use Rattle.std.specs.Ordering.{nat_cmp, ordering_then, MatchOrdering}
use Rattle.std.specs.Cmp.Lexicographic.{slice_cmp}
use Rattle.ts_resp.specs.Words.{big_endian}

-- each is a byte
abbrev pub AreBytes : List ℕ → Type 0
AreBytes xs = (i : ℕ) → Fits w8 (slice_index_or xs i 0)

pub AreBytes-drop : (n : ℕ) (xs : List ℕ) → AreBytes xs → AreBytes (drop n xs)
AreBytes-drop zero xs h = h
AreBytes-drop (suc n) [] h = h
AreBytes-drop (suc n) (x ∷ xs) h = AreBytes-drop n xs (λ i. h (suc i))

-- the greater number stays greater, whatever bytes follow
big_endian-less : (n a b : ℕ) (xs ys : List ℕ) → n ≤ length xs → n ≤ length ys → AreBytes xs → a < b → big_endian a n xs < big_endian b n ys
big_endian-less zero a b xs ys p q h l = l
big_endian-less (suc n) a b [] ys p q h l = absurd (omega arith)
big_endian-less (suc n) a b (x ∷ xs) [] p q h l = absurd (omega arith)
big_endian-less (suc n) a b (x ∷ xs) (y ∷ ys) p q h l =
    let small : x < 256 = (h 0).fits in
    big_endian-less n (a * 256 + x) (b * 256 + y) xs ys (omega arith) (omega arith) (λ i. h (suc i)) (omega arith)

nat_cmp-same : (n : ℕ) (o : Ordering) → o ≡ ordering_then (nat_cmp n n) o
nat_cmp-same n o = ap (λ r. ordering_then r o) (nat_cmp_is n n Equal refl)

-- n bytes decide, unless they are alike
big_endian-cmp : (n a : ℕ) (xs ys : List ℕ) → n ≤ length xs → n ≤ length ys → AreBytes xs → AreBytes ys
    → slice_cmp nat_cmp xs ys ≡ ordering_then (nat_cmp (big_endian a n xs) (big_endian a n ys)) (slice_cmp nat_cmp (drop n xs) (drop n ys))
big_endian-cmp zero a xs ys p q g h = nat_cmp-same a (slice_cmp nat_cmp xs ys)
big_endian-cmp (suc n) a [] ys p q g h = absurd (omega arith)
big_endian-cmp (suc n) a (x ∷ xs) [] p q g h = absurd (omega arith)
big_endian-cmp (suc n) a (x ∷ xs) (y ∷ ys) p q g h =
    by (nat_cmp x y) (ranks x y) (big_endian-cmp n (a * 256 + x) xs ys (omega arith) (omega arith) (λ i. g (suc i)) (λ i. h (suc i)))
  where
    by : (o : Ordering) → MatchOrdering o (x < y) (x ≡ y) (y < x)
        → slice_cmp nat_cmp xs ys ≡ ordering_then (nat_cmp (big_endian (a * 256 + x) n xs) (big_endian (a * 256 + x) n ys)) (slice_cmp nat_cmp (drop n xs) (drop n ys))
        → ordering_then o (slice_cmp nat_cmp xs ys) ≡ ordering_then (nat_cmp (big_endian (a * 256 + x) n xs) (big_endian (a * 256 + y) n ys)) (slice_cmp nat_cmp (drop n xs) (drop n ys))
    by Less l rest =
        let less : x < y = l in
        ap (λ r. ordering_then r (slice_cmp nat_cmp (drop n xs) (drop n ys)))
        (nat_cmp_is _ _ Less (big_endian-less n (a * 256 + x) (a * 256 + y) xs ys (omega arith) (omega arith) (λ i. g (suc i)) (omega arith)))
    by Greater l rest =
        let less : y < x = l in
        ap (λ r. ordering_then r (slice_cmp nat_cmp (drop n xs) (drop n ys)))
        (nat_cmp_is _ _ Greater (big_endian-less n (a * 256 + y) (a * 256 + x) ys xs (omega arith) (omega arith) (λ i. h (suc i)) (omega arith)))
    by Equal l rest =
        let same : x ≡ y = l in
        rest ∙ ap (λ z. ordering_then (nat_cmp (big_endian (a * 256 + x) n xs) (big_endian (a * 256 + z) n ys)) (slice_cmp nat_cmp (drop n xs) (drop n ys))) same

-- eight bytes of each that decide, or are alike
pub eight_cmp : (xs ys : List ℕ) (at : ℕ) → AreBytes xs → AreBytes ys → at + 8 ≤ length xs → at + 8 ≤ length ys
    → slice_cmp nat_cmp (drop at xs) (drop at ys)
    ≡ ordering_then (nat_cmp (big_endian 0 8 (drop at xs)) (big_endian 0 8 (drop at ys))) (slice_cmp nat_cmp (drop (at + 8) xs) (drop (at + 8) ys))
eight_cmp xs ys at g h p q =
    big_endian-cmp 8 0 (drop at xs) (drop at ys) (omega (arith, length-drop at xs)) (omega (arith, length-drop at ys)) (AreBytes-drop at xs g) (AreBytes-drop at ys h)
    ∙ ap (λ rest. ordering_then (nat_cmp (big_endian 0 8 (drop at xs)) (big_endian 0 8 (drop at ys))) (slice_cmp nat_cmp rest (drop 8 (drop at ys)))) (drop-drop 8 at xs)
    ∙ ap (λ rest. ordering_then (nat_cmp (big_endian 0 8 (drop at xs)) (big_endian 0 8 (drop at ys))) (slice_cmp nat_cmp (drop (at + 8) xs) rest)) (drop-drop 8 at ys)

-- the lengths decide where one has no more bytes
ended : (xs ys : List ℕ) (at n m : ℕ) → length xs ≡ n - at → length ys ≡ m - at → at ≡ min n m → nat_cmp n m ≡ slice_cmp nat_cmp xs ys
ended [] [] at n m p q e = sym (nat_cmp_is n m Equal (omega arith))
ended [] (y ∷ ys) at n m p q e = sym (nat_cmp_is n m Less (omega arith))
ended (x ∷ xs) [] at n m p q e = sym (nat_cmp_is n m Greater (omega arith))
ended (x ∷ xs) (y ∷ ys) at n m p q e = absurd (omega arith)

pub lengths_cmp : (xs ys : List ℕ) (at : ℕ) → at ≡ min (length xs) (length ys) → nat_cmp (length xs) (length ys) ≡ slice_cmp nat_cmp (drop at xs) (drop at ys)
lengths_cmp xs ys at e = ended (drop at xs) (drop at ys) at (length xs) (length ys) (length-drop at xs) (length-drop at ys) e

pub then-same : (x y : ℕ) (o : Ordering) → x ≡ y → ordering_then (nat_cmp x y) o ≡ o
then-same x y o e = ap (λ y. ordering_then (nat_cmp x y) o) (sym e) ∙ sym (nat_cmp-same x o)

pub then-apart : (x y : ℕ) (o : Ordering) → (x ≡ y → ⊥) → ordering_then (nat_cmp x y) o ≡ nat_cmp x y
then-apart x y o n = by (nat_cmp x y) (ranks x y)
  where
    by : (r : Ordering) → MatchOrdering r (x < y) (x ≡ y) (y < x) → ordering_then r o ≡ r
    by Less h = refl
    by Equal h = absurd (n h)
    by Greater h = refl
