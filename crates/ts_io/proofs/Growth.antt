-- How a sink grows over several writes.
use Rattle.std.proofs.Common.{◌≡◌, ℕ, ◌+◌, ◌-◌, ◌≤◌, List, [], ◌++◌, length, take, drop, sym, ◌∙◌, ap, subst, arith, append_assoc, append-nil, length-drop, length-take, take-append-drop}
use Rattle.std.proofs.Math.Seq.{take-append-add}
use Rattle.std.proofs.lemmas.List.{take_all}
use Rattle.ts_io.specs.Sinks.{Grows}

take-add : (n m : ℕ) (xs : List ℕ) → n ≤ length xs → take (n + m) xs ≡ take n xs ++ take m (drop n xs)
take-add n m xs le =
    let len : n ≡ length (take n xs) = omega (arith, length-take n xs) in
    ap (λ (l : List ℕ). take (n + m) l) (sym (take-append-drop n xs))
    ∙ ap (λ (k : ℕ). take (k + m) (take n xs ++ drop n xs)) len
    ∙ take-append-add (take n xs) (drop n xs) m

-- a prefix, followed by the first m bytes of the rest
pub front_on : (n m : ℕ) (bytes : List ℕ) → n + m ≤ length bytes → take n bytes ++ take m (take (length bytes - n) (drop n bytes)) ≡ take (n + m) bytes
front_on n m bytes le =
    let rest : take (length bytes - n) (drop n bytes) ≡ drop n bytes = take_all _ _ (omega (arith, length-drop n bytes)) in
    ap (λ (l : List ℕ). take n bytes ++ take m l) rest ∙ sym (take-add n m bytes (omega arith))

pub grows_none : (has : List ℕ → Type 0) → Grows has has []
grows_none has = record { each = λ w had. subst has (sym (append-nil w)) had }

module _ (old mid new : List ℕ → Type 0) where
  -- a sink that grew by some bytes and then by others grew by both
  pub grows_twice : (first second : List ℕ) → Grows old mid first → Grows mid new second → Grows old new (first ++ second)
  grows_twice first second p q = record { each = λ w had. subst new (append_assoc w first second) (q.each (w ++ first) (p.each w had)) }

  -- a prefix was written, then the first m bytes of the rest
  pub grows_on : (n m : ℕ) (bytes : List ℕ) → Grows old mid (take n bytes) → n + m ≤ length bytes → Grows mid new (take m (take (length bytes - n) (drop n bytes))) → Grows old new (take (n + m) bytes)
  grows_on n m bytes p le q = subst (λ (l : List ℕ). Grows old new l) (front_on n m bytes le) (grows_twice (take n bytes) (take m (take (length bytes - n) (drop n bytes))) p q)

-- everything was written
pub grows_all : (old new : List ℕ → Type 0) (n : ℕ) (bytes : List ℕ) → length bytes ≤ n → Grows old new (take n bytes) → Grows old new bytes
grows_all old new n bytes le p = subst (λ (l : List ℕ). Grows old new l) (take_all n bytes le) p
