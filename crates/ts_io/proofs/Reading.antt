-- What a read from memory copies, and what it leaves.
use Rattle.std.proofs.Common.{◌≡◌, ℕ, zero, suc, ◌+◌, ◌-◌, ◌^◌, ◌<◌, ◌≤◌, min, List, [], ◌∷◌, ◌++◌, length, take, drop, refl, sym, ◌∙◌, ap, arith, length-drop, length-take, take-append-drop}
use Rattle.std.proofs.lemmas.List.{take_all, drop-drop, nil_from_length}

-- the first n bytes from this position on were copied: with the later ones they are what was left
pub read_front : (bytes buf : List ℕ) (place n : ℕ) → take n buf ≡ take n (take (length bytes - place) (drop place bytes)) → drop place bytes ≡ take n buf ++ drop (place + n) bytes
read_front bytes buf place n copied =
    let whole : take (length bytes - place) (drop place bytes) ≡ drop place bytes = take_all _ _ (omega (arith, length-drop place bytes)) in
    sym (take-append-drop n (drop place bytes))
    ∙ ap (λ (l : List ℕ). l ++ drop n (drop place bytes)) (sym (copied ∙ ap (λ (l : List ℕ). take n l) whole))
    ∙ ap (λ (l : List ℕ). take n buf ++ l) (drop-drop n place bytes)

-- none were copied although the buffer is not empty: none are left
pub read_none : (bytes : List ℕ) (place piece room n : ℕ) → 1 ≤ piece → n ≡ min piece (min room (length (take (length bytes - place) (drop place bytes)))) → n ≡ 0 → 0 < room → drop (place + n) bytes ≡ []
read_none bytes place piece room n some is none asked =
    let whole : take (length bytes - place) (drop place bytes) ≡ drop place bytes = take_all _ _ (omega (arith, length-drop place bytes)) in
    nil_from_length _ (omega (arith, ap length whole, length-drop place bytes, length-drop (place + n) bytes))

-- all positions past the end are alike
drop_same : (xs : List ℕ) (a b : ℕ) → min a (length xs) ≡ min b (length xs) → drop a xs ≡ drop b xs
drop_same [] zero zero e = refl
drop_same [] zero (suc b) e = refl
drop_same [] (suc a) zero e = refl
drop_same [] (suc a) (suc b) e = refl
drop_same (x ∷ xs) zero zero e = refl
drop_same (x ∷ xs) zero (suc b) e = absurd (omega arith)
drop_same (x ∷ xs) (suc a) zero e = absurd (omega arith)
drop_same (x ∷ xs) (suc a) (suc b) e = drop_same xs a b (omega arith)

module _ (bytes : List ℕ) (place start new n : ℕ) (within : start ≡ min (length bytes) place) (few : length bytes ≤ 2 ^ 64 - 1) (moved : new ≡ min (place + n) (2 ^ 64 - 1)) (left : n ≤ length (take (length bytes - start) (drop start bytes))) where
  -- a read from this position continues at the new one, whether or not they are past the end
  pub read_on : drop new bytes ≡ drop (start + n) bytes
  read_on = drop_same bytes new (start + n) (omega (arith, length-take (length bytes - start) (drop start bytes), length-drop start bytes))

  pub read_from : (buf : List ℕ) → take n buf ≡ take n (take (length bytes - start) (drop start bytes)) → drop place bytes ≡ take n buf ++ drop new bytes
  read_from buf copied =
      drop_same bytes place start (omega arith)
      ∙ read_front bytes buf start n copied
      ∙ ap (λ (l : List ℕ). take n buf ++ l) (sym read_on)
