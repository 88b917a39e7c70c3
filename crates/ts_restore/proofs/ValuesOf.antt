-- Six numbers that pass the test are the summary of the values that are made from them.
use Rattle.std.proofs.Common.{◌≡◌, ℕ, zero, suc, ◌+◌, ◌-◌, ◌≤◌, List, [], ◌∷◌, ◌++◌, length, fold, ◌⊎◌, inl, inr, refl, sym, ap, ◌∙◌, subst, arith, ◌+ℤ◌, ◌≤ℤ◌}
use Rattle.std.specs.Prelude.{ℤ, pos, ◌-ℤ◌, unsigned_abs}
use Rattle.std.proofs.lemmas.Int.{ints}
use Rattle.ts_spec.specs.Aggregate.{Summary, nothing}
use Rattle.ts_restore.specs.Summaries.{times, filling, middle, excess, inner_values, values_by, values_of, IsSpread, IsExactBy, IsExact, HasLeast, HasGreatest}
use Rattle.ts_restore.proofs.PushedValues.{push_value, AllFrom, AllTo, Has, total, fold-count, fold-sum, fold-least, fold-greatest, fold-first, fold-last}
use Rattle.ts_restore.proofs.Fillings.{sums, summed, filling-sum, filling-length, raised, raised-total, raised-from, filling-to, filling-least, filling-greatest, from-append, to-append, has-front, has-last, total-append, length-append_one, length-raised, times-gap}

same_summary : (r s : Summary) → r.count ≡ s.count → r.sum ≡ s.sum → r.least ≡ s.least → r.greatest ≡ s.greatest → r.first ≡ s.first → r.last ≡ s.last → r ≡ s
same_summary r s c m l g f z = λ i. record { count = c i; sum = m i; least = l i; greatest = g i; first = f i; last = z i }

module _ (n : ℕ) (s : Summary) (h : IsSpread n s) where
  abbrev gap : ℕ
  gap = unsigned_abs (s.greatest -ℤ s.least)

  abbrev over : ℕ
  over = excess n s

  gap-is : s.greatest ≡ s.least +ℤ pos gap
  gap-is = let a : s.least ≤ℤ s.first = h.ordered.first_from in let b : s.first ≤ℤ s.greatest = h.ordered.first_to in omega (arith, ints)

  over-is : middle s ≡ times n s.least +ℤ pos over
  over-is = let a : times n s.least ≤ℤ middle s = h.reachable.from in omega (arith, ints)

  within : over ≤ sums n gap
  within = let a : middle s ≤ℤ times n s.greatest = h.reachable.to in omega (arith, ints, over-is, times-gap n gap s.least s.greatest gap-is)

  abbrev inner : List ℤ
  inner = raised s.least (filling n gap over)

  abbrev one : Summary
  one = push_value nothing s.first

  values-are : values_by (suc (suc n)) s ≡ s.first ∷ (inner ++ s.last ∷ [])
  values-are = refl

  inner-from : AllFrom s.least inner
  inner-from = raised-from s.least (filling n gap over)

  inner-to : AllTo s.greatest inner
  inner-to = filling-to s.least s.greatest n gap over gap-is

  inner-length : length inner ≡ n
  inner-length = length-raised s.least (filling n gap over) ∙ filling-length n gap over

  inner-total : total inner ≡ middle s
  inner-total =
      let a : total (raised s.least (filling n gap over)) ≡ times (length (filling n gap over)) s.least +ℤ pos (summed (filling n gap over)) = raised-total s.least (filling n gap over) in
      let b : times (length (filling n gap over)) s.least ≡ times n s.least = ap (λ (k : ℕ). times k s.least) (filling-length n gap over) in
      let c : summed (filling n gap over) ≡ over = filling-sum n gap over within in
      omega (arith, ints, a, b, c, over-is)

  inner-least : (1 ≤ n) × (middle s ≤ℤ (s.least +ℤ times (n - 1) s.greatest)) → Has s.least inner
  inner-least x =
      let e : n ≡ suc (n - 1) = omega (arith, x.0) in
      let a : times n s.least ≡ times (suc (n - 1)) s.least = ap (λ (k : ℕ). times k s.least) e in
      let b : middle s ≤ℤ (s.least +ℤ times (n - 1) s.greatest) = x.1 in
      let few : over ≤ sums (n - 1) gap = omega (arith, ints, a, b, over-is, times-gap (n - 1) gap s.least s.greatest gap-is) in
      subst (λ (k : ℕ). Has s.least (raised s.least (filling k gap over))) (sym e) (filling-least s.least (n - 1) gap over few)

  inner-greatest : (1 ≤ n) × ((s.greatest +ℤ times (n - 1) s.least) ≤ℤ middle s) → Has s.greatest inner
  inner-greatest x =
      let e : n ≡ suc (n - 1) = omega (arith, x.0) in
      let a : times n s.least ≡ times (suc (n - 1)) s.least = ap (λ (k : ℕ). times k s.least) e in
      let b : (s.greatest +ℤ times (n - 1) s.least) ≤ℤ middle s = x.1 in
      let enough : gap ≤ over = omega (arith, ints, a, b, over-is, gap-is) in
      subst (λ (k : ℕ). Has s.greatest (raised s.least (filling k gap over))) (sym e) (filling-greatest s.least s.greatest (n - 1) gap over gap-is enough)

  least-somewhere : HasLeast n s → (s.first ≡ s.least) ⊎ Has s.least (inner ++ s.last ∷ [])
  least-somewhere (inl e) = inl e
  least-somewhere (inr (inl e)) = inr (has-last s.least s.last inner e)
  least-somewhere (inr (inr x)) = inr (has-front s.least s.last inner (inner-least x))

  greatest-somewhere : HasGreatest n s → (s.first ≡ s.greatest) ⊎ Has s.greatest (inner ++ s.last ∷ [])
  greatest-somewhere (inl e) = inl e
  greatest-somewhere (inr (inl e)) = inr (has-last s.greatest s.last inner e)
  greatest-somewhere (inr (inr x)) = inr (has-front s.greatest s.last inner (inner-greatest x))

  between-summary : s.count ≡ suc (suc n) → fold push_value one (inner ++ s.last ∷ []) ≡ s
  between-summary e = same_summary (fold push_value one (inner ++ s.last ∷ [])) s
      (let a : (fold push_value one (inner ++ s.last ∷ [])).count ≡ 1 + length (inner ++ s.last ∷ []) = fold-count one (inner ++ s.last ∷ []) in
      omega (arith, a, e, length-append_one s.last inner, inner-length))
      (let a : (fold push_value one (inner ++ s.last ∷ [])).sum ≡ (pos 0 +ℤ s.first) +ℤ total (inner ++ s.last ∷ []) = fold-sum one (inner ++ s.last ∷ []) in
      omega (arith, ints, a, total-append s.last inner, inner-total))
      (fold-least one (inner ++ s.last ∷ []) s.least (omega arith) h.ordered.first_from (from-append s.least s.last inner inner-from h.ordered.last_from) (least-somewhere h.has_least))
      (fold-greatest one (inner ++ s.last ∷ []) s.greatest (omega arith) h.ordered.first_to (to-append s.greatest s.last inner inner-to h.ordered.last_to) (greatest-somewhere h.has_greatest))
      (fold-first one (inner ++ s.last ∷ []) (omega arith))
      (fold-last one inner s.last)

by-count : (c : ℕ) (s : Summary) → s.count ≡ c → IsExactBy c s → fold push_value nothing (values_by c s) ≡ s
by-count zero s e h = same_summary nothing s (sym e) (sym h.sum) (sym h.least) (sym h.greatest) (sym h.first) (sym h.last)
by-count (suc zero) s e h =
    same_summary (push_value nothing s.first) s (omega (arith, e)) (omega (arith, ints, h.sum)) (sym h.least) (sym h.greatest) refl (sym h.last)
by-count (suc (suc n)) s e h =
    ap (λ (vs : List ℤ). fold push_value nothing vs) (values-are n s h) ∙ between-summary n s h e

-- The values made from six numbers that pass the test have them as their summary.
pub values-summary : (s : Summary) → IsExact s → fold push_value nothing (values_of s) ≡ s
values-summary s h = by-count s.count s refl h

length-by : (c : ℕ) (s : Summary) → length (values_by c s) ≡ c
length-by zero s = refl
length-by (suc zero) s = refl
length-by (suc (suc n)) s =
    let inner : length (inner_values n s) ≡ n =
    length-raised s.least (filling n (unsigned_abs (s.greatest -ℤ s.least)) (excess n s)) ∙ filling-length n (unsigned_abs (s.greatest -ℤ s.least)) (excess n s) in
    omega (arith, length-append_one s.last (inner_values n s), inner)

-- There are as many of them as the count says.
pub length-values : (s : Summary) → length (values_of s) ≡ s.count
length-values s = length-by s.count s
