-- The sample at the index that a search finds.
use Rattle.std.proofs.Common.{◌≡◌, ◌≢◌, ◌⊎◌, inl, inr, ℕ, suc, ◌<◌, ◌≤◌, Bool, true, false, cond, List, [], ◌∷◌, ◌++◌, length, get_or, take, drop, refl, sym, ◌∙◌, ap, subst, arith}
use Rattle.std.specs.Prelude.{nat_lt, nat_le, nat_eq, Option, None, Some, if◌then◌else◌, slice_get, IsSomeAnd}
use Rattle.std.proofs.Math.Seq.{drop-cons}
use Rattle.std.proofs.lemmas.List.{drop_all}
use Rattle.std.proofs.lemmas.Option.{slice_get_read}
use Rattle.std.proofs.lemmas.Bool.{cases_eq, cases_Bool}
use Rattle.std.proofs.lemmas.Bool.Decides.{nat_tests}
use Rattle.ts_spec.specs.Sample.{Point, IsAscending, at, at_times, put}
use Rattle.ts_spec.proofs.Samples.{at-times, at-after, ascending-times, ascending-same}

none_both : (a b : Bool) → ◌≡◌ {A = Option Point} (if a then None else None) (if b then None else None)
none_both true true = refl
none_both true false = refl
none_both false true = refl
none_both false false = refl

-- the first of the samples that pass a test passes it
first_passes : (test : ℕ → Bool) (ps : List Point) (p : Point) (rest : List Point) → at_times test ps ≡ p ∷ rest → test p.time ≡ true
first_passes test [] p rest is = (cc)
first_passes test (q ∷ ps) p rest is = elim (cases_Bool (test q.time)) [
  | inl passes ↦
      let same : q ≡ p = grind (arith, passes, is) in
      ap (λ (r : Point). test r.time) (sym same) ∙ passes
  | inr fails ↦ first_passes test ps p rest (sym (ap (λ b. cond b (q ∷ at_times test ps) (at_times test ps)) fails) ∙ is)
]

module _ (x i : ℕ) (ps : List Point) (rises : IsAscending ps) (before : take i ps ≡ at_times (λ t. nat_lt t x) ps) (after : drop i ps ≡ at_times (nat_le x) ps) where
  at_rest : at x (drop i ps) ≡ at x ps
  at_rest =
      let reached : nat_le x x ≡ true = grind (arith, nat_tests) in
      ap (at x) after ∙ at-times x (nat_le x) ps ∙ ap (λ b. if b then at x ps else None) reached

  -- the sample at the index has the time
  found_there : (p : Point) (rest : List Point) → drop i ps ≡ p ∷ rest → p.time ≡ x → at x ps ≡ Some p
  found_there p rest is same =
      let here : nat_eq p.time x ≡ true = grind (arith, nat_tests) in
      sym at_rest ∙ ap (at x) is ∙ ap (λ b. if b then Some p else at x rest) here

  at_place : (p : Point) → i < length ps → p ≡ get_or ps i p → drop i ps ≡ p ∷ drop (suc i) ps
  at_place p within is = drop-cons ps i p within ∙ ap (λ (q : Point). q ∷ drop (suc i) ps) (sym is)

  -- the sample at the index, if its time is x
  pub found : (p : Point) → i < length ps → p ≡ get_or ps i p → p.time ≡ x → IsSomeAnd (at x ps) (λ q. slice_get ps i ≡ Some q)
  found p within is same =
      subst (λ o. IsSomeAnd o (λ q. slice_get ps i ≡ Some q)) (sym (found_there p (drop (suc i) ps) (at_place p within is) same))
      (slice_get_read ps (length ps) i p refl within is)

  -- there is no sample at the index
  pub absent_past : length ps ≤ i → at x ps ≡ None
  absent_past past = sym at_rest ∙ ap (at x) (drop_all i ps past)

  -- the sample at the index is later
  absent_later : (p : Point) (rest : List Point) → drop i ps ≡ p ∷ rest → p.time ≢ x → at x ps ≡ None
  absent_later p rest is other =
      let not_here : nat_eq p.time x ≡ false = grind (arith, nat_tests) in
      let sorted : IsAscending (p ∷ rest) = subst IsAscending (sym after ∙ is) (ascending-times (nat_le x) ps rises) in
      let reached : nat_le x p.time ≡ true = first_passes (nat_le x) ps p rest (sym after ∙ is) in
      let later : x ≤ p.time = grind (arith, nat_tests) in
      sym at_rest ∙ ap (at x) is ∙ ap (λ b. if b then Some p else at x rest) not_here ∙ at-after x p.time rest sorted.0 later

  pub absent_here : (p : Point) → i < length ps → p ≡ get_or ps i p → p.time ≢ x → at x ps ≡ None
  absent_here p within is other = absent_later p (drop (suc i) ps) (at_place p within is) other

  -- replacing the sample at the index is `put`
  pub put_between : at x ps ≡ None → (p : Point) → p.time ≡ x → take i ps ++ p ∷ drop i ps ≡ put p ps
  put_between none p same =
      let back : drop i ps ≡ at_times (nat_lt x) ps = after ∙ ascending-same _ _ (ascending-times (nat_le x) ps rises) (ascending-times (nat_lt x) ps rises)
      (λ t. at-times t (nat_le x) ps ∙ pick t (cases_eq t x) ∙ sym (at-times t (nat_lt x) ps)) in
      let parts : take i ps ++ p ∷ drop i ps ≡ at_times (λ t. nat_lt t x) ps ++ p ∷ at_times (nat_lt x) ps =
      ap (λ (l : List Point). l ++ p ∷ drop i ps) before ∙ ap (λ (l : List Point). at_times (λ t. nat_lt t x) ps ++ p ∷ l) back in
      subst (λ y. take i ps ++ p ∷ drop i ps ≡ at_times (λ t. nat_lt t y) ps ++ p ∷ at_times (nat_lt y) ps) (sym same) parts
    where
      pick : (t : ℕ) → (t ≡ x) ⊎ (t ≢ x) → (if nat_le x t then at t ps else None) ≡ (if nat_lt x t then at t ps else None)
      pick t (inl is) = let none_here : at t ps ≡ None = ap (λ n. at n ps) is ∙ none in rw none_here (none_both (nat_le x t) (nat_lt x t))
      pick t (inr other) = let same : nat_le x t ≡ nat_lt x t = grind (arith, nat_tests) in ap (λ b. if b then at t ps else None) same
