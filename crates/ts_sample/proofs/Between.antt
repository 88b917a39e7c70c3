-- The samples of an ascending list inside and outside an interval.
use Rattle.std.proofs.Common.{◌≡◌, ℕ, ◌+◌, ◌-◌, ◌≤◌, Bool, true, false, cond, not, ◌&&◌, List, [], ◌∷◌, ◌++◌, take, drop, refl, sym, ◌∙◌, ap, arith}
use Rattle.std.specs.Prelude.{nat_lt, nat_le, filter, slice_range}
use Rattle.std.proofs.lemmas.List.{take-take, take-append-drop, drop-take}
use Rattle.std.proofs.lemmas.List.Elements.{filter-append}
use Rattle.std.proofs.lemmas.Bool.Decides.{nat_tests}
use Rattle.ts_spec.specs.Sample.{Point, at_times, is_within, between, outside}
use Rattle.ts_sample.proofs.Parted.{filter_alike}

-- one test after another is both
pub filter-filter : {X : Type 0} (p q : X → Bool) (xs : List X) → filter p (filter q xs) ≡ filter (λ x. q x && p x) xs
filter-filter p q [] = refl
filter-filter {X} p q (x ∷ xs) = go (q x) (filter-filter p q xs)
  where
    go : (b : Bool) → filter p (filter q xs) ≡ filter (λ y. q y && p y) xs
        → filter p (cond b (x ∷ filter q xs) (filter q xs)) ≡ cond (b && p x) (x ∷ filter (λ y. q y && p y) xs) (filter (λ y. q y && p y) xs)
    go true ih = ap (λ (l : List X). cond (p x) (x ∷ l) l) ih
    go false ih = ih

-- the same of times
pub times-both : (a b : ℕ → Bool) (ps : List Point) → at_times a (at_times b ps) ≡ at_times (λ t. b t && a t) ps
times-both a b ps = filter-filter (λ (p : Point). a p.time) (λ (p : Point). b p.time) ps

pub times-alike : (a b : ℕ → Bool) (ps : List Point) → ((t : ℕ) → a t ≡ b t) → at_times a ps ≡ at_times b ps
times-alike a b ps same = filter_alike (λ (p : Point). a p.time) (λ (p : Point). b p.time) (λ p. same p.time) ps

both_ends : (from to t : ℕ) → (nat_le t to && nat_le from t) ≡ is_within from to t
both_ends from to t = grind (arith, nat_tests)

before_it : (from to t : ℕ) → (nat_le t to && not (is_within from to t)) ≡ (nat_le t to && nat_lt t from)
before_it from to t = grind (arith, nat_tests)

past_it : (from to t : ℕ) → (nat_lt to t && not (is_within from to t)) ≡ nat_lt to t
past_it from to t = grind (arith, nat_tests)

-- `end` samples are up to the time `to`, and `start` of these are before the time `from`
module _ (from to start end : ℕ) (ps : List Point) (ordered : start ≤ end) (upto : take end ps ≡ at_times (λ t. nat_le t to) ps) (past : drop end ps ≡ at_times (nat_lt to) ps)
    (before : take start (take end ps) ≡ at_times (λ t. nat_lt t from) (take end ps)) (after : drop start (take end ps) ≡ at_times (nat_le from) (take end ps)) where
  range : slice_range ps start end ≡ drop start (take end ps)
  range = sym (drop-take start (end - start) ps) ∙ ap (λ n. drop start (take n ps)) (let all : start + (end - start) ≡ end = omega arith in all)

  pub inside-is : slice_range ps start end ≡ between from to ps
  inside-is =
      range ∙ after ∙ ap (at_times (nat_le from)) upto ∙ filter-filter (λ (p : Point). nat_le from p.time) (λ (p : Point). nat_le p.time to) ps
      ∙ filter_alike (λ (p : Point). nat_le p.time to && nat_le from p.time) (λ (p : Point). is_within from to p.time) (λ p. both_ends from to p.time) ps

  front : take start ps ≡ outside from to (take end ps)
  front =
      sym (take-take start end ps ordered) ∙ before ∙ ap (at_times (λ t. nat_lt t from)) upto
      ∙ filter-filter (λ (p : Point). nat_lt p.time from) (λ (p : Point). nat_le p.time to) ps
      ∙ sym (filter_alike (λ (p : Point). nat_le p.time to && not (is_within from to p.time)) (λ (p : Point). nat_le p.time to && nat_lt p.time from) (λ p. before_it from to p.time) ps)
      ∙ sym (filter-filter (λ (p : Point). not (is_within from to p.time)) (λ (p : Point). nat_le p.time to) ps)
      ∙ ap (outside from to) (sym upto)

  back : drop end ps ≡ outside from to (drop end ps)
  back =
      past ∙ sym (filter_alike (λ (p : Point). nat_lt to p.time && not (is_within from to p.time)) (λ (p : Point). nat_lt to p.time) (λ p. past_it from to p.time) ps)
      ∙ sym (filter-filter (λ (p : Point). not (is_within from to p.time)) (λ (p : Point). nat_lt to p.time) ps)
      ∙ ap (outside from to) (sym past)

  pub outside-is : take start ps ++ drop end ps ≡ outside from to ps
  outside-is =
      ap (λ (l : List Point). l ++ drop end ps) front ∙ ap (λ (l : List Point). outside from to (take end ps) ++ l) back
      ∙ sym (filter-append (λ (p : Point). not (is_within from to p.time)) (take end ps) (drop end ps))
      ∙ ap (outside from to) (take-append-drop end ps)
