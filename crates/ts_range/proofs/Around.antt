-- The last sample before a bucket.
use Rattle.std.proofs.Common.{◌≡◌, ℕ, suc, ◌-◌, ◌≤◌, not, ◌&&◌, nat_lt, List, [], ◌∷◌, ◌++◌, length, refl, sym, ◌∙◌, ap, arith}
use Rattle.std.specs.Prelude.{Option, None, Some, slice_get}
use Rattle.std.specs.Option.{option_or}
use Rattle.std.proofs.lemmas.Bool.Decides.{nat_tests}
use Rattle.std.proofs.lemmas.List.Elements.{filter_agree}
use Rattle.ts_spec.specs.Sample.{Point, IsAscending, at_times, is_within, between, later_or, last_of}
use Rattle.ts_spec.proofs.Samples.{ascending-times}
use Rattle.ts_sample.proofs.Between.{filter-filter}
use Rattle.ts_range.specs.AskedSamples.{last_before}
use Rattle.ts_range.proofs.Filtered.{parted}

-- the last one is at the last place
pub last-at : (ps : List Point) → last_of ps ≡ slice_get ps (length ps - 1)
last-at [] = refl
last-at (p ∷ []) = ap (slice_get (p ∷ [])) (let e : 0 ≡ 1 - 1 = omega arith in e)
last-at (p ∷ q ∷ ps) =
    let n = length (q ∷ ps) - 1 in
    last-at (q ∷ ps) ∙ ap (slice_get (p ∷ q ∷ ps)) (let e : suc n ≡ length (p ∷ q ∷ ps) - 1 = omega arith in e)

-- the last one of two lists
pub last-append : (xs ys : List Point) → last_of (xs ++ ys) ≡ option_or (last_of ys) (last_of xs)
last-append [] ys = go (last_of ys)
  where
    go : (o : Option Point) → o ≡ option_or o None
    go None = refl
    go (Some p) = refl
last-append (x ∷ xs) ys = ap (λ (o : Option Point). Some (later_or x o)) (last-append xs ys) ∙ go (last_of ys)
  where
    go : (o : Option Point) → Some (later_or x (option_or o (last_of xs))) ≡ option_or o (Some (later_or x (last_of xs)))
    go None = refl
    go (Some p) = refl

-- before a time within an interval: the last one of the interval before it, or else the last one before the interval
pub before-is : (from to b : ℕ) (ps : List Point) → IsAscending ps → from ≤ b → b ≤ to → option_or (last_before b (between from to ps)) (last_before from ps) ≡ last_before b ps
before-is from to b ps rises low high =
    let early = at_times (λ t. nat_lt t b) ps in
    let parts : early ≡ at_times (λ t. nat_lt t from) early ++ at_times (λ t. not (nat_lt t from)) early =
    parted (λ t. nat_lt t from) (λ t u le holds. grind (arith, nat_tests)) early (ascending-times (λ t. nat_lt t b) ps rises) in
    let outer : at_times (λ t. nat_lt t from) early ≡ at_times (λ t. nat_lt t from) ps =
    filter-filter (λ (p : Point). nat_lt p.time from) (λ (p : Point). nat_lt p.time b) ps
    ∙ filter_agree (λ (p : Point). nat_lt p.time b && nat_lt p.time from) (λ (p : Point). nat_lt p.time from) (λ p. outside p.time) ps in
    let inner : at_times (λ t. nat_lt t b) (between from to ps) ≡ at_times (λ t. not (nat_lt t from)) early =
    filter-filter (λ (p : Point). nat_lt p.time b) (λ (p : Point). is_within from to p.time) ps
    ∙ filter_agree (λ (p : Point). is_within from to p.time && nat_lt p.time b) (λ (p : Point). nat_lt p.time b && not (nat_lt p.time from)) (λ p. inside p.time) ps
    ∙ sym (filter-filter (λ (p : Point). not (nat_lt p.time from)) (λ (p : Point). nat_lt p.time b) ps) in
    ap (λ (l : List Point). option_or (last_of l) (last_before from ps)) inner
    ∙ ap (λ (l : List Point). option_or (last_of (at_times (λ t. not (nat_lt t from)) early)) (last_of l)) (sym outer)
    ∙ sym (last-append (at_times (λ t. nat_lt t from) early) (at_times (λ t. not (nat_lt t from)) early))
    ∙ ap last_of (sym parts)
  where
    outside : (t : ℕ) → (nat_lt t b && nat_lt t from) ≡ nat_lt t from
    outside t = grind (arith, nat_tests)

    inside : (t : ℕ) → (is_within from to t && nat_lt t b) ≡ (nat_lt t b && not (nat_lt t from))
    inside t = grind (arith, nat_tests)
