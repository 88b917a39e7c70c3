-- One row at its time.
use Rattle.std.proofs.Common.{◌≡◌, ◌≢◌, ◌⊎◌, inl, inr, ℕ, ◌+◌, ◌<◌, ◌≤◌, Bool, true, false, not, ◌&&◌, cond, List, [], ◌∷◌, ◌++◌, length, refl, sym, ◌∙◌, ap, subst, arith, eq-eqb, ne_eqb}
use Rattle.std.specs.Prelude.{nat_lt, if◌then◌else◌, Option, None, Some}
use Rattle.std.proofs.lemmas.Bool.Decides.{nat_tests}
use Rattle.ts_spec.specs.Sample.{Point, IsAfter, IsAscending, at, at_times, is_within, between, outside, put, put_all}
use Rattle.ts_sample.proofs.Between.{filter-filter}
use Rattle.ts_sample.proofs.Parted.{filter_alike}
use Rattle.ts_series.specs.Plan.{AreWithin}
use Rattle.ts_series.proofs.Counting.{length-put, length-put_there, times-each}

-- samples that pass a test are not taken out by another that lets them be
times-left : (from to : ℕ) (test : ℕ → Bool) → ((t : ℕ) → (not (is_within from to t) && test t) ≡ test t) → (ps : List Point) → at_times test (outside from to ps) ≡ at_times test ps
times-left from to test same ps =
    filter-filter (λ (p : Point). test p.time) (λ (p : Point). not (is_within from to p.time)) ps
    ∙ filter_alike (λ (p : Point). not (is_within from to p.time) && test p.time) (λ (p : Point). test p.time) (λ p. same p.time) ps

-- a row in the place of the samples of its own time is put at it
pub row-at-its-time : (from to : ℕ) (row : Point) (ps : List Point) → from ≡ to → AreWithin from to (row ∷ []) → put row ps ≡ put_all (row ∷ []) (outside from to ps)
row-at-its-time from to row ps one within =
    let low : from ≤ row.time = within.0 in
    let high : row.time ≤ to = within.1.0 in
    let before = times-left from to (λ t. nat_lt t row.time) (λ t. grind (arith, nat_tests)) ps in
    let after = times-left from to (nat_lt row.time) (λ t. grind (arith, nat_tests)) ps in
    λ i. sym before i ++ row ∷ sym after i

-- how many samples a look-up finds
abbrev pub found : Option Point → ℕ
found None = 0
found (Some p) = 1

none-within : (t : ℕ) (ps : List Point) → IsAfter t ps → between t t ps ≡ []
none-within t [] h = refl
none-within t (p ∷ ps) h =
    let later : t < p.time = h.0 in
    let gone : is_within t t p.time ≡ false = grind (arith, nat_tests) in
    ap (λ b. cond b (p ∷ between t t ps) (between t t ps)) gone ∙ none-within t ps h.1

-- of one time there is a sample or none
pub count-at : (t : ℕ) (ps : List Point) → IsAscending ps → length (between t t ps) ≡ found (at t ps)
count-at t [] h = refl
count-at t (p ∷ ps) h = go (cases p.time t) (count-at t ps h.1)
  where
    cases : (u t : ℕ) → (u ≡ t) ⊎ (u ≢ t)
    cases u t = grind arith

    go : (p.time ≡ t) ⊎ (p.time ≢ t) → length (between t t ps) ≡ found (at t ps) → length (between t t (p ∷ ps)) ≡ found (at t (p ∷ ps))
    go (inl same) rest =
        let here : is_within t t p.time ≡ true = grind (arith, nat_tests) in
        ap (λ b. length (cond b (p ∷ between t t ps) (between t t ps))) here
        ∙ ap (λ (l : List Point). length (p ∷ l)) (none-within t ps (subst (λ (u : ℕ). IsAfter u ps) same h.0))
        ∙ sym (ap (λ b. found (if b then Some p else at t ps)) (eq-eqb p.time t same))
    go (inr other) rest =
        let gone : is_within t t p.time ≡ false = grind (arith, nat_tests) in
        ap (λ b. length (cond b (p ∷ between t t ps) (between t t ps))) gone
        ∙ rest ∙ sym (ap (λ b. found (if b then Some p else at t ps)) (ne_eqb p.time t other))

-- a row at a time without a sample is one more
put-new : (p : Point) (ps : List Point) → at p.time ps ≡ None → length (put p ps) ≡ length ps + 1
put-new p ps none = omega (arith, length-put (λ t. true) p ps none, ap length (times-each (put p ps)), ap length (times-each ps))

-- where there are as many samples as before, one had its time
pub one-taken : (p : Point) (ps : List Point) → IsAscending ps → length (put p ps) ≡ length ps → 1 ≡ length (between p.time p.time ps)
one-taken p ps h same = go (at p.time ps) refl
  where
    go : (o : Option Point) → at p.time ps ≡ o → 1 ≡ length (between p.time p.time ps)
    go None is = absurd (omega (arith, same, put-new p ps is))
    go (Some q) is = sym (count-at p.time ps h ∙ ap found is)

-- and else none had
pub none-taken : (p : Point) (ps : List Point) → IsAscending ps → length (put p ps) ≢ length ps → 0 ≡ length (between p.time p.time ps)
none-taken p ps h other = go (at p.time ps) refl
  where
    go : (o : Option Point) → at p.time ps ≡ o → 0 ≡ length (between p.time p.time ps)
    go None is = sym (count-at p.time ps h ∙ ap found is)
    go (Some q) is = absurd (other (length-put_there p q ps h is))
