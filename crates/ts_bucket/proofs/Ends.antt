-- The last time of a bucket, and the start of the next one.
use Rattle.std.proofs.Common.{◌≡◌, ℕ, suc, ◌+◌, ◌-◌, ◌*◌, ◌<◌, ◌≤◌, min, inl, inr, pos, ◌+ℤ◌, sym, ap, ◌∙◌, mul_comm, mul-le-mul_left, mul-suc, arith}
use Rattle.std.proofs.lemmas.Bool.{cases_lt, cases_order}
use Rattle.std.proofs.lemmas.Int.{ints}
use Rattle.std.proofs.Math.Nat.{div-eq_of_lt-le}
use Rattle.ts_spec.specs.Sample.{MAX_TIME}
use Rattle.ts_spec.specs.Bucket.{Grid, raw, start}
use Rattle.ts_spec.proofs.Buckets.{start-le}
use Rattle.ts_bucket.specs.Grid.{IsLastOf, IsNextOf, HasNoNext}
use Rattle.ts_bucket.proofs.Numbers.{number, numbered, grows, start_number, reached, passed, apart, no_later}

module _ (g : Grid) (some : 1 ≤ g.duration) where
  -- times in a later bucket are not in the same one
  one_bucket : (t u : ℕ) → start g u ≡ start g t → number g u ≡ number g t
  one_bucket t u same =
      let t_begins = start-le g t (omega arith) in
      let u_begins = start-le g u (omega arith) in
      elim (cases_order (number g u) (number g t)) [
        | inl is ↦ is
        | inr (inl less) ↦ (let e = apart g some u t less in absurd (omega arith))
        | inr (inr more) ↦ (let e = apart g some t u more in absurd (omega arith))
      ]

  -- a time from the start of a bucket on, and not past its end, is in it
  in_bucket : (t u : ℕ) → g.duration * number g t ≤ u + (g.align * g.duration - g.align) → u + (g.align * g.duration - g.align) < g.duration * number g t + g.duration → number g u ≡ number g t
  in_bucket t u from to =
      let e : (number g t + 1) * g.duration ≡ g.duration * number g t + g.duration = grind arith in
      let f : number g t * g.duration ≡ g.duration * number g t = mul_comm (number g t) g.duration in
      div-eq_of_lt-le {k = number g t} g.duration {m = u + (g.align * g.duration - g.align)} (omega arith) (omega arith)

  module _ (t offset : ℕ) (at : raw g t +ℤ pos offset ≡ pos t) where
    placed : t + (g.align * g.duration - g.align) ≡ g.duration * number g t + offset
    placed = let e = numbered g t some in let f = grows g some in omega (arith, ints)

    pub last_is : offset < g.duration → t ≤ MAX_TIME → IsLastOf g t (min MAX_TIME (t + (g.duration - 1 - offset)))
    last_is below time =
        let there = placed in
        let last = min MAX_TIME (t + (g.duration - 1 - offset)) in
        let same : number g last ≡ number g t = in_bucket t last (omega arith) (omega arith) in
        record {
          within = omega arith;
          same = start_number g some last ∙ ap (λ n. g.duration * n - (g.align * g.duration - g.align)) same ∙ sym (start_number g some t);
          latest = λ u u_time u_same. (let e = one_bucket t u u_same in let f = passed g some u in
              let h : g.duration * number g u ≡ g.duration * number g t = ap (λ n. g.duration * n) e in omega arith);
        }

    next_number : offset < g.duration → number g (t + (g.duration - offset)) ≡ suc (number g t)
    next_number below =
        let there = placed in
        let k = suc (number g t) in
        let e : k * g.duration ≡ g.duration * number g t + g.duration = grind arith in
        let f : (k + 1) * g.duration ≡ g.duration * number g t + g.duration + g.duration = grind arith in
        div-eq_of_lt-le {k = k} g.duration {m = t + (g.duration - offset) + (g.align * g.duration - g.align)} (omega arith) (omega arith)

    -- a later bucket does not begin before the next one
    not_before : offset < g.duration → (u : ℕ) → number g t < number g u → t + (g.duration - offset) + (g.align * g.duration - g.align) ≤ g.duration * number g u
    not_before below u more =
        let there = placed in
        let e : g.duration * suc (number g t) ≤ g.duration * number g u = mul-le-mul_left g.duration more in
        let f : g.duration * suc (number g t) ≡ g.duration * number g t + g.duration = mul-suc g.duration (number g t) in
        omega arith

    pub next_is : offset < g.duration → IsNextOf g t (t + (g.duration - offset))
    next_is below =
        let there = placed in
        let begins = start-le g t (omega arith) in
        let f : g.duration * suc (number g t) ≡ g.duration * number g t + g.duration = mul-suc g.duration (number g t) in
        record {
          begins = start_number g some (t + (g.duration - offset)) ∙ ap (λ n. g.duration * n - (g.align * g.duration - g.align)) (next_number below) ∙ omega arith;
          later = omega arith;
          least = λ u after. elim (cases_lt (number g t) (number g u)) [
            | inl more ↦ (let e = not_before below u more in let s = start_number g some u in omega arith)
            | inr less ↦ (let e = no_later g some u t less in absurd (omega arith))
          ];
        }

    pub no_next : offset < g.duration → MAX_TIME < t + (g.duration - offset) → HasNoNext g t
    no_next below past u time = elim (cases_lt (number g t) (number g u)) [
      | inl more ↦ (let e = not_before below u more in let f = reached g some u in absurd (omega arith))
      | inr less ↦ no_later g some u t less
    ]
