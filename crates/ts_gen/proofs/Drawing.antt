-- The numbers drawn from a seed.
use Rattle.std.proofs.Common.{◌≡◌, ℕ, ◌+◌, refl, ap, add-one}
use Rattle.ts_gen.specs.Workload.{generator_state, next}

pub drawn_none : (seed : ℕ) → generator_state seed 0 ≡ seed
unfolding generator_state
drawn_none seed = refl

pub drawn_next : (seed k : ℕ) → generator_state seed (k + 1) ≡ next (generator_state seed k)
unfolding generator_state
drawn_next seed k = ap (generator_state seed) (add-one k)
