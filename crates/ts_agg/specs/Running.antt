-- Running summaries, and the lists that they summarize.
use Rattle.std.specs.Prelude.{◌≡◌, ℕ, ◌*◌, ◌^◌, ◌≤◌, ℤ, unsigned_abs, List}
use Rattle.ts_spec.specs.Sample.{Point}
use Rattle.ts_spec.specs.Value.{bound}
use Rattle.ts_spec.specs.Aggregate.{Summary, summary}

-- it is the summary of the list
abbrev pub Summarizes : Summary → List Point → Type 0
Summarizes s ps = s ≡ summary ps

-- a count of at most 10^14, and a sum that this many values can have
pub record IsSmall (count : ℕ) (sum : ℤ) : Type 0 where
  pub few : count ≤ 10 ^ 14
  pub within : unsigned_abs sum ≤ bound * count
