-- Two states that differ, for one destination, in a single bucket of its rule.
use Rattle.std.specs.Prelude.{◌≡◌, ℕ, ◌≢◌, Some}
use Rattle.ts_spec.specs.Sample.{at}
use Rattle.ts_spec.specs.Bucket.{members}
use Rattle.ts_spec.specs.Key.{Key}
use Rattle.ts_spec.specs.Keyed.{get}
use Rattle.ts_spec.specs.State.{Rule, Record, State, rule_into}

-- In both states a rule writes to the key. The rules may differ in what they count in the bucket that starts at b,
-- and in nothing else. The options, the highest time and the number of rules ever made are equal. The samples of the
-- key itself are equal except at b.
pub record DiffersInOneBucket (m n : State) (k : Key) (b : ℕ) : Type 0 where
  pub first : Record
  pub second : Record
  pub rule : Rule
  pub other : Rule
  pub first_there : get k m ≡ Some first
  pub second_there : get k n ≡ Some second
  pub rule_there : rule_into m k ≡ Some rule
  pub other_there : rule_into n k ≡ Some other
  pub rules : other ≡ record rule { seen = other.seen }
  pub options : first.options ≡ second.options
  pub high : first.high ≡ second.high
  pub born : first.born ≡ second.born
  pub counted : (c : ℕ) → c ≢ b → members rule.grid c rule.seen ≡ members rule.grid c other.seen
  pub plain : (t : ℕ) → t ≢ b → at t first.plain ≡ at t second.plain
