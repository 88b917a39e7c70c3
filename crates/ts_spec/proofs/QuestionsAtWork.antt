-- Worked examples: queries and duplicate policies.
use Rattle.std.specs.Prelude.{◌≡◌, refl, [], ◌∷◌, true, false, Some, negsuc, ◌-◌, ◌^◌, ◌*◌}
use Rattle.ts_spec.specs.declared.series.Policy.TheVariants as policy
use Rattle.ts_spec.specs.declared.bucket.Aggregator.TheVariants as aggregator
use Rattle.ts_spec.specs.declared.bucket.Stamp.TheVariants as stamp
use Rattle.ts_spec.specs.declared.command.At.TheVariants.{Time}
use Rattle.ts_spec.specs.Command.{Add, Range}
use Rattle.ts_spec.specs.Sample.{MAX_TIME}
use Rattle.ts_spec.specs.Value.{clamp}
use Rattle.ts_spec.specs.Response.{Count, Rows}
use Rattle.ts_spec.proofs.Examples.{responses, a, e, p, r, kept_for, add, add_as, question, tens, range, row, no_value}

pub empty_buckets : responses (
    add e 1 2 ∷ add e 35 4
    ∷ Range e false (question 0 MAX_TIME (tens 0 aggregator.Sum stamp.Low true))
    ∷ Range e false (question 0 MAX_TIME (tens 0 aggregator.Last stamp.Low true))
    ∷ Range e false (question 0 MAX_TIME (tens 0 aggregator.Min stamp.Low true)) ∷ [])
    ≡ Count 1 ∷ Count 35 ∷ Rows (row 0 2 ∷ row 10 0 ∷ row 20 0 ∷ row 30 4 ∷ []) ∷ Rows (row 0 2 ∷ row 10 2 ∷ row 20 2 ∷ row 30 4 ∷ [])
    ∷ Rows (row 0 2 ∷ no_value 10 ∷ no_value 20 ∷ row 30 4 ∷ []) ∷ []
unfolding clamp
empty_buckets = refl

pub a_stamp_past_the_greatest_time : responses (
    add r 1 2 ∷ add r MAX_TIME 4
    ∷ Range r false (record (question 0 MAX_TIME (tens 0 aggregator.Sum stamp.High false)) { count = Some 1; reverse = true }) ∷ [])
    ≡ Count 1 ∷ Count MAX_TIME ∷ Rows (row MAX_TIME 4 ∷ []) ∷ []
unfolding clamp
a_stamp_past_the_greatest_time = refl

pub buckets_from_the_start_of_the_interval : responses (
    add a 3 1 ∷ add a 12 1 ∷ add a 14 1
    ∷ Range a false (question 3 20 (tens 3 aggregator.Count stamp.Low false))
    ∷ Range a false (question 3 20 (tens 3 aggregator.Count stamp.Mid false))
    ∷ Range a false (question 3 20 (tens 3 aggregator.Count stamp.High false)) ∷ [])
    ≡ Count 3 ∷ Count 12 ∷ Count 14 ∷ Rows (row 3 2 ∷ row 13 1 ∷ []) ∷ Rows (row 8 2 ∷ row 18 1 ∷ []) ∷ Rows (row 13 2 ∷ row 23 1 ∷ []) ∷ []
buckets_from_the_start_of_the_interval = refl

pub duplicate_policies : responses (
    add p 1 5 ∷ add_as policy.First p 1 9 ∷ range p ∷ add_as policy.Min p 1 7 ∷ range p ∷ add_as policy.Max p 1 7 ∷ range p
    ∷ Add p (Time 1) (negsuc (2 * 10 ^ 6 - 1)) (Some policy.Sum) (kept_for 0) ∷ range p ∷ add_as policy.Last p 1 1 ∷ range p ∷ [])
    ≡ Count 1 ∷ Count 1 ∷ Rows (row 1 5 ∷ []) ∷ Count 1 ∷ Rows (row 1 5 ∷ []) ∷ Count 1 ∷ Rows (row 1 7 ∷ [])
    ∷ Count 1 ∷ Rows (row 1 5 ∷ []) ∷ Count 1 ∷ Rows (row 1 1 ∷ []) ∷ []
duplicate_policies = refl
