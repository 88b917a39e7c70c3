-- Worked examples: steps over the state and over the stored data have the same responses.
use Rattle.std.specs.Prelude.{◌≡◌, refl, List, [], ◌∷◌}
use Rattle.ts_spec.specs.declared.limits.Limits.{Limits}
use Rattle.ts_spec.specs.declared.bucket.Aggregator.TheVariants as aggregator
use Rattle.ts_spec.specs.Limits.{usual}
use Rattle.ts_spec.specs.Value.{clamp}
use Rattle.ts_spec.specs.Keyed.{none}
use Rattle.ts_spec.specs.State.{State, empty}
use Rattle.ts_spec.specs.Refusal.{DestinationFull}
use Rattle.ts_spec.specs.Command.{Command, DelRange, CreateRule}
use Rattle.ts_spec.specs.Response.{Response, Done, Count, Refused, Rows}
use Rattle.ts_spec.specs.Step.{step, Outcome}
use Rattle.ts_spec.specs.StoredSeries.{StoredKeys}
use Rattle.ts_spec.specs.StoredStep.{StoredOutcome}
use Rattle.ts_spec.specs.StoredQueries.{stored_step}
use Rattle.ts_spec.proofs.Examples.{responses, d, s, create, create_kept_for, add, replace, sum_rule, range, range_latest, row}

abbrev pub stored_responses_from : Limits → StoredKeys → List Command → List Response
stored_responses_from limits m [] = []
stored_responses_from limits m (x ∷ xs) = let o : StoredOutcome = stored_step limits m 0 x in o.response ∷ stored_responses_from limits o.keys xs

-- the responses from the stored data, from the empty database on
abbrev pub stored_responses : List Command → List Response
stored_responses xs = stored_responses_from usual none xs

abbrev pub responses_within_from : Limits → State → List Command → List Response
responses_within_from limits m [] = []
responses_within_from limits m (x ∷ xs) = let o : Outcome = step limits m 0 x in o.response ∷ responses_within_from limits o.state xs

-- ---- late samples after the rule was made

abbrev late_script : List Command
late_script = create s ∷ create d ∷ add s 100 1 ∷ sum_rule s d ∷ add s 5 2 ∷ add s 15 3 ∷ range d ∷ range_latest d ∷ []

abbrev late_answers : List Response
late_answers = Done ∷ Done ∷ Count 100 ∷ Done ∷ Count 5 ∷ Count 15 ∷ Rows (row 0 2 ∷ []) ∷ Rows (row 0 2 ∷ row 10 3 ∷ []) ∷ []

pub late_before_the_rule : responses late_script ≡ late_answers
unfolding clamp
late_before_the_rule = refl

pub late_before_the_rule_kept : stored_responses late_script ≡ late_answers
unfolding clamp
late_before_the_rule_kept = refl

-- ---- a bucket that loses nothing to a deletion

abbrev untouched_script : List Command
untouched_script = create s ∷ create d ∷ sum_rule s d ∷ add s 2 1 ∷ add s 12 1 ∷ add s 31 1 ∷ replace d 0 99 ∷ range d ∷ DelRange s 5 15 ∷ range d ∷ []

abbrev untouched_answers : List Response
untouched_answers =
    Done ∷ Done ∷ Done ∷ Count 2 ∷ Count 12 ∷ Count 31 ∷ Count 0 ∷ Rows (row 0 99 ∷ row 10 1 ∷ []) ∷ Count 1 ∷ Rows (row 0 99 ∷ []) ∷ []

pub untouched_bucket : responses untouched_script ≡ untouched_answers
unfolding clamp
untouched_bucket = refl

pub untouched_bucket_kept : stored_responses untouched_script ≡ untouched_answers
unfolding clamp
untouched_bucket_kept = refl

-- ---- a destination with a shorter retention

abbrev retained_script : List Command
retained_script = create s ∷ create_kept_for 5 d ∷ sum_rule s d ∷ add s 2 1 ∷ add s 12 1 ∷ add s 31 1 ∷ range d ∷ []

abbrev retained_answers : List Response
retained_answers = Done ∷ Done ∷ Done ∷ Count 2 ∷ Count 12 ∷ Count 31 ∷ Rows (row 10 1 ∷ []) ∷ []

pub retained_rows : responses retained_script ≡ retained_answers
unfolding clamp
retained_rows = refl

pub retained_rows_kept : stored_responses retained_script ≡ retained_answers
unfolding clamp
retained_rows_kept = refl

-- ---- a first bucket that begins before time 0

abbrev short_script : List Command
short_script =
    create s ∷ create d ∷ CreateRule s d aggregator.Min (record { align = 9; duration = 10 })
    ∷ add s 0 5 ∷ add s 8 4 ∷ add s 9 3 ∷ add s 20 1 ∷ range d ∷ []

abbrev short_answers : List Response
short_answers = Done ∷ Done ∷ Done ∷ Count 0 ∷ Count 8 ∷ Count 9 ∷ Count 20 ∷ Rows (row 0 4 ∷ row 9 3 ∷ []) ∷ []

pub short_first_bucket : responses short_script ≡ short_answers
short_first_bucket = refl

pub short_first_bucket_kept : stored_responses short_script ≡ short_answers
short_first_bucket_kept = refl

-- ---- a deletion after which a destination would show too many samples

abbrev at_most_three : Limits
at_most_three = record usual { samples = 3 }

abbrev full_script : List Command
full_script =
    create s ∷ create d ∷ sum_rule s d ∷ add s 1 1 ∷ add s 2 1 ∷ add s 11 1 ∷ DelRange d 0 0 ∷ add d 100 1 ∷ add d 200 1 ∷ add d 300 1
    ∷ DelRange s 2 2 ∷ range s ∷ range d ∷ []

abbrev full_answers : List Response
full_answers =
    Done ∷ Done ∷ Done ∷ Count 1 ∷ Count 2 ∷ Count 11 ∷ Count 1 ∷ Count 100 ∷ Count 200 ∷ Count 300
    ∷ Refused (DestinationFull d) ∷ Rows (row 1 1 ∷ row 2 1 ∷ row 11 1 ∷ []) ∷ Rows (row 100 1 ∷ row 200 1 ∷ row 300 1 ∷ []) ∷ []

pub full_destination : responses_within_from at_most_three empty full_script ≡ full_answers
unfolding clamp
full_destination = refl

pub full_destination_kept : stored_responses_from at_most_three none full_script ≡ full_answers
unfolding clamp
full_destination_kept = refl
