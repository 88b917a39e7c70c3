-- Worked examples: IGNORE, over the state and over the stored data.
use Rattle.std.specs.Prelude.{◌≡◌, refl, List, [], ◌∷◌}
use Rattle.ts_spec.specs.declared.series.Policy.TheVariants.{Last, Sum}
use Rattle.ts_spec.specs.Value.{clamp}
use Rattle.ts_spec.specs.Command.{Command, Create, DelRange}
use Rattle.ts_spec.specs.Response.{Response, Done, Count, Rows}
use Rattle.ts_spec.proofs.Examples.{responses, d, s, x, create, ignoring, add, add_as, alter_ignore, increase, sum_rule, range, row}
use Rattle.ts_spec.proofs.StoredExamples.{stored_responses}

-- ---- what is close to the last sample, and what is not

abbrev close_script : List Command
close_script =
    Create x (ignoring Last 10 2) ∷ add x 100 5 ∷ add x 105 6 ∷ add x 105 8 ∷ add x 115 7 ∷ add x 116 7 ∷ range x
    ∷ increase x 120 1 ∷ alter_ignore x 0 0 ∷ increase x 120 1 ∷ range x ∷ []

abbrev close_answers : List Response
close_answers =
    Done ∷ Count 100 ∷ Count 100 ∷ Count 105 ∷ Count 105 ∷ Count 116 ∷ Rows (row 100 5 ∷ row 105 8 ∷ row 116 7 ∷ [])
    ∷ Count 116 ∷ Done ∷ Count 120 ∷ Rows (row 100 5 ∷ row 105 8 ∷ row 116 7 ∷ row 120 8 ∷ []) ∷ []

pub close_samples : responses close_script ≡ close_answers
close_samples = refl

pub close_samples_kept : stored_responses close_script ≡ close_answers
close_samples_kept = refl

-- ---- an ignored sample is no write: a rule made since does not count it

abbrev counted_script : List Command
counted_script = Create s (ignoring Last 0 0) ∷ add s 1 5 ∷ create d ∷ sum_rule s d ∷ add s 1 5 ∷ add s 11 0 ∷ range d ∷ []

abbrev counted_answers : List Response
counted_answers = Done ∷ Count 1 ∷ Done ∷ Done ∷ Count 1 ∷ Count 11 ∷ Rows [] ∷ []

pub not_counted : responses counted_script ≡ counted_answers
unfolding clamp
not_counted = refl

pub not_counted_kept : stored_responses counted_script ≡ counted_answers
unfolding clamp
not_counted_kept = refl

-- ---- the series' own policy decides, and the last sample is one that is there

abbrev own_script : List Command
own_script =
    Create x (ignoring Last 10 2) ∷ Create s (ignoring Sum 10 2) ∷ add x 100 5 ∷ add s 100 5 ∷ add_as Sum x 100 5 ∷ add_as Sum x 100 7
    ∷ add_as Last s 100 5 ∷ add_as Last s 105 6 ∷ add x 200 5 ∷ DelRange x 200 200 ∷ add x 110 6 ∷ range x ∷ range s ∷ []

abbrev own_answers : List Response
own_answers =
    Done ∷ Done ∷ Count 100 ∷ Count 100 ∷ Count 100 ∷ Count 100 ∷ Count 100 ∷ Count 105 ∷ Count 200 ∷ Count 1 ∷ Count 100
    ∷ Rows (row 100 5 ∷ []) ∷ Rows (row 100 5 ∷ row 105 6 ∷ []) ∷ []

pub own_policy : responses own_script ≡ own_answers
own_policy = refl

pub own_policy_kept : stored_responses own_script ≡ own_answers
own_policy_kept = refl

-- ---- a destination ignores nothing

abbrev fed_script : List Command
fed_script = create s ∷ Create d (ignoring Last 10 2) ∷ sum_rule s d ∷ add s 1 5 ∷ add s 11 0 ∷ add d 5 5 ∷ range d ∷ []

abbrev fed_answers : List Response
fed_answers = Done ∷ Done ∷ Done ∷ Count 1 ∷ Count 11 ∷ Count 5 ∷ Rows (row 0 5 ∷ row 5 5 ∷ []) ∷ []

pub update_dest : responses fed_script ≡ fed_answers
unfolding clamp
update_dest = refl

pub fed_kept : stored_responses fed_script ≡ fed_answers
unfolding clamp
fed_kept = refl
