-- Worked examples of rules, over the stored data.
use Rattle.std.specs.Prelude.{◌≡◌, refl, [], ◌∷◌}
use Rattle.ts_spec.specs.Command.{DelRange, DeleteRule}
use Rattle.ts_spec.specs.Sample.{MAX_TIME}
use Rattle.ts_spec.specs.Value.{clamp}
use Rattle.ts_spec.specs.Refusal.{TooOld, SameKey, SourceIsDest, DestIsSource, DestHasSource, DeleteBeyondRetention, NoRule}
use Rattle.ts_spec.specs.Response.{Done, Count, Refused, Rows}
use Rattle.ts_spec.proofs.StoredExamples.{stored_responses}
use Rattle.ts_spec.proofs.Examples.{a, b, c, d, s, create, create_kept_for, alter_retention, add, replace, sum_rule, sum_rule_at, range, range_latest, row}

pub late_samples_and_deletions : stored_responses (
    create s ∷ create d ∷ sum_rule s d ∷ add s 1 5 ∷ add s 2 6 ∷ add s 11 1 ∷ range d
    ∷ add s 3 4 ∷ range d ∷ replace s 2 1 ∷ range d ∷ DelRange s 1 3 ∷ range d ∷ add s 9 7 ∷ range d ∷ [])
    ≡ Done ∷ Done ∷ Done ∷ Count 1 ∷ Count 2 ∷ Count 11 ∷ Rows (row 0 11 ∷ [])
    ∷ Count 3 ∷ Rows (row 0 15 ∷ []) ∷ Count 2 ∷ Rows (row 0 10 ∷ []) ∷ Count 3 ∷ Rows [] ∷ Count 9 ∷ Rows (row 0 7 ∷ []) ∷ []
unfolding clamp
late_samples_and_deletions = refl

pub samples_from_before_the_rule : stored_responses (
    add s 1 100 ∷ create d ∷ sum_rule s d ∷ add s 2 5 ∷ add s 10 0 ∷ range d ∷ replace s 1 3 ∷ range d ∷ [])
    ≡ Count 1 ∷ Done ∷ Done ∷ Count 2 ∷ Count 10 ∷ Rows (row 0 5 ∷ []) ∷ Count 1 ∷ Rows (row 0 8 ∷ []) ∷ []
unfolding clamp
samples_from_before_the_rule = refl

pub samples_lost_by_retention : stored_responses (
    create_kept_for 5 s ∷ create d ∷ sum_rule s d ∷ add s 1 5 ∷ add s 4 1 ∷ add s 9 2 ∷ add s 12 0 ∷ range d
    ∷ add s 8 1 ∷ range d ∷ add s 6 1 ∷ [])
    ≡ Done ∷ Done ∷ Done ∷ Count 1 ∷ Count 4 ∷ Count 9 ∷ Count 12 ∷ Rows (row 0 8 ∷ []) ∷ Count 8 ∷ Rows (row 0 3 ∷ []) ∷ Refused TooOld ∷ []
unfolding clamp
samples_lost_by_retention = refl

pub a_destination_with_retention : stored_responses (
    create s ∷ create_kept_for 10 d ∷ sum_rule s d ∷ add s 1 1 ∷ add s 11 1 ∷ add s 21 1 ∷ add s 31 1 ∷ range d
    ∷ alter_retention d 0 ∷ range d ∷ [])
    ≡ Done ∷ Done ∷ Done ∷ Count 1 ∷ Count 11 ∷ Count 21 ∷ Count 31 ∷ Rows (row 10 1 ∷ row 20 1 ∷ [])
    ∷ Done ∷ Rows (row 10 1 ∷ row 20 1 ∷ []) ∷ []
unfolding clamp
a_destination_with_retention = refl

pub a_client_writes_into_a_destination : stored_responses (
    create s ∷ create d ∷ sum_rule s d ∷ add s 1 5 ∷ add s 11 0 ∷ replace d 0 99 ∷ range d ∷ add s 2 1 ∷ range d
    ∷ replace d 0 99 ∷ DelRange s 1 2 ∷ range d ∷ [])
    ≡ Done ∷ Done ∷ Done ∷ Count 1 ∷ Count 11 ∷ Count 0 ∷ Rows (row 0 99 ∷ []) ∷ Count 2 ∷ Rows (row 0 6 ∷ [])
    ∷ Count 0 ∷ Count 2 ∷ Rows [] ∷ []
unfolding clamp
a_client_writes_into_a_destination = refl

pub rules_in_a_chain_are_refused : stored_responses (
    create a ∷ create b ∷ create c ∷ sum_rule a b ∷ sum_rule b c ∷ sum_rule c a ∷ sum_rule c b ∷ sum_rule c c ∷ [])
    ≡ Done ∷ Done ∷ Done ∷ Done ∷ Refused SourceIsDest ∷ Refused DestIsSource ∷ Refused DestHasSource ∷ Refused SameKey ∷ []
rules_in_a_chain_are_refused = refl

pub a_bucket_never_opens_again : stored_responses (
    create s ∷ create d ∷ sum_rule s d ∷ add s 1 1 ∷ add s 11 1 ∷ DelRange s 11 11 ∷ range_latest d ∷ add s 5 1 ∷ range d ∷ range_latest d ∷ [])
    ≡ Done ∷ Done ∷ Done ∷ Count 1 ∷ Count 11 ∷ Count 1 ∷ Rows (row 0 1 ∷ []) ∷ Count 5 ∷ Rows (row 0 2 ∷ []) ∷ Rows (row 0 2 ∷ []) ∷ []
unfolding clamp
a_bucket_never_opens_again = refl

pub an_aligned_rule : stored_responses (
    create s ∷ create d ∷ sum_rule_at 5 s d ∷ add s 3 1 ∷ add s 5 1 ∷ range d ∷ add s 15 1 ∷ range d ∷ [])
    ≡ Done ∷ Done ∷ Done ∷ Count 3 ∷ Count 5 ∷ Rows (row 0 1 ∷ []) ∷ Count 15 ∷ Rows (row 0 1 ∷ row 5 1 ∷ []) ∷ []
unfolding clamp
an_aligned_rule = refl

pub deletion_in_an_expired_bucket : stored_responses (
    create_kept_for 5 s ∷ create d ∷ sum_rule s d ∷ add s 1 1 ∷ add s 12 1 ∷ DelRange s 8 9 ∷ DelRange s 10 12 ∷ [])
    ≡ Done ∷ Done ∷ Done ∷ Count 1 ∷ Count 12 ∷ Refused DeleteBeyondRetention ∷ Count 1 ∷ []
deletion_in_an_expired_bucket = refl

pub the_end_of_a_rule : stored_responses (
    create s ∷ create d ∷ sum_rule s d ∷ add s 1 5 ∷ add s 11 1 ∷ DeleteRule s d ∷ add s 21 1 ∷ range d ∷ DeleteRule s d ∷ [])
    ≡ Done ∷ Done ∷ Done ∷ Count 1 ∷ Count 11 ∷ Done ∷ Count 21 ∷ Rows (row 0 5 ∷ []) ∷ Refused NoRule ∷ []
unfolding clamp
the_end_of_a_rule = refl

pub deletion_over_many_buckets : stored_responses (
    create s ∷ create d ∷ sum_rule s d ∷ add s 1 1 ∷ add s 12 1 ∷ add s 25 1 ∷ add s 31 1 ∷ add d 15 9 ∷ range d ∷ DelRange s 5 25 ∷ range d ∷ [])
    ≡ Done ∷ Done ∷ Done ∷ Count 1 ∷ Count 12 ∷ Count 25 ∷ Count 31 ∷ Count 15 ∷ Rows (row 0 1 ∷ row 10 1 ∷ row 15 9 ∷ row 20 1 ∷ [])
    ∷ Count 2 ∷ Rows (row 0 1 ∷ row 15 9 ∷ []) ∷ []
unfolding clamp
deletion_over_many_buckets = refl

pub deletion_on_a_destination : stored_responses (
    create s ∷ create d ∷ sum_rule s d ∷ add s 1 5 ∷ add s 11 1 ∷ DelRange d 0 MAX_TIME ∷ add s 2 1 ∷ range d ∷ [])
    ≡ Done ∷ Done ∷ Done ∷ Count 1 ∷ Count 11 ∷ Count 1 ∷ Count 2 ∷ Rows (row 0 6 ∷ []) ∷ []
unfolding clamp
deletion_on_a_destination = refl
