use Rattle.std.proofs.Common.{ℕ, ◌≤◌, subst}
use Rattle.std.specs.Prelude.{Some, sum_by}
use Rattle.ts_spec.specs.Filter.{selection}
use Rattle.ts_spec.specs.Groups.{ranges_response}
use Rattle.ts_spec.specs.StoredQueries.{stored_selection}
use Rattle.ts_labels.specs.Show.{show_of}
use Rattle.ts_command.specs.GroupBy.{group_of}
use Rattle.ts_db.specs.Bounds.{selection_steps}
use Rattle.ts_questions.specs.Answering.{IsReplyText}
use Rattle.ts_questions.specs.Bounds.{series_query_steps}
use Rattle.ts_questions.specs.GroupQuery.{group_steps}
use Rattle.ts_questions.proofs.Gathered.{groups-few, fewer-steps}
use Rattle.ts_questions.proofs.GroupReplies.{groups-written}
use Rattle.ts_questions.proofs.query_replies.write_ranges.Goals as goal

pub returns-in-None-clause-reply : goal.returns-in-None-clause-reply
returns-in-None-clause-reply g c = rw c.in-None.is c.write_members.ensures.reply

pub returns-in-Some-clause-reply : goal.returns-in-Some-clause-reply
returns-in-Some-clause-reply g c =
    let made = c.new-group_query.ensures in
    rw c.in-Some.is (λ from stands.
    subst (λ r. IsReplyText r c.write_many.new.out.bytes)
    (λ i. ranges_response from.limits from.state (made.latest i) (show_of (made.show i)) (made.asks i) (Some (group_of (made.by i))) (selection from.state c.args.filters.now))
    (groups-written c.args.db.now c.new-group_query.result made.group_query c.args.filters.now c.write_many.new.out.bytes c.write_many.ensures.reply from stands))

-- of a key without the label nothing is taken
pub returns-in-Some-clause-steps : goal.returns-in-Some-clause-steps
returns-in-Some-clause-steps g c =
    let db_view = c.args.db.now in
    let keys = stored_selection db_view.keys c.args.filters.now in
    let asked = c.new-group_query.result in
    fewer-steps c.args.steps.now c.write_many.new.steps (selection_steps db_view c.args.filters.now) (sum_by (group_steps asked db_view) keys)
    (sum_by (λ key. series_query_steps db_view key c.args.asked.query.from c.args.asked.query.to) keys) c.write_many.ensures.steps
    (subst (λ (from : ℕ). sum_by (group_steps asked db_view) keys ≤ sum_by (λ key. series_query_steps db_view key from c.args.asked.query.to) keys) c.new-group_query.ensures.from
    (subst (λ (to : ℕ). sum_by (group_steps asked db_view) keys ≤ sum_by (λ key. series_query_steps db_view key asked.query.from to) keys) c.new-group_query.ensures.to (groups-few asked db_view keys)))
