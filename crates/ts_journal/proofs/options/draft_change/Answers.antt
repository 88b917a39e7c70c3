use Rattle.std.proofs.lemmas.Result.{on_ok_weaker}
use Rattle.ts_journal.proofs.Putting.{puts-then}
use Rattle.ts_journal.proofs.options.draft_change.Goals as goal

pub returns : goal.returns
returns c =
    let p1 = puts-then c.in_ok-draft_retention.ensures c.in_ok-draft_chunk_size.ensures in
    let p2 = puts-then p1 c.in_ok-draft_policy.ensures in
    let p3 = puts-then p2 c.in_ok-draft_ignore.ensures in
    on_ok_weaker c.draft_given_labels.result (λ e. puts-then p3 e) c.draft_given_labels.ensures
