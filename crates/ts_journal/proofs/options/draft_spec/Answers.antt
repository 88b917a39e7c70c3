use Rattle.std.proofs.lemmas.Result.{on_ok_weaker}
use Rattle.ts_journal.proofs.Putting.{puts-then}
use Rattle.ts_journal.proofs.options.draft_spec.Goals as goal

pub returns : goal.returns
returns c =
    let p0 = puts-then c.in_ok-reserve.ensures c.in_ok-draft_retention.ensures in
    let p1 = puts-then p0 c.in_ok-draft_encoding.ensures in
    let p2 = puts-then p1 c.in_ok-draft_chunk_size.ensures in
    let p3 = puts-then p2 c.in_ok-draft_policy.ensures in
    let p4 = puts-then p3 c.in_ok-draft_ignore.ensures in
    on_ok_weaker c.draft_labels.result (λ e. puts-then p4 e) c.draft_labels.ensures
