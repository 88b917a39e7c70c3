use Rattle.std.proofs.lemmas.Result.{on_ok_weaker}
use Rattle.ts_journal.proofs.Putting.{puts-then}
use Rattle.ts_journal.proofs.changes.draft_alter.Goals as goal

pub returns : goal.returns
returns c =
    let p1 = puts-then c.in_ok-put.ensures c.in_ok-put_word.ensures in
    on_ok_weaker c.draft_change.result (λ e. puts-then p1 e) c.draft_change.ensures
