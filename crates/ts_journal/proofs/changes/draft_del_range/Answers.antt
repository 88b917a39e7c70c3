use Rattle.std.proofs.lemmas.Result.{on_ok_weaker}
use Rattle.ts_journal.proofs.Putting.{puts-then}
use Rattle.ts_journal.proofs.changes.draft_del_range.Goals as goal

pub returns : goal.returns
returns c =
    let p1 = puts-then c.in_ok-put.ensures c.in_ok-put_word.ensures in
    let p2 = puts-then p1 c.in_ok-put_number.ensures in
    on_ok_weaker c.put_number-2.result (λ e. puts-then p2 e) c.put_number-2.ensures
