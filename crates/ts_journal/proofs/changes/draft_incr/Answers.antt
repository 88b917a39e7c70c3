use Rattle.std.proofs.lemmas.Result.{on_ok_weaker}
use Rattle.ts_journal.proofs.Putting.{puts-then}
use Rattle.ts_journal.proofs.changes.draft_incr.Goals as goal

pub returns : goal.returns
returns c =
    let p1 = puts-then c.in_ok-put.ensures c.in_ok-put_word.ensures in
    let p2 = puts-then p1 c.in_ok-put_value.ensures in
    let p3 = puts-then p2 c.in_ok-put-2.ensures in
    let p4 = puts-then p3 c.in_ok-put_number.ensures in
    on_ok_weaker c.draft_spec.result (λ e. puts-then p4 e) c.draft_spec.ensures
