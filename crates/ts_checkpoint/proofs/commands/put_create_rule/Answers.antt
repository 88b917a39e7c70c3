use Rattle.std.proofs.lemmas.Result.{on_ok_weaker}
use Rattle.ts_checkpoint.proofs.Appending.{puts-then}
use Rattle.ts_checkpoint.proofs.commands.put_create_rule.Goals as goal

pub returns : goal.returns
returns c =
    let p1 = puts-then c.in_ok-put.ensures c.in_ok-put_word.ensures in
    let p2 = puts-then p1 c.in_ok-put_word-2.ensures in
    let p3 = puts-then p2 c.in_ok-put-2.ensures in
    let p4 = puts-then p3 c.in_ok-put_aggregator.ensures in
    let p5 = puts-then p4 c.in_ok-put_duration.ensures in
    on_ok_weaker c.put_align.result (λ e. puts-then p5 e) c.put_align.ensures
