use Rattle.std.proofs.lemmas.Result.{on_ok_weaker}
use Rattle.ts_checkpoint.proofs.Appending.{puts-then}
use Rattle.ts_checkpoint.proofs.commands.put_ignore.Goals as goal

pub returns : goal.returns
returns c =
    let p1 = puts-then c.in_ok-put.ensures c.in_ok-put_number.ensures in
    on_ok_weaker c.put_value.result (λ e. puts-then p1 e) c.put_value.ensures
