use Rattle.std.proofs.lemmas.Result.{on_ok_weaker}
use Rattle.ts_checkpoint.proofs.Appending.{puts-then}
use Rattle.ts_checkpoint.proofs.commands.put_spec.Goals as goal

pub returns : goal.returns
returns c =
    let p1 = puts-then c.in_ok-put_retention.ensures c.in_ok-put_encoding.ensures in
    let p2 = puts-then p1 c.in_ok-put_chunk_size.ensures in
    let p3 = puts-then p2 c.in_ok-put_policy.ensures in
    let p4 = puts-then p3 c.in_ok-put_ignore.ensures in
    on_ok_weaker c.put_labels.result (λ e. puts-then p4 e) c.put_labels.ensures
