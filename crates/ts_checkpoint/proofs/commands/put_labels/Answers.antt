use Rattle.std.proofs.lemmas.Result.{on_ok_weaker}
use Rattle.ts_checkpoint.proofs.Appending.{puts-then}
use Rattle.ts_checkpoint.proofs.commands.put_labels.Goals as goal

pub returns : goal.returns
returns c = on_ok_weaker c.put_label_pairs.result (λ e. puts-then c.in_ok-put.ensures e) c.put_label_pairs.ensures
