use Rattle.std.proofs.lemmas.Result.{on_ok_weaker}
use Rattle.ts_checkpoint.proofs.Appending.{puts-then}
use Rattle.ts_checkpoint.proofs.commands.put_chunk_size.Goals as goal

pub returns : goal.returns
returns c = on_ok_weaker c.put_small_number.result (λ e. puts-then c.in_ok-put.ensures e) c.put_small_number.ensures
