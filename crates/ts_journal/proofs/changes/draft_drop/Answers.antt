use Rattle.std.proofs.lemmas.Result.{on_ok_weaker}
use Rattle.ts_journal.proofs.Putting.{puts-then}
use Rattle.ts_journal.proofs.changes.draft_drop.Goals as goal

pub returns : goal.returns
returns c =
    on_ok_weaker c.draft_keys.result (λ e. puts-then c.in_ok-put.ensures e) c.draft_keys.ensures
