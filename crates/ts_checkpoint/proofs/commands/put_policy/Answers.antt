use Rattle.std.proofs.Common.{ℕ, List, [], ◌∷◌, codes, subst}
use Rattle.ts_checkpoint.specs.Records.{Appends}
use Rattle.std.proofs.lemmas.Result.{on_ok_weaker}
use Rattle.ts_checkpoint.proofs.Appending.{puts-then}
use Rattle.ts_checkpoint.proofs.commands.put_policy.Goals as goal

pub returns : goal.returns
returns c =
    let all : (w : List ℕ) → Type 0 = λ w. Appends c.args.draft.now c.put-2.new.self (codes "DUPLICATE_POLICY" ∷ w ∷ []) in
    on_ok_weaker c.put-2.result (λ e. subst all c.policy_name.ensures (puts-then c.in_ok-put.ensures e)) c.put-2.ensures
