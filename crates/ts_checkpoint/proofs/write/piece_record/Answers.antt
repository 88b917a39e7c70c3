use Rattle.std.proofs.Common.{◌≡◌, subst}
use Rattle.std.specs.Prelude.{IfOk}
use Rattle.ts_spec.specs.Wire.{Request}
use Rattle.ts_checkpoint.specs.PartWords.{checked}
use Rattle.ts_checkpoint.proofs.Appending.{puts-then, puts-all}
use Rattle.ts_checkpoint.proofs.write.piece_record.Goals as goal

pub returns : goal.returns
returns c =
    let p1 = puts-then c.in_ok-put.ensures c.in_ok-put_small_number.ensures in
    let p2 = puts-then p1 c.in_ok-put-2.ensures in
    subst (λ (d : Request). IfOk c.checked.result (λ words. words.items ≡ checked d)) (puts-all c.new-draft.ensures p2) c.checked.ensures
