use Rattle.std.proofs.Common.{rules, [], ◌∷◌, subst}
use Rattle.std.proofs.lemmas.Int.{to_z-of_z}
use mir.Syntax.{w128}
use mir.Val.{SFits}
use Rattle.std.specs.Prelude.{ℤ}
use Rattle.std.specs.Fmt.{signed_decimal}
use Rattle.ts_checkpoint.specs.Records.{Appends}
use Rattle.std.proofs.lemmas.Result.{on_ok_weaker}
use Rattle.ts_checkpoint.proofs.Appending.{puts-then}
use Rattle.ts_checkpoint.proofs.write.put_summary.Goals as goal

pub returns : goal.returns
returns c =
    let fits : SFits w128 c.args.summary.sum = search rules in
    let sum : (z : ℤ) → Type 0 = λ z. Appends c.put_number.new.self c.put_integer.new.self (signed_decimal z ∷ []) in
    let integer = subst sum (to_z-of_z w128 c.args.summary.sum fits) c.in_ok-put_integer.ensures in
    let p1 = puts-then c.in_ok-put_number.ensures integer in
    let p2 = puts-then p1 c.in_ok-put_value.ensures in
    let p3 = puts-then p2 c.in_ok-put_value-2.ensures in
    let p4 = puts-then p3 c.in_ok-put_value-3.ensures in
    on_ok_weaker c.put_value-4.result (λ e. puts-then p4 e) c.put_value-4.ensures
