use Rattle.std.proofs.Common.{◌≡◌, ◌+◌, suc, ◌∷◌, [], ◌++◌, ℕ, length, take, subst, sym, ◌∙◌, ap, arith}
use Rattle.std.proofs.Math.Seq.{take-length}
use Rattle.ts_journal.specs.Record.{label_pairs}
use Rattle.ts_journal.proofs.Putting.{pairs-next}
use Rattle.ts_checkpoint.specs.Records.{Appends}
use Rattle.ts_checkpoint.proofs.Appending.{puts-none, puts-then}
use Rattle.ts_checkpoint.proofs.commands.put_label_pairs.Goals as goal

pub loop-i-init : goal.loop-i-init
loop-i-init c = puts-none c.args.draft.now

pub loop-i-preserved : goal.loop-i-preserved
loop-i-preserved c =
    let labels = c.args.labels.now in
    let i = c.loop-i.i in
    let name = c.label_at.result.now in
    let value = c.value_at.result.now in
    let next : label_pairs (take (suc i) labels) ≡ label_pairs (take i labels) ++ name ∷ value ∷ [] = pairs-next labels i name value c.label_at.ensures c.value_at.ensures in
    let same : suc i ≡ i + 1 = omega arith in
    subst (Appends c.args.draft.now c.put_word-in-loop-i.new.self) (sym next ∙ ap (λ (n : ℕ). label_pairs (take n labels)) same)
    (puts-then c.loop-i.invariant (puts-then c.in_ok-put_word.ensures c.in_ok-put_word-2.ensures))

pub returns : goal.returns
returns c =
    let labels = c.args.labels.now in
    let all : c.loop-i.i ≡ length labels = omega arith in
    subst (λ ls. Appends c.args.draft.now c.loop-i.draft (label_pairs ls)) (ap (λ (n : ℕ). take n labels) all ∙ take-length labels) c.loop-i.invariant
