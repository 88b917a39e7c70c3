use Rattle.std.proofs.Common.{refl, ◌∙◌, ap, List, ◌++◌, ℕ}
use Rattle.std.specs.Prelude.{replicate}
use Rattle.ts_questions.proofs.WrittenRows.{body-none}
use Rattle.ts_questions.proofs.row_texts.RowTexts.begin.Goals as goal

pub returns : goal.returns
returns c = λ kept.
    body-none c.open_array.new.out.bytes (replicate 24 0) (c.open_array.ensures.bytes ∙ ap (λ (l : List ℕ). l ++ replicate 24 0) c.requires.empty) refl
