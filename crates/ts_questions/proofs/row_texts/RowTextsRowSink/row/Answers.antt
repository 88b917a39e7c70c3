use Rattle.std.proofs.Common.{ℕ, List, [], ◌∷◌, ◌++◌, sym, ◌∙◌, ap, subst}
use Rattle.ts_spec.specs.Text.{text, Array, Item, Int, Value, Empty}
use Rattle.std.specs.Prelude.{pos}
use Rattle.ts_range.specs.Query.{row_of}
use Rattle.ts_resp.specs.Replies.{value_of}
use Rattle.ts_questions.specs.RowTexts.{IsBody}
use Rattle.ts_questions.proofs.WrittenRows.{body-more, pair-row}
use Rattle.ts_questions.proofs.row_texts.RowTextsRowSink.row.Goals as goal

pub returns-in-Ok-clause-taken : goal.returns-in-Ok-clause-taken
returns-in-Ok-clause-taken c = λ rows written kept.
    let row = c.args.row in
    subst (λ (n : ℕ). IsBody n c.write_pair.new.out.bytes (rows ++ row_of row ∷ [])) (sym c.in-Some.ensures.1)
    (body-more c.args.self.now.count c.args.self.now.out.bytes c.write_pair.new.out.bytes rows (row_of row) (written kept)
    (c.write_pair.ensures.bytes ∙ ap (λ (l : List ℕ). l ++ text (Array (Item (Int (pos row.time)) (Item (Value (value_of row.value)) Empty)))) c.in-Ok.ensures.bytes
    ∙ ap (λ (l : List ℕ). c.args.self.now.out.bytes ++ l) (pair-row row.time row.value)))
