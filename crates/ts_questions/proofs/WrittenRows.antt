-- The text of an array of rows, written row by row.
use Rattle.std.proofs.Common.{◌≡◌, ℕ, ◌+◌, List, [], ◌∷◌, ◌++◌, length, map, drop, refl, sym, ◌∙◌, ap, append_assoc, append-nil, length-append}
use Rattle.std.proofs.Math.Seq.{drop-append_seam}
use Rattle.std.proofs.lemmas.List.{length-map}
use Rattle.std.specs.Fmt.{decimal}
use Rattle.ts_spec.specs.Answer.{Row}
use Rattle.ts_spec.specs.Replies.{array, row_reply}
use Rattle.ts_spec.specs.Text.{line_text, text, Array, Item, Int, Value, Empty}
use Rattle.ts_sample.specs.declared.sample.Cell.{Cell}
use Rattle.ts_sample.specs.declared.sample.Cell.TheVariants as cell
use Rattle.ts_range.specs.Query.{cell_of}
use Rattle.ts_resp.specs.Replies.{value_of}
use Rattle.std.specs.Prelude.{pos}
use Rattle.ts_questions.specs.RowTexts.{row_texts, IsBody}
use Rattle.ts_questions.proofs.ReplyTexts.{count-reply_list}

-- their array's text is the line of their number, and these
pub rows_text : (rows : List Row) (n : ℕ) → n ≡ length rows → line_text 42 (decimal n) ++ row_texts rows ≡ text (array (map row_reply rows))
rows_text rows n is =
    ap (λ (k : ℕ). line_text 42 (decimal k) ++ row_texts rows) (is ∙ sym (length-map rows row_reply) ∙ sym (count-reply_list (map row_reply rows)))

-- ---- rows behind a gap

-- the texts of rows and of one more
texts-one : (rows : List Row) (row : Row) → row_texts (rows ++ row ∷ []) ≡ row_texts rows ++ text (row_reply row)
texts-one [] row = append-nil (text (row_reply row))
texts-one (r ∷ rows) row = ap (λ (l : List ℕ). text (row_reply r) ++ l) (texts-one rows row) ∙ sym (append_assoc (text (row_reply r)) (row_texts rows) (text (row_reply row)))

-- no rows yet
pub body-none : (bytes gap : List ℕ) → bytes ≡ [] ++ gap → length gap ≡ 24 → IsBody 0 bytes []
body-none bytes gap is long = record { gap = gap; long = long; parts = is ∙ sym (append-nil gap); counted = refl }

-- one more row
pub body-more : (count : ℕ) (before after : List ℕ) (rows : List Row) (row : Row) → IsBody count before rows → after ≡ before ++ text (row_reply row) → IsBody (count + 1) after (rows ++ row ∷ [])
body-more count before after rows row is more = record {
  gap = is.gap;
  long = is.long;
  parts = more ∙ ap (λ (l : List ℕ). l ++ text (row_reply row)) is.parts ∙ append_assoc is.gap (row_texts rows) (text (row_reply row))
      ∙ ap (λ (l : List ℕ). is.gap ++ l) (sym (texts-one rows row));
  counted = ap (λ (n : ℕ). n + 1) is.counted ∙ sym (length-append rows (row ∷ []));
}

-- all rows, where their number was written into the gap
pub body-closed : (count : ℕ) (bytes written : List ℕ) (rows : List Row) → IsBody count bytes rows → written ≡ line_text 42 (decimal count) ++ drop 24 bytes
    → written ≡ text (array (map row_reply rows))
body-closed count bytes written rows is said =
    let rest : drop 24 bytes ≡ row_texts rows =
    ap (λ (n : ℕ). drop n bytes) (sym is.long) ∙ ap (drop (length is.gap)) is.parts ∙ drop-append_seam is.gap (row_texts rows) in
    said ∙ ap (λ (l : List ℕ). line_text 42 (decimal count) ++ l) rest ∙ rows_text rows count is.counted

-- the text of a pair is that of its row
pub pair-row : (t : ℕ) (value : Cell) → text (Array (Item (Int (pos t)) (Item (Value (value_of value)) Empty))) ≡ text (row_reply (record { time = t; value = cell_of value }))
pair-row t (cell.Number v) = refl
pair-row t cell.Nan = refl
