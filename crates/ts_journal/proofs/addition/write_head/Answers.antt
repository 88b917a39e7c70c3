use Rattle.std.proofs.Common.{◌++◌, List, ℕ, ◌∙◌, ap, append-nil, arith}
use Rattle.std.proofs.lemmas.List.{drop_all}
use Rattle.std.specs.Fmt.{decimal}
use Rattle.ts_spec.specs.Text.{line_text}
use Rattle.ts_journal.proofs.addition.write_head.Goals as goal

pub returns-clause-text : goal.returns-clause-text
returns-clause-text c =
    let head = c.head_text.result.now in
    let key = line_text 36 (decimal c.args.key_len) in
    c.write_ending_at.ensures.text
    ∙ ap (λ (l : List ℕ). head ++ l) (c.write_line-place.ensures.text ∙ ap (λ (l : List ℕ). key ++ l) (drop_all 128 c.args.block.now (omega arith)) ∙ append-nil key)
    ∙ ap (λ (l : List ℕ). l ++ key) c.head_text.ensures.text
