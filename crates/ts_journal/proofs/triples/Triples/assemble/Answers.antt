use Rattle.std.proofs.Common.{◌+◌, ◌++◌, List, ℕ, length, drop, codes, ◌∙◌, ap, arith}
use Rattle.std.proofs.lemmas.Bool.{ne_eqb}
use Rattle.std.specs.Fmt.{decimal, digits}
use Rattle.ts_spec.specs.Encoded.{encoded_word}
use Rattle.ts_spec.specs.Text.{line_text}
use Rattle.ts_journal.specs.Lines.{items_text, pieces, accepted_pieces, accepted_text, joined}
use Rattle.ts_journal.proofs.TripleLemmas.{filled}
use Rattle.ts_journal.proofs.triples.Triples.assemble.Goals as goal

pub overflow_add-count : goal.overflow_add-count
overflow_add-count c = omega (arith, c.append_accepted-count.ensures.few, c.len-len.ensures.value, c.len-len.ensures.bound)

pub returns-clause-bytes : goal.returns-clause-bytes
unfolding digits
returns-clause-bytes c =
    let items = c.items.result.now in
    let lens = c.as_slice.result.now in
    let words = c.after_gap-words.result.now in
    let those : List (List ℕ) = accepted_pieces items (pieces lens words) in
    let built = c.append_accepted-count.ensures.bytes
    ∙ ap (λ (l : List ℕ). l ++ joined those) (c.extend_reserved-2.ensures.items ∙ ap (λ (l : List ℕ). l ++ encoded_word (codes "TS.MADD")) (c.extend_reserved.ensures.items ∙ ap (λ (l : List ℕ). l ++ _) c.clear.ensures.items)) in
    let len = c.write_header_in_gap.ensures.len ∙ ap length c.as_mut_slice.ensures.value in
    let text = c.write_header_in_gap.ensures.text ∙ ap (λ (l : List ℕ). line_text 42 (decimal (c.append_accepted-count.result + 1)) ++ drop 24 l) c.as_mut_slice.ensures.value in
    filled those c.append_accepted-count.new.room.items c.write_header_in_gap.new.room c.write_header_in_gap.result c.append_accepted-count.result (ne_eqb c.append_accepted-count.result 0 c.if-count-eq0.false) c.append_accepted-count.ensures.words built len text
    ∙ ap (λ (i : List ℕ). accepted_text (accepted_pieces i (pieces lens words))) c.items.ensures
    ∙ ap (λ (l : List ℕ). accepted_text (accepted_pieces (items_text c.args.reply.now) (pieces l words))) c.as_slice.ensures.value
    ∙ ap (λ (l : List ℕ). accepted_text (accepted_pieces (items_text c.args.reply.now) (pieces c.args.self.now.lens.items l))) c.after_gap-words.ensures
