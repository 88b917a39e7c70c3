use Rattle.std.proofs.Common.{ℕ, ◌++◌, List, refl, ap, ◌∙◌, arith}
use Rattle.std.specs.Fmt.{decimal}
use Rattle.ts_spec.specs.Text.{line_text}
use Rattle.ts_spec.specs.Replies.{row_reply}
use Rattle.ts_multi.proofs.Texts.{short-head, whole}
use Rattle.ts_group.proofs.group_texts.encode_group_rows.Goals as goal

pub begin_array-requires : goal.begin_array-requires
begin_array-requires c = omega (arith, short-head c.len-count.result c.in_ok-reserve_items.ensures.few, c.in_ok-reserve_items.ensures.room)

pub loop-row-init : goal.loop-row-init
loop-row-init c = record {
  texts = refl;
  items = omega (arith, c.begin_array.ensures.room, c.in_ok-reserve_items.ensures.room, short-head c.len-count.result c.in_ok-reserve_items.ensures.few, c.len-count.ensures);
  room = omega arith;
}

pub returns-clause-ok : goal.returns-clause-ok
returns-clause-ok c =
    whole row_reply c.args.out.now.bytes c.begin_array.new.out.bytes c.loop-row.out.bytes c.len-count.result c.loop-row.rows c.args.rows
    c.loop-row.invariant.texts c.in_default.ensures.0
    (c.begin_array.ensures.bytes ∙ ap (λ (l : List ℕ). l ++ line_text 42 (decimal c.len-count.result)) c.reserve_items.ensures.bytes)
    c.len-count.ensures
