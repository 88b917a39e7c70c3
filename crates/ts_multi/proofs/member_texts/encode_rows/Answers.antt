use Rattle.std.proofs.Common.{ℕ, ◌++◌, List, drop, length, map, refl, sym, ap, ◌∙◌, arith}
use Rattle.std.proofs.lemmas.List.{length-map}
use Rattle.std.proofs.Math.ListN.{drop_of_length-le}
use Rattle.std.specs.Fmt.{decimal}
use Rattle.ts_spec.specs.Text.{line_text}
use Rattle.ts_range.specs.Query.{row_of}
use Rattle.ts_spec.specs.Replies.{row_reply}
use Rattle.ts_multi.proofs.Texts.{short-head, whole}
use Rattle.ts_multi.proofs.member_texts.encode_rows.Goals as goal

pub begin_array-requires : goal.begin_array-requires
begin_array-requires c = omega (arith, short-head (length c.args.rows.now) (c.in_ok-reserve_items.ensures.few), c.in_ok-reserve_items.ensures.room)

pub loop-row-init : goal.loop-row-init
loop-row-init c = record {
  texts = refl;
  items = omega (arith, c.begin_array.ensures.room, c.in_ok-reserve_items.ensures.room, short-head (length c.args.rows.now) (c.in_ok-reserve_items.ensures.few));
  room = omega arith;
}

pub returns-clause-ok : goal.returns-clause-ok
returns-clause-ok c =
    whole row_reply c.args.out.now.bytes c.begin_array.new.out.bytes c.loop-row.out.bytes (length c.args.rows.now)
    (map row_of (drop c.loop-row.row-index c.args.rows.now)) (map row_of c.args.rows.now)
    c.loop-row.invariant.texts
    (ap (map row_of) (drop_of_length-le c.args.rows.now c.loop-row-test.false))
    (c.begin_array.ensures.bytes ∙ ap (λ (l : List ℕ). l ++ line_text 42 (decimal (length c.args.rows.now))) c.reserve_items.ensures.bytes)
    (sym (length-map c.args.rows.now row_of))
