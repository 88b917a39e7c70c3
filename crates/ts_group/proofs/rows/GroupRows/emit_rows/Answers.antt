use Rattle.std.proofs.Common.{List, [], ◌∷◌, ◌++◌, sym, ap, ◌∙◌, append_assoc, subst}
use Rattle.ts_spec.specs.Answer.{Row}
use Rattle.ts_range.specs.Query.{row_of}
use Rattle.ts_group.proofs.rows.GroupRows.emit_rows.Goals as goal

pub loop-row-preserved : goal.loop-row-preserved
loop-row-preserved g c =
    let done : List Row = c.loop-row.invariant.done in
    record {
      done = done ++ row_of c.in-Some.row ∷ [];
      all = append_assoc done (row_of c.in-Some.row ∷ []) c.next.new.self ∙ ap (λ (l : List Row). done ++ l) (sym c.in-Some.ensures) ∙ c.loop-row.invariant.all;
      taken = λ before. λ has.
          subst (λ (l : List Row). g.T.RowSink.has c.row.new.self l) (append_assoc before done (row_of c.in-Some.row ∷ []))
          (c.row.ensures.taken (before ++ done) (c.loop-row.invariant.taken before has));
      limit = c.row.ensures.limit ∙ c.loop-row.invariant.limit;
    }
