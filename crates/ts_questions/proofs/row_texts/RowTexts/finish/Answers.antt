use Rattle.std.proofs.Common.{inl}
use Rattle.ts_questions.proofs.WrittenRows.{body-closed}
use Rattle.ts_questions.proofs.row_texts.RowTexts.finish.Goals as goal

pub returns-clause-reply : goal.returns-clause-reply
returns-clause-reply c = λ rows written.
    inl (body-closed c.args.self.count c.args.self.out.bytes c.close_array.new.out.bytes rows (written c.if-lost.false) c.close_array.ensures.bytes)
