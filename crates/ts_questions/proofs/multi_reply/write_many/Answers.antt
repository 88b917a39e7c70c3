use Rattle.std.proofs.Common.{sym, subst, false}
use Rattle.std.specs.List.{list_any}
use Rattle.ts_spec.specs.StoredQueries.{stored_selection}
use Rattle.ts_db.specs.DbState.{AreIdsOf}
use Rattle.ts_questions.proofs.ManyWritten.{written-lost}
use Rattle.ts_questions.proofs.ManyTexts.{numbers-live}
use Rattle.ts_questions.proofs.multi_reply.write_many.Goals as goal

pub put_all-requires-clause-live : goal.put_all-requires-clause-live
put_all-requires-clause-live g c =
    let keys = stored_selection c.args.db.now.keys c.args.filters.now in
    numbers-live c.args.db.now.ids keys c.deref.result.now (subst (AreIdsOf c.args.db.now.ids keys) (sym c.deref.ensures.value) c.in-Ok.ensures.numbers)

pub returns-in-Ok-true-clause-reply : goal.returns-in-Ok-true-clause-reply
returns-in-Ok-true-clause-reply g c =
    let keys = stored_selection c.args.db.now.keys c.args.filters.now in
    written-lost (g.T.MultiReply.response c.args.multi_reply.now c.args.db.now keys) c.write_row_error-in-Ok-true.new.out.bytes (list_any (g.T.MultiReply.is_over_limit c.args.multi_reply.now c.args.db.now) keys)
    false (sym (c.in-Ok-true.ensures.few keys (subst (AreIdsOf c.args.db.now.ids keys) (sym c.deref.ensures.value) c.in-Ok.ensures.numbers))) c.write_row_error-in-Ok-true.ensures.bytes
