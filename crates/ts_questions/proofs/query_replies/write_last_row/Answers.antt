use Rattle.std.proofs.Common.{arith}
use Rattle.ts_questions.proofs.Short.{short_head}
use Rattle.ts_questions.proofs.query_replies.write_last_row.Goals as goal

pub begin_array-requires : goal.begin_array-requires
begin_array-requires c = omega (arith, short_head 0 (omega arith), c.requires.room)
