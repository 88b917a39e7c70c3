use Rattle.ts_checkpoint.specs.Parts.{Head}
use Rattle.ts_execution.proofs.Drafting.{one-written}
use Rattle.ts_execution.proofs.checkpoint_records.RecordWriter.write_head.Goals as goal

pub returns-clause-written : goal.returns-clause-written
returns-clause-written g c =
    one-written _ _ _ c.write.result _ _ (Head c.args.records) c.write.ensures.written c.deref.ensures.value c.in_ok-words.ensures c.if-records-gt-MAX_TIME.false
