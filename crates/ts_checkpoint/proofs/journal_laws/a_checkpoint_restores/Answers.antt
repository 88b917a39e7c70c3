use Rattle.ts_checkpoint.proofs.ExactChecks.{new-series-exact, new-rule-exact}
use Rattle.ts_checkpoint.proofs.ExactChunks.{chunk-follows}
use Rattle.ts_checkpoint.proofs.Restored.{restores-stored, written-only}
use Rattle.ts_checkpoint.proofs.RestoredParts.{AreExact}
use Rattle.ts_checkpoint.proofs.Unpacking.{unpacks}
use Rattle.ts_checkpoint.proofs.journal_laws.a_checkpoint_restores.Goals as goal

exact : AreExact
exact = record {
  series = λ limits keys p. (new-series-exact limits keys p).1;
  rule = λ limits keys p. (new-rule-exact limits keys p).1;
  chunk = λ s chunks limit ps. (chunk-follows s chunks limit ps).1;
  unpacks = unpacks;
}

pub returns-clause-stored : goal.returns-clause-stored
returns-clause-stored c = λ limits m requests b w fits.
    restores-stored limits b m requests w fits c.records_read_back.ensures.words exact
    c.a_checkpoint_restores_what_was_stored.ensures.valid c.a_checkpoint_restores_what_was_stored.ensures.restored

pub returns-clause-records : goal.returns-clause-records
returns-clause-records c = λ limits m requests b w fits. written-only limits b m requests w fits
