use Rattle.ts_restore.proofs.RoundTrip.{valid-back, represents-back}
use Rattle.ts_restore.proofs.laws.a_checkpoint_restores_what_was_stored.Goals as goal

pub returns : goal.returns
returns c = record { valid = valid-back; restored = represents-back }
