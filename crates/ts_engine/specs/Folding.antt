-- What a log has after the checkpoint of a database was to take the place of its journal.
use Rattle.std.specs.Prelude.{◌≡◌, ◌⊎◌, ℕ, List, Option, Some, Result, Ok, Err}
use Rattle.ts_spec.specs.State.{State}
use Rattle.ts_spec.specs.Represents.{RepresentsState}
use Rattle.ts_spec.specs.StoredSeries.{kept}
use Rattle.ts_db.specs.DbState.{DbState}
use Rattle.ts_checkpoint.specs.Loading.{LoadsTo}
use Rattle.ts_execution.specs.declared.checkpoint.CheckpointFault.{CheckpointFault}
use Rattle.ts_execution.specs.declared.checkpoint.CheckpointFault.TheVariants.{Log, Memory}

-- The log has a journal that loads as a whole to a valid state, of which the same is stored as of this one.
pub record HasCheckpoint (held : DbState) (left : Option (List ℕ)) : Type 0 where
  pub checkpoint : List ℕ
  pub content : left ≡ Some checkpoint
  pub new : State
  pub whole : LoadsTo held.limits checkpoint new
  pub same : RepresentsState held.limits (kept held.state) new

-- By the result: the log has a checkpoint of this database, or what it had.
abbrev pub Folds : Result (Unit {0}) CheckpointFault → DbState → (journal left : Option (List ℕ)) → Type 0
Folds (Ok done) held journal left = HasCheckpoint held left
Folds (Err Log) held journal left = (left ≡ journal) ⊎ HasCheckpoint held left
Folds (Err Memory) held journal left = left ≡ journal
