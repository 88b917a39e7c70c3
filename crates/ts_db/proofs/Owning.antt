-- The error for a full series names the written key.
use Rattle.std.proofs.Common.{◌≡◌, sym, ◌∙◌, ap, subst}
use Rattle.std.specs.Prelude.{Some}
use Rattle.ts_spec.specs.Key.{Key}
use Rattle.ts_spec.specs.Keyed.{get}
use Rattle.ts_sample.specs.declared.sample.Id.{Id}
use Rattle.ts_db.specs.declared.fault.DbFault.{DbFault}
use Rattle.ts_db.specs.declared.fault.DbFault.TheVariants.{KeyExists, NoKey, KeysFull, LabelsFull, TooOld, Duplicate, OutOfRange, BeforeLast, SamplesFull, DeleteBeyondRetention, SameKey, SourceIsDest, DestIsSource, DestHasSource, RulesSpent, RulesFull, NoRule, Memory}
use Rattle.ts_db.specs.declared.store.Store.{Store}
use Rattle.ts_db.specs.Faults.{IsFaultAt}
use Rattle.ts_db.specs.DbState.{DbView, IsFullAt, NamesFullSeries}
use Rattle.ts_db.specs.Store.{db_view_of, id_for_key}
use Rattle.ts_db.proofs.Collecting.{get-ids}

named : (db_view : DbView) (key : Key) (id : Id) (fault : DbFault) → get key db_view.ids ≡ Some id → IsFaultAt id fault → NamesFullSeries db_view key fault
named db_view key id KeyExists is at = tt
named db_view key id NoKey is at = tt
named db_view key id KeysFull is at = tt
named db_view key id LabelsFull is at = tt
named db_view key id TooOld is at = tt
named db_view key id Duplicate is at = tt
named db_view key id OutOfRange is at = tt
named db_view key id BeforeLast is at = tt
named db_view key id (SamplesFull full written) is at = subst (IsFullAt db_view.ids key full) (sym at.0) (is ∙ ap (λ (x : Id). Some x) (sym at.1))
named db_view key id DeleteBeyondRetention is at = tt
named db_view key id SameKey is at = tt
named db_view key id SourceIsDest is at = tt
named db_view key id DestIsSource is at = tt
named db_view key id DestHasSource is at = tt
named db_view key id RulesSpent is at = tt
named db_view key id RulesFull is at = tt
named db_view key id NoRule is at = tt
named db_view key id (Memory e) is at = tt

pub own-fault : (s : Store) (key : Key) (id : Id) (fault : DbFault) → id_for_key key s.keys.entries ≡ Some id → IsFaultAt id fault → NamesFullSeries (db_view_of s) key fault
own-fault s key id fault is at = named (db_view_of s) key id fault (get-ids key s.keys.entries ∙ is) at
