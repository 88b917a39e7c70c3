-- Any command other than the listed changes does not change the database.
use Rattle.std.specs.Prelude.{Option}
use Rattle.std.proofs.Common.{◌≡◌, false, ℕ, Vec, Global, refl}
use Rattle.ts_spec.specs.declared.bucket.Aggregator.{Aggregator}
use Rattle.ts_spec.specs.declared.command.At.{At}
use Rattle.ts_spec.specs.declared.series.Policy.{Policy}
use Rattle.ts_spec.specs.declared.units.Units.{Units}
use Rattle.ts_resp.specs.declared.word.Word.{Word}
use Rattle.ts_labels.specs.declared.spec.Change.{Change}
use Rattle.ts_labels.specs.declared.spec.Spec.{Spec}
use Rattle.ts_bucket.specs.declared.grid.Grid.{Grid}
use Rattle.ts_command.specs.declared.command.Command.{Command}
use Rattle.ts_command.specs.declared.command.Command.TheVariants.{Create, Alter, Add, Madd, Incr, DelRange, CreateRule, DeleteRule, Range, MRange, Get, MGet, QueryIndex, InfoOf, Ping, Echo, Quit, Drop, Exists}
use Rattle.ts_command.specs.declared.command.Triple.{Triple}
use Rattle.ts_command.specs.Reading.{command_of}
use Rattle.ts_journal.specs.Record.{is_change}

pub no-change : (c : Command) → ((key : Word) (s : Spec) → c ≡ Create key s → ⊥) → ((key : Word) (change : Change) → c ≡ Alter key change → ⊥)
    → ((key : Word) (at : At) (v : Units) (on : Option Policy) (s : Spec) → c ≡ Add key at v on s → ⊥) → ((triples : Vec Triple Global) → c ≡ Madd triples → ⊥)
    → ((key : Word) (v : Units) (at : At) (s : Spec) → c ≡ Incr key v at s → ⊥) → ((key : Word) (from to : ℕ) → c ≡ DelRange key from to → ⊥)
    → ((source dest : Word) (agg : Aggregator) (grid : Grid) → c ≡ CreateRule source dest agg grid → ⊥) → ((source dest : Word) → c ≡ DeleteRule source dest → ⊥)
    → ((keys : Vec Word Global) → c ≡ Drop keys → ⊥) → is_change (command_of c) ≡ false
no-change (Create key s) create alter add madd incr del rule no_rule drop = absurd (create key s refl)
no-change (Alter key change) create alter add madd incr del rule no_rule drop = absurd (alter key change refl)
no-change (Add key at v on s) create alter add madd incr del rule no_rule drop = absurd (add key at v on s refl)
no-change (Madd triples) create alter add madd incr del rule no_rule drop = absurd (madd triples refl)
no-change (Incr key v at s) create alter add madd incr del rule no_rule drop = absurd (incr key v at s refl)
no-change (DelRange key from to) create alter add madd incr del rule no_rule drop = absurd (del key from to refl)
no-change (CreateRule source dest agg grid) create alter add madd incr del rule no_rule drop = absurd (rule source dest agg grid refl)
no-change (DeleteRule source dest) create alter add madd incr del rule no_rule drop = absurd (no_rule source dest refl)
no-change (Range key latest query) create alter add madd incr del rule no_rule drop = refl
no-change (MRange latest show filters query group) create alter add madd incr del rule no_rule drop = refl
no-change (Get key latest) create alter add madd incr del rule no_rule drop = refl
no-change (MGet latest show filters) create alter add madd incr del rule no_rule drop = refl
no-change (QueryIndex filters) create alter add madd incr del rule no_rule drop = refl
no-change (InfoOf key) create alter add madd incr del rule no_rule drop = refl
no-change (Ping word) create alter add madd incr del rule no_rule drop = refl
no-change (Echo word) create alter add madd incr del rule no_rule drop = refl
no-change Quit create alter add madd incr del rule no_rule drop = refl
no-change (Drop keys) create alter add madd incr del rule no_rule drop = absurd (drop keys refl)
no-change (Exists keys) create alter add madd incr del rule no_rule drop = refl
