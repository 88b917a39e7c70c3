-- The stored data of a valid checkpoint represents the state that it restores to.
use Rattle.std.proofs.Common.{List, [], ◌∷◌}
use Rattle.ts_spec.specs.declared.limits.Limits.{Limits}
use Rattle.ts_spec.specs.Keyed.{none}
use Rattle.ts_spec.specs.State.{State, empty}
use Rattle.ts_spec.specs.StoredSeries.{StoredKeys}
use Rattle.ts_spec.specs.Represents.{RepresentsState}
use Rattle.ts_spec.proofs.StoredSteps.{empty-stands}
use Rattle.ts_restore.specs.Checkpoint.{SeriesPart, RulePart, Checkpoint}
use Rattle.ts_restore.specs.Restored.{keys_with_series, keys_with_rule, keys_with_all_series, keys_with_all_rules, keys_of, with_series, with_restored_rule, with_all_series, with_all_rules, state_of}
use Rattle.ts_restore.specs.Restorable.{AreNewSeries, AreNewRules, IsCheckpoint}
use Rattle.ts_restore.proofs.RestoringSeries.{represents-series}
use Rattle.ts_restore.proofs.RestoringRules.{represents-rule}

all-series : (limits : Limits) (keys : StoredKeys) (m : State) (ps : List SeriesPart) → RepresentsState limits keys m → AreNewSeries limits keys ps → RepresentsState limits (keys_with_all_series ps keys) (with_all_series ps m)
all-series limits keys m [] r h = r
all-series limits keys m (p ∷ ps) r h = all-series limits (keys_with_series p keys) (with_series p m) ps (represents-series limits keys m p r h.0) h.1

all-rules : (limits : Limits) (keys : StoredKeys) (m : State) (ps : List RulePart) → RepresentsState limits keys m → AreNewRules limits keys ps → RepresentsState limits (keys_with_all_rules ps keys) (with_all_rules ps m)
all-rules limits keys m [] r h = r
all-rules limits keys m (p ∷ ps) r h = all-rules limits (keys_with_rule p keys) (with_restored_rule p m) ps (represents-rule limits keys m p r h.0) h.1

-- What a valid checkpoint says is the stored form of the state that it restores to.
pub represents-checkpoint : (limits : Limits) (c : Checkpoint) → IsCheckpoint limits c → RepresentsState limits (keys_of c) (state_of c)
represents-checkpoint limits c h =
    all-rules limits (keys_with_all_series c.series none) (with_all_series c.series empty) c.rules (all-series limits none empty c.series (empty-stands limits) h.series) h.rules
