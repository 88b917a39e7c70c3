-- Stored labels as ts_spec defines them.
use Rattle.std.specs.Prelude.{List}
use Rattle.ts_spec.specs.State.{Label}
use Rattle.ts_labels.specs.Labels.{labels_in}
use Rattle.ts_labels.specs.declared.pairs.Storage.{Storage}
use Rattle.ts_labels.specs.declared.pairs.Storage.TheVariants.{Few, Many}

-- the stored labels
abbrev pub pairs_in : Storage → List Label
pairs_in (Few pairs) = labels_in pairs.items
pairs_in (Many map) = labels_in map.entries
