-- The labels that a reply shows, as ts_spec defines them.
use Rattle.ts_spec.specs.Command as spec
use Rattle.ts_labels.specs.declared.labels.Show.{Show}
use Rattle.ts_labels.specs.declared.labels.Show.TheVariants.{Nothing, All, Selected}

-- none, all, or these
abbrev pub show_of : Show → spec.Show
show_of Nothing = spec.Nothing
show_of All = spec.All
show_of (Selected labels) = spec.Selected labels.items
