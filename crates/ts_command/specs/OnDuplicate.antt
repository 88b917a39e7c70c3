-- TS.ADD with no option other than ON_DUPLICATE.
use Rattle.std.specs.Prelude.{◌≡◌, List, Option, Ok}
use Rattle.ts_spec.specs.declared.series.Policy.{Policy}
use Rattle.ts_spec.specs.Settings.{Word, nothing, options}
use Rattle.ts_spec.specs.SeriesOptions.{add_options}

-- these option words give at most ON_DUPLICATE, with this policy
abbrev pub SayPolicy : Option Policy → List Word → Type 0
SayPolicy on words = options add_options nothing 0 words ≡ Ok (record nothing { on = on })
