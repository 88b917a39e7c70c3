-- The samples of packed bytes that a series gives out.
use Rattle.std.specs.Prelude.{List}
use Rattle.ts_spec.specs.Sample.{Point}
use Rattle.ts_series.specs.declared.series_restoring.StoredOrMade.{StoredOrMade}
use Rattle.ts_series.specs.declared.series_restoring.StoredOrMade.TheVariants.{Stored, Made}

-- the samples, in the series' chunk or in one made for them
abbrev pub samples_in : StoredOrMade → List Point
samples_in (Stored c) = c.now.list
samples_in (Made c) = c.list
