-- The remaining candidates.
use Rattle.std.specs.Prelude.{ℕ, List, map}
use Rattle.ts_sample.specs.declared.sample.Id.{Id}
use Rattle.ts_index.specs.declared.candidates.Source.{Source}
use Rattle.ts_index.specs.declared.candidates.Source.TheVariants.{All, ByValue}

-- a key of the map as a series id
abbrev pub as_id : ℕ → Id
as_id n = record { 0 = n }

-- the remaining ids
abbrev pub ids_left : Source → List Id
ids_left (All numbers) = map as_id numbers
ids_left (ByValue numbers) = numbers
