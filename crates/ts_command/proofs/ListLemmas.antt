-- The words of a list, one by one.
use Rattle.std.proofs.Common.{ℕ, List, ◌++◌}
use Rattle.std.specs.Prelude.{Result, Ok}
use Rattle.ts_spec.specs.Filter.{Filter}
use Rattle.ts_spec.specs.Refusal.{Fault}
use Rattle.ts_spec.specs.Settings.{Word, and_then}
use Rattle.ts_spec.specs.Ranges.{times_of}
use Rattle.ts_spec.specs.ManySeries.{filters_of, names_of}

-- times that are read already, and those of the words from here on
abbrev pub times_after : List ℕ → List Word → Result (List ℕ) Fault
times_after ts words = and_then (times_of words) (λ more. Ok (ts ++ more))

-- the same of labels that are to be shown
abbrev pub names_after : List Word → List Word → Result (List Word) Fault
names_after names words = and_then (names_of words) (λ more. Ok (names ++ more))

-- and of filters
abbrev pub filters_after : List Filter → List Word → Result (List Filter) Fault
filters_after filters words = and_then (filters_of words) (λ more. Ok (filters ++ more))
