-- The rows of the first and the last bucket of a deletion.
use Rattle.std.specs.Prelude.{ℕ, Bool, false, ◌==◌, List, [], ◌∷◌, ◌++◌}
use Rattle.ts_spec.specs.Sample.{Point}
use Rattle.ts_spec.specs.Bucket.{Grid, start}
use Rattle.ts_rules.specs.declared.end_rows.Ends.{Ends}
use Rattle.ts_rules.specs.Rules.{one_of}

-- both rows, as a list
abbrev pub rows_at : Ends → List Point
rows_at e = one_of e.first ++ one_of e.last

-- whether there is a first sample and it is in the bucket that starts at b
abbrev pub is_first_in : Grid → (b : ℕ) → List Point → Bool
is_first_in g b [] = false
is_first_in g b (p ∷ ps) = start g p.time == b
