-- Ids in key order.
use Rattle.std.specs.Prelude.{if◌then◌else◌, List, [], ◌∷◌}
use Rattle.ts_sample.specs.declared.sample.Id.{Id}
use Rattle.ts_index.specs.Numbers.{has_id}
use Rattle.ts_db.specs.Store.{Numbers}

-- the ids of the list that belong to a key, in key order
abbrev pub among : List Id → Numbers → List Id
among ids [] = []
among ids (e ∷ es) = if has_id e.1.0 ids then e.1 ∷ among ids es else among ids es
