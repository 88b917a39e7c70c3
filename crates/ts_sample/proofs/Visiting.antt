-- The state of a visitor after a list, and its remaining capacity.
use Rattle.std.proofs.Common.{◌≡◌, ℕ, ◌+◌, ◌≤◌, List, [], ◌∷◌, ◌++◌, length, sym, ◌∙◌, ap, append-nil, append_assoc, arith}
use Rattle.ts_spec.specs.Sample.{Point}
use Rattle.ts_sample.specs.SampleCollector.{CollectedSamples, with_one_more}
use Rattle.ts_sample.specs.Visit.{visited}

-- after a list, the capacity is at least what it was, less the length of the list
pub room_left : {V : Type 0} (step : V → Point → V) (room : V → ℕ) → ((v : V) (p : Point) → room v ≤ room (step v p) + 1) → (v : V) (ps : List Point)
    → room v ≤ room (visited step v ps) + length ps
room_left step room lowers v [] = omega arith
room_left step room lowers v (p ∷ ps) = omega (arith, lowers v p, room_left step room lowers (step v p) ps)

-- what was collected after a list: what was there, and then the list
pub list-visited : (g : CollectedSamples) (ps : List Point) → (visited with_one_more g ps).list ≡ g.list ++ ps
list-visited g [] = sym (append-nil g.list)
list-visited g (p ∷ ps) = list-visited (with_one_more g p) ps ∙ append_assoc g.list (p ∷ []) ps

-- what was collected after a list, from nothing
pub list-gathered : (old new : CollectedSamples) (ps : List Point) → old.list ≡ [] → new ≡ visited with_one_more old ps → new.list ≡ ps
list-gathered old new ps none is = ap (λ (g : CollectedSamples). g.list) is ∙ list-visited old ps ∙ ap (λ (l : List Point). l ++ ps) none
