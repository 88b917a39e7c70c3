-- Lists in the requested order: oldest first, or newest first.
use Rattle.std.specs.Prelude.{Bool, true, false, List, reverse}

-- the list, reversed if `true`
abbrev pub in_order : {X : Type 0} → Bool → List X → List X
in_order true xs = reverse xs
in_order false xs = xs
