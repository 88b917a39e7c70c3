-- The keys of the series of a group, separated by commas.
use Rattle.std.specs.Prelude.{ℕ, Bool, true, false, List, [], ◌∷◌, ◌++◌, codes}
use Rattle.ts_spec.specs.Key.{Key}

-- keys, separated by commas
abbrev pub joined : List Key → List ℕ
joined [] = []
joined (k ∷ []) = k
joined (k ∷ l ∷ ks) = k ++ codes "," ++ joined (l ∷ ks)

-- whether there are any
abbrev pub are_some : List Key → Bool
are_some [] = false
are_some (k ∷ ks) = true

-- whether there is a key so far, and the text of the keys
pub record SourcesText : Type 0 where
  pub some : Bool
  pub text : List ℕ

-- the same, for these keys
abbrev pub sources_text : List Key → SourcesText
sources_text ks = record { some = are_some ks; text = joined ks }
