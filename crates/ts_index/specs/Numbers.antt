-- Sorted lists of ids.
use Rattle.std.specs.Prelude.{ℕ, ◌<◌, ◌==◌, nat_lt, not, filter, if◌then◌else◌, ⊤, Bool, false, List, [], ◌∷◌, Option, None, Some}
use Rattle.std.specs.List.{AllByRecursion, list_any}
use Rattle.std.specs.List.Sorted.{IsSortedBy}
use Rattle.std.specs.Ordering.{nat_cmp, is_lt}
use Rattle.ts_spec.specs.State.{Label}
use Rattle.ts_sample.specs.declared.sample.Id.{Id}
use Rattle.ts_index.specs.Index.{Labelled}

-- the ids are in ascending order
abbrev pub AreInOrder : Labelled → Type 0
AreInOrder [] = ⊤
AreInOrder (e ∷ es) = AllByRecursion (λ f. e.0 < f.0) es × AreInOrder es

-- each id is below all that follow
abbrev pub AreAscending : List Id → Type 0
AreAscending [] = ⊤
AreAscending (i ∷ is) = AllByRecursion (λ j. i.0 < j.0) is × AreAscending is

-- no id is below the one before it
abbrev pub AreSorted : List Id → Type 0
AreSorted is = IsSortedBy (λ a b. is_lt (nat_cmp a.0 b.0)) is

-- whether the list contains an id
abbrev pub has_id : ℕ → List Id → Bool
has_id q is = list_any (λ i. q == i.0) is

-- whether there are labels and they pass a test
abbrev pub pass : (List Label → Bool) → Option (List Label) → Bool
pass test None = false
pass test (Some labels) = test labels

-- the list with an id inserted in order
abbrev pub with_id : Id → List Id → List Id
with_id i [] = i ∷ []
with_id i (x ∷ xs) = if nat_lt x.0 i.0 then x ∷ with_id i xs else if x.0 == i.0 then x ∷ xs else i ∷ x ∷ xs

-- the list without an id
abbrev pub without_id : Id → List Id → List Id
without_id i [] = []
without_id i (x ∷ xs) = if x.0 == i.0 then xs else x ∷ without_id i xs

-- the list without these ids
abbrev pub without_all : (gone : List Id) → List Id → List Id
without_all gone is = filter (λ i. not (has_id i.0 gone)) is

-- the list without these ids, if it contains `i`
abbrev pub cleared : Id → (gone : List Id) → List Id → List Id
cleared i gone is = if has_id i.0 is then without_all gone is else is
