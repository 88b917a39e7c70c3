-- Entries of a map in ascending order, taken one by one.
use Rattle.std.proofs.Common.{◌≡◌, suc, ◌≤◌, Bool, true, false, if◌then◌else◌, List, [], ◌∷◌, length, Some, None, refl, sym, ap, ◌∙◌, arith}
use Rattle.std.specs.Bool.{⊤}
use Rattle.std.proofs.lemmas.Bool.{false≢true, and_parts}
use Rattle.ts_spec.specs.Key.{Key, same, is_before}
use Rattle.ts_spec.specs.Keyed.{Entry, Keyed, is_below, is_sorted, get_in, put_in, with_key, count_keys}
use Rattle.ts_spec.proofs.Keys.{same-true, same-refl, before-irrefl}
use Rattle.ts_spec.proofs.Maps.{below-get}

-- a key before another is not that key
pub before-other : (j k : Key) → is_before j k ≡ true → same j k ≡ false
before-other j k h = go (same j k) refl
  where
    go : (b : Bool) → same j k ≡ b → b ≡ false
    go false e = refl
    go true e = absurd (false≢true (sym (before-irrefl k) ∙ ap (λ (i : Key). is_before i k) (sym (same-true j k e)) ∙ h))

-- P holds for each entry
abbrev pub AllEntries : {X : Type 0} → (Key → X → Type 0) → List (Entry X) → Type 0
AllEntries P [] = ⊤
AllEntries P (e ∷ es) = P e.key e.value × AllEntries P es

pub each-entry : {X : Type 0} (P : Key → X → Type 0) (es : List (Entry X)) → is_sorted es ≡ true → ((k : Key) (x : X) → get_in k es ≡ Some x → P k x) → AllEntries P es
each-entry P [] s h = tt
each-entry {X} P (e ∷ es) s h =
    let parts : (is_below e.key es ≡ true) × (is_sorted es ≡ true) = and_parts (is_below e.key es) (is_sorted es) s in
    (h e.key e.value (ap (λ (b : Bool). if b then Some e.value else get_in e.key es) (same-refl e.key)), each-entry P es parts.1 (λ k x y. h k x (later k x parts.0 y (same e.key k) refl)))
  where
    later : (k : Key) (x : X) → is_below e.key es ≡ true → get_in k es ≡ Some x → (b : Bool) → same e.key k ≡ b → (if b then Some e.value else get_in k es) ≡ Some x
    later k x below y false z = y
    later k x below y true z =
        let none : get_in k es ≡ None = ap (λ (j : Key). get_in j es) (sym (same-true e.key k z)) ∙ below-get e.key es below in
        let one : None ≡ Some x = sym none ∙ y in absurd (cc one)

-- a key adds at most one entry
length-put : {X : Type 0} (k : Key) (x : X) (es : List (Entry X)) → length (put_in k x es) ≤ suc (length es)
length-put k x [] = omega arith
length-put k x (e ∷ es) = go (is_before e.key k) (is_before k e.key) (length-put k x es)
  where
    go : (s t : Bool) → length (put_in k x es) ≤ suc (length es) →
        length (if s then e ∷ put_in k x es else (if t then record { key = k; value = x } ∷ e ∷ es else record { key = e.key; value = x } ∷ es)) ≤ suc (suc (length es))
    go true t ih = omega arith
    go false true ih = omega arith
    go false false ih = omega arith

pub count-with : {X : Type 0} (k : Key) (x : X) (m : Keyed X) → count_keys (with_key k x m) ≤ suc (count_keys m)
count-with k x m = length-put k x m.entries
