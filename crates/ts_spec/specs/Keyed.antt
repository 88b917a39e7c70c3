-- Finite maps by key: lists of entries in ascending order of their keys, without duplicates.
use Rattle.std.specs.Prelude.{◌≡◌, ℕ, Bool, true, false, ◌&&◌, if◌then◌else◌, List, [], ◌∷◌, length, Option, Some, None, refl}
use Rattle.std.specs.Cmp.Derive.{both_true}
use Rattle.std.proofs.lemmas.Bool.{false≢true}
use Rattle.ts_spec.specs.Key.{Key, same, is_before, before_trans}

-- a key and its value
pub record Entry (X : Type 0) : Type 0 where
  pub key : Key
  pub value : X

-- whether a key comes before the keys of all entries
abbrev pub is_below : {X : Type 0} → Key → List (Entry X) → Bool
is_below k [] = true
is_below k (e ∷ es) = is_before k e.key && is_below k es

-- whether the keys are strictly ascending
abbrev pub is_sorted : {X : Type 0} → List (Entry X) → Bool
is_sorted [] = true
is_sorted (e ∷ es) = is_below e.key es && is_sorted es

-- a map: a sorted list of entries
pub record Keyed (X : Type 0) : Type 0 where
  pub entries : List (Entry X)
  pub sorted : is_sorted entries ≡ true

-- ---- what a change of the entries is, and that they stay in order

-- the value at a key
abbrev pub get_in : {X : Type 0} → Key → List (Entry X) → Option X
get_in k [] = None
get_in k (e ∷ es) = if same e.key k then Some e.value else get_in k es

-- the entries with this value at the key
abbrev pub put_in : {X : Type 0} → Key → X → List (Entry X) → List (Entry X)
put_in k x [] = record { key = k; value = x } ∷ []
put_in k x (e ∷ es) =
    if is_before e.key k then e ∷ put_in k x es
    else (if is_before k e.key then record { key = k; value = x } ∷ e ∷ es else record { key = e.key; value = x } ∷ es)

-- the entries without the key
abbrev pub without_in : {X : Type 0} → Key → List (Entry X) → List (Entry X)
without_in k [] = []
without_in k (e ∷ es) = if same e.key k then without_in k es else e ∷ without_in k es

-- the entries with f applied to each value
abbrev pub each_in : {X Y : Type 0} → (Key → X → Y) → List (Entry X) → List (Entry Y)
each_in f [] = []
each_in f (e ∷ es) = record { key = e.key; value = f e.key e.value } ∷ each_in f es

-- ---- the entries stay in order

left_of : (a b : Bool) → (a && b) ≡ true → a ≡ true
left_of true b h = refl
left_of false b h = h

right_of : (a b : Bool) → (a && b) ≡ true → b ≡ true
right_of true b h = h
right_of false b h = absurd (false≢true h)

-- a key before one that is before all entries is before them all
pub below_trans : {X : Type 0} (j k : Key) (es : List (Entry X)) → is_before j k ≡ true → is_below k es ≡ true → is_below j es ≡ true
below_trans j k [] h b = refl
below_trans j k (e ∷ es) h b =
    both_true (before_trans j k e.key h (left_of _ _ b)) (below_trans j k es h (right_of (is_before k e.key) _ b))

below_put : {X : Type 0} (j k : Key) (x : X) (es : List (Entry X)) → is_before j k ≡ true → is_below j es ≡ true → is_below j (put_in k x es) ≡ true
below_put j k x [] h b = both_true h refl
below_put j k x (e ∷ es) h b = go (below_put j k x es h (right_of (is_before j e.key) _ b)) (is_before e.key k) (is_before k e.key)
  where
    go : is_below j (put_in k x es) ≡ true → (s t : Bool) → is_below j (if s then e ∷ put_in k x es else (if t then record { key = k; value = x } ∷ e ∷ es else record { key = e.key; value = x } ∷ es)) ≡ true
    go ih true t = both_true (left_of _ _ b) ih
    go ih false true = both_true h b
    go ih false false = b

-- inserting a key keeps the order
pub sorted_put : {X : Type 0} (k : Key) (x : X) (es : List (Entry X)) → is_sorted es ≡ true → is_sorted (put_in k x es) ≡ true
sorted_put k x [] h = refl
sorted_put k x (e ∷ es) h = go (sorted_put k x es (right_of (is_below e.key es) _ h)) (is_before e.key k) (is_before k e.key) refl refl
  where
    go : is_sorted (put_in k x es) ≡ true → (s t : Bool) → is_before e.key k ≡ s → is_before k e.key ≡ t →
        is_sorted (if s then e ∷ put_in k x es else (if t then record { key = k; value = x } ∷ e ∷ es else record { key = e.key; value = x } ∷ es)) ≡ true
    go ih true t p q = both_true (below_put e.key k x es p (left_of _ _ h)) ih
    go ih false true p q = both_true (both_true q (below_trans k e.key es q (left_of _ _ h))) h
    go ih false false p q = h

below_without : {X : Type 0} (j k : Key) (es : List (Entry X)) → is_below j es ≡ true → is_below j (without_in k es) ≡ true
below_without j k [] b = refl
below_without j k (e ∷ es) b = go (below_without j k es (right_of (is_before j e.key) _ b)) (same e.key k)
  where
    go : is_below j (without_in k es) ≡ true → (s : Bool) → is_below j (if s then without_in k es else e ∷ without_in k es) ≡ true
    go ih true = ih
    go ih false = both_true (left_of _ _ b) ih

-- removing a key keeps the order
pub sorted_without : {X : Type 0} (k : Key) (es : List (Entry X)) → is_sorted es ≡ true → is_sorted (without_in k es) ≡ true
sorted_without k [] h = refl
sorted_without k (e ∷ es) h = go (sorted_without k es (right_of (is_below e.key es) _ h)) (same e.key k)
  where
    go : is_sorted (without_in k es) ≡ true → (s : Bool) → is_sorted (if s then without_in k es else e ∷ without_in k es) ≡ true
    go ih true = ih
    go ih false = both_true (below_without e.key k es (left_of _ _ h)) ih

below_each : {X Y : Type 0} (f : Key → X → Y) (j : Key) (es : List (Entry X)) → is_below j (each_in f es) ≡ is_below j es
below_each f j [] = refl
below_each f j (e ∷ es) = rw (below_each f j es) refl

-- changing values keeps the order
pub sorted_each : {X Y : Type 0} (f : Key → X → Y) (es : List (Entry X)) → is_sorted es ≡ true → is_sorted (each_in f es) ≡ true
sorted_each f [] h = refl
sorted_each f (e ∷ es) h =
    both_true (rw (below_each f e.key es) (left_of _ _ h)) (sorted_each f es (right_of (is_below e.key es) _ h))

-- ---- maps

-- the empty map
abbrev pub none : {X : Type 0} → Keyed X
none = record { entries = []; sorted = refl }

-- the value at a key, if there is one
abbrev pub get : {X : Type 0} → Key → Keyed X → Option X
get k m = get_in k m.entries

-- the map with this value at the key
abbrev pub with_key : {X : Type 0} → Key → X → Keyed X → Keyed X
with_key k x m = record { entries = put_in k x m.entries; sorted = sorted_put k x m.entries m.sorted }

-- the map without the key
abbrev pub without_key : {X : Type 0} → Key → Keyed X → Keyed X
without_key k m = record { entries = without_in k m.entries; sorted = sorted_without k m.entries m.sorted }

-- the map with f applied to each value
abbrev pub each : {X Y : Type 0} → (Key → X → Y) → Keyed X → Keyed Y
each f m = record { entries = each_in f m.entries; sorted = sorted_each f m.entries m.sorted }

-- the number of keys
abbrev pub count_keys : {X : Type 0} → Keyed X → ℕ
count_keys m = length m.entries
