-- Finite maps, by the value at each key.
use Rattle.std.proofs.Common.{◌≡◌, suc, Bool, true, false, cond, if◌then◌else◌, List, [], ◌∷◌, length, Some, None, option_map, refl, sym, ap, ◌∙◌, subst}
use mathlib.Core.Bool.{Bool-set}
use Rattle.std.proofs.lemmas.Bool.{false≢true, and_parts}
use Rattle.ts_spec.specs.Key.{Key, same, is_before}
use Rattle.std.specs.Cmp.Derive.{both_true}
use Rattle.ts_spec.specs.Keyed.{below_trans, Entry, Keyed, is_below, is_sorted, get_in, put_in, without_in, each_in, get, with_key, without_key, each, count_keys}
use Rattle.ts_spec.proofs.Keys.{same-refl, same-true, before-irrefl, before-total}

-- a key before all entries is not there
pub below-get : {X : Type 0} (k : Key) (es : List (Entry X)) → is_below k es ≡ true → get_in k es ≡ None
below-get k [] h = refl
below-get k (e ∷ es) h =
    let parts : (is_before k e.key ≡ true) × (is_below k es ≡ true) = and_parts (is_before k e.key) (is_below k es) h in
    go (same e.key k) refl parts.0 (below-get k es parts.1)
  where
    go : (b : Bool) → same e.key k ≡ b → is_before k e.key ≡ true → get_in k es ≡ None → cond b (Some e.value) (get_in k es) ≡ None
    go true x l ih =
        let eq : e.key ≡ k = same-true e.key k x in
        absurd (false≢true (sym (before-irrefl k) ∙ sym (ap (is_before k) eq) ∙ l))
    go false x l ih = ih

get-each_in : {X Y : Type 0} (f : Key → X → Y) (k : Key) (es : List (Entry X)) → get_in k (each_in f es) ≡ option_map (f k) (get_in k es)
get-each_in f k [] = refl
get-each_in {X} {Y} f k (e ∷ es) = go (same e.key k) refl (get-each_in f k es)
  where
    go : (b : Bool) → same e.key k ≡ b → get_in k (each_in f es) ≡ option_map (f k) (get_in k es) →
        cond b (Some (f e.key e.value)) (get_in k (each_in f es)) ≡ option_map (f k) (cond b (Some e.value) (get_in k es))
    go true x ih = ap (λ (j : Key). Some (f j e.value)) (same-true e.key k x)
    go false x ih = ih

pub get-each : {X Y : Type 0} (f : Key → X → Y) (k : Key) (m : Keyed X) → get k (each f m) ≡ option_map (f k) (get k m)
get-each f k m = get-each_in f k m.entries

length-each : {X Y : Type 0} (f : Key → X → Y) (es : List (Entry X)) → length (each_in f es) ≡ length es
length-each f [] = refl
length-each f (e ∷ es) = ap suc (length-each f es)

pub count-each : {X Y : Type 0} (f : Key → X → Y) (m : Keyed X) → count_keys (each f m) ≡ count_keys m
count-each f m = length-each f m.entries

-- ---- equal answers make equal maps

get-first : {X : Type 0} (e : Entry X) (es : List (Entry X)) → get_in e.key (e ∷ es) ≡ Some e.value
get-first e es = rw (same-refl e.key) refl

rest-same : {X : Type 0} (e : Entry X) (es fs : List (Entry X)) → is_below e.key es ≡ true → is_below e.key fs ≡ true →
    ((k : Key) → get_in k (e ∷ es) ≡ get_in k (e ∷ fs)) → (k : Key) → get_in k es ≡ get_in k fs
rest-same e es fs h g f k = go (same e.key k) refl (f k)
  where
    go : (b : Bool) → same e.key k ≡ b → cond b (Some e.value) (get_in k es) ≡ cond b (Some e.value) (get_in k fs) → get_in k es ≡ get_in k fs
    go true x y =
        let eq : e.key ≡ k = same-true e.key k x in
        subst (λ (j : Key). get_in j es ≡ get_in j fs) eq (below-get e.key es h ∙ sym (below-get e.key fs g))
    go false x y = y

-- a key before the first one is not there
earlier-get : {X : Type 0} (j : Key) (e : Entry X) (es : List (Entry X)) → is_before j e.key ≡ true → is_sorted (e ∷ es) ≡ true → get_in j (e ∷ es) ≡ None
earlier-get j e es l h =
    below-get j (e ∷ es) (both_true l (below_trans j e.key es l (and_parts (is_below e.key es) (is_sorted es) h).0))

-- the first entries are equal
heads-same : {X : Type 0} (e : Entry X) (es : List (Entry X)) (d : Entry X) (fs : List (Entry X)) → is_sorted (e ∷ es) ≡ true → is_sorted (d ∷ fs) ≡ true →
    ((k : Key) → get_in k (e ∷ es) ≡ get_in k (d ∷ fs)) → e ≡ d
heads-same {X} e es d fs h g f = order (is_before e.key d.key) (is_before d.key e.key) refl refl
  where
    entry-same : (e d : Entry X) → e.key ≡ d.key → e.value ≡ d.value → e ≡ d
    entry-same e d k v = λ i. record { key = k i; value = v i }

    order : (a b : Bool) → is_before e.key d.key ≡ a → is_before d.key e.key ≡ b → e ≡ d
    order true b x y =
        let one : Some e.value ≡ None = sym (get-first e es) ∙ f e.key ∙ earlier-get e.key d fs x g in absurd (cc)
    order false true x y =
        let one : None ≡ Some d.value = sym (earlier-get d.key e es y h) ∙ f d.key ∙ get-first d fs in absurd (cc)
    order false false x y =
        let keys : e.key ≡ d.key = before-total e.key d.key x y in
        let one : Some e.value ≡ Some d.value = sym (get-first e es) ∙ f e.key ∙ ap (λ (k : Key). get_in k (d ∷ fs)) keys ∙ get-first d fs in
        let values : e.value ≡ d.value = cc in
        entry-same e d keys values

entries-same : {X : Type 0} (es fs : List (Entry X)) → is_sorted es ≡ true → is_sorted fs ≡ true → ((k : Key) → get_in k es ≡ get_in k fs) → es ≡ fs
entries-same [] [] h g f = refl
entries-same [] (e ∷ fs) h g f = let one : None ≡ Some e.value = f e.key ∙ get-first e fs in absurd (cc)
entries-same (e ∷ es) [] h g f = let one : Some e.value ≡ None = sym (get-first e es) ∙ f e.key in absurd (cc)
entries-same {X} (e ∷ es) (d ∷ fs) h g f =
    go d (heads-same e es d fs h g f) g f (λ g' f'. entries-same es fs (and_parts (is_below e.key es) (is_sorted es) h).1 g' f')
  where
    go : (x : Entry X) → e ≡ x → is_sorted (x ∷ fs) ≡ true → ((k : Key) → get_in k (e ∷ es) ≡ get_in k (x ∷ fs)) →
        (is_sorted fs ≡ true → ((k : Key) → get_in k es ≡ get_in k fs) → es ≡ fs) → e ∷ es ≡ x ∷ fs
    go x eq g f ih =
        let g' : is_sorted (e ∷ fs) ≡ true = subst (λ (y : Entry X). is_sorted (y ∷ fs) ≡ true) (sym eq) g in
        let f' : (k : Key) → get_in k (e ∷ es) ≡ get_in k (e ∷ fs) = λ k. f k ∙ ap (λ (y : Entry X). get_in k (y ∷ fs)) (sym eq) in
        let rest : es ≡ fs = ih (and_parts (is_below e.key fs) (is_sorted fs) g').1
        (rest-same e es fs (and_parts (is_below e.key es) (is_sorted es) h).0 (and_parts (is_below e.key fs) (is_sorted fs) g').0 f') in
        cc

with-entries : {X : Type 0} (m n : Keyed X) → m.entries ≡ n.entries → m ≡ n
with-entries {X} m n e = go n.entries e n.sorted
  where
    go : (fs : List (Entry X)) → m.entries ≡ fs → (s : is_sorted fs ≡ true) → m ≡ record { entries = fs; sorted = s }
    go fs e = subst (λ (fs : List (Entry X)). (s : is_sorted fs ≡ true) → m ≡ record { entries = fs; sorted = s }) e
        (λ s. ap (λ (q : is_sorted m.entries ≡ true). record { entries = m.entries; sorted = q }) (Bool-set (is_sorted m.entries) true m.sorted s))

-- Two maps with the same value at each key are equal.
pub maps-same : {X : Type 0} (m n : Keyed X) → ((k : Key) → get k m ≡ get k n) → m ≡ n
maps-same m n f = with-entries m n (entries-same m.entries n.entries m.sorted n.sorted f)

-- ---- one key put in, or taken out

get-put_in : {X : Type 0} (j k : Key) (x : X) (es : List (Entry X)) → get_in j (put_in k x es) ≡ (if same k j then Some x else get_in j es)
get-put_in j k x [] = refl
get-put_in {X} j k x (e ∷ es) = go (is_before e.key k) (is_before k e.key) refl refl (get-put_in j k x es)
  where
    both : (a b : Bool) → same e.key j ≡ a → same k j ≡ b → is_before e.key k ≡ true → get_in j (put_in k x es) ≡ (if b then Some x else get_in j es) →
        cond a (Some e.value) (get_in j (put_in k x es)) ≡ (if b then Some x else cond a (Some e.value) (get_in j es))
    both true true u w p ih =
        let eq : e.key ≡ k = same-true e.key j u ∙ sym (same-true k j w) in
        absurd (false≢true (sym (before-irrefl k) ∙ sym (ap (λ (i : Key). is_before i k) eq) ∙ p))
    both true false u w p ih = refl
    both false true u w p ih = ih
    both false false u w p ih = ih

    go : (s t : Bool) → is_before e.key k ≡ s → is_before k e.key ≡ t → get_in j (put_in k x es) ≡ (if same k j then Some x else get_in j es) →
        get_in j (if s then e ∷ put_in k x es else (if t then record { key = k; value = x } ∷ e ∷ es else record { key = e.key; value = x } ∷ es)) ≡ (if same k j then Some x else get_in j (e ∷ es))
    go true t p q ih = both (same e.key j) (same k j) refl refl p ih
    go false true p q ih = refl
    go false false p q ih = rw (before-total e.key k p q) (again (same k j))
      where
        again : (b : Bool) → cond b (Some x) (get_in j es) ≡ (if b then Some x else cond b (Some e.value) (get_in j es))
        again true = refl
        again false = refl

pub get-with : {X : Type 0} (j k : Key) (x : X) (m : Keyed X) → get j (with_key k x m) ≡ (if same k j then Some x else get j m)
get-with j k x m = get-put_in j k x m.entries

get-without_in : {X : Type 0} (j k : Key) (es : List (Entry X)) → get_in j (without_in k es) ≡ (if same k j then None else get_in j es)
get-without_in {X} j k [] = none (same k j)
  where
    none : (b : Bool) → get_in {X = X} j [] ≡ (if b then None else get_in {X = X} j [])
    none true = refl
    none false = refl
get-without_in {X} j k (e ∷ es) = go (same e.key k) refl (get-without_in j k es)
  where
    go : (b : Bool) → same e.key k ≡ b → get_in j (without_in k es) ≡ (if same k j then None else get_in j es) →
        get_in j (if b then without_in k es else e ∷ without_in k es) ≡ (if same k j then None else cond (same e.key j) (Some e.value) (get_in j es))
    go true p ih = ih ∙ skip (same k j) refl
      where
        skip : (b : Bool) → same k j ≡ b → (if b then None else get_in j es) ≡ (if b then None else cond (same e.key j) (Some e.value) (get_in j es))
        skip true q = refl
        skip false q = rw (same-true e.key k p, q) refl
    go false p ih = both (same e.key j) (same k j) refl refl ih
      where
        both : (a b : Bool) → same e.key j ≡ a → same k j ≡ b → get_in j (without_in k es) ≡ (if b then None else get_in j es) →
            cond a (Some e.value) (get_in j (without_in k es)) ≡ (if b then None else cond a (Some e.value) (get_in j es))
        both true true u w ih =
            let eq : e.key ≡ k = same-true e.key j u ∙ sym (same-true k j w) in
            absurd (false≢true (sym p ∙ ap (λ (i : Key). same i k) eq ∙ same-refl k))
        both true false u w ih = refl
        both false true u w ih = ih
        both false false u w ih = ih

pub get-without : {X : Type 0} (j k : Key) (m : Keyed X) → get j (without_key k m) ≡ (if same k j then None else get j m)
get-without j k m = get-without_in j k m.entries
