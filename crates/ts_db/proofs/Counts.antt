-- The number of keys after an insertion or a removal.
use Rattle.std.proofs.Common.{◌≡◌, suc, Bool, true, false, cond, List, [], ◌∷◌, length, refl, sym, ◌∙◌, ap, subst}
use Rattle.std.specs.Prelude.{None, Some, if◌then◌else◌}
use Rattle.std.proofs.lemmas.Bool.{and_parts, false≢true}
use Rattle.std.specs.Cmp.Derive.{both_true}
use Rattle.ts_spec.specs.Key.{Key, same, is_before}
use Rattle.ts_spec.specs.Keyed.{Entry, Keyed, get_in, put_in, without_in, is_below, is_sorted, get, with_key, without_key, count_keys, below_trans}
use Rattle.ts_spec.proofs.Keys.{same-refl, same-true, before-irrefl, before-total}
use Rattle.ts_spec.proofs.Maps.{below-get}

longer-put : {X : Type 0} (k : Key) (x : X) (es : List (Entry X)) → get_in k es ≡ None → length (put_in k x es) ≡ suc (length es)
longer-put k x [] none = refl
longer-put {X} k x (e ∷ es) none = go (is_before e.key k) (is_before k e.key) refl refl (longer-put k x es)
  where
    rest : (b : Bool) → cond b (Some e.value) (get_in k es) ≡ None → get_in k es ≡ None
    rest true h = absurd (cc h)
    rest false h = h

    go : (s t : Bool) → is_before e.key k ≡ s → is_before k e.key ≡ t → (get_in k es ≡ None → length (put_in k x es) ≡ suc (length es))
        → length (if s then e ∷ put_in k x es else (if t then record { key = k; value = x } ∷ e ∷ es else record { key = e.key; value = x } ∷ es)) ≡ suc (length (e ∷ es))
    go true t p q ih = ap suc (ih (rest (same e.key k) none))
    go false true p q ih = refl
    go false false p q ih =
        let here : same e.key k ≡ true = ap (λ j. same j k) (before-total e.key k p q) ∙ same-refl k in
        let found : cond true (Some e.value) (get_in k es) ≡ None = ap (λ b. cond b (Some e.value) (get_in k es)) (sym here) ∙ none in
        absurd (cc found)

same-put : {X : Type 0} (k : Key) (x y : X) (es : List (Entry X)) → is_sorted es ≡ true → get_in k es ≡ Some y → length (put_in k x es) ≡ length es
same-put k x y [] h is = absurd (cc is)
same-put {X} k x y (e ∷ es) h is = go (is_before e.key k) (is_before k e.key) refl refl (same-put k x y es (and_parts (is_below e.key es) (is_sorted es) h).1)
  where
    rest : is_before e.key k ≡ true → (b : Bool) → same e.key k ≡ b → cond b (Some e.value) (get_in k es) ≡ Some y → get_in k es ≡ Some y
    rest p true s g = absurd (false≢true (sym (before-irrefl k) ∙ sym (ap (λ j. is_before j k) (same-true e.key k s)) ∙ p))
    rest p false s g = g

    go : (s t : Bool) → is_before e.key k ≡ s → is_before k e.key ≡ t → (get_in k es ≡ Some y → length (put_in k x es) ≡ length es)
        → length (if s then e ∷ put_in k x es else (if t then record { key = k; value = x } ∷ e ∷ es else record { key = e.key; value = x } ∷ es)) ≡ length (e ∷ es)
    go true t p q ih = ap suc (ih (rest p (same e.key k) refl is))
    go false true p q ih =
        let none : get_in k (e ∷ es) ≡ None = below-get k (e ∷ es) (both_true q (below_trans k e.key es q (and_parts (is_below e.key es) (is_sorted es) h).0)) in
        absurd (cc (none, is))
    go false false p q ih = refl

-- a key that was missing is one more
pub count-more : {X : Type 0} (k : Key) (x : X) (m : Keyed X) → get k m ≡ None → count_keys (with_key k x m) ≡ suc (count_keys m)
count-more k x m none = longer-put k x m.entries none

-- a key that was there is not
pub count-same : {X : Type 0} (k : Key) (x y : X) (m : Keyed X) → get k m ≡ Some y → count_keys (with_key k x m) ≡ count_keys m
count-same k x y m is = same-put k x y m.entries m.sorted is

-- a key that is missing is not taken out
absent-without : {X : Type 0} (k : Key) (es : List (Entry X)) → get_in k es ≡ None → without_in k es ≡ es
absent-without k [] none = refl
absent-without {X} k (e ∷ es) none = go (same e.key k) none (absent-without k es)
  where
    go : (b : Bool) → cond b (Some e.value) (get_in k es) ≡ None → (get_in k es ≡ None → without_in k es ≡ es) → (if b then without_in k es else e ∷ without_in k es) ≡ e ∷ es
    go true h ih = absurd (cc h)
    go false h ih = ap (λ (fs : List (Entry X)). e ∷ fs) (ih h)

shorter-without : {X : Type 0} (k : Key) (x : X) (es : List (Entry X)) → is_sorted es ≡ true → get_in k es ≡ Some x → suc (length (without_in k es)) ≡ length es
shorter-without k x [] h is = absurd (cc is)
shorter-without {X} k x (e ∷ es) h is = go (same e.key k) refl is (shorter-without k x es (and_parts (is_below e.key es) (is_sorted es) h).1)
  where
    go : (b : Bool) → same e.key k ≡ b → cond b (Some e.value) (get_in k es) ≡ Some x → (get_in k es ≡ Some x → suc (length (without_in k es)) ≡ length es)
        → suc (length (if b then without_in k es else e ∷ without_in k es)) ≡ suc (length es)
    go true s g ih =
        let none : get_in k es ≡ None = subst (λ (j : Key). get_in j es ≡ None) (same-true e.key k s) (below-get e.key es (and_parts (is_below e.key es) (is_sorted es) h).0) in
        ap (λ (fs : List (Entry X)). suc (length fs)) (absent-without k es none)
    go false s g ih = ap suc (ih g)

-- a key that was there is one less once it is taken out
pub count-less : {X : Type 0} (k : Key) (x : X) (m : Keyed X) → get k m ≡ Some x → suc (count_keys (without_key k m)) ≡ count_keys m
count-less k x m is = shorter-without k x m.entries m.sorted is
