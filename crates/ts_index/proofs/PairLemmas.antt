-- Pairs of label and value, one after another.
use Rattle.std.proofs.Common.{◌≡◌, ℕ, zero, suc, ◌+◌, ◌==◌, add-one, subst, ◌||◌, ◌&&◌, not, Bool, true, false, List, [], ◌∷◌, take, slice_get, Some, None, option_map, refl, sym, ◌∙◌, ap, if◌then◌else◌}
use Rattle.std.proofs.lemmas.Bool.{false≢true, and_parts}
use Rattle.std.proofs.lemmas.Map.Text.{is_eq-slice_cmp}
use Rattle.ts_spec.specs.Key.{Key, same}
use Rattle.ts_spec.specs.State.{Label}
use Rattle.ts_spec.specs.Filter.{value_of, has_one_of}
use Rattle.ts_spec.proofs.Keys.{same-sym, same-true}
use Rattle.ts_labels.specs.Labels.{AreDistinct}
use Rattle.ts_labels.proofs.LabelLemmas.{pointwise-same, apart}
use Rattle.ts_index.specs.Index.{has_pair}
use Rattle.ts_index.specs.Pairs.{is_own}
use Rattle.ts_index.specs.Postings.{alike}
use Rattle.ts_index.specs.Numbers.{AreAscending, has_id, with_id, without_id}
use Rattle.ts_sample.specs.declared.sample.Id.{Id}
use Rattle.ts_index.proofs.PostingLemmas.{alike-same}
use Rattle.ts_index.proofs.MemberLemmas.{AreAscending-with, AreAscending-without, has_id-with, has_id-without}

-- a map takes the same words for one
pub alike-is : (one other : List ℕ) → alike one other ≡ same one other
alike-is one other = is_eq-slice_cmp one other ∙ pointwise-same one other ∙ same-sym other one

pub or-false : (b : Bool) → (b || false) ≡ b
or-false true = refl
or-false false = refl

and-true : (b : Bool) → (b && true) ≡ b
and-true true = refl
and-true false = refl

-- nothing comes, and nothing goes
pub keeps-insert_id : (x s o : Bool) → s ≡ false → o ≡ ((x && s) || o)
keeps-insert_id true s o e = rw e refl
keeps-insert_id false s o e = refl

pub keeps-take : (x s o : Bool) → s ≡ false → o ≡ (o && not (x && s))
keeps-take true s o e = rw e (sym (and-true o))
keeps-take false s o e = sym (and-true o)

-- one more pair comes
pub step-insert_id : (o x t s n : Bool) → ((x && (s && n)) || ((x && (t && n)) || o)) ≡ ((x && ((t || s) && n)) || o)
step-insert_id o false t s n = refl
step-insert_id o true true true true = refl
step-insert_id o true true true false = refl
step-insert_id o true true false true = refl
step-insert_id o true true false false = refl
step-insert_id o true false true true = refl
step-insert_id o true false true false = refl
step-insert_id o true false false n = refl

-- one more pair goes
pub step-take : (o x t s n : Bool) → ((o && not (x && (t && n))) && not (x && (s && n))) ≡ (o && not (x && ((t || s) && n)))
step-take false x t s n = refl
step-take true false t s n = refl
step-take true true true true true = refl
step-take true true true true false = refl
step-take true true true false true = refl
step-take true true true false false = refl
step-take true true false s n = refl

-- what came goes
pub undone : (x t n o : Bool) → (x ≡ true → (t && n) ≡ true → o ≡ false) → (((x && (t && n)) || o) && not (x && (t && n))) ≡ o
undone false t n o h = and-true o
undone true true true o h = rw (h refl refl) refl
undone true true false o h = and-true o
undone true false n o h = and-true o

-- the pairs so far with the next one
pub has_pair-next : (l v : List ℕ) (ls : List Label) (i : ℕ) (name value : Key) → AreDistinct ls
    → option_map (λ k. k.name) (slice_get ls i) ≡ Some name → option_map (λ k. k.value) (slice_get ls i) ≡ Some value
    → has_pair l v (take (suc i) ls) ≡ (has_pair l v (take i ls) || (alike name l && alike value v))
has_pair-next l v [] i name value d e f = cc
has_pair-next l v (k ∷ ks) zero name value d e f =
    let n : name ≡ k.name = cc in
    let w : value ≡ k.value = cc in
    rw (n, w, alike-is k.name l, alike-is k.value v, same-sym k.value v) (by (same k.name l))
  where
    by : (b : Bool) → has_one_of (v ∷ []) (if b then Some k.value else None) ≡ (b && same v k.value)
    by true = or-false (same v k.value)
    by false = refl
has_pair-next l v (k ∷ ks) (suc i) name value d e f = by (same k.name l) refl (apart k.name name ks i d.0 e) (has_pair-next l v ks i name value d.1 e f)
  where
    by : (b : Bool) → same k.name l ≡ b → same name k.name ≡ false
        → has_pair l v (take (suc i) ks) ≡ (has_pair l v (take i ks) || (alike name l && alike value v))
        → has_one_of (v ∷ []) (if b then Some k.value else value_of l (take (suc i) ks)) ≡ (has_one_of (v ∷ []) (if b then Some k.value else value_of l (take i ks)) || (alike name l && alike value v))
    by true p other ih =
        let away : alike name l ≡ false = alike-is name l ∙ ap (λ m. same name m) (sym (same-true k.name l p)) ∙ other in
        rw away (sym (or-false (has_one_of (v ∷ []) (Some k.value))))
    by false p other ih = ih

-- the same as a loop counts
pub has_pair-more : (l v : List ℕ) (ls : List Label) (i : ℕ) (name value : Key) → AreDistinct ls
    → option_map (λ k. k.name) (slice_get ls i) ≡ Some name → option_map (λ k. k.value) (slice_get ls i) ≡ Some value
    → has_pair l v (take (i + 1) ls) ≡ (has_pair l v (take i ls) || (alike name l && alike value v))
has_pair-more l v ls i name value d e f = rw add-one (has_pair-next l v ls i name value d e f)

-- a pair of the first labels is one of all
pub has_pair-take : (l v : List ℕ) (ls : List Label) (i : ℕ) → has_pair l v (take i ls) ≡ true → has_pair l v ls ≡ true
has_pair-take l v ls zero h = absurd (false≢true h)
has_pair-take l v [] (suc i) h = absurd (false≢true h)
has_pair-take l v (k ∷ ks) (suc i) h = by (same k.name l) (has_pair-take l v ks i) h
  where
    by : (b : Bool) → (has_pair l v (take i ks) ≡ true → has_pair l v ks ≡ true)
        → has_one_of (v ∷ []) (if b then Some k.value else value_of l (take i ks)) ≡ true
        → has_one_of (v ∷ []) (if b then Some k.value else value_of l ks) ≡ true
    by true ih h = h
    by false ih h = ih h

-- a pair that others have is not its own
pub not_own : (name value l v : List ℕ) (others : List Label) → has_pair name value others ≡ true → ((alike name l && alike value v) && not (has_pair l v others)) ≡ false
not_own name value l v others h = by (alike name l) (alike value v) refl refl
  where
    by : (b d : Bool) → alike name l ≡ b → alike value v ≡ d → ((b && d) && not (has_pair l v others)) ≡ false
    by true true p q = rw (← alike-same name l p, ← alike-same value v q, h) refl
    by true false p q = refl
    by false d p q = refl

-- and one that they have not is
pub own : (name value l v : List ℕ) (others : List Label) → has_pair name value others ≡ false → ((alike name l && alike value v) && not (has_pair l v others)) ≡ (alike name l && alike value v)
own name value l v others h = by (alike name l) (alike value v) refl refl
  where
    by : (b d : Bool) → alike name l ≡ b → alike value v ≡ d → ((b && d) && not (has_pair l v others)) ≡ (b && d)
    by true true p q = rw (← alike-same name l p, ← alike-same value v q, h) refl
    by true false p q = refl
    by false d p q = refl

-- ---- one list that may have changed

pub ascending-insert_id : (i : Id) (b : Bool) (new old : List Id) → new ≡ (if b then with_id i old else old) → AreAscending old → AreAscending new
ascending-insert_id i true new old e h = subst AreAscending (sym e) (AreAscending-with i old h)
ascending-insert_id i false new old e h = subst AreAscending (sym e) h

pub ascending-take : (i : Id) (b : Bool) (new old : List Id) → new ≡ (if b then without_id i old else old) → AreAscending old → AreAscending new
ascending-take i true new old e h = subst AreAscending (sym e) (AreAscending-without i old h)
ascending-take i false new old e h = subst AreAscending (sym e) h

pub member-insert_id : (i : Id) (b s : Bool) (new old : List Id) (q : ℕ) → new ≡ (if b then with_id i old else old) → s ≡ b → has_id q new ≡ (((q == i.0) && s) || has_id q old)
member-insert_id i true s new old q e p = ap (has_id q) e ∙ has_id-with i old q ∙ ap (λ t. t || has_id q old) (sym (and-true (q == i.0)) ∙ ap (λ t. (q == i.0) && t) (sym p))
member-insert_id i false s new old q e p = ap (has_id q) e ∙ keeps-insert_id (q == i.0) s (has_id q old) p

pub member-take : (i : Id) (b s : Bool) (new old : List Id) (q : ℕ) → new ≡ (if b then without_id i old else old) → s ≡ b → AreAscending old → has_id q new ≡ (has_id q old && not ((q == i.0) && s))
member-take i true s new old q e p h = ap (has_id q) e ∙ has_id-without i old q h ∙ ap (λ t. has_id q old && not t) (sym (and-true (q == i.0)) ∙ ap (λ t. (q == i.0) && t) (sym p))
member-take i false s new old q e p h = ap (has_id q) e ∙ keeps-take (q == i.0) s (has_id q old) p

-- an own pair of the first labels is one of all
pub own-take : (l v : List ℕ) (ls others : List Label) (i : ℕ) → is_own l v (take i ls) others ≡ true → is_own l v ls others ≡ true
own-take l v ls others i h =
    let parts : (has_pair l v (take i ls) ≡ true) × (not (has_pair l v others) ≡ true) = and_parts (has_pair l v (take i ls)) (not (has_pair l v others)) h in
    rw (has_pair-take l v ls i parts.0, parts.1) refl
