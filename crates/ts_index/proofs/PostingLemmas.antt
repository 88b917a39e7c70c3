-- Posting lists by value and by label after one of them changes.
use Rattle.std.proofs.Common.{◌≡◌, ℕ, ◌&&◌, Bool, true, false, List, [], None, Some, Vec, refl, sym, ◌∙◌, ap, if◌then◌else◌, cond}
use Rattle.std.specs.BTreeMap.{BTreeMap, get_by, is_at, UpdatesBy}
use Rattle.std.specs.Cmp.Lexicographic.{slice_cmp}
use Rattle.std.specs.Ordering.{nat_cmp}
use Rattle.std.proofs.lemmas.Map.Lookups.{exact_bytes}
use Rattle.std.proofs.lemmas.Map.Views.{tells_apart}
use Rattle.std.specs.Prelude.{Result, Ok, Err, OnOk, OnErr}
use Rattle.std.specs.Map.{lookup}
use Rattle.ts_sample.specs.declared.sample.Id.{Id}
use Rattle.ts_index.specs.Postings.{alike, ids_in, by_value, value_in, posting_in}

-- words that a map takes for one are the same
pub alike-same : (one other : List ℕ) → alike one other ≡ true → one ≡ other
alike-same one other h = tells_apart exact_bytes one other h

pub on_ok : {T E P Q : Type 0} (r : Result T E) → (P → Q) → OnOk r P → OnOk r Q
on_ok (Ok x) f p = f p
on_ok (Err e) f p = p

pub on_err : {T E P Q : Type 0} (r : Result T E) → (P → Q) → OnErr r P → OnErr r Q
on_err (Ok x) f p = p
on_err (Err e) f p = f p

pub either : {T E P Q R : Type 0} (r : Result T E) → OnOk r P → OnErr r Q → (P → R) → (Q → R) → R
either (Ok x) p q f g = f p
either (Err e) p q f g = g q

module _ {Z : Type 0} where
  -- one list has changed by f
  pub value-changed : (f : List Id → List Id) (m n : BTreeMap (List ℕ) (Vec Id Z)) (value : List ℕ) (list : Vec Id Z)
      → UpdatesBy (slice_cmp nat_cmp) (slice_cmp nat_cmp value) m n (Some list) → list.items ≡ f (by_value value m)
      → (v : List ℕ) → by_value v n ≡ (if alike value v then f (by_value v m) else by_value v m)
  value-changed f m n value list h e v = ap ids_in (h.0 v) ∙ by (alike value v) refl
    where
      by : (b : Bool) → alike value v ≡ b → ids_in (cond b (Some list) (get_by (slice_cmp nat_cmp v) m)) ≡ (if b then f (by_value v m) else by_value v m)
      by true p = e ∙ ap (λ w. f (by_value w m)) (alike-same value v p)
      by false p = refl

  -- one list is there with the same ids
  pub value-same : (m n : BTreeMap (List ℕ) (Vec Id Z)) (value : List ℕ) (list : Vec Id Z)
      → UpdatesBy (slice_cmp nat_cmp) (slice_cmp nat_cmp value) m n (Some list) → list.items ≡ by_value value m
      → (v : List ℕ) → by_value v n ≡ by_value v m
  value-same m n value list h e v = value-changed (λ is. is) m n value list h e v ∙ by (alike value v)
    where
      by : (b : Bool) → (if b then by_value v m else by_value v m) ≡ by_value v m
      by true = refl
      by false = refl

  -- an empty list has gone
  pub value-gone : (m n : BTreeMap (List ℕ) (Vec Id Z)) (value : List ℕ)
      → UpdatesBy (slice_cmp nat_cmp) (slice_cmp nat_cmp value) m n None → by_value value m ≡ []
      → (v : List ℕ) → by_value v n ≡ by_value v m
  value-gone m n value h e v = ap ids_in (h.0 v) ∙ by (alike value v) refl
    where
      by : (b : Bool) → alike value v ≡ b → ids_in (cond b None (get_by (slice_cmp nat_cmp v) m)) ≡ by_value v m
      by true p = sym e ∙ ap (λ w. by_value w m) (alike-same value v p)
      by false p = refl

  -- the lists of one label have changed at one value by f
  pub label-changed : (f : List Id → List Id) (m n : BTreeMap (List ℕ) (BTreeMap (List ℕ) (Vec Id Z))) (label value : List ℕ) (values : BTreeMap (List ℕ) (Vec Id Z))
      → UpdatesBy (slice_cmp nat_cmp) (slice_cmp nat_cmp label) m n (Some values)
      → ((v : List ℕ) → by_value v values ≡ (if alike value v then f (posting_in label v m) else posting_in label v m))
      → (l v : List ℕ) → posting_in l v n ≡ (if alike label l && alike value v then f (posting_in l v m) else posting_in l v m)
  label-changed f m n label value values h e l v = ap (value_in v) (h.0 l) ∙ by (alike label l) refl
    where
      by : (b : Bool) → alike label l ≡ b
          → value_in v (cond b (Some values) (get_by (slice_cmp nat_cmp l) m)) ≡ (if b && alike value v then f (posting_in l v m) else posting_in l v m)
      by true p = e v ∙ ap (λ k. if alike value v then f (posting_in k v m) else posting_in k v m) (alike-same label l p)
      by false p = refl

  -- the lists of one label are there unchanged
  pub label-same : (m n : BTreeMap (List ℕ) (BTreeMap (List ℕ) (Vec Id Z))) (label : List ℕ) (values : BTreeMap (List ℕ) (Vec Id Z))
      → UpdatesBy (slice_cmp nat_cmp) (slice_cmp nat_cmp label) m n (Some values)
      → ((v : List ℕ) → by_value v values ≡ posting_in label v m)
      → (l v : List ℕ) → posting_in l v n ≡ posting_in l v m
  label-same m n label values h e l v = ap (value_in v) (h.0 l) ∙ by (alike label l) refl
    where
      by : (b : Bool) → alike label l ≡ b → value_in v (cond b (Some values) (get_by (slice_cmp nat_cmp l) m)) ≡ posting_in l v m
      by true p = e v ∙ ap (λ k. posting_in k v m) (alike-same label l p)
      by false p = refl

  -- empty lists of one label have gone
  pub label-gone : (m n : BTreeMap (List ℕ) (BTreeMap (List ℕ) (Vec Id Z))) (label : List ℕ)
      → UpdatesBy (slice_cmp nat_cmp) (slice_cmp nat_cmp label) m n None
      → ((v : List ℕ) → posting_in label v m ≡ [])
      → (l v : List ℕ) → posting_in l v n ≡ posting_in l v m
  label-gone m n label h e l v = ap (value_in v) (h.0 l) ∙ by (alike label l) refl
    where
      by : (b : Bool) → alike label l ≡ b → value_in v (cond b None (get_by (slice_cmp nat_cmp l) m)) ≡ posting_in l v m
      by true p = sym (e v) ∙ ap (λ k. posting_in k v m) (alike-same label l p)
      by false p = refl

  -- no list is there, and none stays
  pub value-none : (f : List Id → List Id) (m : BTreeMap (List ℕ) (Vec Id Z)) (value : List ℕ) → f [] ≡ [] → by_value value m ≡ []
      → (v : List ℕ) → by_value v m ≡ (if alike value v then f (by_value v m) else by_value v m)
  value-none f m value e h v = by (alike value v) refl
    where
      by : (b : Bool) → alike value v ≡ b → by_value v m ≡ (if b then f (by_value v m) else by_value v m)
      by true p =
          let empty : by_value v m ≡ [] = ap (λ w. by_value w m) (sym (alike-same value v p)) ∙ h in
          empty ∙ sym (ap f empty ∙ e)
      by false p = refl

  -- no list of a label is there, and none stays
  pub label-none : (f : List Id → List Id) (m : BTreeMap (List ℕ) (BTreeMap (List ℕ) (Vec Id Z))) (label value : List ℕ) → f [] ≡ []
      → ((v : List ℕ) → posting_in label v m ≡ [])
      → (l v : List ℕ) → posting_in l v m ≡ (if alike label l && alike value v then f (posting_in l v m) else posting_in l v m)
  label-none f m label value e h l v = by (alike label l) (alike value v) refl
    where
      by : (b d : Bool) → alike label l ≡ b → posting_in l v m ≡ (if b && d then f (posting_in l v m) else posting_in l v m)
      by true true p =
          let empty : posting_in l v m ≡ [] = ap (λ k. posting_in k v m) (sym (alike-same label l p)) ∙ h v in
          empty ∙ sym (ap f empty ∙ e)
      by true false p = refl
      by false d p = refl

  -- a map without entries has no lists
  pub by_value-none : (m : BTreeMap (List ℕ) (Vec Id Z)) → m.entries ≡ [] → (v : List ℕ) → by_value v m ≡ []
  by_value-none m e v = ap (λ es. ids_in (lookup (is_at (slice_cmp nat_cmp v)) es)) e
