-- Posting lists and labels after many ids lost their labels.
use Rattle.std.proofs.Common.{◌≡◌, ℕ, ◌==◌, ◌||◌, ◌&&◌, not, cond, Bool, true, false, List, [], ◌∷◌, Vec, refl, sym, ◌∙◌, ap, if◌then◌else◌, eqb-true, eq-eqb}
use Rattle.std.specs.Prelude.{Option, None, Some}
use Rattle.std.proofs.lemmas.Bool.{false≢true}
use Rattle.std.specs.BTreeMap.{BTreeMap, is_at}
use Rattle.std.specs.Ordering.{nat_cmp}
use Rattle.ts_spec.specs.State.{Label}
use Rattle.ts_sample.specs.declared.sample.Id.{Id}
use Rattle.ts_index.specs.Index.{Labelled, labels_of, ids_where, has_pair}
use Rattle.ts_index.specs.Numbers.{AreInOrder, AreAscending, has_id, pass, cleared}
use Rattle.ts_index.specs.Postings.{alike, posting_in, ArePosted}
use Rattle.ts_index.specs.Clearing.{Loses, none_left}
use Rattle.ts_index.proofs.NumberLemmas.{has_id-where, AreAscending-where, is_at-number}
use Rattle.ts_index.proofs.MemberLemmas.{same_numbers}
use Rattle.ts_index.proofs.IndexLemmas.{posting_list-where}
use Rattle.ts_index.proofs.ClearLemmas.{ascending-one, fewer-one, others-one, gone-one}

abbrev Lists : Type 0 → Type 0
Lists Z = BTreeMap (List ℕ) (BTreeMap (List ℕ) (Vec Id Z))

module _ {Z : Type 0} (gone : List Id) where
  -- nothing is lost yet
  pub loses-none : (m : Lists Z) → ((l v : List ℕ) → AreAscending (posting_in l v m)) → Loses gone m m
  loses-none m up = record { ascending = up; fewer = λ l v q h. h; others = λ l v q h. refl }

  pub loses-more : (a b c : Lists Z) → Loses gone a b → Loses gone b c → Loses gone a c
  loses-more a b c x y = record {
    ascending = y.ascending;
    fewer = λ l v q h. x.fewer l v q (y.fewer l v q h);
    others = λ l v q h. y.others l v q h ∙ x.others l v q h;
  }

  -- one list loses these ids
  pub loses-one : (i : Id) (a b : Lists Z) (label value : List ℕ) → ((l v : List ℕ) → AreAscending (posting_in l v a))
      → ((l v : List ℕ) → posting_in l v b ≡ (if alike label l && alike value v then cleared i gone (posting_in l v a) else posting_in l v a)) → Loses gone a b
  loses-one i a b label value up is = record {
    ascending = λ l v. ascending-one i gone (posting_in l v a) (alike label l && alike value v) (posting_in l v b) (is l v) (up l v);
    fewer = λ l v q h. fewer-one i gone (posting_in l v a) (alike label l && alike value v) (posting_in l v b) q (is l v) h;
    others = λ l v q h. others-one i gone (posting_in l v a) (alike label l && alike value v) (posting_in l v b) q (is l v) h;
  }

  -- an id that is not listed stays so
  pub still-away : (a b : Lists Z) → Loses gone a b → (l v : List ℕ) (q : ℕ) → has_id q (posting_in l v a) ≡ false → has_id q (posting_in l v b) ≡ false
  still-away a b x l v q h = by (has_id q (posting_in l v b)) refl
    where
      by : (c : Bool) → has_id q (posting_in l v b) ≡ c → c ≡ false
      by true e = absurd (false≢true (sym h ∙ x.fewer l v q e))
      by false e = refl

  -- an id is out of the lists of one more pair
  pub gone-more : (i : Id) (a b : Lists Z) (label value : List ℕ) → has_id i.0 gone ≡ true → Loses gone a b
      → ((l v : List ℕ) → posting_in l v b ≡ (if alike label l && alike value v then cleared i gone (posting_in l v a) else posting_in l v a))
      → (l v : List ℕ) (so_far : Bool) → (so_far ≡ true → has_id i.0 (posting_in l v a) ≡ false) → (so_far || (alike label l && alike value v)) ≡ true → has_id i.0 (posting_in l v b) ≡ false
  gone-more i a b label value among x is l v true before h = still-away a b x l v i.0 (before refl)
  gone-more i a b label value among x is l v false before h = gone-one i gone (posting_in l v a) (alike label l && alike value v) (posting_in l v b) (is l v) among h

  -- an id is out of all lists once it is out of those of its own pairs
  pub out-of-all : (i : Id) (a b : Lists Z) (own : List Label) (o : Option (List Label)) → o ≡ Some own
      → ((l v : List ℕ) → has_id i.0 (posting_in l v a) ≡ true → pass (has_pair l v) o ≡ true) → Loses gone a b
      → ((l v : List ℕ) → has_pair l v own ≡ true → has_id i.0 (posting_in l v b) ≡ false) → (l v : List ℕ) → has_id i.0 (posting_in l v b) ≡ false
  out-of-all i a b own o is listed x out l v = by (has_id i.0 (posting_in l v b)) refl
    where
      by : (c : Bool) → has_id i.0 (posting_in l v b) ≡ c → c ≡ false
      by true e = sym e ∙ out l v (ap (pass (has_pair l v)) (sym is) ∙ listed l v (x.fewer l v i.0 e))
      by false e = refl

  -- an id without labels is in no list
  pub in-none : (i : Id) (a : Lists Z) (o : Option (List Label)) → o ≡ None → ((l v : List ℕ) → has_id i.0 (posting_in l v a) ≡ true → pass (has_pair l v) o ≡ true)
      → (l v : List ℕ) → has_id i.0 (posting_in l v a) ≡ false
  in-none i a o is listed l v = by (has_id i.0 (posting_in l v a)) refl
    where
      by : (c : Bool) → has_id i.0 (posting_in l v a) ≡ c → c ≡ false
      by true e = absurd (false≢true (ap (pass (has_pair l v)) (sym is) ∙ listed l v e))
      by false e = refl

  -- the ids so far are in no list, with one more
  pub gone-next : (i : Id) (rest : List Id) (a b : Lists Z) → Loses gone a b → ((l v : List ℕ) → has_id i.0 (posting_in l v b) ≡ false)
      → ((l v : List ℕ) (q : ℕ) → has_id q gone ≡ true → has_id q (i ∷ rest) ≡ false → has_id q (posting_in l v a) ≡ false)
      → (l v : List ℕ) (q : ℕ) → has_id q gone ≡ true → has_id q rest ≡ false → has_id q (posting_in l v b) ≡ false
  gone-next i rest a b x out before l v q among not_left = by (q == i.0) refl
    where
      by : (s : Bool) → (q == i.0) ≡ s → has_id q (posting_in l v b) ≡ false
      by true e = ap (λ n. has_id n (posting_in l v b)) (eqb-true q i.0 e) ∙ out l v
      by false e = still-away a b x l v q (before l v q among (ap (λ s. s || has_id q rest) e ∙ not_left))

  -- the ids that are listed are those whose labels have the pair
  pub posted-left : (es new : Labelled) (a b : Lists Z) → AreInOrder es → AreInOrder new → ArePosted es a → Loses gone a b
      → ((l v : List ℕ) (q : ℕ) → has_id q gone ≡ true → has_id q (posting_in l v b) ≡ false)
      → ((i : ℕ) → labels_of i new ≡ (if has_id i gone then none_left (labels_of i es) else labels_of i es)) → ArePosted new b
  posted-left es new a b o p posted x out is l v =
      same_numbers (posting_in l v b) (ids_where (has_pair l v) new) (x.ascending l v) (AreAscending-where (has_pair l v) new p)
      (λ q. by q (has_id q gone) refl ∙ sym (ap (pass (has_pair l v)) (is q)) ∙ sym (has_id-where (has_pair l v) new p q))
    where
      none-passes : (m : Option (List Label)) → pass (has_pair l v) (none_left m) ≡ false
      none-passes None = refl
      none-passes (Some ls) = refl

      by : (q : ℕ) (s : Bool) → has_id q gone ≡ s → has_id q (posting_in l v b) ≡ pass (has_pair l v) (if s then none_left (labels_of q es) else labels_of q es)
      by q true e = out l v q e ∙ sym (none-passes (labels_of q es))
      by q false e = x.others l v q e ∙ posting_list-where es a o posted l v q

-- ---- the labels stored for ids

-- one entry is cleared
pub entry-cleared : (id i : ℕ) (es new : Labelled) (labels own : List Label) → labels ≡ [] → labels_of id es ≡ Some own
    → labels_of i new ≡ cond (is_at (nat_cmp id) i) (Some labels) (labels_of i es) → labels_of i new ≡ (if i == id then none_left (labels_of i es) else labels_of i es)
entry-cleared id i es new labels own none there is = is ∙ ap (λ b. cond b (Some labels) (labels_of i es)) (is_at-number id i) ∙ by (i == id) refl (id == i) refl
  where
    by : (s : Bool) → (i == id) ≡ s → (t : Bool) → (id == i) ≡ t → cond t (Some labels) (labels_of i es) ≡ (if s then none_left (labels_of i es) else labels_of i es)
    by true e true f = ap (λ ls. Some ls) none ∙ sym (ap none_left (ap (λ n. labels_of n es) (eqb-true i id e) ∙ there))
    by true e false f = absurd (false≢true (sym f ∙ eq-eqb id i (sym (eqb-true i id e))))
    by false e true f = absurd (false≢true (sym e ∙ eq-eqb i id (sym (eqb-true id i f))))
    by false e false f = refl

-- an id that is not there has no entry to clear
pub entry-missing : (id i : ℕ) (es : Labelled) → labels_of id es ≡ None → labels_of i es ≡ (if i == id then none_left (labels_of i es) else labels_of i es)
entry-missing id i es none = by (i == id) refl
  where
    by : (s : Bool) → (i == id) ≡ s → labels_of i es ≡ (if s then none_left (labels_of i es) else labels_of i es)
    by true e =
        let missing : labels_of i es ≡ None = ap (λ n. labels_of n es) (eqb-true i id e) ∙ none in
        missing ∙ sym (ap none_left missing)
    by false e = refl

-- one more entry is cleared, and the rest comes to the same
pub entries-next : (i : ℕ) (id : Id) (rest : List Id) (old new all : Option (List Label)) → new ≡ (if i == id.0 then none_left old else old)
    → (if has_id i (id ∷ rest) then none_left old else old) ≡ all → (if has_id i rest then none_left new else new) ≡ all
entries-next i id rest old new all is before = ap (λ (o : Option (List Label)). if has_id i rest then none_left o else o) is ∙ by (i == id.0) (has_id i rest) ∙ before
  where
    twice : (o : Option (List Label)) → none_left (none_left o) ≡ none_left o
    twice None = refl
    twice (Some ls) = refl

    by : (s t : Bool) → (if t then none_left (if s then none_left old else old) else (if s then none_left old else old)) ≡ (if s || t then none_left old else old)
    by true true = twice old
    by true false = refl
    by false true = refl
    by false false = refl
