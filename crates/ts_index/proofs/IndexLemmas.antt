-- Posting lists after an id is added, removed or relabelled.
use Rattle.std.proofs.Common.{◌≡◌, ℕ, ◌==◌, ◌||◌, ◌&&◌, not, Bool, true, false, List, Option, Vec, refl, sym, ◌∙◌, ap, subst, eq-eqb, eqb-true, ne_eqb, take, length}
use Rattle.std.proofs.lemmas.Bool.{false≢true}
use Rattle.std.proofs.Math.Seq.{take-length}
use Rattle.std.specs.Ordering.{nat_cmp}
use Rattle.std.specs.BTreeMap.{BTreeMap, is_at}
use Rattle.ts_spec.specs.State.{Label}
use Rattle.ts_sample.specs.declared.sample.Id.{Id}
use Rattle.ts_index.specs.Index.{Labelled, Relabels, labels_of, ids_where, has_pair}
use Rattle.ts_index.specs.Numbers.{AreInOrder, AreAscending, has_id, pass}
use Rattle.ts_index.specs.Postings.{posting_in, ArePosted}
use Rattle.ts_index.proofs.NumberLemmas.{has_id-where, AreAscending-where, is_at-number}
use Rattle.ts_index.proofs.MemberLemmas.{same_numbers}

-- labels with no pair of another
none_own : (h : Bool) → (h && true) ≡ h
none_own true = refl
none_own false = refl

or-none : (h : Bool) → (h || false) ≡ h
or-none true = refl
or-none false = refl

module _ {Z : Type 0} where
  -- which ids are listed
  pub posting_list-where : (es : Labelled) (lists : BTreeMap (List ℕ) (BTreeMap (List ℕ) (Vec Id Z))) → AreInOrder es → ArePosted es lists
      → (l v : List ℕ) (q : ℕ) → has_id q (posting_in l v lists) ≡ pass (has_pair l v) (labels_of q es)
  posting_list-where es lists o posted l v q = ap (has_id q) (posted l v) ∙ has_id-where (has_pair l v) es o q

  pub ascending-where : (es : Labelled) (lists : BTreeMap (List ℕ) (BTreeMap (List ℕ) (Vec Id Z))) → AreInOrder es → ArePosted es lists
      → (l v : List ℕ) → AreAscending (posting_in l v lists)
  ascending-where es lists o posted l v = subst AreAscending (sym (posted l v)) (AreAscending-where (has_pair l v) es o)

  -- the same ids are listed
  pub posted-same : (es : Labelled) (lists after : BTreeMap (List ℕ) (BTreeMap (List ℕ) (Vec Id Z))) → AreInOrder es → ArePosted es lists
      → ((l v : List ℕ) → AreAscending (posting_in l v after))
      → ((l v : List ℕ) (q : ℕ) → has_id q (posting_in l v after) ≡ has_id q (posting_in l v lists)) → ArePosted es after
  posted-same es lists after o posted up same l v =
      same_numbers (posting_in l v after) (posting_in l v lists) (up l v) (ascending-where es lists o posted l v) (same l v) ∙ posted l v

  -- one id has other labels
  pub posted-after : (es new : Labelled) (after : BTreeMap (List ℕ) (BTreeMap (List ℕ) (Vec Id Z))) (id : Id) (labels : Option (List Label))
      → AreInOrder new → Relabels id labels es new → ((l v : List ℕ) → AreAscending (posting_in l v after))
      → ((l v : List ℕ) → has_id id.0 (posting_in l v after) ≡ pass (has_pair l v) labels)
      → ((l v : List ℕ) (q : ℕ) → (q == id.0) ≡ false → has_id q (posting_in l v after) ≡ pass (has_pair l v) (labels_of q es))
      → ArePosted new after
  posted-after es new after id labels o gives up here others l v =
      same_numbers (posting_in l v after) (ids_where (has_pair l v) new) (up l v) (AreAscending-where (has_pair l v) new o)
      (λ q. by q (q == id.0) refl ∙ sym (has_id-where (has_pair l v) new o q))
    where
      by : (q : ℕ) (b : Bool) → (q == id.0) ≡ b → has_id q (posting_in l v after) ≡ pass (has_pair l v) (labels_of q new)
      by q true p =
          let same : q ≡ id.0 = eqb-true q id.0 p in
          ap (λ n. has_id n (posting_in l v after)) same ∙ here l v ∙ ap (pass (has_pair l v)) (sym (ap (λ n. labels_of n new) same ∙ gives.here))
      by q false p = others l v q p ∙ ap (pass (has_pair l v)) (sym (gives.others q (λ e. absurd (false≢true (sym p ∙ eq-eqb q id.0 e)))))

-- ---- what is listed of an id that came, went, or got other labels

pub came : (n : ℕ) (h before : Bool) → before ≡ false → (((n == n) && (h && true)) || before) ≡ h
came n h before e = rw (eq-eqb n n refl, e) (or-none (h && true) ∙ none_own h)

pub went : (n : ℕ) (h before : Bool) → before ≡ h → (before && not ((n == n) && (h && true))) ≡ false
went n true before e = rw (eq-eqb n n refl, e) refl
went n false before e = rw (eq-eqb n n refl, e) refl

pub replaced : (n : ℕ) (old new before : Bool) → before ≡ old → ((((n == n) && (new && not old)) || before) && not ((n == n) && (old && not new))) ≡ new
replaced n true true before e = rw (eq-eqb n n refl, e) refl
replaced n true false before e = rw (eq-eqb n n refl, e) refl
replaced n false true before e = rw (eq-eqb n n refl) refl
replaced n false false before e = rw (eq-eqb n n refl, e) refl

-- a pair that is its own is none of the others'
pub not_theirs : (own theirs : Bool) → (own && not theirs) ≡ true → theirs ≡ false
not_theirs true false h = refl
not_theirs true true h = absurd (false≢true h)
not_theirs false theirs h = absurd (false≢true h)

pub other-insert_id : (x own before : Bool) → x ≡ false → ((x && own) || before) ≡ before
other-insert_id x own before e = rw e refl

pub other-take : (x own before : Bool) → x ≡ false → (before && not (x && own)) ≡ before
other-take x own before e = rw e (none_own before)

-- what a map has after a change at one id
pub gives-updated : (id : Id) (labels : Option (List Label)) (es new : Labelled)
    → labels_of id.0 new ≡ labels → ((q : ℕ) → is_at (nat_cmp id.0) q ≡ false → labels_of q new ≡ labels_of q es) → Relabels id labels es new
gives-updated id labels es new h g = record {
  here = h;
  others = λ q ne. g q (is_at-number id.0 q ∙ ne_eqb id.0 q (λ e. ne (sym e)));
}

-- the first n labels are all labels
pub whole : (labels : List Label) (n : ℕ) → n ≡ length labels → take n labels ≡ labels
whole labels n e = ap (λ k. take k labels) e ∙ take-length labels
