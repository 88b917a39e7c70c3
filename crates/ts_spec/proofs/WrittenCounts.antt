-- What a rule counts after a write to its source.
use Rattle.std.proofs.Common.{◌≡◌, ℕ, ℤ, ◌<◌, ◌≤◌, max, Bool, true, false, ◌==◌, if◌then◌else◌, List, [], ◌∷◌, ◌++◌, filter, Option, Some, None, option_map, refl, sym, ap, ◌∙◌, subst, arith, inl, inr, eqb-true, leb-true, eq-eqb, ne_eqb, le-leb}
use Rattle.std.proofs.lemmas.Bool.{cases_order, false≢true}
use Rattle.std.proofs.lemmas.List.Elements.{filter-append}
use Rattle.ts_spec.specs.Sample.{Point, IsAscending, at, put}
use Rattle.ts_spec.specs.Bucket.{Grid, start, members}
use Rattle.ts_spec.specs.State.{Rule, Record}
use Rattle.ts_spec.specs.Rules.{raised, is_append, is_eligible, touched, counted, sample_for}
use Rattle.ts_spec.specs.Valid.{IsUpTo, IsSoundRule, IsSound}
use Rattle.ts_spec.proofs.Buckets.{start-order}
use Rattle.ts_spec.proofs.Samples.{at-time, at-times, at-put, at-filter, passing, ascending-times, ascending-filter, ascending-put, ascending-same}
use Rattle.ts_spec.proofs.Touching.{members-touched}

-- ---- grids and their buckets

-- the later of two times starts the later of their buckets
pub start-max : (g : Grid) (t u : ℕ) → start g (max t u) ≡ max (start g t) (start g u)
start-max g t u = elim (cases_order t u) [
  | inl e ↦ (let same : start g t ≡ start g u = ap (start g) e in let m : max t u ≡ u = omega arith in ap (start g) m ∙ omega arith)
  | inr (inl e) ↦ (let up : start g t ≤ start g u = start-order g t u (omega arith) in let m : max t u ≡ u = omega arith in ap (start g) m ∙ omega arith)
  | inr (inr e) ↦ (let up : start g u ≤ start g t = start-order g u t (omega arith) in let m : max t u ≡ t = omega arith in ap (start g) m ∙ omega arith)
]

pub open-raised : (g : Grid) (t : ℕ) (top : Option ℕ) → option_map (start g) (raised t top) ≡ raised (start g t) (option_map (start g) top)
open-raised g t None = refl
open-raised g t (Some u) = ap (λ (n : ℕ). Some n) (start-max g u t)

-- a bucket without samples of an ascending list
pub members-none : (g : Grid) (b : ℕ) (ps : List Point) → IsAscending ps → ((t : ℕ) (p : Point) → at t ps ≡ Some p → start g t ≡ b → ⊥) → members g b ps ≡ []
members-none g b ps h f =
    ascending-same (members g b ps) [] (ascending-times (λ t. start g t == b) ps h) tt
    (λ t. at-times t (λ u. start g u == b) ps ∙ go t (start g t == b) refl (at t ps) refl)
  where
    go : (t : ℕ) (x : Bool) → (start g t == b) ≡ x → (o : Option Point) → at t ps ≡ o → (if x then o else None) ≡ None
    go t false e o y = refl
    go t true e None y = refl
    go t true e (Some p) y = absurd (f t p y (eqb-true (start g t) b e))

-- ---- what a rule counts after a write

-- the rule after a write of this value to a record
abbrev pub counted_by : (time : ℕ) (value : ℤ) → Record → Rule → Rule
counted_by t v d r = counted (sample_for t v d) d.high (put (sample_for t v d) d.plain) r

-- no time up to the highest one of the rule is in the bucket
abbrev pub IsFresh : Rule → ℕ → Type 0
IsFresh r b = (u : ℕ) → IsUpTo r.top u → start r.grid u ≡ b → ⊥

-- a rule that has no highest time yet
pub fresh-none : (r : Rule) (b : ℕ) → r.top ≡ None → IsFresh r b
fresh-none r b e u x y = subst (λ (o : Option ℕ). IsUpTo o u) e x

-- past the open bucket
pub fresh-past : (r : Rule) (t h : ℕ) → r.top ≡ Some h → start r.grid h < start r.grid t → IsFresh r (start r.grid t)
fresh-past r t h e past u x y =
    let up : u ≤ h = subst (λ (o : Option ℕ). IsUpTo o u) e x in
    let open_at : start r.grid u ≤ start r.grid h = start-order r.grid u h up in
    absurd (omega arith)

module _ (t : ℕ) (v : ℤ) (d : Record) (own : IsSound d) (r : Rule) (s : IsSoundRule d r) where
  -- an append
  pub members-appended : (b : ℕ) → is_append t d.high ≡ true → members r.grid b (counted_by t v d r).seen ≡ members r.grid b r.seen ++ members r.grid b (sample_for t v d ∷ [])
  members-appended b x =
      ap (λ (c : Bool). members r.grid b (if c then r.seen ++ sample_for t v d ∷ [] else touched (λ c. c == start r.grid t) (put (sample_for t v d) d.plain) r)) x
      ∙ filter-append (λ p. start r.grid p.time == b) r.seen (sample_for t v d ∷ [])

  -- a late write
  pub members-late : (b : ℕ) → is_append t d.high ≡ false →
      members r.grid b (counted_by t v d r).seen ≡ (if b == start r.grid t then filter (is_eligible r) (members r.grid b (put (sample_for t v d) d.plain)) else members r.grid b r.seen)
  members-late b x =
      ap (λ (c : Bool). members r.grid b (if c then r.seen ++ sample_for t v d ∷ [] else touched (λ c. c == start r.grid t) (put (sample_for t v d) d.plain) r)) x
      ∙ members-touched (λ c. c == start r.grid t) (put (sample_for t v d) d.plain) r b (ascending-put (sample_for t v d) d.plain own.ascending) s.ascending

  -- other buckets than that of the sample keep their members
  pub members-other : (b : ℕ) → (start r.grid t ≡ b → ⊥) → members r.grid b (counted_by t v d r).seen ≡ members r.grid b r.seen
  members-other b other = go (is_append t d.high) refl
    where
      nil : (ps : List Point) → ps ++ [] ≡ ps
      nil [] = refl
      nil (p ∷ ps) = ap (λ (qs : List Point). p ∷ qs) (nil ps)

      go : (c : Bool) → is_append t d.high ≡ c → members r.grid b (counted_by t v d r).seen ≡ members r.grid b r.seen
      go true x =
          members-appended b x
          ∙ ap (λ (c : Bool). members r.grid b r.seen ++ (if c then sample_for t v d ∷ [] else [])) (ne_eqb (start r.grid t) b other)
          ∙ nil (members r.grid b r.seen)
      go false x =
          members-late b x
          ∙ ap (λ (c : Bool). if c then filter (is_eligible r) (members r.grid b (put (sample_for t v d) d.plain)) else members r.grid b r.seen) (ne_eqb b (start r.grid t) (λ e. other (sym e)))

  -- its own bucket has the sample more, in an append
  pub members-here : is_append t d.high ≡ true → members r.grid (start r.grid t) (counted_by t v d r).seen ≡ members r.grid (start r.grid t) r.seen ++ sample_for t v d ∷ []
  members-here x =
      members-appended (start r.grid t) x
      ∙ ap (λ (c : Bool). members r.grid (start r.grid t) r.seen ++ (if c then sample_for t v d ∷ [] else [])) (eq-eqb (start r.grid t) (start r.grid t) refl)

  -- and the eligible samples that the source then has, in a late write
  pub members-anew : is_append t d.high ≡ false →
      members r.grid (start r.grid t) (counted_by t v d r).seen ≡ filter (is_eligible r) (members r.grid (start r.grid t) (put (sample_for t v d) d.plain))
  members-anew x =
      members-late (start r.grid t) x
      ∙ ap (λ (c : Bool). if c then filter (is_eligible r) (members r.grid (start r.grid t) (put (sample_for t v d) d.plain)) else members r.grid (start r.grid t) r.seen)
      (eq-eqb (start r.grid t) (start r.grid t) refl)

  -- the eligible samples of its own bucket, at a time
  at-anew : (u : ℕ) → at u (filter (is_eligible r) (members r.grid (start r.grid t) (put (sample_for t v d) d.plain))) ≡
      passing (is_eligible r) (if start r.grid u == start r.grid t then (if t == u then Some (sample_for t v d) else at u d.plain) else None)
  at-anew u =
      at-filter u (is_eligible r) (members r.grid (start r.grid t) (put (sample_for t v d) d.plain))
      (ascending-times (λ w. start r.grid w == start r.grid t) (put (sample_for t v d) d.plain) (ascending-put (sample_for t v d) d.plain own.ascending))
      ∙ ap (passing (is_eligible r)) (at-times u (λ w. start r.grid w == start r.grid t) (put (sample_for t v d) d.plain)
      ∙ ap (λ (o : Option Point). if start r.grid u == start r.grid t then o else None) (at-put u (sample_for t v d) d.plain))

  -- the sample is eligible
  eligible : passing (is_eligible r) (Some (sample_for t v d)) ≡ Some (sample_for t v d)
  eligible = ap (λ (b : Bool). if b then Some (sample_for t v d) else None) (le-leb r.made d.born s.made_to)

  -- so the sample is there
  pub at-written : at t (filter (is_eligible r) (members r.grid (start r.grid t) (put (sample_for t v d) d.plain))) ≡ Some (sample_for t v d)
  at-written =
      at-anew t
      ∙ ap (λ (b : Bool). passing (is_eligible r) (if b then (if t == t then Some (sample_for t v d) else at t d.plain) else None)) (eq-eqb (start r.grid t) (start r.grid t) refl)
      ∙ ap (λ (b : Bool). passing (is_eligible r) (if b then Some (sample_for t v d) else at t d.plain)) (eq-eqb t t refl)
      ∙ eligible

  -- a bucket past all that the rule counts has the sample alone
  pub members-fresh : IsFresh r (start r.grid t) → members r.grid (start r.grid t) (counted_by t v d r).seen ≡ sample_for t v d ∷ []
  members-fresh fresh = go (is_append t d.high) refl
    where
      anew : (u : ℕ) (x y : Bool) → (start r.grid u == start r.grid t) ≡ x → (t == u) ≡ y → (o : Option Point) → at u d.plain ≡ o →
          passing (is_eligible r) (if x then (if y then Some (sample_for t v d) else o) else None) ≡ (if y then Some (sample_for t v d) else None)
      anew u true true e z o w = eligible
      anew u true false e z None w = refl
      anew u true false e z (Some p) w = old (is_eligible r p) refl
        where
          old : (b : Bool) → is_eligible r p ≡ b → (if b then Some p else None) ≡ None
          old false q = refl
          old true q =
              absurd (fresh u (subst (IsUpTo r.top) (at-time u d.plain p w) (s.eligible u p w (leb-true r.made p.made q))) (eqb-true (start r.grid u) (start r.grid t) e))
      anew u false true e z o w = absurd (false≢true (sym e ∙ eq-eqb (start r.grid u) (start r.grid t) (ap (start r.grid) (sym (eqb-true t u z)))))
      anew u false false e z o w = refl

      go : (c : Bool) → is_append t d.high ≡ c → members r.grid (start r.grid t) (counted_by t v d r).seen ≡ sample_for t v d ∷ []
      go true x =
          members-here x
          ∙ ap (λ (ps : List Point). ps ++ sample_for t v d ∷ [])
          (members-none r.grid (start r.grid t) r.seen s.ascending (λ u p y e. fresh u (subst (IsUpTo r.top) (at-time u r.seen p y) (s.seen u p y).time) e))
      go false x =
          members-anew x
          ∙ ascending-same (filter (is_eligible r) (members r.grid (start r.grid t) (put (sample_for t v d) d.plain))) (sample_for t v d ∷ [])
          (ascending-filter (is_eligible r) (members r.grid (start r.grid t) (put (sample_for t v d) d.plain))
          (ascending-times (λ w. start r.grid w == start r.grid t) (put (sample_for t v d) d.plain) (ascending-put (sample_for t v d) d.plain own.ascending)))
          (tt, tt)
          (λ u. at-anew u ∙ anew u (start r.grid u == start r.grid t) (t == u) refl refl (at u d.plain) refl)
