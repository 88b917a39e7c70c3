-- A rule that counts all eligible samples of its source still does after a write and after a deletion.
use Rattle.std.proofs.Common.{◌≡◌, ℕ, ℤ, ◌<◌, Bool, true, false, cond, not, ◌||◌, ◌==◌, if◌then◌else◌, List, [], ◌∷◌, ◌++◌, filter, Option, Some, None, refl, sym, ap, ◌∙◌, subst, arith, eqb-true, ltb-true, le-leb, eq-eqb}
use Rattle.std.specs.Option.{option_or}
use Rattle.std.proofs.lemmas.Bool.{false≢true}
use Rattle.ts_spec.specs.Sample.{Point, IsAscending, at, at_times, between, outside, is_within, put}
use Rattle.ts_spec.specs.Bucket.{start}
use Rattle.ts_spec.specs.State.{Rule, Record}
use Rattle.ts_spec.specs.Rules.{is_append, is_eligible, eligible_in, touched, counted_samples, sample_for, meets}
use Rattle.ts_spec.specs.Valid.{IsUpTo, IsSoundRule, IsSound}
use Rattle.ts_spec.specs.CountsAll.{CountsAll}
use Rattle.ts_spec.proofs.Samples.{at-time, at-times, at-append, at-put, at-put_all, at-filter, passing, ascending-times, ascending-put, ascending-filter, ascending-same}
use Rattle.ts_spec.proofs.SoundWrites.{ascending-touched, rule-counted}

or-none : (x : Option Point) → option_or x None ≡ x
or-none None = refl
or-none (Some p) = refl

-- the samples of a touch, at a time
at-touched : (test : ℕ → Bool) (plain old : List Point) (r : Rule) (t : ℕ) → IsAscending plain → IsAscending old → r.seen ≡ filter (is_eligible r) old →
    (test (start r.grid t) ≡ false → at t old ≡ at t plain) → at t (touched test plain r) ≡ passing (is_eligible r) (at t plain)
at-touched test plain old r t h k e same =
    at-put_all t (eligible_in test plain r) (at_times (λ u. not (test (start r.grid u))) r.seen)
    ∙ ap (λ (x : Option Point). option_or x (at t (at_times (λ u. not (test (start r.grid u))) r.seen)))
    (at-filter t (is_eligible r) (at_times (λ u. test (start r.grid u)) plain) (ascending-times (λ u. test (start r.grid u)) plain h) ∙ ap (passing (is_eligible r)) (at-times t (λ u. test (start r.grid u)) plain))
    ∙ ap (option_or (passing (is_eligible r) (if test (start r.grid t) then at t plain else None)))
    (at-times t (λ u. not (test (start r.grid u))) r.seen ∙ ap (λ (x : Option Point). if not (test (start r.grid t)) then x else None) (ap (at t) e ∙ at-filter t (is_eligible r) old k))
    ∙ go (test (start r.grid t)) refl
  where
    go : (b : Bool) → test (start r.grid t) ≡ b → option_or (passing (is_eligible r) (if b then at t plain else None)) (if not b then passing (is_eligible r) (at t old) else None) ≡ passing (is_eligible r) (at t plain)
    go true x = or-none (passing (is_eligible r) (at t plain))
    go false x = ap (passing (is_eligible r)) (same x)

-- A write keeps a rule that counts all eligible samples so.
pub counts-all-written : (t : ℕ) (v : ℤ) (d : Record) (r : Rule) → IsSound d → IsSoundRule d r → CountsAll d.plain r →
    counted_samples (sample_for t v d) d.high (put (sample_for t v d) d.plain) r ≡ filter (is_eligible r) (put (sample_for t v d) d.plain)
counts-all-written t v d r s k e = go (is_append t d.high) refl
  where
    after : IsAscending (put (sample_for t v d) d.plain)
    after = ascending-put (sample_for t v d) d.plain s.ascending

    -- the written sample is eligible
    eligible : passing (is_eligible r) (Some (sample_for t v d)) ≡ Some (sample_for t v d)
    eligible = ap (λ (b : Bool). if b then Some (sample_for t v d) else None) (le-leb r.made d.born k.made_to)

    -- past the highest time nothing is there
    past : is_append t d.high ≡ true → at t d.plain ≡ None
    past x = none (at t d.plain) refl
      where
        beyond : (h : Option ℕ) → is_append t h ≡ true → IsUpTo h t → ⊥
        beyond None y z = z
        beyond (Some u) y z = let l : u < t = ltb-true u t y in absurd (omega arith)

        none : (o : Option Point) → at t d.plain ≡ o → o ≡ None
        none None y = refl
        none (Some p) y = absurd (beyond d.high x (subst (IsUpTo d.high) (at-time t d.plain p y) (s.own t p y).time))

    appended : (u : ℕ) → is_append t d.high ≡ true → at u (r.seen ++ sample_for t v d ∷ []) ≡ at u (filter (is_eligible r) (put (sample_for t v d) d.plain))
    appended u x =
        at-append u r.seen (sample_for t v d ∷ [])
        ∙ ap (λ (o : Option Point). option_or o (if t == u then Some (sample_for t v d) else None)) (ap (at u) e ∙ at-filter u (is_eligible r) d.plain s.ascending)
        ∙ each (t == u) refl
        ∙ ap (passing (is_eligible r)) (sym (at-put u (sample_for t v d) d.plain))
        ∙ sym (at-filter u (is_eligible r) (put (sample_for t v d) d.plain) (ascending-put (sample_for t v d) d.plain s.ascending))
      where
        each : (b : Bool) → (t == u) ≡ b → option_or (passing (is_eligible r) (at u d.plain)) (if b then Some (sample_for t v d) else None) ≡ passing (is_eligible r) (if b then Some (sample_for t v d) else at u d.plain)
        each true y = ap (λ (o : Option Point). option_or (passing (is_eligible r) o) (Some (sample_for t v d))) (ap (λ (w : ℕ). at w d.plain) (sym (eqb-true t u y)) ∙ past x) ∙ sym eligible
        each false y = or-none (passing (is_eligible r) (at u d.plain))

    outside_bucket : (u : ℕ) → (start r.grid u == start r.grid t) ≡ false → at u d.plain ≡ at u (put (sample_for t v d) d.plain)
    outside_bucket u x = sym (at-put u (sample_for t v d) d.plain ∙ ap (λ (b : Bool). if b then Some (sample_for t v d) else at u d.plain) (other (t == u) refl))
      where
        other : (b : Bool) → (t == u) ≡ b → b ≡ false
        other false y = refl
        other true y = sym (eq-eqb (start r.grid u) (start r.grid t) (ap (start r.grid) (sym (eqb-true t u y)))) ∙ x

    go : (b : Bool) → is_append t d.high ≡ b → (if b then r.seen ++ sample_for t v d ∷ [] else touched (λ c. c == start r.grid t) (put (sample_for t v d) d.plain) r) ≡ filter (is_eligible r) (put (sample_for t v d) d.plain)
    go true x = ascending-same (r.seen ++ sample_for t v d ∷ []) (filter (is_eligible r) (put (sample_for t v d) d.plain))
        (subst (λ (b : Bool). IsAscending (if b then r.seen ++ sample_for t v d ∷ [] else touched (λ c. c == start r.grid t) (put (sample_for t v d) d.plain) r)) x (rule-counted t v d s r k).ascending)
        (ascending-filter (is_eligible r) (put (sample_for t v d) d.plain) (ascending-put (sample_for t v d) d.plain s.ascending)) (λ u. appended u x)
    go false x = ascending-same (touched (λ c. c == start r.grid t) (put (sample_for t v d) d.plain) r) (filter (is_eligible r) (put (sample_for t v d) d.plain))
        (ascending-touched (λ c. c == start r.grid t) (put (sample_for t v d) d.plain) r k.ascending)
        (ascending-filter (is_eligible r) (put (sample_for t v d) d.plain) (ascending-put (sample_for t v d) d.plain s.ascending))
        (λ u. at-touched (λ c. c == start r.grid t) (put (sample_for t v d) d.plain) d.plain r u (ascending-put (sample_for t v d) d.plain s.ascending) s.ascending e (outside_bucket u)
        ∙ sym (at-filter u (is_eligible r) (put (sample_for t v d) d.plain) (ascending-put (sample_for t v d) d.plain s.ascending)))

-- a sample of a list is in its own bucket
meets-own : (ps : List Point) (r : Rule) (t : ℕ) (p : Point) → at t ps ≡ Some p → meets ps r (start r.grid t) ≡ true
meets-own [] r t p h = absurd (cc h)
meets-own (q ∷ ps) r t p h = go (q.time == t) refl h (meets-own ps r t p)
  where
    right : (x y : Bool) → y ≡ true → (x || y) ≡ true
    right true y e = refl
    right false y e = e

    go : (b : Bool) → (q.time == t) ≡ b → cond b (Some q) (at t ps) ≡ Some p → (at t ps ≡ Some p → meets ps r (start r.grid t) ≡ true) →
        ((start r.grid q.time == start r.grid t) || meets ps r (start r.grid t)) ≡ true
    go true e x ih = ap (λ (b : Bool). b || meets ps r (start r.grid t)) (eq-eqb (start r.grid q.time) (start r.grid t) (ap (start r.grid) (eqb-true q.time t e)))
    go false e x ih = right (start r.grid q.time == start r.grid t) (meets ps r (start r.grid t)) (ih x)

-- A deletion keeps a rule that counts all eligible samples so.
pub counts-all-deleted : (from to : ℕ) (d : Record) (r : Rule) → IsSound d → IsSoundRule d r → CountsAll d.plain r →
    touched (meets (between from to d.plain) r) (outside from to d.plain) r ≡ filter (is_eligible r) (outside from to d.plain)
counts-all-deleted from to d r s k e =
    ascending-same (touched (meets (between from to d.plain) r) (outside from to d.plain) r) (filter (is_eligible r) (outside from to d.plain))
    (ascending-touched (meets (between from to d.plain) r) (outside from to d.plain) r k.ascending)
    (ascending-filter (is_eligible r) (outside from to d.plain) (ascending-times (λ t. not (is_within from to t)) d.plain s.ascending))
    (λ u. at-touched (meets (between from to d.plain) r) (outside from to d.plain) d.plain r u (ascending-times (λ t. not (is_within from to t)) d.plain s.ascending) s.ascending e (untouched u)
    ∙ sym (at-filter u (is_eligible r) (outside from to d.plain) (ascending-times (λ t. not (is_within from to t)) d.plain s.ascending)))
  where
    untouched : (u : ℕ) → meets (between from to d.plain) r (start r.grid u) ≡ false → at u d.plain ≡ at u (outside from to d.plain)
    untouched u x = go (at u d.plain) refl (is_within from to u) refl
      where
        go : (o : Option Point) → at u d.plain ≡ o → (b : Bool) → is_within from to u ≡ b → at u d.plain ≡ at u (outside from to d.plain)
        go o y false z = sym (at-times u (λ t. not (is_within from to t)) d.plain ∙ ap (λ (c : Bool). if not c then at u d.plain else None) z)
        go None y true z = y ∙ sym (at-times u (λ t. not (is_within from to t)) d.plain ∙ ap (λ (c : Bool). if not c then at u d.plain else None) z)
        go (Some p) y true z =
            let there : at u (between from to d.plain) ≡ Some p = at-times u (is_within from to) d.plain ∙ ap (λ (c : Bool). if c then at u d.plain else None) z ∙ y in
            absurd (false≢true (sym x ∙ meets-own (between from to d.plain) r u p there))
