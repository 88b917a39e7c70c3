-- A write and a deletion keep a record sound.
use Rattle.std.proofs.Common.{◌≡◌, ℕ, ℤ, ◌<◌, ◌≤◌, max, Bool, true, false, cond, not, ◌==◌, if◌then◌else◌, List, [], ◌∷◌, ◌++◌, map, Option, Some, None, refl, sym, ap, ◌∙◌, subst, arith, ◌⊎◌, inl, inr, ltb-true, leb-true}
use Rattle.std.specs.Option.{option_or}
use Rattle.ts_spec.specs.Sample.{Point, IsAscending, at, at_times, between, outside, is_within, put}
use Rattle.ts_spec.specs.Bucket.{start}
use Rattle.ts_spec.specs.State.{Rule, Record}
use Rattle.ts_spec.specs.Rules.{raised, is_append, is_eligible, eligible_in, touched, counted_samples, counted, sample_for, with_sample, meets, recounted, without}
use Rattle.ts_spec.specs.Valid.{IsUpTo, IsCountable, IsSoundRule, IsOwn, IsSound}
use Rattle.ts_spec.proofs.Samples.{at-times, at-append, at-put, at-put_all, ascending-times, ascending-put, ascending-put_all, ascending-join, at-filter, passing, each_before}
use Rattle.ts_spec.proofs.Linked.{each-rule-map}
use Rattle.ts_spec.proofs.Settles.{upto-raised, upto-here}
use Rattle.ts_spec.proofs.Tidy.{some-same}
use Rattle.ts_spec.proofs.Sound.{IsPart, in_order-map, part-times}

-- ---- a touch

-- a sample counted after a touch was counted before, or is an eligible one of the source
pub touched-from : (test : ℕ → Bool) (plain : List Point) (r : Rule) (t : ℕ) (p : Point) → IsAscending plain → at t (touched test plain r) ≡ Some p →
    ((at t plain ≡ Some p) × (r.made ≤ p.made)) ⊎ (at t r.seen ≡ Some p)
touched-from test plain r t p h e =
    let all : at t (touched test plain r) ≡ option_or (at t (eligible_in test plain r)) (at t (at_times (λ u. not (test (start r.grid u))) r.seen)) =
    at-put_all t (eligible_in test plain r) (at_times (λ u. not (test (start r.grid u))) r.seen) in
    go (at t (eligible_in test plain r)) refl (sym all ∙ e)
  where
    kept : (t : ℕ) (b : Bool) → (if b then at t r.seen else None) ≡ Some p → at t r.seen ≡ Some p
    kept t true x = x
    kept t false x = absurd (cc x)

    inner : (b : Bool) (o : Option Point) (q : Point) → at t plain ≡ o → passing (is_eligible r) (if b then o else None) ≡ Some q → (at t plain ≡ Some q) × (r.made ≤ q.made)
    inner true None q x y = absurd (cc y)
    inner true (Some u) q x y = passed (is_eligible r u) refl y
      where
        passed : (c : Bool) → is_eligible r u ≡ c → (if c then Some u else None) ≡ Some q → (at t plain ≡ Some q) × (r.made ≤ q.made)
        passed true z w =
            let eq : u ≡ q = some-same u q w in
            subst (λ (v : Point). (at t plain ≡ Some v) × (r.made ≤ v.made)) eq (x, leb-true r.made u.made z)
        passed false z w = absurd (cc w)
    inner false o q x y = absurd (cc y)

    go : (o : Option Point) → at t (eligible_in test plain r) ≡ o → option_or o (at t (at_times (λ u. not (test (start r.grid u))) r.seen)) ≡ Some p →
        ((at t plain ≡ Some p) × (r.made ≤ p.made)) ⊎ (at t r.seen ≡ Some p)
    go None x y = inr (kept t (not (test (start r.grid t))) (sym (at-times t (λ u. not (test (start r.grid u))) r.seen) ∙ y))
    go (Some q) x y =
        let eq : q ≡ p = some-same q p y in
        let taken : at t (eligible_in test plain r) ≡ passing (is_eligible r) (if test (start r.grid t) then at t plain else None) =
        at-filter t (is_eligible r) (at_times (λ u. test (start r.grid u)) plain) (ascending-times (λ u. test (start r.grid u)) plain h)
        ∙ ap (passing (is_eligible r)) (at-times t (λ u. test (start r.grid u)) plain) in
        let from : (at t plain ≡ Some q) × (r.made ≤ q.made) = inner (test (start r.grid t)) (at t plain) q refl (sym taken ∙ x) in
        inl (subst (λ (v : Point). (at t plain ≡ Some v) × (r.made ≤ v.made)) eq from)

pub ascending-touched : (test : ℕ → Bool) (plain : List Point) (r : Rule) → IsAscending r.seen → IsAscending (touched test plain r)
ascending-touched test plain r h =
    ascending-put_all (eligible_in test plain r) (at_times (λ u. not (test (start r.grid u))) r.seen) (ascending-times (λ u. not (test (start r.grid u))) r.seen h)

-- ---- a deletion

rule-recounted : (d : Record) (left gone : List Point) (rules : List Rule) → IsPart left d.plain → IsSound d → (r : Rule) → IsSoundRule d r →
    IsSoundRule (record d { plain = left; rules = rules }) (recounted gone left r)
rule-recounted d left gone rules part own r s = record {
  made_from = s.made_from;
  made_to = s.made_to;
  ascending = ascending-touched (meets gone r) left r s.ascending;
  seen = λ t p e. go t p (touched-from (meets gone r) left r t p part.ascending e);
  eligible = λ t p e. s.eligible t p (part.of t p e);
  top = s.top;
}
  where
    go : (t : ℕ) (p : Point) → ((at t left ≡ Some p) × (r.made ≤ p.made)) ⊎ (at t r.seen ≡ Some p) → IsCountable (record d { plain = left; rules = rules }) (recounted gone left r) p
    go t p (inl x) = record { since = x.1; made = (own.own t p (part.of t p x.0)).made; time = s.eligible t p (part.of t p x.0) x.1 }
    go t p (inr x) = let c : IsCountable d r p = s.seen t p x in record { since = c.since; made = c.made; time = c.time }

pub sound-without : (from to : ℕ) (d : Record) → IsSound d → IsSound (without from to d)
sound-without from to d s =
    let part : IsPart (outside from to d.plain) d.plain = part-times (λ t. not (is_within from to t)) d.plain s.ascending in
    record {
      ascending = part.ascending;
      own = λ t p e. (let o : IsOwn d p = s.own t p (part.of t p e) in record { time = o.time; made = o.made });
      in_order = in_order-map (recounted (between from to d.plain) (outside from to d.plain)) (λ r. refl) d.rules s.in_order;
      rules = each-rule-map (IsSoundRule d) (IsSoundRule (without from to d)) (recounted (between from to d.plain) (outside from to d.plain)) d.rules
          (λ r x. rule-recounted d (outside from to d.plain) (between from to d.plain) (map (recounted (between from to d.plain) (outside from to d.plain)) d.rules) part s r x) s.rules;
    }

-- ---- a write

-- an own sample after a write is the written one or an earlier one
pub put-from : (q : Point) (ps : List Point) (t : ℕ) (p : Point) → at t (put q ps) ≡ Some p → (q ≡ p) ⊎ (at t ps ≡ Some p)
put-from q ps t p e = go (q.time == t) (sym (at-put t q ps) ∙ e)
  where
    go : (b : Bool) → (if b then Some q else at t ps) ≡ Some p → (q ≡ p) ⊎ (at t ps ≡ Some p)
    go true x = inl (some-same q p x)
    go false x = inr x

-- what a rule counts is before a time that is past the highest so far
seen-before : (d : Record) (r : Rule) (t : ℕ) → IsSoundRule d r → is_append t d.high ≡ true → (u : ℕ) → IsUpTo r.top u → u < t
seen-before d r t s a u h = go r.top d.high refl refl
  where
    go : (x y : Option ℕ) → r.top ≡ x → d.high ≡ y → u < t
    go None y e f = absurd (subst (λ (z : Option ℕ). IsUpTo z u) e h)
    go (Some x) None e f = absurd (subst (λ (z : Option ℕ). IsUpTo z x) f (s.top x e))
    go (Some x) (Some y) e f =
        let one : u ≤ x = subst (λ (z : Option ℕ). IsUpTo z u) e h in
        let two : x ≤ y = subst (λ (z : Option ℕ). IsUpTo z x) f (s.top x e) in
        let three : y < t = ltb-true y t (ap (is_append t) (sym f) ∙ a) in
        omega arith

top-raised : (d : Record) (r : Rule) (t : ℕ) → IsSoundRule d r → (u : ℕ) → raised t r.top ≡ Some u → IsUpTo (raised t d.high) u
top-raised d r t s u e = go r.top refl (ap (raised t) refl ∙ e)
  where
    here : (x : ℕ) → t ≡ x → IsUpTo (raised t d.high) x
    here x h = subst (IsUpTo (raised t d.high)) h (upto-here t d.high)

    both : (x : ℕ) (y : Option ℕ) → IsUpTo y x → IsUpTo (raised t y) (max x t)
    both x None h = absurd h
    both x (Some y) h = omega arith

    go : (o : Option ℕ) → r.top ≡ o → raised t r.top ≡ Some u → IsUpTo (raised t d.high) u
    go None x y = let z : Some t ≡ Some u = ap (raised t) (sym x) ∙ y in here u (cc z)
    go (Some w) x y =
        let z : Some (max w t) ≡ Some u = ap (raised t) (sym x) ∙ y in
        let eq : max w t ≡ u = cc z in
        subst (IsUpTo (raised t d.high)) eq (both w d.high (s.top w x))

pub rule-counted : (t : ℕ) (v : ℤ) (d : Record) → IsSound d → (r : Rule) → IsSoundRule d r →
    IsSoundRule (with_sample t v d) (counted (sample_for t v d) d.high (put (sample_for t v d) d.plain) r)
rule-counted t v d own r s = record {
  made_from = s.made_from;
  made_to = s.made_to;
  ascending = ascending (is_append t d.high) refl;
  seen = λ u p e. seen u p (is_append t d.high) refl e;
  eligible = λ u p e k. eligible u p k (put-from (sample_for t v d) d.plain u p e);
  top = top-raised d r t s;
}
  where
    eligible : (u : ℕ) (p : Point) → r.made ≤ p.made → (sample_for t v d ≡ p) ⊎ (at u d.plain ≡ Some p) → IsUpTo (raised t r.top) p.time
    eligible u p k (inl x) = subst (λ (q : Point). IsUpTo (raised t r.top) q.time) x (upto-here t r.top)
    eligible u p k (inr x) = upto-raised t p.time r.top (s.eligible u p x k)

    made_up : (u : ℕ) (p : Point) → (sample_for t v d ≡ p) ⊎ (at u d.plain ≡ Some p) → p.made ≤ d.born
    made_up u p (inl x) = subst (λ (q : Point). q.made ≤ d.born) x (omega arith)
    made_up u p (inr x) = (own.own u p x).made

    ascending : (b : Bool) → is_append t d.high ≡ b → IsAscending (if b then r.seen ++ sample_for t v d ∷ [] else touched (λ c. c == start r.grid t) (put (sample_for t v d) d.plain) r)
    ascending true x =
        ascending-join r.seen (sample_for t v d) [] s.ascending
        (each_before t r.seen s.ascending (λ u p e. seen-before d r t s x p.time (s.seen u p e).time)) (tt, tt)
    ascending false x = ascending-touched (λ c. c == start r.grid t) (put (sample_for t v d) d.plain) r s.ascending

    old : (p : Point) → IsCountable d r p → IsCountable (with_sample t v d) (counted (sample_for t v d) d.high (put (sample_for t v d) d.plain) r) p
    old p c = record { since = c.since; made = c.made; time = upto-raised t p.time r.top c.time }

    new : (p : Point) → sample_for t v d ≡ p → IsCountable (with_sample t v d) (counted (sample_for t v d) d.high (put (sample_for t v d) d.plain) r) p
    new p x = subst (λ (q : Point). IsCountable (with_sample t v d) (counted (sample_for t v d) d.high (put (sample_for t v d) d.plain) r) q) x
        (record { since = s.made_to; made = omega arith; time = upto-here t r.top })

    appended : (u : ℕ) (p : Point) (o : Option Point) → at u r.seen ≡ o → option_or o (at u (sample_for t v d ∷ [])) ≡ Some p →
        IsCountable (with_sample t v d) (counted (sample_for t v d) d.high (put (sample_for t v d) d.plain) r) p
    appended u p (Some q) x y = old p (s.seen u p (x ∙ y))
    appended u p None x y = alone (t == u) y
      where
        alone : (b : Bool) → cond b (Some (sample_for t v d)) None ≡ Some p → IsCountable (with_sample t v d) (counted (sample_for t v d) d.high (put (sample_for t v d) d.plain) r) p
        alone true z = new p (some-same (sample_for t v d) p z)
        alone false z = absurd (cc z)

    touch : (u : ℕ) (p : Point) → ((at u (put (sample_for t v d) d.plain) ≡ Some p) × (r.made ≤ p.made)) ⊎ (at u r.seen ≡ Some p) →
        IsCountable (with_sample t v d) (counted (sample_for t v d) d.high (put (sample_for t v d) d.plain) r) p
    touch u p (inl x) =
        let from : (sample_for t v d ≡ p) ⊎ (at u d.plain ≡ Some p) = put-from (sample_for t v d) d.plain u p x.0 in
        record { since = x.1; made = made_up u p from; time = eligible u p x.1 from }
    touch u p (inr x) = old p (s.seen u p x)

    seen : (u : ℕ) (p : Point) (b : Bool) → is_append t d.high ≡ b → at u (counted_samples (sample_for t v d) d.high (put (sample_for t v d) d.plain) r) ≡ Some p →
        IsCountable (with_sample t v d) (counted (sample_for t v d) d.high (put (sample_for t v d) d.plain) r) p
    seen u p true x e =
        appended u p (at u r.seen) refl
        (sym (at-append u r.seen (sample_for t v d ∷ [])) ∙ ap (λ (b : Bool). at u (if b then r.seen ++ sample_for t v d ∷ [] else touched (λ c. c == start r.grid t) (put (sample_for t v d) d.plain) r)) (sym x) ∙ e)
    seen u p false x e =
        touch u p (touched-from (λ c. c == start r.grid t) (put (sample_for t v d) d.plain) r u p (ascending-put (sample_for t v d) d.plain own.ascending)
        (ap (λ (b : Bool). at u (if b then r.seen ++ sample_for t v d ∷ [] else touched (λ c. c == start r.grid t) (put (sample_for t v d) d.plain) r)) (sym x) ∙ e))

-- A write keeps a record sound.
pub sound-written : (t : ℕ) (v : ℤ) (d : Record) → IsSound d → IsSound (with_sample t v d)
sound-written t v d s = record {
  ascending = ascending-put (sample_for t v d) d.plain s.ascending;
  own = λ u p e. own u p (put-from (sample_for t v d) d.plain u p e);
  in_order = in_order-map (counted (sample_for t v d) d.high (put (sample_for t v d) d.plain)) (λ r. refl) d.rules s.in_order;
  rules = each-rule-map (IsSoundRule d) (IsSoundRule (with_sample t v d)) (counted (sample_for t v d) d.high (put (sample_for t v d) d.plain)) d.rules (rule-counted t v d s) s.rules;
}
  where
    own : (u : ℕ) (p : Point) → (sample_for t v d ≡ p) ⊎ (at u d.plain ≡ Some p) → IsOwn (with_sample t v d) p
    own u p (inl x) = subst (IsOwn (with_sample t v d)) x (record { time = upto-here t d.high; made = omega arith })
    own u p (inr x) = let o : IsOwn d p = s.own u p x in record { time = upto-raised t p.time d.high o.time; made = o.made }
