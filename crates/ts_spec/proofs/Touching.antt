-- What a rule counts after a recount: the eligible samples of its source in the recounted buckets, and what it
-- counted in the others.
use Rattle.std.proofs.Common.{◌≡◌, ℕ, Bool, true, false, not, ◌==◌, if◌then◌else◌, List, filter, Option, Some, None, refl, sym, ap, ◌∙◌, eqb-true}
use Rattle.std.specs.Option.{option_or}
use Rattle.ts_spec.specs.Sample.{Point, IsAscending, at, at_times}
use Rattle.ts_spec.specs.Bucket.{start, members}
use Rattle.ts_spec.specs.State.{Rule}
use Rattle.ts_spec.specs.Rules.{is_eligible, eligible_in, touched}
use Rattle.ts_spec.proofs.Samples.{at-times, at-put_all, at-filter, passing, ascending-times, ascending-filter, ascending-same}
use Rattle.ts_spec.proofs.SoundWrites.{ascending-touched}

-- the counted samples of a recounted rule, at a time
pub at-touch : (test : ℕ → Bool) (plain : List Point) (r : Rule) (t : ℕ) → IsAscending plain →
    at t (touched test plain r) ≡
    option_or (if test (start r.grid t) then passing (is_eligible r) (at t plain) else None) (if not (test (start r.grid t)) then at t r.seen else None)
at-touch test plain r t h =
    at-put_all t (eligible_in test plain r) (at_times (λ u. not (test (start r.grid u))) r.seen)
    ∙ ap (λ (x : Option Point). option_or x (at t (at_times (λ u. not (test (start r.grid u))) r.seen)))
    (at-filter t (is_eligible r) (at_times (λ u. test (start r.grid u)) plain) (ascending-times (λ u. test (start r.grid u)) plain h)
    ∙ ap (passing (is_eligible r)) (at-times t (λ u. test (start r.grid u)) plain) ∙ inside (test (start r.grid t)))
    ∙ ap (option_or (if test (start r.grid t) then passing (is_eligible r) (at t plain) else None)) (at-times t (λ u. not (test (start r.grid u))) r.seen)
  where
    inside : (b : Bool) → passing (is_eligible r) (if b then at t plain else None) ≡ (if b then passing (is_eligible r) (at t plain) else None)
    inside true = refl
    inside false = refl

-- The members of a recounted bucket are the eligible samples of the source. Those of other buckets stay.
pub members-touched : (test : ℕ → Bool) (plain : List Point) (r : Rule) (b : ℕ) → IsAscending plain → IsAscending r.seen →
    members r.grid b (touched test plain r) ≡ (if test b then filter (is_eligible r) (members r.grid b plain) else members r.grid b r.seen)
members-touched test plain r b h k = go (test b) refl
  where
    ascending : IsAscending (members r.grid b (touched test plain r))
    ascending = ascending-times (λ t. start r.grid t == b) (touched test plain r) (ascending-touched test plain r k)

    member : (t : ℕ) → at t (members r.grid b (touched test plain r)) ≡
        (if start r.grid t == b then option_or (if test (start r.grid t) then passing (is_eligible r) (at t plain) else None) (if not (test (start r.grid t)) then at t r.seen else None) else None)
    member t = at-times t (λ u. start r.grid u == b) (touched test plain r) ∙ ap (λ (x : Option Point). if start r.grid t == b then x else None) (at-touch test plain r t h)

    or_none : (x : Option Point) → option_or x None ≡ x
    or_none None = refl
    or_none (Some p) = refl

    anew : (t : ℕ) (c : Bool) → (start r.grid t == b) ≡ c → test b ≡ true →
        (if c then option_or (if test (start r.grid t) then passing (is_eligible r) (at t plain) else None) (if not (test (start r.grid t)) then at t r.seen else None) else None) ≡
        passing (is_eligible r) (if c then at t plain else None)
    anew t false e x = refl
    anew t true e x =
        ap (λ (y : Bool). option_or (if y then passing (is_eligible r) (at t plain) else None) (if not y then at t r.seen else None)) (ap test (eqb-true (start r.grid t) b e) ∙ x)
        ∙ or_none (passing (is_eligible r) (at t plain))

    before : (t : ℕ) (c : Bool) → (start r.grid t == b) ≡ c → test b ≡ false →
        (if c then option_or (if test (start r.grid t) then passing (is_eligible r) (at t plain) else None) (if not (test (start r.grid t)) then at t r.seen else None) else None) ≡
        (if c then at t r.seen else None)
    before t false e x = refl
    before t true e x =
        ap (λ (y : Bool). option_or (if y then passing (is_eligible r) (at t plain) else None) (if not y then at t r.seen else None)) (ap test (eqb-true (start r.grid t) b e) ∙ x)

    go : (x : Bool) → test b ≡ x → members r.grid b (touched test plain r) ≡ (if x then filter (is_eligible r) (members r.grid b plain) else members r.grid b r.seen)
    go true e =
        ascending-same (members r.grid b (touched test plain r)) (filter (is_eligible r) (members r.grid b plain)) ascending
        (ascending-filter (is_eligible r) (members r.grid b plain) (ascending-times (λ t. start r.grid t == b) plain h))
        (λ t. member t ∙ anew t (start r.grid t == b) refl e ∙ ap (passing (is_eligible r)) (sym (at-times t (λ u. start r.grid u == b) plain))
        ∙ sym (at-filter t (is_eligible r) (members r.grid b plain) (ascending-times (λ u. start r.grid u == b) plain h)))
    go false e =
        ascending-same (members r.grid b (touched test plain r)) (members r.grid b r.seen) ascending (ascending-times (λ t. start r.grid t == b) r.seen k)
        (λ t. member t ∙ before t (start r.grid t == b) refl e ∙ sym (at-times t (λ u. start r.grid u == b) r.seen))
