-- A visitor that holds back a written sample counts it at its time.
use Rattle.std.proofs.Common.{◌≡◌, ℕ, ◌+◌, ◌-◌, ◌^◌, ◌<◌, ◌≤◌, Bool, true, false, ◌&&◌, nat_lt, nat_le, cond, List, [], ◌∷◌, ◌++◌, length, Option, None, Some, inl, inr, refl, sym, ap, ◌∙◌, arith, lt-ltb, le-ltb}
use Rattle.std.specs.Prelude.{filter}
use Rattle.std.proofs.lemmas.Bool.{cases_order}
use Rattle.std.proofs.lemmas.List.Elements.{filter-append}
use Rattle.ts_spec.specs.Sample.{Point, IsAfter, IsAscending, at_times, put}
use Rattle.ts_spec.specs.Aggregate.{nothing, summary}
use Rattle.ts_sample.specs.Visit.{visited}
use Rattle.ts_sample.proofs.Between.{times-alike, times-both}
use Rattle.ts_sample.proofs.Visiting.{room_left}
use Rattle.ts_agg.specs.Counted.{counted_one}
use Rattle.ts_agg.proofs.Counts.{running-visited}
use Rattle.ts_rules.specs.Rules.{one_of}
use Rattle.ts_rules.specs.CountedWith.{CountingWith, earlier, later, with_next, whole, lowered_with}
use Rattle.ts_rules.proofs.Times.{none-past, all-past}

-- samples in the order in which they are counted, with the one that is held among them
abbrev taken : Option Point → List Point → List Point
taken h [] = one_of h
taken h (p ∷ ps) = earlier h p ∷ taken (later h p) ps

-- In this order they are counted, and there is one more of them as long as one is held.
counts-taken : (c : CountingWith) (ps : List Point) → whole (visited with_next c ps) ≡ (visited counted_one c.counting (taken c.held ps)).running
counts-taken c [] = refl
counts-taken c (p ∷ ps) = counts-taken (with_next c p) ps

taken-length : (c : CountingWith) (ps : List Point) → length (taken c.held ps) ≡ length ps + length (one_of (visited with_next c ps).held)
taken-length c [] = omega arith
taken-length c (p ∷ ps) = let rest : length (taken (with_next c p).held ps) ≡ length ps + length (one_of (visited with_next (with_next c p) ps).held) = taken-length (with_next c p) ps in omega (arith, rest)

-- ---- the order is that of the times

taken-none : (ps : List Point) → taken None ps ≡ ps
taken-none [] = refl
taken-none (p ∷ ps) = ap (λ (qs : List Point). p ∷ qs) (taken-none ps)

taken-first : (p : Point) (ps : List Point) → IsAfter p.time ps → IsAscending ps → taken (Some p) ps ≡ p ∷ ps
taken-first p [] after a = refl
taken-first p (q ∷ ps) after a =
    let past : p.time < q.time = after.0 in
    rw (le-ltb q.time p.time (omega (arith, past)), lt-ltb p.time q.time past) (ap (λ (qs : List Point). p ∷ qs) (taken-first q ps a.0 a.1))

taken-put : (p : Point) (ps : List Point) → IsAscending ps → taken (Some p) ps ≡ put p ps
taken-put p [] a = refl
taken-put p (q ∷ ps) a =
    elim (cases_order q.time p.time) [
      | inl e ↦
          rw (le-ltb q.time p.time (omega (arith, e)), le-ltb p.time q.time (omega (arith, e)))
          (rw (none-past (λ t. nat_lt t p.time) q.time ps a.0 (λ t h. le-ltb t p.time (omega (arith, e, h))), all-past (nat_lt p.time) q.time ps a.0 (λ t h. lt-ltb p.time t (omega (arith, e, h))))
          (ap (λ (qs : List Point). p ∷ qs) (taken-none ps)))
      | inr (inl e) ↦ rw (lt-ltb q.time p.time e, le-ltb p.time q.time (omega (arith, e))) (ap (λ (qs : List Point). q ∷ qs) (taken-put p ps a.1))
      | inr (inr e) ↦
          rw (le-ltb q.time p.time (omega (arith, e)), lt-ltb p.time q.time e)
          (rw (none-past (λ t. nat_lt t p.time) q.time ps a.0 (λ t h. le-ltb t p.time (omega (arith, e, h))), all-past (nat_lt p.time) q.time ps a.0 (λ t h. lt-ltb p.time t (omega (arith, e, h))))
          (ap (λ (qs : List Point). p ∷ qs) (taken-first q ps a.0 a.1)))
    ]

-- ---- what is counted, from nothing on

module _ (made : ℕ) (p : Point) (c : CountingWith) (fresh : c ≡ record { counting = record { made = made; running = nothing }; held = Some p; least = p.made }) where
  pub whole-told : (ps : List Point) → IsAscending ps → whole (visited with_next c ps) ≡ summary (filter (λ q. nat_le made q.made) (put p ps))
  whole-told ps a =
      counts-taken c ps
      ∙ ap (λ (x : CountingWith). (visited counted_one x.counting (taken x.held ps)).running) fresh
      ∙ running-visited (record { made = made; running = nothing }) (taken (Some p) ps)
      ∙ ap (λ (qs : List Point). summary (filter (λ q. nat_le made q.made) qs)) (taken-put p ps a)

  -- There is room for the one that waits, where the list with the written one is not too long.
  pub room-last : (v : CountingWith) (ps : List Point) → IsAscending ps → v ≡ visited with_next c ps → length (put p ps) ≤ 10 ^ 14 → length (one_of v.held) ≤ 10 ^ 14 - v.counting.running.count
  room-last v ps a e few =
      let none : c.counting.running.count ≡ 0 = ap (λ (x : CountingWith). x.counting.running.count) fresh in
      let left : 10 ^ 14 - c.counting.running.count ≤ 10 ^ 14 - (visited with_next c ps).counting.running.count + length ps = room_left with_next (λ x. 10 ^ 14 - x.counting.running.count) lowered_with c ps in
      let all : length (put p ps) ≡ length ps + length (one_of (visited with_next c ps).held) =
      ap length (sym (taken-put p ps a)) ∙ ap (λ (x : CountingWith). length (taken x.held ps)) (sym fresh) ∙ taken-length c ps in
      let held : length (one_of v.held) ≡ length (one_of (visited with_next c ps).held) = ap (λ (x : CountingWith). length (one_of x.held)) e in
      let count : v.counting.running.count ≡ (visited with_next c ps).counting.running.count = ap (λ (x : CountingWith). x.counting.running.count) e in
      omega (arith, none, left, all, held, count, few)

-- ---- parts of a list

and-comm : (x y : Bool) → (x && y) ≡ (y && x)
and-comm true true = refl
and-comm true false = refl
and-comm false true = refl
and-comm false false = refl

pub times-swap : (a b : ℕ → Bool) (ps : List Point) → at_times a (at_times b ps) ≡ at_times b (at_times a ps)
times-swap a b ps = times-both a b ps ∙ times-alike (λ t. b t && a t) (λ t. a t && b t) ps (λ t. and-comm (b t) (a t)) ∙ sym (times-both b a ps)

-- a sample whose time passes the test is put at its time among those that pass
pub times-put : (test : ℕ → Bool) (p : Point) (ps : List Point) → test p.time ≡ true → at_times test (put p ps) ≡ put p (at_times test ps)
times-put test p ps e =
    filter-append (λ q. test q.time) (at_times (λ t. nat_lt t p.time) ps) (p ∷ at_times (nat_lt p.time) ps)
    ∙ ap (λ (x : Bool). at_times test (at_times (λ t. nat_lt t p.time) ps) ++ cond x (p ∷ at_times test (at_times (nat_lt p.time) ps)) (at_times test (at_times (nat_lt p.time) ps))) e
    ∙ ap (λ (qs : List Point). qs ++ p ∷ at_times test (at_times (nat_lt p.time) ps)) (times-swap test (λ t. nat_lt t p.time) ps)
    ∙ ap (λ (qs : List Point). at_times (λ t. nat_lt t p.time) (at_times test ps) ++ p ∷ qs) (times-swap test (nat_lt p.time) ps)
