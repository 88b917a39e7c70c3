-- What the tests of a command guarantee: limits hold for new series, destinations and new rules.
use Rattle.std.proofs.Common.{◌≡◌, ℕ, zero, suc, ℤ, ◌≤◌, ◌==◌, Bool, true, false, nat_lt, nat_le, if◌then◌else◌, List, [], ◌∷◌, length, Option, Some, None, is_some, refl, sym, ap, subst, arith, ltb-false, leb-false, le-leb}
use Rattle.std.proofs.lemmas.Bool.{false≢true}
use Rattle.ts_spec.specs.declared.limits.Limits.{Limits}
use Rattle.ts_spec.specs.Sample.{Point, at_times}
use Rattle.ts_spec.specs.Key.{Key, same}
use Rattle.ts_spec.specs.Keyed.{get, count_keys}
use Rattle.ts_spec.specs.State.{empty, Rule, Record, State, link_to, edge, edge_of}
use Rattle.ts_spec.specs.Rules.{shown, settled}
use Rattle.ts_spec.specs.Command.{Spec}
use Rattle.ts_spec.specs.Step.{fresh, first_full, shows_more, has_rules}
use Rattle.ts_spec.specs.Valid.{EachRule, IsOwn, IsSound, IsValid}
use Rattle.ts_spec.proofs.Maps.{maps-same}
use Rattle.ts_spec.proofs.Tidy.{some-same}
use Rattle.ts_spec.proofs.KeysComeAndGo.{IsNew}
use Rattle.ts_spec.proofs.MakingRules.{IsRulable}

-- what is not found is not there
pub missing : {X : Type 0} (o : Option X) → is_some o ≡ false → o ≡ None
missing None e = refl
missing (Some x) e = absurd (false≢true (sym e))

-- a new series whose samples are within the limit
abbrev pub IsNewRecord : Limits → Record → Type 0
IsNewRecord limits c = IsSound c × (c.rules ≡ []) × (at_times (nat_le (edge c)) c.plain ≡ c.plain) × (c.born ≡ 0) × (length c.plain ≤ limits.samples)

-- it may be created within the limits on labels and keys
pub is-new : (limits : Limits) (m : State) (key : Key) (c : Record) → get key m ≡ None → IsNewRecord limits c → nat_lt limits.labels (length c.labels) ≡ false → nat_le limits.keys (count_keys m) ≡ false → IsNew limits m key c
is-new limits m key c missing new few room = record {
  missing = missing;
  sound = new.0;
  no_rules = new.1;
  from_edge = new.2;
  labels = ltb-false limits.labels (length c.labels) few;
  born = subst (λ (n : ℕ). n ≤ limits.born) (sym new.3) (omega arith);
  samples = new.4;
  room = leb-false limits.keys (count_keys m) room;
}

pub empty-new : (limits : Limits) (spec : Spec) → IsNewRecord limits (fresh spec [] None)
empty-new limits spec = (record { ascending = tt; own = λ t p e. absurd (cc e); in_order = tt; rules = tt }, refl, refl, refl, omega arith)

pub one-new : (limits : Limits) (spec : Spec) (t : ℕ) (v : ℤ) → 1 ≤ limits.samples → IsNewRecord limits (fresh spec (record { time = t; value = v; made = 0 } ∷ []) (Some t))
one-new limits spec t v room = (record { ascending = (tt, tt); own = λ u p e. own u p (t == u) e; in_order = tt; rules = tt }, refl, kept, refl, room)
  where
    own : (u : ℕ) (p : Point) (b : Bool) → (if b then Some (record { time = t; value = v; made = 0 }) else None) ≡ Some p → IsOwn (fresh spec (record { time = t; value = v; made = 0 } ∷ []) (Some t)) p
    own u p true e = subst (IsOwn (fresh spec (record { time = t; value = v; made = 0 } ∷ []) (Some t))) (some-same (record { time = t; value = v; made = 0 }) p e) (record { time = omega arith; made = omega arith })
    own u p false e = absurd (cc e)

    low : (n : ℕ) → edge_of n (Some t) ≤ t
    low zero = omega arith
    low (suc n) = omega arith

    kept : at_times (nat_le (edge_of spec.options.retention (Some t))) (record { time = t; value = v; made = 0 } ∷ []) ≡ record { time = t; value = v; made = 0 } ∷ []
    kept = ap (λ (b : Bool). if b then record { time = t; value = v; made = 0 } ∷ [] else []) (le-leb (edge_of spec.options.retention (Some t)) t (low spec.options.retention))

-- if no destination is full, each is within its limit
pub none-full : (limits : Limits) (n : State) (rs : List Rule) → first_full limits.samples n rs ≡ None → EachRule (λ r. length (shown n r.dest) ≤ limits.samples) rs
none-full limits n [] h = tt
none-full limits n (r ∷ rs) h = go (shows_more limits.samples n r.dest) refl h (none-full limits n rs)
  where
    go : (b : Bool) → shows_more limits.samples n r.dest ≡ b → (if b then Some r.dest else first_full limits.samples n rs) ≡ None →
        (first_full limits.samples n rs ≡ None → EachRule (λ q. length (shown n q.dest) ≤ limits.samples) rs) →
        (length (shown n r.dest) ≤ limits.samples) × EachRule (λ q. length (shown n q.dest) ≤ limits.samples) rs
    go true x y ih = absurd (cc y)
    go false x y ih = (ltb-false limits.samples (length (shown n r.dest)) x, ih y)

-- a rule that is not refused may be created
pub rulable : (limits : Limits) (m : State) (source dest : Key) (s d : Record) → get source m ≡ Some s → get dest m ≡ Some d → same source dest ≡ false → is_some (link_to m source) ≡ false →
    has_rules d.rules ≡ false → is_some (link_to m dest) ≡ false → nat_le limits.born s.born ≡ false → nat_le limits.rules (length s.rules) ≡ false → IsRulable limits m source dest s d
rulable limits m source dest s d e f other a b c g h = record {
  other = other;
  source_there = e;
  dest_there = f;
  source_free = missing (link_to m source) a;
  dest_free = missing (link_to m dest) c;
  dest_rules = empty d.rules b;
  born = leb-false limits.born s.born g;
  rules = leb-false limits.rules (length s.rules) h;
}
  where
    empty : (rs : List Rule) → has_rules rs ≡ false → rs ≡ []
    empty [] x = refl
    empty (r ∷ rs) x = absurd (false≢true (sym x))

-- The empty state is valid.
pub empty-valid : (limits : Limits) → IsValid limits empty
empty-valid limits = record {
  sound = λ k d x. absurd (cc x);
  linked = λ k d x. absurd (cc x);
  settled = maps-same (settled empty) empty (λ k. refl);
  keys = omega arith;
  within = λ k d x. absurd (cc x);
}
