-- What a command leaves unchanged.
use Rattle.std.proofs.Common.{◌≡◌, ℕ, Bool, true, false, cond, not, ◌&&◌, List, [], ◌∷◌, map, Option, Some, None, refl, sym, ap, ◌∙◌}
use Rattle.ts_spec.specs.Sample.{Point, at_times}
use Rattle.ts_spec.specs.Bucket.{start}
use Rattle.ts_spec.specs.Key.{Key, same}
use Rattle.ts_spec.specs.Keyed.{Entry, get_in, get}
use Rattle.ts_spec.specs.State.{Rule, Record, State, Link, rule_to, linked_or, link_in, link_to}
use Rattle.ts_spec.specs.Rules.{is_closed, lost_by, lost_from, cleared_to}
use Rattle.ts_spec.specs.Valid.{EachRule}
use Rattle.ts_spec.proofs.Tidy.{some-same}

-- ---- states without rules

-- ---- rules that do not lead to a key

no-rule-in : (k j : Key) (es : List (Entry Record)) (d : Record) → link_in j es ≡ None → get_in k es ≡ Some d → rule_to j d.rules ≡ None
no-rule-in k j [] d h e = absurd (cc e)
no-rule-in k j (x ∷ es) d h e = go (rule_to j x.value.rules) (same x.key k) refl h e (no-rule-in k j es d)
  where
    go : (o : Option Rule) (b : Bool) → rule_to j x.value.rules ≡ o → linked_or x.key o (link_in j es) ≡ None → cond b (Some x.value) (get_in k es) ≡ Some d →
        (link_in j es ≡ None → get_in k es ≡ Some d → rule_to j d.rules ≡ None) → rule_to j d.rules ≡ None
    go (Some r) b y z w ih = absurd (cc z)
    go None true y z w ih = ap (λ (q : Record). rule_to j q.rules) (sym (some-same x.value d w)) ∙ y
    go None false y z w ih = ih z w

-- a key without a link is the destination of no rule
pub no-link-no-rule : (m : State) (k j : Key) (d : Record) → link_to m j ≡ None → get k m ≡ Some d → rule_to j d.rules ≡ None
no-link-no-rule m k j d h e = no-rule-in k j m.entries d h e

pub leads-elsewhere : (j : Key) (rs : List Rule) → rule_to j rs ≡ None → EachRule (λ r. same r.dest j ≡ false) rs
leads-elsewhere j [] h = tt
leads-elsewhere j (r ∷ rs) h = go (same r.dest j) refl h (leads-elsewhere j rs)
  where
    go : (b : Bool) → same r.dest j ≡ b → cond b (Some r) (rule_to j rs) ≡ None → (rule_to j rs ≡ None → EachRule (λ r. same r.dest j ≡ false) rs) →
        (same r.dest j ≡ false) × EachRule (λ r. same r.dest j ≡ false) rs
    go true e x ih = absurd (cc x)
    go false e x ih = (e, ih x)

pub map-same : (g h : Rule → Rule) (P : Rule → Type 0) (rs : List Rule) → ((r : Rule) → P r → g r ≡ h r) → EachRule P rs → map g rs ≡ map h rs
map-same g h P [] f x = refl
map-same g h P (r ∷ rs) f x = let first : g r ≡ h r = f r x.0 in let rest : map g rs ≡ map h rs = map-same g h P rs f x.1 in λ i. first i ∷ rest i

pub map-kept : (g : Rule → Rule) (P : Rule → Type 0) (rs : List Rule) → ((r : Rule) → P r → g r ≡ r) → EachRule P rs → map g rs ≡ rs
map-kept g P [] f x = refl
map-kept g P (r ∷ rs) f x = let first : g r ≡ r = f r x.0 in let rest : map g rs ≡ rs = map-kept g P rs f x.1 in λ i. first i ∷ rest i

-- ---- tests that take nothing away

pub times-same : (a b : ℕ → Bool) (ps : List Point) → ((t : ℕ) → a t ≡ b t) → at_times a ps ≡ at_times b ps
times-same a b ps h = ap (λ (test : ℕ → Bool). at_times test ps) (λ i t. h t i)

pub times-true : (ps : List Point) → at_times (λ t. true) ps ≡ ps
times-true [] = refl
times-true (p ∷ ps) = ap (λ (qs : List Point). p ∷ qs) (times-true ps)

pub times-kept : (a : ℕ → Bool) (ps : List Point) → ((t : ℕ) → a t ≡ true) → at_times a ps ≡ ps
times-kept a ps h = times-same a (λ t. true) ps h ∙ times-true ps

-- a key that is not the source loses nothing
pub lost-elsewhere : (key : Key) (touches : Rule → ℕ → Bool) (l : Link) (d : Record) → same l.source key ≡ false → lost_from key touches (Some l) d ≡ d
lost-elsewhere key touches l d h =
    let plain : at_times (λ t. not (lost_by key touches (Some l) t)) d.plain ≡ d.plain =
    times-kept (λ t. not (lost_by key touches (Some l) t)) d.plain (λ t. ap (λ (b : Bool). not (b && (touches l.rule t && is_closed l.rule t))) h) in
    λ i. record d { plain = plain i }

pub lost-unlinked : (key : Key) (touches : Rule → ℕ → Bool) (d : Record) → lost_from key touches None d ≡ d
lost-unlinked key touches d = λ i. record d { plain = times-true d.plain i }

-- a rule to another key is not cleared
pub cleared-elsewhere : (key : Key) (test : ℕ → Bool) (r : Rule) → same r.dest key ≡ false → cleared_to key test r ≡ r
cleared-elsewhere key test r h =
    let seen : at_times (λ t. not ((same r.dest key && test (start r.grid t)) && is_closed r (start r.grid t))) r.seen ≡ r.seen =
    times-kept (λ t. not ((same r.dest key && test (start r.grid t)) && is_closed r (start r.grid t))) r.seen
    (λ t. ap (λ (b : Bool). not ((b && test (start r.grid t)) && is_closed r (start r.grid t))) h) in
    λ i. record r { seen = seen i }
