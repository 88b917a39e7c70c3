-- Records stay sound when they lose samples and when they are settled.
use Rattle.std.proofs.Common.{◌≡◌, ℕ, ◌<◌, Bool, true, false, not, ◌&&◌, nat_lt, if◌then◌else◌, List, [], ◌∷◌, map, Option, Some, None, refl, sym, ◌∙◌, subst}
use Rattle.ts_spec.specs.Sample.{Point, IsAscending, at, at_times}
use Rattle.ts_spec.specs.Bucket.{start}
use Rattle.ts_spec.specs.Key.{Key, same}
use Rattle.ts_spec.specs.Keyed.{get, each}
use Rattle.ts_spec.specs.State.{Rule, Record, State, Link, rule_into, edge}
use Rattle.ts_spec.specs.Rules.{is_closed, lost_by, lost_from, cleared, clear_record, high_by, risen_by, tidied_by, edge_at, expire_record, tidied, settled}
use Rattle.ts_spec.specs.Valid.{EachRule, IsUpTo, IsCountable, IsSoundRule, IsMadeAfter, IsInOrder, IsOwn, IsSound, EachRecord}
use Rattle.ts_spec.proofs.Samples.{at-times, ascending-times}
use Rattle.ts_spec.proofs.Linked.{each-rule-map, get-from, From}
use Rattle.ts_spec.proofs.Settles.{stays, upto-high}

-- ---- parts of lists

-- an ascending list whose samples are all in the other
pub record IsPart (qs ps : List Point) : Type 0 where
  pub ascending : IsAscending qs
  pub of : (t : ℕ) (p : Point) → at t qs ≡ Some p → at t ps ≡ Some p

pub part-times : (test : ℕ → Bool) (ps : List Point) → IsAscending ps → IsPart (at_times test ps) ps
part-times test ps h = record { ascending = ascending-times test ps h; of = λ t p e. go t p (test t) (sym (at-times t test ps) ∙ e) }
  where
    go : (t : ℕ) (p : Point) (b : Bool) → (if b then at t ps else None) ≡ Some p → at t ps ≡ Some p
    go t p true e = e
    go t p false e = absurd (cc e)

-- ---- own samples are removed and the highest time rises

rule-smaller : (d : Record) (plain : List Point) (high : Option ℕ) → IsPart plain d.plain → ((t : ℕ) → IsUpTo d.high t → IsUpTo high t) →
    (r : Rule) → IsSoundRule d r → IsSoundRule (record d { plain = plain; high = high }) r
rule-smaller d plain high part up r s = record {
  made_from = s.made_from;
  made_to = s.made_to;
  ascending = s.ascending;
  seen = λ t p e. (let c : IsCountable d r p = s.seen t p e in record { since = c.since; made = c.made; time = c.time });
  eligible = λ t p e. s.eligible t p (part.of t p e);
  top = λ t e. up t (s.top t e);
}

pub each-rule-to : (P Q : Rule → Type 0) (rs : List Rule) → ((r : Rule) → P r → Q r) → EachRule P rs → EachRule Q rs
each-rule-to P Q [] h x = tt
each-rule-to P Q (r ∷ rs) h x = (h r x.0, each-rule-to P Q rs h x.1)

pub sound-smaller : (d : Record) (plain : List Point) (high : Option ℕ) → IsPart plain d.plain → ((t : ℕ) → IsUpTo d.high t → IsUpTo high t) →
    IsSound d → IsSound (record d { plain = plain; high = high })
sound-smaller d plain high part up s = record {
  ascending = part.ascending;
  own = λ t p e. (let o : IsOwn d p = s.own t p (part.of t p e) in record { time = up p.time o.time; made = o.made });
  in_order = s.in_order;
  rules = each-rule-to (IsSoundRule d) (IsSoundRule (record d { plain = plain; high = high })) d.rules (rule-smaller d plain high part up) s.rules;
}

-- ---- counted samples are dropped

made_after-map : (g : Rule → Rule) → ((r : Rule) → (g r).made ≡ r.made) → (n : ℕ) (rs : List Rule) → IsMadeAfter n rs → IsMadeAfter n (map g rs)
made_after-map g h n [] x = tt
made_after-map g h n (r ∷ rs) x = (subst (λ (y : ℕ). n < y) (sym (h r)) x.0, made_after-map g h n rs x.1)

pub in_order-map : (g : Rule → Rule) → ((r : Rule) → (g r).made ≡ r.made) → (rs : List Rule) → IsInOrder rs → IsInOrder (map g rs)
in_order-map g h [] x = tt
in_order-map g h (r ∷ rs) x = (subst (λ (y : ℕ). IsMadeAfter y (map g rs)) (sym (h r)) (made_after-map g h r.made rs x.0), in_order-map g h rs x.1)

rule-cleared : (d : Record) (rules : List Rule) (test : ℕ → Bool) (r : Rule) → IsSoundRule d r → IsSoundRule (record d { rules = rules }) (cleared test r)
rule-cleared d rules test r s =
    let part : IsPart (cleared test r).seen r.seen = part-times (λ t. not (test (start r.grid t) && is_closed r (start r.grid t))) r.seen s.ascending in
    record {
      made_from = s.made_from;
      made_to = s.made_to;
      ascending = part.ascending;
      seen = λ t p e. (let c : IsCountable d r p = s.seen t p (part.of t p e) in record { since = c.since; made = c.made; time = c.time });
      eligible = s.eligible;
      top = s.top;
    }

-- a record whose rules count less
pub sound-cleared : (d : Record) (test : Rule → ℕ → Bool) → IsSound d → IsSound (record d { rules = map (λ r. cleared (test r) r) d.rules })
sound-cleared d test s = record {
  ascending = s.ascending;
  own = λ t p e. (let o : IsOwn d p = s.own t p e in record { time = o.time; made = o.made });
  in_order = in_order-map (λ r. cleared (test r) r) (λ r. refl) d.rules s.in_order;
  rules = each-rule-map (IsSoundRule d) (IsSoundRule (record d { rules = map (λ r. cleared (test r) r) d.rules })) (λ r. cleared (test r) r) d.rules
      (λ r x. rule-cleared d (map (λ r. cleared (test r) r) d.rules) (test r) r x) s.rules;
}

pub sound-lost : (key : Key) (touches : Rule → ℕ → Bool) (l : Option Link) (d : Record) → IsSound d → IsSound (lost_from key touches l d)
sound-lost key touches l d s = sound-smaller d (at_times (λ t. not (lost_by key touches l t)) d.plain) d.high (part-times (λ t. not (lost_by key touches l t)) d.plain s.ascending) (λ t h. h) s

pub sound-clear_record : (key : Key) (test : ℕ → Bool) (d : Record) → IsSound d → IsSound (clear_record key test d)
sound-clear_record key test d s = sound-cleared d (λ r b. same r.dest key && test b) s

pub sound-tidied : (o : Option Rule) (d : Record) → IsSound d → IsSound (tidied_by o d)
sound-tidied o d s =
    sound-smaller d (at_times (stays (edge (risen_by o d)) o) d.plain) (high_by o d.high) (part-times (stays (edge (risen_by o d)) o) d.plain s.ascending) (λ t h. upto-high o d.high t h) s

pub sound-expired : (m : State) (d : Record) → IsSound d → IsSound (expire_record m d)
sound-expired m d s = sound-cleared d (λ r b. nat_lt b (edge_at (get r.dest m))) s

-- ---- all records of a state

pub sound-each : (f : Key → Record → Record) (m : State) → ((k : Key) (d : Record) → IsSound d → IsSound (f k d)) → EachRecord (λ k d. IsSound d) m → EachRecord (λ k d. IsSound d) (each f m)
sound-each f m h s k e x =
    let from : From (f k) (get k m) e = get-from f k m e x in
    subst IsSound from.gives (h k from.value (s k from.value from.is))

pub sound-settled : (m : State) → EachRecord (λ k d. IsSound d) m → EachRecord (λ k d. IsSound d) (settled m)
sound-settled m s =
    sound-each (λ k d. expire_record (tidied m) d) (tidied m) (λ k d x. sound-expired (tidied m) d x)
    (sound-each (λ k d. tidied_by (rule_into m k) d) m (λ k d x. sound-tidied (rule_into m k) d x) s)
