-- The records after a command on a key: of the key, of its destinations, and of the others.
use Rattle.std.proofs.Common.{◌≡◌, ℕ, Bool, true, false, ◌&&◌, nat_le, if◌then◌else◌, List, [], ◌∷◌, map, Option, Some, None, option_map, refl, sym, ap, ◌∙◌}
use Rattle.std.proofs.Math.Bool.{and-true}
use Rattle.ts_spec.specs.Sample.{at_times}
use Rattle.ts_spec.specs.Key.{Key, same}
use Rattle.ts_spec.specs.Keyed.{get}
use Rattle.ts_spec.specs.State.{Rule, Record, State, Link, rule_to, link_to, rule_into, change, edge}
use Rattle.ts_spec.specs.Rules.{lost_from, cleared_to, clear_record, tidied_by, edge_at, expired, expired_in, expire_record, tidied, settled}
use Rattle.ts_spec.specs.Valid.{EachRule, IsLinked}
use Rattle.ts_spec.proofs.Keys.{same-true, same-refl}
use Rattle.ts_spec.proofs.Links.{Found, link-found, link-none}
use Rattle.ts_spec.proofs.Linked.{link-dest, link-target, IsTarget}
use Rattle.ts_spec.proofs.Settles.{settled_record, get-settled, rule-settled, edge-expired}
use Rattle.ts_spec.proofs.Tidy.{some-same, KeepsRules, change-keeps}
use Rattle.ts_spec.proofs.PlainWrite.{get-change}
use Rattle.ts_spec.proofs.Unmoved.{times-same, leads-elsewhere, no-link-no-rule, map-same, map-kept, lost-elsewhere, lost-unlinked, cleared-elsewhere}
use Rattle.ts_spec.proofs.Bodies.{bodies, body, get-bodies, link-changed, link-bodies-none, link-bodies-some}

-- settling changes the edges of no key more than tidying
pub edges-settled : (n : State) (k : Key) → edge_at (get k (settled n)) ≡ edge_at (get k (tidied n))
edges-settled n k = edge-expired (tidied n) (tidied n) k

no-rules-expired : (n : State) (d : Record) → d.rules ≡ [] → expire_record n d ≡ d
no-rules-expired n d h = let rules : map (expired_in n) d.rules ≡ d.rules = ap (map (expired_in n)) h ∙ sym h in λ i. record d { rules = rules i }

no-rules-cleared : (key : Key) (test : ℕ → Bool) (d : Record) → d.rules ≡ [] → clear_record key test d ≡ d
no-rules-cleared key test d h = let rules : map (cleared_to key test) d.rules ≡ d.rules = ap (map (cleared_to key test)) h ∙ sym h in λ i. record d { rules = rules i }

-- a state in which a command on a key with this record is done
pub record IsDone (m : State) (key : Key) (d : Record) (f : Record → Record) (g : Record → Rule → Rule) : Type 0 where
  pub linked : IsLinked m
  pub settled : settled m ≡ m
  pub there : get key m ≡ Some d
  pub keeps : KeepsRules f g

module _ (m : State) (key : Key) (d : Record) (f : Record → Record) (g : Record → Rule → Rule) (touches : Rule → ℕ → Bool) (test : ℕ → Bool) (h : IsDone m key d f g) where
  here-same : (if same key key then f d else d) ≡ f d
  here-same = ap (λ (b : Bool). if b then f d else d) (same-refl key)

  -- ---- a key that no rule writes to

  pub source-body : link_to m key ≡ None → body key f touches test m key d ≡ clear_record key test (f d)
  source-body x =
      ap (λ (o : Option Link). clear_record key test (lost_from key touches o (if same key key then f d else d)))
      (link-none (λ k c. if same k key then f c else c) (λ k c r. if same k key then g c r else r) (change-keeps key f g h.keeps) key m x)
      ∙ ap (λ (c : Record). clear_record key test (lost_from key touches None c)) here-same
      ∙ ap (clear_record key test) (lost-unlinked key touches (f d))

  no-own-rule : link_to m key ≡ None → map (cleared_to key test) (f d).rules ≡ (f d).rules
  no-own-rule x =
      map-kept (cleared_to key test) (λ r. same r.dest key ≡ false) (f d).rules (λ r e. cleared-elsewhere key test r e) (leads-elsewhere key (f d).rules none)
    where
      none : rule_to key (f d).rules ≡ None
      none = no-link-no-rule (change key f m) key key (f d)
          (link-none (λ k c. if same k key then f c else c) (λ k c r. if same k key then g c r else r) (change-keeps key f g h.keeps) key m x)
          (get-change m key key f ∙ ap (option_map (λ c. if same key key then f c else c)) h.there ∙ ap (λ (c : Record). Some c) here-same)

  -- the record of the source: its samples from the edge on, and its rules expired by the edges that their
  -- destinations then have
  pub source-after : link_to m key ≡ None →
      get key (settled (bodies key f touches test m)) ≡
      Some (record (f d) { plain = at_times (nat_le (edge (f d))) (f d).plain; rules = map (λ r. expired (edge_at (get r.dest (settled (bodies key f touches test m)))) r) (f d).rules })
  source-after x =
      get-settled (bodies key f touches test m) key
      ∙ ap (option_map (settled_record (bodies key f touches test m) key)) (get-bodies key f touches test m key ∙ ap (option_map (body key f touches test m key)) h.there)
      ∙ ap (λ (o : Option Rule). Some (expire_record (tidied (bodies key f touches test m)) (tidied_by o (body key f touches test m key d)))) (ap (option_map (λ (l : Link). l.rule)) (link-bodies-none key f g touches test m key h.keeps x))
      ∙ ap (λ (c : Record). Some (expire_record (tidied (bodies key f touches test m)) (tidied_by None c))) (source-body x)
      ∙ (let rules : map (expired_in (tidied (bodies key f touches test m))) (map (cleared_to key test) (f d).rules) ≡ map (λ r. expired (edge_at (get r.dest (settled (bodies key f touches test m)))) r) (f d).rules =
      ap (map (expired_in (tidied (bodies key f touches test m)))) (no-own-rule x)
      ∙ map-same (expired_in (tidied (bodies key f touches test m))) (λ r. expired (edge_at (get r.dest (settled (bodies key f touches test m)))) r) (λ r. Unit {0}) (f d).rules
      (λ r y. ap (λ (n : ℕ). expired n r) (sym (edges-settled (bodies key f touches test m) r.dest))) (all (f d).rules) in
      let plain : at_times (λ t. nat_le (edge (f d)) t && true) (f d).plain ≡ at_times (nat_le (edge (f d))) (f d).plain =
      times-same (λ t. nat_le (edge (f d)) t && true) (nat_le (edge (f d))) (f d).plain (λ t. and-true (nat_le (edge (f d)) t)) in
      λ i. Some (record (f d) { plain = plain i; rules = rules i }))
    where
      all : (rs : List Rule) → EachRule (λ r. Unit {0}) rs
      all [] = tt
      all (r ∷ rs) = (tt, all rs)

  -- ---- a destination of the key

  -- the rule to it, before settling
  pub dest-rule : (k : Key) (r : Rule) → link_to m k ≡ Some (record { source = key; rule = r }) → same k key ≡ false → rule_into (bodies key f touches test m) k ≡ Some (g d r)
  dest-rule k r x other =
      ap (option_map (λ (l : Link). l.rule)) (link-bodies-some key f g touches test m k (record { source = key; rule = r }) d h.keeps x h.there)
      ∙ ap (λ (b : Bool). Some (cleared_to key test (if b then g d r else r))) (same-refl key)
      ∙ ap (λ (q : Rule). Some q) (cleared-elsewhere key test (g d r) (ap (λ (j : Key). same j key) (h.keeps.dest d r ∙ link-dest m k (record { source = key; rule = r }) x) ∙ other))

  pub dest-body : (k : Key) (r : Rule) (e : Record) → link_to m k ≡ Some (record { source = key; rule = r }) → same k key ≡ false → e.rules ≡ [] →
      body key f touches test m k e ≡ lost_from key touches (Some (record { source = key; rule = g d r })) e
  dest-body k r e x other none =
      ap (λ (b : Bool). clear_record key test (lost_from key touches (link_to (change key f m) k) (if b then f e else e))) other
      ∙ ap (λ (o : Option Link). clear_record key test (lost_from key touches o e))
      (link-changed key f g m k (record { source = key; rule = r }) d h.keeps x h.there ∙ ap (λ (b : Bool). Some (record { source = key; rule = if b then g d r else r })) (same-refl key))
      ∙ no-rules-cleared key test (lost_from key touches (Some (record { source = key; rule = g d r })) e) none

  -- the key itself is no destination of its own
  pub dest-other : (k : Key) (r : Rule) → link_to m k ≡ Some (record { source = key; rule = r }) → same k key ≡ false
  dest-other k r x = go (same k key) refl
    where
      go : (b : Bool) → same k key ≡ b → b ≡ false
      go false e = refl
      go true e =
          let t : IsTarget m k = link-target m k (record { source = key; rule = r }) h.linked x in
          let fnd : Found m.entries k (record { source = key; rule = r }) = link-found m k (record { source = key; rule = r }) x in
          let eq : t.record_of ≡ fnd.record_of = some-same t.record_of fnd.record_of (sym t.there ∙ ap (λ (j : Key). get j m) (same-true k key e) ∙ fnd.there) in
          let one : None ≡ Some r = ap (rule_to k) (sym t.no_rules ∙ ap (λ (c : Record). c.rules) eq) ∙ fnd.rule in absurd (cc one)

  -- the record of a destination: it loses what the touched buckets hide, and is tidied by the rule as it is then
  pub dest-after : (k : Key) (r : Rule) (e : Record) → link_to m k ≡ Some (record { source = key; rule = r }) → get k m ≡ Some e →
      get k (settled (bodies key f touches test m)) ≡ Some (tidied_by (Some (g d r)) (lost_from key touches (Some (record { source = key; rule = g d r })) e))
  dest-after k r e x there =
      let t : IsTarget m k = link-target m k (record { source = key; rule = r }) h.linked x in
      let none : e.rules ≡ [] = ap (λ (c : Record). c.rules) (some-same e t.record_of (sym there ∙ t.there)) ∙ t.no_rules in
      get-settled (bodies key f touches test m) k
      ∙ ap (option_map (settled_record (bodies key f touches test m) k)) (get-bodies key f touches test m k ∙ ap (option_map (body key f touches test m k)) there)
      ∙ ap (λ (o : Option Rule). Some (expire_record (tidied (bodies key f touches test m)) (tidied_by o (body key f touches test m k e)))) (dest-rule k r x (dest-other k r x))
      ∙ ap (λ (c : Record). Some (expire_record (tidied (bodies key f touches test m)) (tidied_by (Some (g d r)) c))) (dest-body k r e x (dest-other k r x) none)
      ∙ ap (λ (c : Record). Some c)
      (no-rules-expired (tidied (bodies key f touches test m)) (tidied_by (Some (g d r)) (lost_from key touches (Some (record { source = key; rule = g d r })) e)) none)

  -- the rule to a destination, expired by the edge that it then has
  pub dest-rule-after : (k : Key) (r : Rule) → link_to m k ≡ Some (record { source = key; rule = r }) →
      rule_into (settled (bodies key f touches test m)) k ≡ Some (expired (edge_at (get k (settled (bodies key f touches test m)))) (g d r))
  dest-rule-after k r x =
      rule-settled (bodies key f touches test m) k
      ∙ ap (option_map (expired_in (tidied (bodies key f touches test m)))) (dest-rule k r x (dest-other k r x))
      ∙ ap (λ (j : Key). Some (expired (edge_at (get j (tidied (bodies key f touches test m)))) (g d r))) (h.keeps.dest d r ∙ link-dest m k (record { source = key; rule = r }) x)
      ∙ ap (λ (n : ℕ). Some (expired n (g d r))) (sym (edges-settled (bodies key f touches test m) k))

  -- ---- a key that a rule writes to

  source-other : (l : Link) → link_to m key ≡ Some l → same l.source key ≡ false
  source-other l x = go (same l.source key) refl
    where
      go : (b : Bool) → same l.source key ≡ b → b ≡ false
      go false e = refl
      go true e =
          let t : IsTarget m key = link-target m key l h.linked x in
          let fnd : Found m.entries key l = link-found m key l x in
          let eq : t.record_of ≡ fnd.record_of = some-same t.record_of fnd.record_of (sym t.there ∙ ap (λ (j : Key). get j m) (sym (same-true l.source key e)) ∙ fnd.there) in
          let one : None ≡ Some l.rule = ap (rule_to key) (sym t.no_rules ∙ ap (λ (c : Record). c.rules) eq) ∙ fnd.rule in absurd (cc one)

  -- its rule before settling: some counted samples are cleared
  pub own-rule : (l : Link) → link_to m key ≡ Some l → rule_into (bodies key f touches test m) key ≡ Some (cleared_to key test l.rule)
  own-rule l x =
      let fnd : Found m.entries key l = link-found m key l x in
      ap (option_map (λ (q : Link). q.rule)) (link-bodies-some key f g touches test m key l fnd.record_of h.keeps x fnd.there)
      ∙ ap (λ (b : Bool). Some (cleared_to key test (if b then g fnd.record_of l.rule else l.rule))) (source-other l x)

  own-body : (l : Link) → link_to m key ≡ Some l → (f d).rules ≡ [] → body key f touches test m key d ≡ f d
  own-body l x none =
      let fnd : Found m.entries key l = link-found m key l x in
      ap (λ (o : Option Link). clear_record key test (lost_from key touches o (if same key key then f d else d))) (link-changed key f g m key l fnd.record_of h.keeps x fnd.there)
      ∙ ap (λ (c : Record). clear_record key test (lost_from key touches (Some (record { source = l.source; rule = if same l.source key then g fnd.record_of l.rule else l.rule })) c)) here-same
      ∙ ap (clear_record key test) (lost-elsewhere key touches (record { source = l.source; rule = if same l.source key then g fnd.record_of l.rule else l.rule }) (f d) (source-other l x))
      ∙ no-rules-cleared key test (f d) none

  own-no-rules : (l : Link) → link_to m key ≡ Some l → (f d).rules ≡ []
  own-no-rules l x =
      let t : IsTarget m key = link-target m key l h.linked x in
      h.keeps.rules d ∙ ap (map (g d)) (ap (λ (c : Record). c.rules) (some-same d t.record_of (sym h.there ∙ t.there)) ∙ t.no_rules)

  -- the record of a destination that a client changes
  pub own-after : (l : Link) → link_to m key ≡ Some l → get key (settled (bodies key f touches test m)) ≡ Some (tidied_by (Some (cleared_to key test l.rule)) (f d))
  own-after l x =
      get-settled (bodies key f touches test m) key
      ∙ ap (option_map (settled_record (bodies key f touches test m) key)) (get-bodies key f touches test m key ∙ ap (option_map (body key f touches test m key)) h.there)
      ∙ ap (λ (o : Option Rule). Some (expire_record (tidied (bodies key f touches test m)) (tidied_by o (body key f touches test m key d)))) (own-rule l x)
      ∙ ap (λ (c : Record). Some (expire_record (tidied (bodies key f touches test m)) (tidied_by (Some (cleared_to key test l.rule)) c))) (own-body l x (own-no-rules l x))
      ∙ ap (λ (c : Record). Some c) (no-rules-expired (tidied (bodies key f touches test m)) (tidied_by (Some (cleared_to key test l.rule)) (f d)) (own-no-rules l x))

  -- and its rule
  pub own-rule-after : (l : Link) → link_to m key ≡ Some l →
      rule_into (settled (bodies key f touches test m)) key ≡ Some (expired (edge_at (get key (settled (bodies key f touches test m)))) (cleared_to key test l.rule))
  own-rule-after l x =
      rule-settled (bodies key f touches test m) key
      ∙ ap (option_map (expired_in (tidied (bodies key f touches test m)))) (own-rule l x)
      ∙ ap (λ (j : Key). Some (expired (edge_at (get j (tidied (bodies key f touches test m)))) (cleared_to key test l.rule))) (link-dest m key l x)
      ∙ ap (λ (n : ℕ). Some (expired n (cleared_to key test l.rule))) (sym (edges-settled (bodies key f touches test m) key))
