-- Creating a rule keeps a state valid.
use Rattle.std.proofs.Common.{◌≡◌, ℕ, ◌<◌, ◌≤◌, ◌+◌, Bool, true, false, if◌then◌else◌, List, [], ◌∷◌, ◌++◌, map, length, Option, Some, None, option_map, refl, sym, ap, ◌∙◌, subst, arith}
use Rattle.std.specs.Option.{option_or}
use Rattle.ts_spec.specs.declared.limits.Limits.{Limits}
use Rattle.ts_spec.specs.declared.bucket.Aggregator.{Aggregator}
use Rattle.ts_spec.specs.Sample.{Point}
use Rattle.ts_spec.specs.Bucket.{Grid}
use Rattle.ts_spec.specs.Key.{Key, same}
use Rattle.ts_spec.specs.Keyed.{get}
use Rattle.ts_spec.specs.State.{Rule, Record, State, Link, rule_to, link_to, rule_into}
use Rattle.ts_spec.specs.Rules.{tidied_by, edge_at, expired, expired_in, expire_record, shown, shown_by}
use Rattle.ts_spec.specs.Step.{with_rule, ruled}
use Rattle.ts_spec.specs.Valid.{EachRule, IsCountable, IsSoundRule, IsOwn, IsSound, IsSoleLink, IsLinked, IsWithin, IsValid}
use Rattle.ts_spec.proofs.Keys.{same-true, same-refl, same-sym}
use Rattle.ts_spec.proofs.Maps.{count-each}
use Rattle.ts_spec.proofs.Links.{Found, link-found}
use Rattle.ts_spec.proofs.Tidy.{some-same, record-tidy}
use Rattle.ts_spec.proofs.PlainWrite.{get-change, others-stay, own-kept}
use Rattle.ts_spec.proofs.Unmoved.{no-link-no-rule, map-kept}
use Rattle.ts_spec.proofs.Sound.{each-rule-to}
use Rattle.ts_spec.proofs.Keeps.{shown-there}
use Rattle.ts_spec.proofs.RuleLists.{rule_to-append, each-rule-append, in_order-append, length-append_one, link-same, link-by-rule, rule-link, settled-by, rules-expired, tidy-unlinked}

-- the new rule of a record
abbrev pub new_rule : Key → Aggregator → Grid → Record → Rule
new_rule dest agg grid s = record { dest = dest; agg = agg; grid = grid; made = s.born + 1; top = None; seen = [] }

-- a rule may be created
pub record IsRulable (limits : Limits) (m : State) (source dest : Key) (s d : Record) : Type 0 where
  pub other : same source dest ≡ false
  pub source_there : get source m ≡ Some s
  pub dest_there : get dest m ≡ Some d
  pub source_free : link_to m source ≡ None
  pub dest_free : link_to m dest ≡ None
  pub dest_rules : d.rules ≡ []
  pub born : s.born < limits.born
  pub rules : length s.rules < limits.rules

-- ---- the record of the source

rule-older : (d : Record) (born : ℕ) (rules : List Rule) → d.born ≤ born → (r : Rule) → IsSoundRule d r → IsSoundRule (record d { born = born; rules = rules }) r
rule-older d born rules le r s = record {
  made_from = s.made_from;
  made_to = (let k : r.made ≤ d.born = s.made_to in omega arith);
  ascending = s.ascending;
  seen = λ t p e. (let c : IsCountable d r p = s.seen t p e in let k : p.made ≤ d.born = c.made in record { since = c.since; made = omega arith; time = c.time });
  eligible = s.eligible;
  top = s.top;
}

rule-new : (dest : Key) (agg : Aggregator) (grid : Grid) (d : Record) → IsSound d → IsSoundRule (with_rule dest agg grid d) (new_rule dest agg grid d)
rule-new dest agg grid d s = record {
  made_from = omega arith;
  made_to = omega arith;
  ascending = tt;
  seen = λ t p e. absurd (cc e);
  eligible = λ t p e k. (let o : p.made ≤ d.born = (s.own t p e).made in absurd (omega arith));
  top = λ t e. absurd (cc e);
}

pub sound-ruled : (dest : Key) (agg : Aggregator) (grid : Grid) (d : Record) → IsSound d → IsSound (with_rule dest agg grid d)
sound-ruled dest agg grid d s = record {
  ascending = s.ascending;
  own = λ t p e. (let o : IsOwn d p = s.own t p e in let k : p.made ≤ d.born = o.made in record { time = o.time; made = omega arith });
  in_order = in_order-append d.rules (new_rule dest agg grid d) s.in_order
      (each-rule-to (IsSoundRule d) (λ r. r.made < d.born + 1) d.rules (λ r x. (let k : r.made ≤ d.born = x.made_to in omega arith)) s.rules);
  rules = each-rule-append (IsSoundRule (with_rule dest agg grid d)) d.rules (new_rule dest agg grid d)
      (each-rule-to (IsSoundRule d) (IsSoundRule (with_rule dest agg grid d)) d.rules
      (λ r x. rule-older d (d.born + 1) (d.rules ++ new_rule dest agg grid d ∷ []) (omega arith) r x) s.rules)
      (rule-new dest agg grid d s);
}

-- ---- the state

module _ (limits : Limits) (m : State) (source dest : Key) (agg : Aggregator) (grid : Grid) (s d : Record) (v : IsValid limits m) (h : IsRulable limits m source dest s d) where
  pub source-after : get source (ruled source dest agg grid m) ≡ Some (with_rule dest agg grid s)
  source-after =
      get-change m source source (with_rule dest agg grid) ∙ ap (option_map (λ c. if same source source then with_rule dest agg grid c else c)) h.source_there
      ∙ ap (λ (b : Bool). Some (if b then with_rule dest agg grid s else s)) (same-refl source)

  other-after : (k : Key) → same k source ≡ false → get k (ruled source dest agg grid m) ≡ get k m
  other-after k x = others-stay m source k (with_rule dest agg grid) x

  -- a rule to another key than the destination was there before
  record WasThere (k j : Key) (r : Rule) : Type 0 where
    record_of : Record
    there : get k m ≡ Some record_of
    rule : rule_to j record_of.rules ≡ Some r

  was-there : (k j : Key) (c : Record) (r : Rule) → same dest j ≡ false → get k (ruled source dest agg grid m) ≡ Some c → rule_to j c.rules ≡ Some r → WasThere k j r
  was-there k j c r x y z = go (same k source) refl
    where
      go : (b : Bool) → same k source ≡ b → WasThere k j r
      go false e = record { record_of = c; there = sym (other-after k e) ∙ y; rule = z }
      go true e =
          let eq : with_rule dest agg grid s ≡ c = some-same (with_rule dest agg grid s) c (sym source-after ∙ ap (λ (i : Key). get i (ruled source dest agg grid m)) (sym (same-true k source e)) ∙ y) in
          record {
            record_of = s;
            there = ap (λ (i : Key). get i m) (same-true k source e) ∙ h.source_there;
            rule = old (rule_to j s.rules) (sym (rule_to-append j s.rules (new_rule dest agg grid s ∷ [])) ∙ ap (λ (q : Record). rule_to j q.rules) eq ∙ z);
          }
        where
          old : (o : Option Rule) → option_or o (if same dest j then Some (new_rule dest agg grid s) else None) ≡ Some r → o ≡ Some r
          old None w = let one : None ≡ Some r = ap (λ (b : Bool). if b then Some (new_rule dest agg grid s) else None) (sym x) ∙ w in absurd (cc one)
          old (Some q) w = w

  -- and is there after
  still-there : (k j : Key) (c : Record) (r : Rule) → get k m ≡ Some c → rule_to j c.rules ≡ Some r → (e : Record) × (get k (ruled source dest agg grid m) ≡ Some e) × (rule_to j e.rules ≡ Some r)
  still-there k j c r y z = go (same k source) refl
    where
      go : (b : Bool) → same k source ≡ b → (e : Record) × (get k (ruled source dest agg grid m) ≡ Some e) × (rule_to j e.rules ≡ Some r)
      go false e = (c, other-after k e ∙ y, z)
      go true e =
          let eq : s ≡ c = some-same s c (sym h.source_there ∙ ap (λ (i : Key). get i m) (sym (same-true k source e)) ∙ y) in (
            with_rule dest agg grid s,
            ap (λ (i : Key). get i (ruled source dest agg grid m)) (same-true k source e) ∙ source-after,
            rule_to-append j s.rules (new_rule dest agg grid s ∷ []) ∙ ap (λ (o : Option Rule). option_or o (rule_to j (new_rule dest agg grid s ∷ []))) (ap (λ (q : Record). rule_to j q.rules) eq ∙ z),
          )

  pub link-stays : (j : Key) → same dest j ≡ false → link_to (ruled source dest agg grid m) j ≡ link_to m j
  link-stays j x = go (link_to m j) (link_to (ruled source dest agg grid m) j) refl refl
    where
      before : (l : Link) → link_to (ruled source dest agg grid m) j ≡ Some l → link_to m j ≡ Some l
      before l y =
          let f : Found (ruled source dest agg grid m).entries j l = link-found (ruled source dest agg grid m) j l y in
          let w : WasThere l.source j l.rule = was-there l.source j f.record_of l.rule x f.there f.rule in
          rule-link m l.source j w.record_of l.rule v.linked w.there w.rule

      go : (o p : Option Link) → link_to m j ≡ o → link_to (ruled source dest agg grid m) j ≡ p → p ≡ o
      go o (Some l) y z = sym (before l z) ∙ y
      go None None y z = refl
      go (Some l) None y z =
          let f : Found m.entries j l = link-found m j l y in
          let w : (e : Record) × (get l.source (ruled source dest agg grid m) ≡ Some e) × (rule_to j e.rules ≡ Some l.rule) = still-there l.source j f.record_of l.rule f.there f.rule in
          let one : None ≡ Some l.rule = sym (no-link-no-rule (ruled source dest agg grid m) l.source j w.0 z w.1) ∙ w.2 in absurd (cc one)

  pub link-made : link_to (ruled source dest agg grid m) dest ≡ Some (record { source = source; rule = new_rule dest agg grid s })
  link-made =
      link-by-rule (ruled source dest agg grid m) source dest (with_rule dest agg grid s) (new_rule dest agg grid s) source-after
      (rule_to-append dest s.rules (new_rule dest agg grid s ∷ [])
      ∙ ap (λ (o : Option Rule). option_or o (rule_to dest (new_rule dest agg grid s ∷ []))) (no-link-no-rule m source dest s h.dest_free h.source_there)
      ∙ ap (λ (b : Bool). if b then Some (new_rule dest agg grid s) else None) (same-refl dest))
      only
    where
      only : (l : Link) → link_to (ruled source dest agg grid m) dest ≡ Some l → l ≡ record { source = source; rule = new_rule dest agg grid s }
      only l y = go (same l.source source) refl
        where
          f : Found (ruled source dest agg grid m).entries dest l
          f = link-found (ruled source dest agg grid m) dest l y

          go : (b : Bool) → same l.source source ≡ b → l ≡ record { source = source; rule = new_rule dest agg grid s }
          go false e =
              let x : Found (ruled source dest agg grid m).entries dest l = link-found (ruled source dest agg grid m) dest l y in
              let one : None ≡ Some l.rule = sym (no-link-no-rule m l.source dest x.record_of h.dest_free (sym (other-after l.source e) ∙ x.there)) ∙ x.rule in absurd (cc one)
          go true e =
              let x : Found (ruled source dest agg grid m).entries dest l = link-found (ruled source dest agg grid m) dest l y in
              let eq : with_rule dest agg grid s ≡ x.record_of = some-same (with_rule dest agg grid s) x.record_of (sym source-after ∙ ap (λ (i : Key). get i (ruled source dest agg grid m)) (sym (same-true l.source source e)) ∙ x.there) in
              let rule : Some (new_rule dest agg grid s) ≡ Some l.rule =
              ap (λ (b : Bool). if b then Some (new_rule dest agg grid s) else None) (sym (same-refl dest))
              ∙ ap (λ (o : Option Rule). option_or o (rule_to dest (new_rule dest agg grid s ∷ []))) (sym (no-link-no-rule m source dest s h.dest_free h.source_there))
              ∙ sym (rule_to-append dest s.rules (new_rule dest agg grid s ∷ []))
              ∙ ap (λ (q : Record). rule_to dest q.rules) eq ∙ x.rule in
              link-same l source (new_rule dest agg grid s) (same-true l.source source e) (sym (some-same (new_rule dest agg grid s) l.rule rule))

  -- which key it is
  pub dest-not-source : same dest source ≡ false
  dest-not-source = same-sym dest source ∙ h.other

  dest-after : get dest (ruled source dest agg grid m) ≡ Some d
  dest-after = other-after dest dest-not-source ∙ h.dest_there

  rule-dest : rule_into (ruled source dest agg grid m) dest ≡ Some (new_rule dest agg grid s)
  rule-dest = ap (option_map (λ (l : Link). l.rule)) link-made

  rule-other : (k : Key) → same dest k ≡ false → rule_into (ruled source dest agg grid m) k ≡ rule_into m k
  rule-other k x = ap (option_map (λ (l : Link). l.rule)) (link-stays k x)

  rule-source : rule_into (ruled source dest agg grid m) source ≡ None
  rule-source = rule-other source dest-not-source ∙ ap (option_map (λ (l : Link). l.rule)) h.source_free

  -- the record of a key after, by which key it is
  data Which (k : Key) (c : Record) : Type 0 where
    IsDest : k ≡ dest → c ≡ d → Which k c
    IsSource : k ≡ source → c ≡ with_rule dest agg grid s → Which k c
    IsOther : same dest k ≡ false → get k m ≡ Some c → Which k c

  which : (k : Key) (c : Record) → get k (ruled source dest agg grid m) ≡ Some c → Which k c
  which k c x = go (same k source) refl (same dest k) refl
    where
      go : (a : Bool) → same k source ≡ a → (b : Bool) → same dest k ≡ b → Which k c
      go true e b f = IsSource (same-true k source e) (some-same c (with_rule dest agg grid s) (sym x ∙ ap (λ (i : Key). get i (ruled source dest agg grid m)) (same-true k source e) ∙ source-after))
      go false e true f = IsDest (sym (same-true dest k f)) (some-same c d (sym x ∙ ap (λ (i : Key). get i (ruled source dest agg grid m)) (sym (same-true dest k f)) ∙ dest-after))
      go false e false f = IsOther f (sym (other-after k e) ∙ x)

  edges-stay : (k : Key) → edge_at (get k (ruled source dest agg grid m)) ≡ edge_at (get k m)
  edges-stay k = go (same k source) refl
    where
      go : (b : Bool) → same k source ≡ b → edge_at (get k (ruled source dest agg grid m)) ≡ edge_at (get k m)
      go false e = ap edge_at (other-after k e)
      go true e =
          subst (λ (j : Key). edge_at (get j (ruled source dest agg grid m)) ≡ edge_at (get j m)) (sym (same-true k source e)) (ap edge_at source-after ∙ ap edge_at (sym h.source_there))

  tidy-after : (k : Key) (c : Record) → get k (ruled source dest agg grid m) ≡ Some c → tidied_by (rule_into (ruled source dest agg grid m) k) c ≡ c
  tidy-after k c x = go (which k c x)
    where
      go : Which k c → tidied_by (rule_into (ruled source dest agg grid m) k) c ≡ c
      go (IsDest e f) =
          subst (λ (q : Record). tidied_by (rule_into (ruled source dest agg grid m) k) q ≡ q) (sym f)
          (ap (λ (o : Option Rule). tidied_by o d) (ap (rule_into (ruled source dest agg grid m)) e ∙ rule-dest) ∙ tidy-unlinked d (own-kept m dest d v.settled h.dest_there))
      go (IsSource e f) =
          subst (λ (q : Record). tidied_by (rule_into (ruled source dest agg grid m) k) q ≡ q) (sym f)
          (ap (λ (o : Option Rule). tidied_by o (with_rule dest agg grid s)) (ap (rule_into (ruled source dest agg grid m)) e ∙ rule-source)
          ∙ tidy-unlinked (with_rule dest agg grid s) (own-kept m source s v.settled h.source_there))
      go (IsOther e f) = ap (λ (o : Option Rule). tidied_by o c) (rule-other k e) ∙ record-tidy m k c v.settled f

  expired-after : (k : Key) (c : Record) → get k m ≡ Some c → EachRule (λ r. expired_in (ruled source dest agg grid m) r ≡ r) c.rules
  expired-after k c x =
      each-rule-to (λ r. expired_in m r ≡ r) (λ r. expired_in (ruled source dest agg grid m) r ≡ r) c.rules
      (λ r e. ap (λ (n : ℕ). expired n r) (edges-stay r.dest) ∙ e) (rules-expired m k c v.settled x)

  expire-after : (k : Key) (c : Record) → get k (ruled source dest agg grid m) ≡ Some c → expire_record (ruled source dest agg grid m) c ≡ c
  expire-after k c x = (λ i. record c { rules = rules (which k c x) i })
    where
      kept : (q : Record) → EachRule (λ r. expired_in (ruled source dest agg grid m) r ≡ r) q.rules → map (expired_in (ruled source dest agg grid m)) q.rules ≡ q.rules
      kept q e = map-kept (expired_in (ruled source dest agg grid m)) (λ r. expired_in (ruled source dest agg grid m) r ≡ r) q.rules (λ r y. y) e

      rules : Which k c → map (expired_in (ruled source dest agg grid m)) c.rules ≡ c.rules
      rules (IsDest e f) = kept c (subst (λ (q : Record). EachRule (λ r. expired_in (ruled source dest agg grid m) r ≡ r) q.rules) (sym f) (expired-after dest d h.dest_there))
      rules (IsSource e f) =
          kept c (subst (λ (q : Record). EachRule (λ r. expired_in (ruled source dest agg grid m) r ≡ r) q.rules) (sym f)
          (each-rule-append (λ r. expired_in (ruled source dest agg grid m) r ≡ r) s.rules (new_rule dest agg grid s) (expired-after source s h.source_there) refl))
      rules (IsOther e f) = kept c (expired-after k c f)

  sole-after : (k : Key) (c : Record) → get k m ≡ Some c → EachRule (IsSoleLink (ruled source dest agg grid m) k) c.rules
  sole-after k c x = each-rule-to (IsSoleLink m k) (IsSoleLink (ruled source dest agg grid m) k) c.rules stays (v.linked k c x)
    where
      not-free : (r : Rule) → (j : Key) → IsSoleLink m k r → link_to m j ≡ None → (b : Bool) → same j r.dest ≡ b → b ≡ false
      not-free r j y free false e = refl
      not-free r j y free true e = let one : None ≡ Some (record { source = k; rule = r }) = sym free ∙ ap (link_to m) (same-true j r.dest e) ∙ y.link in absurd (cc one)

      stays : (r : Rule) → IsSoleLink m k r → IsSoleLink (ruled source dest agg grid m) k r
      stays r y = record {
        link = link-stays r.dest (not-free r dest y h.dest_free (same dest r.dest) refl) ∙ y.link;
        dest = y.dest;
        there = other-after r.dest (same-sym r.dest source ∙ not-free r source y h.source_free (same source r.dest) refl) ∙ y.there;
        no_rules = y.no_rules;
      }

  linked-after : IsLinked (ruled source dest agg grid m)
  linked-after k c x = go (which k c x)
    where
      go : Which k c → EachRule (IsSoleLink (ruled source dest agg grid m) k) c.rules
      go (IsDest e f) = subst (λ (q : Record). EachRule (IsSoleLink (ruled source dest agg grid m) k) q.rules) (sym f)
          (subst (λ (j : Key). EachRule (IsSoleLink (ruled source dest agg grid m) j) d.rules) (sym e) (sole-after dest d h.dest_there))
      go (IsSource e f) = subst (λ (q : Record). EachRule (IsSoleLink (ruled source dest agg grid m) k) q.rules) (sym f)
          (subst (λ (j : Key). EachRule (IsSoleLink (ruled source dest agg grid m) j) (with_rule dest agg grid s).rules) (sym e)
          (each-rule-append (IsSoleLink (ruled source dest agg grid m) source) s.rules (new_rule dest agg grid s) (sole-after source s h.source_there)
          (record { link = link-made; dest = d; there = dest-after; no_rules = h.dest_rules })))
      go (IsOther e f) = sole-after k c f

  -- Creating a rule changes nothing that is shown.
  pub shown-ruled : (k : Key) (c : Record) → get k (ruled source dest agg grid m) ≡ Some c → shown (ruled source dest agg grid m) k ≡ shown m k
  shown-ruled k c x = shown-there (ruled source dest agg grid m) k c x ∙ go (which k c x)
    where
      unlinked : (j : Key) (q : Record) → get j m ≡ Some q → link_to m j ≡ None → q.plain ≡ shown m j
      unlinked j q y z = sym (shown-there m j q y ∙ ap (λ (o : Option Link). shown_by (option_map (λ (l : Link). l.rule) o) q) z)

      go : Which k c → shown_by (rule_into (ruled source dest agg grid m) k) c ≡ shown m k
      go (IsDest e f) =
          ap (shown_by (rule_into (ruled source dest agg grid m) k)) f
          ∙ ap (λ (o : Option Rule). shown_by o d) (ap (rule_into (ruled source dest agg grid m)) e ∙ rule-dest)
          ∙ own-kept m dest d v.settled h.dest_there ∙ unlinked dest d h.dest_there h.dest_free ∙ ap (shown m) (sym e)
      go (IsSource e f) =
          ap (shown_by (rule_into (ruled source dest agg grid m) k)) f
          ∙ ap (λ (o : Option Rule). shown_by o (with_rule dest agg grid s)) (ap (rule_into (ruled source dest agg grid m)) e ∙ rule-source)
          ∙ unlinked source s h.source_there h.source_free ∙ ap (shown m) (sym e)
      go (IsOther e f) = ap (λ (o : Option Rule). shown_by o c) (rule-other k e) ∙ sym (shown-there m k c f)

  within-after : (k : Key) (c : Record) → get k (ruled source dest agg grid m) ≡ Some c → IsWithin limits (ruled source dest agg grid m) k c
  within-after k c x = go (which k c x)
    where
      move : (j : Key) (q : Record) → get j (ruled source dest agg grid m) ≡ Some q → IsWithin limits m j q → IsWithin limits (ruled source dest agg grid m) j q
      move j q y w = record { labels = w.labels; rules = w.rules; born = w.born; samples = subst (λ (ps : List Point). length ps ≤ limits.samples) (sym (shown-ruled j q y)) w.samples }

      go : Which k c → IsWithin limits (ruled source dest agg grid m) k c
      go (IsDest e f) = move k c x (subst (λ (q : Record). IsWithin limits m k q) (sym f) (subst (λ (j : Key). IsWithin limits m j d) (sym e) (v.within dest d h.dest_there)))
      go (IsOther e f) = move k c x (v.within k c f)
      go (IsSource e f) =
          let w : IsWithin limits m source s = v.within source s h.source_there in
          let rules : length (s.rules ++ new_rule dest agg grid s ∷ []) ≡ length s.rules + 1 = length-append_one s.rules (new_rule dest agg grid s) in
          let room : length s.rules < limits.rules = h.rules in
          let more : s.born < limits.born = h.born in
          subst (IsWithin limits (ruled source dest agg grid m) k) (sym f) (record {
            labels = w.labels;
            rules = omega arith;
            born = omega arith;
            samples = subst (λ (ps : List Point). length ps ≤ limits.samples) (sym (shown-ruled k c x)) (subst (λ (j : Key). length (shown m j) ≤ limits.samples) (sym e) w.samples);
          })

  -- Creating a rule keeps the state valid.
  pub valid-ruled : IsValid limits (ruled source dest agg grid m)
  valid-ruled = record {
    sound = λ k c x. sound (which k c x);
    linked = linked-after;
    settled = settled-by (ruled source dest agg grid m) tidy-after expire-after;
    keys = subst (λ (n : ℕ). n ≤ limits.keys) (sym (count-each (λ k c. if same k source then with_rule dest agg grid c else c) m)) v.keys;
    within = within-after;
  }
    where
      sound : {k : Key} {c : Record} → Which k c → IsSound c
      sound (IsDest e f) = subst IsSound (sym f) (v.sound dest d h.dest_there)
      sound (IsSource e f) = subst IsSound (sym f) (sound-ruled dest agg grid s (v.sound source s h.source_there))
      sound {k} {c} (IsOther e f) = v.sound k c f
