-- The links between series after a rule is added to a source.
use Rattle.std.proofs.Common.{◌≡◌, ◌<◌, Bool, true, false, if◌then◌else◌, [], ◌∷◌, length, Option, Some, None, option_map, refl, sym, ap, ◌∙◌}
use Rattle.std.specs.Option.{option_or}
use Rattle.ts_spec.specs.declared.limits.Limits.{Limits}
use Rattle.ts_spec.specs.Key.{Key, same}
use Rattle.ts_spec.specs.Keyed.{get}
use Rattle.ts_spec.specs.State.{Rule, Record, State, Link, rule_to, link_to}
use Rattle.ts_spec.specs.Valid.{EachRule, IsSoundRule, IsValid}
use Rattle.ts_spec.proofs.Keys.{same-true, same-refl}
use Rattle.ts_spec.proofs.Links.{Found, link-found}
use Rattle.ts_spec.proofs.Tidy.{some-same}
use Rattle.ts_spec.proofs.PlainWrite.{get-change, others-stay}
use Rattle.ts_spec.proofs.Unmoved.{no-link-no-rule}
use Rattle.ts_spec.proofs.RuleLists.{rule_to-append, link-same, link-by-rule, rule-link}
use Rattle.ts_restore.specs.Restored.{add_rule, rule_added}
use Rattle.ts_restore.proofs.OpenRules.{AllOpen}

-- A rule may be added: its series are not linked otherwise, it was created after the other rules of its source, and it
-- counts samples in its open bucket alone.
pub record IsAddable (limits : Limits) (m : State) (source : Key) (new : Rule) (s d : Record) : Type 0 where
  pub other : same source new.dest ≡ false
  pub source_there : get source m ≡ Some s
  pub dest_there : get new.dest m ≡ Some d
  pub source_free : link_to m source ≡ None
  pub dest_free : link_to m new.dest ≡ None
  pub dest_rules : d.rules ≡ []
  pub rules : length s.rules < limits.rules
  pub after : EachRule (λ r. r.made < new.made) s.rules
  pub sound : IsSoundRule s new
  pub open_alone : AllOpen new new.seen

module _ (limits : Limits) (m : State) (source : Key) (new : Rule) (s d : Record) (v : IsValid limits m) (h : IsAddable limits m source new s d) where
  abbrev dest : Key
  dest = new.dest

  pub source-after : get source (rule_added source new m) ≡ Some (add_rule new s)
  source-after =
      get-change m source source (add_rule new) ∙ ap (option_map (λ c. if same source source then add_rule new c else c)) h.source_there
      ∙ ap (λ (b : Bool). Some (if b then add_rule new s else s)) (same-refl source)

  pub other-after : (k : Key) → same k source ≡ false → get k (rule_added source new m) ≡ get k m
  other-after k x = others-stay m source k (add_rule new) x

  -- a rule to another key than the destination was there before
  record WasThere (k j : Key) (r : Rule) : Type 0 where
    record_of : Record
    there : get k m ≡ Some record_of
    rule : rule_to j record_of.rules ≡ Some r

  was-there : (k j : Key) (c : Record) (r : Rule) → same dest j ≡ false → get k (rule_added source new m) ≡ Some c → rule_to j c.rules ≡ Some r → WasThere k j r
  was-there k j c r x y z = go (same k source) refl
    where
      go : (b : Bool) → same k source ≡ b → WasThere k j r
      go false e = record { record_of = c; there = sym (other-after k e) ∙ y; rule = z }
      go true e =
          let eq : add_rule new s ≡ c = some-same (add_rule new s) c (sym source-after ∙ ap (λ (i : Key). get i (rule_added source new m)) (sym (same-true k source e)) ∙ y) in
          record {
            record_of = s;
            there = ap (λ (i : Key). get i m) (same-true k source e) ∙ h.source_there;
            rule = old (rule_to j s.rules) (sym (rule_to-append j s.rules (new ∷ [])) ∙ ap (λ (q : Record). rule_to j q.rules) eq ∙ z);
          }
        where
          old : (o : Option Rule) → option_or o (if same dest j then Some new else None) ≡ Some r → o ≡ Some r
          old None w = let one : None ≡ Some r = ap (λ (b : Bool). if b then Some new else None) (sym x) ∙ w in absurd (cc one)
          old (Some q) w = w

  -- and is there after
  still-there : (k j : Key) (c : Record) (r : Rule) → get k m ≡ Some c → rule_to j c.rules ≡ Some r → (e : Record) × (get k (rule_added source new m) ≡ Some e) × (rule_to j e.rules ≡ Some r)
  still-there k j c r y z = go (same k source) refl
    where
      go : (b : Bool) → same k source ≡ b → (e : Record) × (get k (rule_added source new m) ≡ Some e) × (rule_to j e.rules ≡ Some r)
      go false e = (c, other-after k e ∙ y, z)
      go true e =
          let eq : s ≡ c = some-same s c (sym h.source_there ∙ ap (λ (i : Key). get i m) (sym (same-true k source e)) ∙ y) in (
            add_rule new s,
            ap (λ (i : Key). get i (rule_added source new m)) (same-true k source e) ∙ source-after,
            rule_to-append j s.rules (new ∷ []) ∙ ap (λ (o : Option Rule). option_or o (rule_to j (new ∷ []))) (ap (λ (q : Record). rule_to j q.rules) eq ∙ z),
          )

  pub link-stays : (j : Key) → same dest j ≡ false → link_to (rule_added source new m) j ≡ link_to m j
  link-stays j x = go (link_to m j) (link_to (rule_added source new m) j) refl refl
    where
      before : (l : Link) → link_to (rule_added source new m) j ≡ Some l → link_to m j ≡ Some l
      before l y =
          let f : Found (rule_added source new m).entries j l = link-found (rule_added source new m) j l y in
          let w : WasThere l.source j l.rule = was-there l.source j f.record_of l.rule x f.there f.rule in
          rule-link m l.source j w.record_of l.rule v.linked w.there w.rule

      go : (o p : Option Link) → link_to m j ≡ o → link_to (rule_added source new m) j ≡ p → p ≡ o
      go o (Some l) y z = sym (before l z) ∙ y
      go None None y z = refl
      go (Some l) None y z =
          let f : Found m.entries j l = link-found m j l y in
          let w : (e : Record) × (get l.source (rule_added source new m) ≡ Some e) × (rule_to j e.rules ≡ Some l.rule) = still-there l.source j f.record_of l.rule f.there f.rule in
          let one : None ≡ Some l.rule = sym (no-link-no-rule (rule_added source new m) l.source j w.0 z w.1) ∙ w.2 in absurd (cc one)

  pub link-made : link_to (rule_added source new m) dest ≡ Some (record { source = source; rule = new })
  link-made =
      link-by-rule (rule_added source new m) source dest (add_rule new s) new source-after
      (rule_to-append dest s.rules (new ∷ [])
      ∙ ap (λ (o : Option Rule). option_or o (rule_to dest (new ∷ []))) (no-link-no-rule m source dest s h.dest_free h.source_there)
      ∙ ap (λ (b : Bool). if b then Some new else None) (same-refl dest))
      only
    where
      only : (l : Link) → link_to (rule_added source new m) dest ≡ Some l → l ≡ record { source = source; rule = new }
      only l y = go (same l.source source) refl
        where
          f : Found (rule_added source new m).entries dest l
          f = link-found (rule_added source new m) dest l y

          go : (b : Bool) → same l.source source ≡ b → l ≡ record { source = source; rule = new }
          go false e =
              let x : Found (rule_added source new m).entries dest l = link-found (rule_added source new m) dest l y in
              let one : None ≡ Some l.rule = sym (no-link-no-rule m l.source dest x.record_of h.dest_free (sym (other-after l.source e) ∙ x.there)) ∙ x.rule in absurd (cc one)
          go true e =
              let x : Found (rule_added source new m).entries dest l = link-found (rule_added source new m) dest l y in
              let eq : add_rule new s ≡ x.record_of = some-same (add_rule new s) x.record_of (sym source-after ∙ ap (λ (i : Key). get i (rule_added source new m)) (sym (same-true l.source source e)) ∙ x.there) in
              let rule : Some new ≡ Some l.rule =
              ap (λ (b : Bool). if b then Some new else None) (sym (same-refl dest))
              ∙ ap (λ (o : Option Rule). option_or o (rule_to dest (new ∷ []))) (sym (no-link-no-rule m source dest s h.dest_free h.source_there))
              ∙ sym (rule_to-append dest s.rules (new ∷ []))
              ∙ ap (λ (q : Record). rule_to dest q.rules) eq ∙ x.rule in
              link-same l source new (same-true l.source source e) (sym (some-same new l.rule rule))
