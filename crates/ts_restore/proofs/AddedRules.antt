-- Adding a rule that counts samples in its open bucket alone keeps a state valid.
use Rattle.std.proofs.Common.{◌≡◌, ℕ, ◌<◌, ◌≤◌, ◌+◌, Bool, true, false, if◌then◌else◌, List, [], ◌∷◌, ◌++◌, map, length, Option, Some, None, option_map, refl, sym, ap, ◌∙◌, subst, arith}
use Rattle.ts_spec.specs.declared.limits.Limits.{Limits}
use Rattle.ts_spec.specs.Sample.{Point}
use Rattle.ts_spec.specs.Key.{Key, same}
use Rattle.ts_spec.specs.Keyed.{get}
use Rattle.ts_spec.specs.State.{Rule, Record, State, Link, link_to, rule_into}
use Rattle.ts_spec.specs.Rules.{tidied_by, edge_at, expired, expired_in, expire_record, shown, shown_by}
use Rattle.ts_spec.specs.Valid.{EachRule, IsSound, IsSoleLink, IsLinked, IsWithin, IsValid}
use Rattle.ts_spec.proofs.Keys.{same-true, same-sym}
use Rattle.ts_spec.proofs.Maps.{count-each}
use Rattle.ts_spec.proofs.Tidy.{some-same, record-tidy}
use Rattle.ts_spec.proofs.PlainWrite.{own-kept}
use Rattle.ts_spec.proofs.Unmoved.{map-kept}
use Rattle.ts_spec.proofs.Sound.{each-rule-to}
use Rattle.ts_spec.proofs.Keeps.{shown-there}
use Rattle.ts_spec.proofs.RuleLists.{each-rule-append, length-append_one, settled-by, rules-expired, tidy-unlinked}
use Rattle.ts_restore.specs.Restored.{add_rule, rule_added}
use Rattle.ts_restore.proofs.OpenRules.{unexpired, tidy-open, shown-open}
use Rattle.ts_restore.proofs.AddedLinks.{IsAddable}
use Rattle.ts_restore.proofs.AddedRecord.{sound-added}
use Rattle.ts_restore.proofs.AddedLinks as links

module _ (limits : Limits) (m : State) (source : Key) (new : Rule) (s d : Record) (v : IsValid limits m) (h : IsAddable limits m source new s d) where
  abbrev dest : Key
  dest = new.dest

  source-after : get source (rule_added source new m) ≡ Some (add_rule new s)
  source-after = links.source-after limits m source new s d v h

  other-after : (k : Key) → same k source ≡ false → get k (rule_added source new m) ≡ get k m
  other-after = links.other-after limits m source new s d v h

  link-stays : (j : Key) → same dest j ≡ false → link_to (rule_added source new m) j ≡ link_to m j
  link-stays = links.link-stays limits m source new s d v h

  link-made : link_to (rule_added source new m) dest ≡ Some (record { source = source; rule = new })
  link-made = links.link-made limits m source new s d v h

  -- which key it is
  pub dest-not-source : same dest source ≡ false
  dest-not-source = same-sym dest source ∙ h.other

  dest-after : get dest (rule_added source new m) ≡ Some d
  dest-after = other-after dest dest-not-source ∙ h.dest_there

  rule-dest : rule_into (rule_added source new m) dest ≡ Some new
  rule-dest = ap (option_map (λ (l : Link). l.rule)) link-made

  rule-other : (k : Key) → same dest k ≡ false → rule_into (rule_added source new m) k ≡ rule_into m k
  rule-other k x = ap (option_map (λ (l : Link). l.rule)) (link-stays k x)

  rule-source : rule_into (rule_added source new m) source ≡ None
  rule-source = rule-other source dest-not-source ∙ ap (option_map (λ (l : Link). l.rule)) h.source_free

  -- the record of a key after, by which key it is
  data Which (k : Key) (c : Record) : Type 0 where
    IsDest : k ≡ dest → c ≡ d → Which k c
    IsSource : k ≡ source → c ≡ add_rule new s → Which k c
    IsOther : same dest k ≡ false → get k m ≡ Some c → Which k c

  which : (k : Key) (c : Record) → get k (rule_added source new m) ≡ Some c → Which k c
  which k c x = go (same k source) refl (same dest k) refl
    where
      go : (a : Bool) → same k source ≡ a → (b : Bool) → same dest k ≡ b → Which k c
      go true e b f = IsSource (same-true k source e) (some-same c (add_rule new s) (sym x ∙ ap (λ (i : Key). get i (rule_added source new m)) (same-true k source e) ∙ source-after))
      go false e true f = IsDest (sym (same-true dest k f)) (some-same c d (sym x ∙ ap (λ (i : Key). get i (rule_added source new m)) (sym (same-true dest k f)) ∙ dest-after))
      go false e false f = IsOther f (sym (other-after k e) ∙ x)

  edges-stay : (k : Key) → edge_at (get k (rule_added source new m)) ≡ edge_at (get k m)
  edges-stay k = go (same k source) refl
    where
      go : (b : Bool) → same k source ≡ b → edge_at (get k (rule_added source new m)) ≡ edge_at (get k m)
      go false e = ap edge_at (other-after k e)
      go true e =
          subst (λ (j : Key). edge_at (get j (rule_added source new m)) ≡ edge_at (get j m)) (sym (same-true k source e)) (ap edge_at source-after ∙ ap edge_at (sym h.source_there))

  tidy-after : (k : Key) (c : Record) → get k (rule_added source new m) ≡ Some c → tidied_by (rule_into (rule_added source new m) k) c ≡ c
  tidy-after k c x = go (which k c x)
    where
      go : Which k c → tidied_by (rule_into (rule_added source new m) k) c ≡ c
      go (IsDest e f) =
          subst (λ (q : Record). tidied_by (rule_into (rule_added source new m) k) q ≡ q) (sym f)
          (ap (λ (o : Option Rule). tidied_by o d) (ap (rule_into (rule_added source new m)) e ∙ rule-dest) ∙ tidy-open new d h.open_alone (own-kept m dest d v.settled h.dest_there))
      go (IsSource e f) =
          subst (λ (q : Record). tidied_by (rule_into (rule_added source new m) k) q ≡ q) (sym f)
          (ap (λ (o : Option Rule). tidied_by o (add_rule new s)) (ap (rule_into (rule_added source new m)) e ∙ rule-source)
          ∙ tidy-unlinked (add_rule new s) (own-kept m source s v.settled h.source_there))
      go (IsOther e f) = ap (λ (o : Option Rule). tidied_by o c) (rule-other k e) ∙ record-tidy m k c v.settled f

  expired-after : (k : Key) (c : Record) → get k m ≡ Some c → EachRule (λ r. expired_in (rule_added source new m) r ≡ r) c.rules
  expired-after k c x =
      each-rule-to (λ r. expired_in m r ≡ r) (λ r. expired_in (rule_added source new m) r ≡ r) c.rules
      (λ r e. ap (λ (n : ℕ). expired n r) (edges-stay r.dest) ∙ e) (rules-expired m k c v.settled x)

  expire-after : (k : Key) (c : Record) → get k (rule_added source new m) ≡ Some c → expire_record (rule_added source new m) c ≡ c
  expire-after k c x = (λ i. record c { rules = rules (which k c x) i })
    where
      kept : (q : Record) → EachRule (λ r. expired_in (rule_added source new m) r ≡ r) q.rules → map (expired_in (rule_added source new m)) q.rules ≡ q.rules
      kept q e = map-kept (expired_in (rule_added source new m)) (λ r. expired_in (rule_added source new m) r ≡ r) q.rules (λ r y. y) e

      rules : Which k c → map (expired_in (rule_added source new m)) c.rules ≡ c.rules
      rules (IsDest e f) = kept c (subst (λ (q : Record). EachRule (λ r. expired_in (rule_added source new m) r ≡ r) q.rules) (sym f) (expired-after dest d h.dest_there))
      rules (IsSource e f) =
          kept c (subst (λ (q : Record). EachRule (λ r. expired_in (rule_added source new m) r ≡ r) q.rules) (sym f)
          (each-rule-append (λ r. expired_in (rule_added source new m) r ≡ r) s.rules new (expired-after source s h.source_there) (unexpired (edge_at (get new.dest (rule_added source new m))) new h.open_alone)))
      rules (IsOther e f) = kept c (expired-after k c f)

  sole-after : (k : Key) (c : Record) → get k m ≡ Some c → EachRule (IsSoleLink (rule_added source new m) k) c.rules
  sole-after k c x = each-rule-to (IsSoleLink m k) (IsSoleLink (rule_added source new m) k) c.rules stays (v.linked k c x)
    where
      not-free : (r : Rule) → (j : Key) → IsSoleLink m k r → link_to m j ≡ None → (b : Bool) → same j r.dest ≡ b → b ≡ false
      not-free r j y free false e = refl
      not-free r j y free true e = let one : None ≡ Some (record { source = k; rule = r }) = sym free ∙ ap (link_to m) (same-true j r.dest e) ∙ y.link in absurd (cc one)

      stays : (r : Rule) → IsSoleLink m k r → IsSoleLink (rule_added source new m) k r
      stays r y = record {
        link = link-stays r.dest (not-free r dest y h.dest_free (same dest r.dest) refl) ∙ y.link;
        dest = y.dest;
        there = other-after r.dest (same-sym r.dest source ∙ not-free r source y h.source_free (same source r.dest) refl) ∙ y.there;
        no_rules = y.no_rules;
      }

  linked-after : IsLinked (rule_added source new m)
  linked-after k c x = go (which k c x)
    where
      go : Which k c → EachRule (IsSoleLink (rule_added source new m) k) c.rules
      go (IsDest e f) = subst (λ (q : Record). EachRule (IsSoleLink (rule_added source new m) k) q.rules) (sym f)
          (subst (λ (j : Key). EachRule (IsSoleLink (rule_added source new m) j) d.rules) (sym e) (sole-after dest d h.dest_there))
      go (IsSource e f) = subst (λ (q : Record). EachRule (IsSoleLink (rule_added source new m) k) q.rules) (sym f)
          (subst (λ (j : Key). EachRule (IsSoleLink (rule_added source new m) j) (add_rule new s).rules) (sym e)
          (each-rule-append (IsSoleLink (rule_added source new m) source) s.rules new (sole-after source s h.source_there)
          (record { link = link-made; dest = d; there = dest-after; no_rules = h.dest_rules })))
      go (IsOther e f) = sole-after k c f

  -- Adding the rule changes nothing that is shown.
  pub shown-added : (k : Key) (c : Record) → get k (rule_added source new m) ≡ Some c → shown (rule_added source new m) k ≡ shown m k
  shown-added k c x = shown-there (rule_added source new m) k c x ∙ go (which k c x)
    where
      unlinked : (j : Key) (q : Record) → get j m ≡ Some q → link_to m j ≡ None → q.plain ≡ shown m j
      unlinked j q y z = sym (shown-there m j q y ∙ ap (λ (o : Option Link). shown_by (option_map (λ (l : Link). l.rule) o) q) z)

      go : Which k c → shown_by (rule_into (rule_added source new m) k) c ≡ shown m k
      go (IsDest e f) =
          ap (shown_by (rule_into (rule_added source new m) k)) f
          ∙ ap (λ (o : Option Rule). shown_by o d) (ap (rule_into (rule_added source new m)) e ∙ rule-dest)
          ∙ shown-open new d h.open_alone (own-kept m dest d v.settled h.dest_there) ∙ unlinked dest d h.dest_there h.dest_free ∙ ap (shown m) (sym e)
      go (IsSource e f) =
          ap (shown_by (rule_into (rule_added source new m) k)) f
          ∙ ap (λ (o : Option Rule). shown_by o (add_rule new s)) (ap (rule_into (rule_added source new m)) e ∙ rule-source)
          ∙ unlinked source s h.source_there h.source_free ∙ ap (shown m) (sym e)
      go (IsOther e f) = ap (λ (o : Option Rule). shown_by o c) (rule-other k e) ∙ sym (shown-there m k c f)

  within-after : (k : Key) (c : Record) → get k (rule_added source new m) ≡ Some c → IsWithin limits (rule_added source new m) k c
  within-after k c x = go (which k c x)
    where
      move : (j : Key) (q : Record) → get j (rule_added source new m) ≡ Some q → IsWithin limits m j q → IsWithin limits (rule_added source new m) j q
      move j q y w = record { labels = w.labels; rules = w.rules; born = w.born; samples = subst (λ (ps : List Point). length ps ≤ limits.samples) (sym (shown-added j q y)) w.samples }

      go : Which k c → IsWithin limits (rule_added source new m) k c
      go (IsDest e f) = move k c x (subst (λ (q : Record). IsWithin limits m k q) (sym f) (subst (λ (j : Key). IsWithin limits m j d) (sym e) (v.within dest d h.dest_there)))
      go (IsOther e f) = move k c x (v.within k c f)
      go (IsSource e f) =
          let w : IsWithin limits m source s = v.within source s h.source_there in
          let rules : length (s.rules ++ new ∷ []) ≡ length s.rules + 1 = length-append_one s.rules new in
          let room : length s.rules < limits.rules = h.rules in
          subst (IsWithin limits (rule_added source new m) k) (sym f) (record {
            labels = w.labels;
            rules = omega arith;
            born = w.born;
            samples = subst (λ (ps : List Point). length ps ≤ limits.samples) (sym (shown-added k c x)) (subst (λ (j : Key). length (shown m j) ≤ limits.samples) (sym e) w.samples);
          })

  -- Adding the rule keeps the state valid.
  pub valid-added : IsValid limits (rule_added source new m)
  valid-added = record {
    sound = λ k c x. sound (which k c x);
    linked = linked-after;
    settled = settled-by (rule_added source new m) tidy-after expire-after;
    keys = subst (λ (n : ℕ). n ≤ limits.keys) (sym (count-each (λ k c. if same k source then add_rule new c else c) m)) v.keys;
    within = within-after;
  }
    where
      sound : {k : Key} {c : Record} → Which k c → IsSound c
      sound (IsDest e f) = subst IsSound (sym f) (v.sound dest d h.dest_there)
      sound (IsSource e f) = subst IsSound (sym f) (sound-added new s (v.sound source s h.source_there) h.after h.sound)
      sound {k} {c} (IsOther e f) = v.sound k c f
