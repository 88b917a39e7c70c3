-- Ending rules keeps a state valid.
use Rattle.std.proofs.Common.{◌≡◌, ℕ, ◌≤◌, Bool, true, false, not, nat_le, if◌then◌else◌, List, [], map, filter, length, Option, Some, None, option_map, refl, sym, ap, ◌∙◌, subst, arith, inl, inr, ◌⊎◌}
use Rattle.std.specs.Option.{option_or}
use Rattle.std.proofs.lemmas.Bool.{false≢true}
use Rattle.ts_spec.specs.declared.limits.Limits.{Limits}
use Rattle.ts_spec.specs.Sample.{Point, IsAscending, at, at_times, put_all}
use Rattle.ts_spec.specs.Key.{Key}
use Rattle.ts_spec.specs.Keyed.{get}
use Rattle.ts_spec.specs.State.{Rule, Record, State, Link, rule_to, link_to, rule_into, edge}
use Rattle.ts_spec.specs.Rules.{has_row_of, bucket_sample, closed_rows, is_row_by, tidied_by, edge_at, expired, expired_in, expire_record, shown, shown_by, ends_into, ended_in, ended}
use Rattle.ts_spec.specs.Valid.{Every, EachRule, IsCountable, IsSoundRule, IsOwn, IsSound, IsSoleLink, IsWithin, IsValid}
use Rattle.ts_spec.proofs.Maps.{get-each, count-each}
use Rattle.ts_spec.proofs.Links.{Found, link-found}
use Rattle.ts_spec.proofs.Linked.{From, get-from, get-to, link-target, IsTarget}
use Rattle.ts_spec.proofs.Shows.{at-shown, ascending-shown}
use Rattle.ts_spec.proofs.Settles.{times-within}
use Rattle.ts_spec.proofs.Tidy.{some-same, record-tidy, high-tidy}
use Rattle.ts_spec.proofs.PlainWrite.{own-kept}
use Rattle.ts_spec.proofs.Unmoved.{map-kept}
use Rattle.ts_spec.proofs.Sound.{each-rule-to}
use Rattle.ts_spec.proofs.Bodies.{shown-alike}
use Rattle.ts_spec.proofs.Keeps.{shown-there}
use Rattle.ts_spec.proofs.RuleLists.{each-rule-filter, each-rule-passes, each-rule-both, in_order-filter, length-filter, rule_to-filter, link-by-rule, rule-link, settled-by, rules-expired, tidy-unlinked}

module _ (limits : Limits) (m : State) (ends : Key → Key → Bool) (v : IsValid limits m) where
  get-ended : (k : Key) (d : Record) → get k m ≡ Some d → get k (ended ends m) ≡ Some (ended_in ends m k d)
  get-ended k d x = get-to (λ j c. ended_in ends m j c) k m d x

  -- ---- links

  -- a remaining link existed before, and its rule does not end
  pub link-before : (k : Key) (l : Link) → link_to (ended ends m) k ≡ Some l → (link_to m k ≡ Some l) × (ends l.source k ≡ false)
  link-before k l x =
      let f : Found (ended ends m).entries k l = link-found (ended ends m) k l x in
      let from : From (ended_in ends m l.source) (get l.source m) f.record_of = get-from (λ j c. ended_in ends m j c) l.source m f.record_of f.there in
      let rule : (if not (ends l.source k) then rule_to k from.value.rules else None) ≡ Some l.rule =
      sym (rule_to-filter (λ j. not (ends l.source j)) k from.value.rules) ∙ ap (λ (q : Record). rule_to k q.rules) from.gives ∙ f.rule in
      go from.value from.is (ends l.source k) refl rule
    where
      go : (c : Record) → get l.source m ≡ Some c → (b : Bool) → ends l.source k ≡ b → (if not b then rule_to k c.rules else None) ≡ Some l.rule →
          (link_to m k ≡ Some l) × (ends l.source k ≡ false)
      go c y true e z = absurd (cc z)
      go c y false e z = (rule-link m l.source k c l.rule v.linked y z, e)

  -- a rule that does not end remains
  pub link-left : (k : Key) (l : Link) → link_to m k ≡ Some l → ends l.source k ≡ false → link_to (ended ends m) k ≡ Some l
  link-left k l x e =
      let f : Found m.entries k l = link-found m k l x in
      link-by-rule (ended ends m) l.source k (ended_in ends m l.source f.record_of) l.rule (get-ended l.source f.record_of f.there)
      (rule_to-filter (λ j. not (ends l.source j)) k f.record_of.rules ∙ ap (λ (b : Bool). if not b then rule_to k f.record_of.rules else None) e ∙ f.rule)
      (λ q y. some-same q l (sym (link-before k q y).0 ∙ x))

  pub link-gone : (k : Key) (l : Link) → link_to m k ≡ Some l → ends l.source k ≡ true → link_to (ended ends m) k ≡ None
  link-gone k l x e = go (link_to (ended ends m) k) refl
    where
      go : (o : Option Link) → link_to (ended ends m) k ≡ o → o ≡ None
      go None y = refl
      go (Some q) y =
          let eq : q ≡ l = some-same q l (sym (link-before k q y).0 ∙ x) in
          absurd (false≢true (sym (link-before k q y).1 ∙ ap (λ (z : Link). ends z.source k) eq ∙ e))

  pub link-none-left : (k : Key) → link_to m k ≡ None → link_to (ended ends m) k ≡ None
  link-none-left k x = go (link_to (ended ends m) k) refl
    where
      go : (o : Option Link) → link_to (ended ends m) k ≡ o → o ≡ None
      go None y = refl
      go (Some q) y = let one : None ≡ Some q = sym x ∙ (link-before k q y).0 in absurd (cc one)

  -- ---- the link to a key, and what becomes of it

  data Fate (k : Key) : Type 0 where
    Free : link_to m k ≡ None → Fate k
    Gone : (l : Link) → link_to m k ≡ Some l → ends l.source k ≡ true → Fate k
    Left : (l : Link) → link_to m k ≡ Some l → ends l.source k ≡ false → Fate k

  fate : (k : Key) → Fate k
  fate k = go (link_to m k) refl
    where
      go : (o : Option Link) → link_to m k ≡ o → Fate k
      go None x = Free x
      go (Some l) x = again (ends l.source k) refl
        where
          again : (b : Bool) → ends l.source k ≡ b → Fate k
          again true e = Gone l x e
          again false e = Left l x e

  -- its record shows by the remaining link what it showed before
  shown-kept : (k : Key) (d : Record) → get k m ≡ Some d → Fate k → shown_by (rule_into (ended ends m) k) (ended_in ends m k d) ≡ shown_by (rule_into m k) d
  shown-kept k d x (Free y) =
      ap (λ (o : Option Link). shown_by (option_map (λ (l : Link). l.rule) o) (ended_in ends m k d)) (link-none-left k y)
      ∙ ap (λ (o : Option Link). if ends_into ends k o then shown_by (option_map (λ (l : Link). l.rule) o) d else d.plain) y
      ∙ ap (λ (o : Option Link). shown_by (option_map (λ (l : Link). l.rule) o) d) (sym y)
  shown-kept k d x (Gone l y e) =
      ap (λ (o : Option Link). shown_by (option_map (λ (l : Link). l.rule) o) (ended_in ends m k d)) (link-gone k l y e)
      ∙ ap (λ (b : Bool). if b then shown_by (rule_into m k) d else d.plain) (ap (ends_into ends k) y ∙ e)
  shown-kept k d x (Left l y e) =
      ap (λ (o : Option Link). shown_by (option_map (λ (l : Link). l.rule) o) (ended_in ends m k d)) (link-left k l y e ∙ sym y)
      ∙ shown-alike (rule_into m k) (ended_in ends m k d) d
      (record { options = refl; labels = refl; plain = ap (λ (b : Bool). if b then shown_by (rule_into m k) d else d.plain) (ap (ends_into ends k) y ∙ e); high = refl; born = refl })

  -- Ending rules changes nothing that is shown.
  pub shown-ended : (k : Key) (d : Record) → get k m ≡ Some d → shown (ended ends m) k ≡ shown m k
  shown-ended k d x = shown-there (ended ends m) k (ended_in ends m k d) (get-ended k d x) ∙ shown-kept k d x (fate k) ∙ sym (shown-there m k d x)

  -- ---- sound

  shown-own : (k : Key) (d : Record) → get k m ≡ Some d → (o : Option Rule) → rule_into m k ≡ o → Every (IsOwn d) (shown_by o d)
  shown-own k d x None y = (v.sound k d x).own
  shown-own k d x (Some r) y = λ t p e. own t p (nat_le (edge d) t) (sym (at-shown r d t) ∙ e)
    where
      own : (t : ℕ) (p : Point) (b : Bool) → (if b then option_or (if has_row_of r t then Some (bucket_sample r d.born t) else None) (at t d.plain) else None) ≡ Some p → IsOwn d p
      own t p false z = absurd (cc z)
      own t p true z = inner (has_row_of r t) refl z
        where
          inner : (c : Bool) → has_row_of r t ≡ c → option_or (if c then Some (bucket_sample r d.born t) else None) (at t d.plain) ≡ Some p → IsOwn d p
          inner false f w = (v.sound k d x).own t p w
          inner true f w =
              subst (IsOwn d) (some-same (bucket_sample r d.born t) p w)
              (record { time = high-tidy m k d t v.settled x (ap (λ (q : Option Rule). is_row_by q t) y ∙ f); made = omega arith })

  sound-rules : (d : Record) (plain : List Point) → IsSound d → (k : Key) → (plain ≡ d.plain) ⊎ (d.rules ≡ []) →
      EachRule (IsSoundRule (record d { plain = plain; rules = filter (λ r. not (ends k r.dest)) d.rules })) (filter (λ r. not (ends k r.dest)) d.rules)
  sound-rules d plain s k (inl e) =
      each-rule-filter (IsSoundRule (record d { plain = plain; rules = filter (λ r. not (ends k r.dest)) d.rules })) (λ r. not (ends k r.dest)) d.rules
      (each-rule-to (IsSoundRule d) (IsSoundRule (record d { plain = plain; rules = filter (λ r. not (ends k r.dest)) d.rules })) d.rules
      (λ r x. record {
        made_from = x.made_from;
        made_to = x.made_to;
        ascending = x.ascending;
        seen = λ t p f. (let c : IsCountable d r p = x.seen t p f in record { since = c.since; made = c.made; time = c.time });
        eligible = λ t p f. x.eligible t p (ap (at t) (sym e) ∙ f);
        top = x.top;
      }) s.rules)
  sound-rules d plain s k (inr e) =
      subst (EachRule (IsSoundRule (record d { plain = plain; rules = filter (λ r. not (ends k r.dest)) d.rules }))) (sym (ap (filter (λ r. not (ends k r.dest))) e)) tt

  sound-of : (k : Key) (d : Record) (plain : List Point) → IsSound d → IsAscending plain → Every (IsOwn d) plain → (plain ≡ d.plain) ⊎ (d.rules ≡ []) →
      IsSound (record d { plain = plain; rules = filter (λ r. not (ends k r.dest)) d.rules })
  sound-of k d plain s asc own e = record {
    ascending = asc;
    own = λ t p f. (let o : IsOwn d p = own t p f in record { time = o.time; made = o.made });
    in_order = in_order-filter (λ r. not (ends k r.dest)) d.rules s.in_order;
    rules = sound-rules d plain s k e;
  }

  pub sound-ended : (k : Key) (d : Record) → get k m ≡ Some d → IsSound (ended_in ends m k d)
  sound-ended k d x = go (fate k)
    where
      s : IsSound d
      s = v.sound k d x

      same_plain : ends_into ends k (link_to m k) ≡ false → IsSound (ended_in ends m k d)
      same_plain e =
          subst (λ (ps : List Point). IsSound (record d { plain = ps; rules = filter (λ r. not (ends k r.dest)) d.rules })) (ap (λ (b : Bool). if b then shown_by (rule_into m k) d else d.plain) (sym e))
          (sound-of k d d.plain (v.sound k d x) (v.sound k d x).ascending (v.sound k d x).own (inl refl))

      go : Fate k → IsSound (ended_in ends m k d)
      go (Free y) = same_plain (ap (ends_into ends k) y)
      go (Left l y e) = same_plain (ap (ends_into ends k) y ∙ e)
      go (Gone l y e) =
          let t : IsTarget m k = link-target m k l v.linked y in
          let none : d.rules ≡ [] = ap (λ (q : Record). q.rules) (some-same d t.record_of (sym x ∙ t.there)) ∙ t.no_rules in
          subst (λ (ps : List Point). IsSound (record d { plain = ps; rules = filter (λ r. not (ends k r.dest)) d.rules })) (ap (λ (b : Bool). if b then shown_by (rule_into m k) d else d.plain) (sym (ap (ends_into ends k) y ∙ e)))
          (sound-of k d (shown_by (rule_into m k) d) (v.sound k d x) (ascending-shown (rule_into m k) d (v.sound k d x).ascending) (shown-own k d x (rule_into m k) refl) (inr none))

  -- ---- settled

  pub plain-left : (k : Key) (d : Record) → ends_into ends k (link_to m k) ≡ false → (ended_in ends m k d).plain ≡ d.plain
  plain-left k d e = ap (λ (b : Bool). if b then shown_by (rule_into m k) d else d.plain) e

  tidy-ended : (k : Key) (d : Record) → get k m ≡ Some d → Fate k → tidied_by (rule_into (ended ends m) k) (ended_in ends m k d) ≡ ended_in ends m k d
  tidy-ended k d x (Free y) =
      ap (λ (o : Option Link). tidied_by (option_map (λ (l : Link). l.rule) o) (ended_in ends m k d)) (link-none-left k y)
      ∙ tidy-unlinked (ended_in ends m k d)
      (subst (λ (ps : List Point). at_times (nat_le (edge d)) ps ≡ ps) (sym (plain-left k d (ap (ends_into ends k) y))) (own-kept m k d v.settled x))
  tidy-ended k d x (Gone l y e) =
      ap (λ (o : Option Link). tidied_by (option_map (λ (l : Link). l.rule) o) (ended_in ends m k d)) (link-gone k l y e)
      ∙ tidy-unlinked (ended_in ends m k d)
      (subst (λ (ps : List Point). at_times (nat_le (edge d)) ps ≡ ps) (ap (λ (b : Bool). if b then shown_by (rule_into m k) d else d.plain) (sym (ap (ends_into ends k) y ∙ e)))
      (subst (λ (o : Option Link). at_times (nat_le (edge d)) (shown_by (option_map (λ (q : Link). q.rule) o) d) ≡ shown_by (option_map (λ (q : Link). q.rule) o) d) (sym y)
      (times-within (nat_le (edge d)) (nat_le (edge d)) (put_all (closed_rows l.rule d.born) d.plain) (λ t z. z))))
  tidy-ended k d x (Left l y e) =
      let whole : ended_in ends m k d ≡ record d { rules = filter (λ r. not (ends k r.dest)) d.rules } =
      (let plain : (ended_in ends m k d).plain ≡ d.plain = plain-left k d (ap (ends_into ends k) y ∙ e) in λ i. record (ended_in ends m k d) { plain = plain i }) in
      ap (λ (o : Option Link). tidied_by (option_map (λ (q : Link). q.rule) o) (ended_in ends m k d)) (link-left k l y e ∙ sym y)
      ∙ ap (tidied_by (rule_into m k)) whole
      ∙ ap (λ (q : Record). record q { rules = filter (λ r. not (ends k r.dest)) d.rules }) (record-tidy m k d v.settled x)
      ∙ sym whole

  edges-left : (k : Key) → edge_at (get k (ended ends m)) ≡ edge_at (get k m)
  edges-left k = ap edge_at (get-each (λ j c. ended_in ends m j c) k m) ∙ go (get k m)
    where
      go : (o : Option Record) → edge_at (option_map (ended_in ends m k) o) ≡ edge_at o
      go None = refl
      go (Some d) = refl

  expire-ended : (k : Key) (d : Record) → get k m ≡ Some d → expire_record (ended ends m) (ended_in ends m k d) ≡ ended_in ends m k d
  expire-ended k d x =
      let rules : map (expired_in (ended ends m)) (filter (λ r. not (ends k r.dest)) d.rules) ≡ filter (λ r. not (ends k r.dest)) d.rules =
      map-kept (expired_in (ended ends m)) (λ r. expired_in m r ≡ r) (filter (λ r. not (ends k r.dest)) d.rules) (λ r e. ap (λ (n : ℕ). expired n r) (edges-left r.dest) ∙ e)
      (each-rule-filter (λ r. expired_in m r ≡ r) (λ r. not (ends k r.dest)) d.rules (rules-expired m k d v.settled x)) in
      λ i. record (ended_in ends m k d) { rules = rules i }

  from-ended : (k : Key) (c : Record) → get k (ended ends m) ≡ Some c → From (ended_in ends m k) (get k m) c
  from-ended k c x = get-from (λ j d. ended_in ends m j d) k m c x

  sole-ended : (k : Key) (d : Record) → get k m ≡ Some d → EachRule (IsSoleLink (ended ends m) k) (filter (λ r. not (ends k r.dest)) d.rules)
  sole-ended k d x =
      each-rule-to (λ r. IsSoleLink m k r × (not (ends k r.dest) ≡ true)) (IsSoleLink (ended ends m) k) (filter (λ r. not (ends k r.dest)) d.rules)
      (λ r y. record {
        link = link-left r.dest (record { source = k; rule = r }) y.0.link (untrue (ends k r.dest) y.1);
        dest = ended_in ends m r.dest y.0.dest;
        there = get-ended r.dest y.0.dest y.0.there;
        no_rules = ap (filter (λ q. not (ends r.dest q.dest))) y.0.no_rules;
      })
      (each-rule-both (IsSoleLink m k) (λ r. not (ends k r.dest) ≡ true) (filter (λ r. not (ends k r.dest)) d.rules)
      (each-rule-filter (IsSoleLink m k) (λ r. not (ends k r.dest)) d.rules (v.linked k d x))
      (each-rule-passes (λ r. not (ends k r.dest)) d.rules))
    where
      untrue : (b : Bool) → not b ≡ true → b ≡ false
      untrue true e = absurd (false≢true e)
      untrue false e = refl

  -- Ending rules keeps the state valid.
  pub valid-ended : IsValid limits (ended ends m)
  valid-ended = record {
    sound = λ k c x. (let f : From (ended_in ends m k) (get k m) c = from-ended k c x in subst IsSound f.gives (sound-ended k f.value f.is));
    linked = λ k c x. (let f : From (ended_in ends m k) (get k m) c = from-ended k c x in subst (λ (q : Record). EachRule (IsSoleLink (ended ends m) k) q.rules) f.gives (sole-ended k f.value f.is));
    settled = settled-by (ended ends m)
        (λ k c x. (let f : From (ended_in ends m k) (get k m) c = from-ended k c x in
        subst (λ (q : Record). tidied_by (rule_into (ended ends m) k) q ≡ q) f.gives (tidy-ended k f.value f.is (fate k))))
        (λ k c x. (let f : From (ended_in ends m k) (get k m) c = from-ended k c x in subst (λ (q : Record). expire_record (ended ends m) q ≡ q) f.gives (expire-ended k f.value f.is)));
    keys = subst (λ (n : ℕ). n ≤ limits.keys) (sym (count-each (λ k c. ended_in ends m k c) m)) v.keys;
    within = λ k c x. (let f : From (ended_in ends m k) (get k m) c = from-ended k c x in subst (IsWithin limits (ended ends m) k) f.gives (within k f.value f.is));
  }
    where
      within : (k : Key) (d : Record) → get k m ≡ Some d → IsWithin limits (ended ends m) k (ended_in ends m k d)
      within k d x =
          let w : IsWithin limits m k d = v.within k d x in
          let fewer : length (filter (λ r. not (ends k r.dest)) d.rules) ≤ length d.rules = length-filter (λ r. not (ends k r.dest)) d.rules in
          let room : length d.rules ≤ limits.rules = w.rules in
          record {
            labels = w.labels;
            rules = omega arith;
            born = w.born;
            samples = subst (λ (ps : List Point). length ps ≤ limits.samples) (sym (shown-ended k d x)) w.samples;
          }
