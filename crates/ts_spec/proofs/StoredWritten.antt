-- Storing and writing commute.
use Rattle.std.proofs.Common.{◌≡◌, ℕ, ℤ, Bool, false, ◌&&◌, ◌==◌, nat_le, if◌then◌else◌, List, [], ◌∷◌, map, Option, Some, None, option_map, refl, sym, ap, ◌∙◌, subst}
use Rattle.std.proofs.lemmas.Bool.{false≢true}
use Rattle.ts_spec.specs.declared.limits.Limits.{Limits}
use Rattle.ts_spec.specs.Sample.{Point, at_times, put}
use Rattle.ts_spec.specs.Key.{Key, same}
use Rattle.ts_spec.specs.Keyed.{get}
use Rattle.ts_spec.specs.State.{Rule, Record, State, Link, rule_to, link_to, rule_into, edge_of}
use Rattle.ts_spec.specs.Rules.{is_row_by, raised, is_append, sample_for, counted, with_sample, write_touches, high_at, high_by, cleared_to, lost_by, shown, shown_by, written}
use Rattle.ts_spec.specs.Valid.{EachRule, EachRecord, IsSound, IsSoundRule, IsValid}
use Rattle.ts_spec.specs.StoredSeries.{StoredRule, StoredSeries, stored_rule, stored_record, kept}
use Rattle.ts_spec.specs.StoredUpdates.{stored_rule_to, written_rule, written_row, stored_with, updated_by_write, after_write, keys_written}
use Rattle.ts_spec.proofs.Keys.{same-true, same-refl}
use Rattle.ts_spec.proofs.Maps.{get-each, maps-same}
use Rattle.ts_spec.proofs.Links.{Found, link-found}
use Rattle.ts_spec.proofs.Linked.{IsTarget, link-target, each-rule-at}
use Rattle.ts_spec.proofs.RuleLists.{rule-link}
use Rattle.ts_spec.proofs.Settles.{upto-raised, high-same, told-cleared}
use Rattle.ts_spec.proofs.Tidy.{some-same, high-tidy}
use Rattle.ts_spec.proofs.SoundWrites.{sound-written}
use Rattle.ts_spec.proofs.Bodies.{bodies, sound-bodies, link-bodies-none, IsElsewhere}
use Rattle.ts_spec.proofs.Keeps.{Place, Here, Destination, Elsewhere, place-of, shown-there}
use Rattle.ts_spec.proofs.Exact.{IsDone, own-rule, dest-other}
use Rattle.ts_spec.proofs.ClientChanges.{write-done, shown-written}
use Rattle.ts_spec.proofs.StoredMaps.{kept-there, rule_to-kept}
use Rattle.ts_spec.proofs.Deleted.{source-free}
use Rattle.ts_spec.proofs.StoredBodies.{kept-bodies, kept-elsewhere}
use Rattle.ts_spec.proofs.Mends.{IsUpdate, kept-updated_list}
use Rattle.ts_spec.proofs.WrittenCounts.{counted_by}
use Rattle.ts_spec.proofs.WrittenRules.{kept-counted}
use Rattle.ts_spec.proofs.WrittenRows.{write-mends}

module _ (limits : Limits) (m : State) (key : Key) (d : Record) (t : ℕ) (v : ℤ) (h : IsValid limits m) (there : get key m ≡ Some d) where
  -- what the write does to the rules of a record
  abbrev counts : Record → Rule → Rule
  counts c r = counted (sample_for t v c) c.high (put (sample_for t v c) c.plain) r

  done : IsDone m key d (with_sample t v) counts
  done = write-done limits m key d t v h there

  sound_after : EachRecord (λ k c. IsSound c) (written key t v m)
  sound_after = sound-bodies key (with_sample t v) (write_touches t (high_at (get key m))) (λ b. b == t) m (λ c x. sound-written t v c x) h.sound

  -- ---- the key itself

  own-high : high_by (rule_into (bodies key (with_sample t v) (write_touches t (high_at (get key m))) (λ b. b == t) m) key) (raised t d.high) ≡ raised t d.high
  own-high = go (link_to m key) refl
    where
      go : (o : Option Link) → link_to m key ≡ o → high_by (rule_into (bodies key (with_sample t v) (write_touches t (high_at (get key m))) (λ b. b == t) m) key) (raised t d.high) ≡ raised t d.high
      go None x =
          ap (λ (o : Option Link). high_by (option_map (λ (l : Link). l.rule) o) (raised t d.high))
          (link-bodies-none key (with_sample t v) counts (write_touches t (high_at (get key m))) (λ b. b == t) m key done.keeps x)
      go (Some l) x =
          ap (λ (o : Option Rule). high_by o (raised t d.high)) (own-rule m key d (with_sample t v) counts (write_touches t (high_at (get key m))) (λ b. b == t) done l x)
          ∙ high-same (Some (cleared_to key (λ b. b == t) l.rule)) (raised t d.high)
          (λ b y. upto-raised t b d.high (high-tidy m key d b h.settled there
          (ap (λ (o : Option Link). is_row_by (option_map (λ (q : Link). q.rule) o) b) x ∙ told-cleared (λ c. same l.rule.dest key && (c == t)) (Some l.rule) b y)))

  own-rules : map stored_rule (map (counted_by t v d) d.rules) ≡
      map (written_rule (is_append t d.high) (sample_for t v d) (put (sample_for t v d) (shown_by (rule_into m key) d))) (map stored_rule d.rules)
  own-rules = go (link_to m key) refl
    where
      each : (rs : List Rule) → EachRule (IsSoundRule d) rs → map stored_rule (map (counted_by t v d) rs) ≡
          map (written_rule (is_append t d.high) (sample_for t v d) (put (sample_for t v d) d.plain)) (map stored_rule rs)
      each [] x = refl
      each (r ∷ rs) x =
          let first : stored_rule (counted_by t v d r) ≡ written_rule (is_append t d.high) (sample_for t v d) (put (sample_for t v d) d.plain) (stored_rule r) =
          kept-counted t v d (h.sound key d there) r x.0 in
          let rest : map stored_rule (map (counted_by t v d) rs) ≡ map (written_rule (is_append t d.high) (sample_for t v d) (put (sample_for t v d) d.plain)) (map stored_rule rs) = each rs x.1 in
          λ i. first i ∷ rest i

      none : (l : Link) → link_to m key ≡ Some l → d.rules ≡ []
      none l x =
          let q : IsTarget m key = link-target m key l h.linked x in
          ap (λ (c : Record). c.rules) (some-same d q.record_of (sym there ∙ q.there)) ∙ q.no_rules

      go : (o : Option Link) → link_to m key ≡ o → map stored_rule (map (counted_by t v d) d.rules) ≡
          map (written_rule (is_append t d.high) (sample_for t v d) (put (sample_for t v d) (shown_by (option_map (λ (l : Link). l.rule) o) d))) (map stored_rule d.rules)
      go None x = each d.rules (h.sound key d there).rules
      go (Some l) x =
          ap (λ (rs : List Rule). map stored_rule (map (counted_by t v d) rs)) (none l x)
          ∙ ap (λ (rs : List Rule). map (written_rule (is_append t d.high) (sample_for t v d) (put (sample_for t v d) (shown_by (Some l.rule) d))) (map stored_rule rs)) (sym (none l x))

  pub kept-own : get key (kept (written key t v m)) ≡ Some (stored_with t v (stored_record (link_to m key) d))
  kept-own =
      kept-bodies key (with_sample t v) counts (write_touches t (high_at (get key m))) (λ b. b == t) m done.keeps key d there
      ∙ ap (λ (b : Bool). Some (record (stored_record (link_to m key) (if b then with_sample t v d else d)) {
        list = shown (written key t v m) key;
        high = high_by (rule_into (bodies key (with_sample t v) (write_touches t (high_at (get key m))) (λ b. b == t) m) key) (if b then with_sample t v d else d).high;
      })) (same-refl key)
      ∙ (let list : shown (written key t v m) key ≡ (stored_with t v (stored_record (link_to m key) d)).list =
      shown-written limits m key d t v h there ∙ ap (λ (ps : List Point). at_times (nat_le (edge_of d.options.retention (raised t d.high))) (put (sample_for t v d) ps)) (shown-there m key d there) in
      λ i. Some (record (stored_record (link_to m key) (with_sample t v d)) { list = list i; high = own-high i; rules = own-rules i }))

  -- ---- the other keys

  -- the stored rule to another key
  rule-kept : (k : Key) (r : Rule) → link_to m k ≡ Some (record { source = key; rule = r }) → rule_to k d.rules ≡ Some r
  rule-kept k r x =
      let f : Found m.entries k (record { source = key; rule = r }) = link-found m k (record { source = key; rule = r }) x in
      ap (λ (c : Record). rule_to k c.rules) (some-same d f.record_of (sym there ∙ f.there)) ∙ f.rule

  -- the key before the write
  abbrev source : StoredSeries
  source = stored_record (link_to m key) d

  -- the stored series of a key that a rule of the source writes to, or no rule
  after-there : (k : Key) (c : StoredSeries) (o : Option StoredRule) → same k key ≡ false → stored_rule_to k (map stored_rule d.rules) ≡ o → after_write key t v (Some source) k c ≡ updated_by_write t v source o c
  after-there k c o x y = ap (λ (b : Bool). if b then stored_with t v c else updated_by_write t v source (stored_rule_to k (map stored_rule d.rules)) c) x ∙ ap (λ (q : Option StoredRule). updated_by_write t v source q c) y

  pub kept-dest : (k : Key) (r : Rule) → link_to m k ≡ Some (record { source = key; rule = r }) → get k (kept (written key t v m)) ≡ option_map (after_write key t v (Some source) k) (get k (kept m))
  kept-dest k r x =
      kept-updated_list m key d (with_sample t v) counts (write_touches t (high_at (get key m))) (λ b. b == t) done h.sound sound_after k r dest.record_of (λ b. false) rows x dest.there mends
      ∙ sym (ap (option_map (after_write key t v (Some source) k)) (kept-there m k dest.record_of dest.there)
      ∙ ap (λ (c : StoredSeries). Some c) (after-there k (stored_record (link_to m k) dest.record_of) (Some (stored_rule r))
      (dest-other m key d (with_sample t v) counts (write_touches t (high_at (get key m))) (λ b. b == t) done k r x)
      (rule_to-kept k d.rules ∙ ap (option_map stored_rule) (rule-kept k r x)))
      ∙ ap (λ (o : Option Link). Some (updated_by_write t v (stored_record o d) (Some (stored_rule r)) (stored_record (link_to m k) dest.record_of))) (source-free m key k d r h.linked there (rule-kept k r x))
      ∙ ap (λ (o : Option Link). Some (updated_by_write t v (stored_record None d) (Some (stored_rule r)) (stored_record o dest.record_of))) x)
    where
      dest : IsTarget m k
      dest = link-target m k (record { source = key; rule = r }) h.linked x

      rows : List Point
      rows = written_row (sample_for t v d) (put (sample_for t v d) d.plain) dest.record_of.born (stored_rule r)

      mends : IsUpdate r (counts d r) dest.record_of.born (lost_by key (write_touches t (high_at (get key m))) (Some (record { source = key; rule = counts d r }))) (λ b. false) rows
      mends =
          subst (λ (o : Option Record). IsUpdate r (counts d r) dest.record_of.born (lost_by key (write_touches t (high_at o)) (Some (record { source = key; rule = counts d r }))) (λ b. false) rows) (sym there)
          (write-mends t v d (h.sound key d there) r (each-rule-at (IsSoundRule d) k d.rules r (rule-kept k r x) (h.sound key d there).rules) dest.record_of.born key)

  pub kept-other : (k : Key) → IsElsewhere m key k → get k (kept (written key t v m)) ≡ option_map (after_write key t v (Some source) k) (get k (kept m))
  kept-other k e =
      kept-elsewhere key (with_sample t v) counts (write_touches t (high_at (get key m))) (λ b. b == t) m done.keeps k h.settled e ∙ go (get k (kept m))
    where
      no_rule : (o : Option Rule) → rule_to k d.rules ≡ o → o ≡ None
      no_rule None x = refl
      no_rule (Some r) x = absurd (false≢true (sym (e.linked (record { source = key; rule = r }) (rule-link m key k d r h.linked there x)) ∙ same-refl key))

      go : (o : Option StoredSeries) → o ≡ option_map (after_write key t v (Some source) k) o
      go None = refl
      go (Some c) = sym (ap (λ (q : StoredSeries). Some q) (after-there k c None e.other (rule_to-kept k d.rules ∙ ap (option_map stored_rule) (no_rule (rule_to k d.rules) refl))))

  -- Storing and writing commute.
  pub kept-written : kept (written key t v m) ≡ keys_written key t v (kept m)
  kept-written = maps-same (kept (written key t v m)) (keys_written key t v (kept m))
      (λ k. at-key k (place-of m key k)
      ∙ ap (λ (o : Option StoredSeries). option_map (after_write key t v o k) (get k (kept m))) (sym (kept-there m key d there))
      ∙ sym (get-each (after_write key t v (get key (kept m))) k (kept m)))
    where
      here : get key (kept (written key t v m)) ≡ option_map (after_write key t v (Some source) key) (get key (kept m))
      here =
          kept-own
          ∙ sym (ap (option_map (after_write key t v (Some source) key)) (kept-there m key d there)
          ∙ ap (λ (b : Bool). Some (if b then stored_with t v source else updated_by_write t v source (stored_rule_to key (map stored_rule d.rules)) source)) (same-refl key))

      at-key : (k : Key) → Place m key k → get k (kept (written key t v m)) ≡ option_map (after_write key t v (Some source) k) (get k (kept m))
      at-key k (Here x) = subst (λ (j : Key). get j (kept (written key t v m)) ≡ option_map (after_write key t v (Some source) j) (get j (kept m))) (sym (same-true k key x)) here
      at-key k (Destination l x y) = kept-dest k l.rule (x ∙ ap (λ (j : Key). Some (record { source = j; rule = l.rule })) (same-true l.source key y))
      at-key k (Elsewhere e) = kept-other k e
