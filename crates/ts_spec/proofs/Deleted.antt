-- Storing and deleting commute.
use Rattle.std.proofs.Common.{◌≡◌, ℕ, Bool, false, not, ◌&&◌, if◌then◌else◌, List, [], ◌∷◌, map, Option, Some, None, option_map, refl, sym, ap, ◌∙◌, subst}
use Rattle.std.proofs.lemmas.Bool.{false≢true}
use Rattle.ts_spec.specs.declared.limits.Limits.{Limits}
use Rattle.ts_spec.specs.Sample.{Point, IsAscending, between, outside, is_within}
use Rattle.ts_spec.specs.Key.{Key, same}
use Rattle.ts_spec.specs.Keyed.{get}
use Rattle.ts_spec.specs.State.{Rule, Record, State, Link, rule_to, link_to, rule_into}
use Rattle.ts_spec.specs.Rules.{is_row_by, high_by, cleared_to, recounted, without, meets, lost_by, plain_at, shown, shown_by, deleted}
use Rattle.ts_spec.specs.Valid.{EachRule, IsSoundRule, IsLinked, IsValid}
use Rattle.ts_spec.specs.StoredSeries.{StoredRule, StoredSeries, stored_rule, stored_record, kept}
use Rattle.ts_spec.specs.StoredUpdates.{stored_rule_to, updated_series, deleted_rule, loses, deleted_rows, stored_without, updated_by_deletion, after_deletion, keys_deleted}
use Rattle.ts_spec.proofs.Keys.{same-true, same-refl}
use Rattle.ts_spec.proofs.Samples.{ascending-times}
use Rattle.ts_spec.proofs.Links.{Found, link-found}
use Rattle.ts_spec.proofs.Linked.{link-target, each-rule-at, IsTarget}
use Rattle.ts_spec.proofs.Settles.{high-same, told-cleared}
use Rattle.ts_spec.proofs.Tidy.{some-same, high-tidy}
use Rattle.ts_spec.proofs.PlainWrite.{deletion-keeps}
use Rattle.ts_spec.proofs.SoundWrites.{sound-without}
use Rattle.ts_spec.proofs.Bodies.{bodies, link-bodies-none, sound-bodies}
use Rattle.ts_spec.proofs.RuleLists.{rule-link}
use Rattle.ts_spec.proofs.Keeps.{shown-there, Place, Here, Destination, Elsewhere, place-of}
use Rattle.ts_spec.proofs.Exact.{own-rule, dest-other}
use Rattle.ts_spec.proofs.ClientChanges.{deletion-done, shown-deleted}
use Rattle.ts_spec.proofs.StoredMaps.{get-kept, kept-there, kept-missing, kept-each, rule_to-kept}
use Rattle.ts_spec.proofs.StoredBodies.{kept-bodies, kept-bodies-missing, kept-elsewhere}
use Rattle.ts_spec.proofs.Mends.{IsUpdate, kept-updated_list}
use Rattle.ts_spec.proofs.DeletedRules.{kept-recounted, tells-recounted, lost-loses}

-- the premise of the update: at closed buckets that lost a sample the recounted rule has exactly the rows, elsewhere
-- its old ones
pub mending-deleted : (gone left : List Point) (born : ℕ) (key : Key) (r : Rule) → IsAscending left → IsAscending r.seen →
    IsUpdate r (recounted gone left r) born (lost_by key (meets gone) (Some (record { source = key; rule = recounted gone left r }))) (loses gone (stored_rule r)) (deleted_rows gone left born (stored_rule r))
mending-deleted gone left born key r h k = record { told = λ t. tells-recounted gone left born r t h k; own = λ t e. lost-loses gone left key r t }

-- the stored rules of the key
rules-deleted : (gone left : List Point) (d : Record) (rs : List Rule) → IsAscending left → EachRule (IsSoundRule d) rs →
    map stored_rule (map (recounted gone left) rs) ≡ map (deleted_rule gone left) (map stored_rule rs)
rules-deleted gone left d [] h x = refl
rules-deleted gone left d (r ∷ rs) h x =
    let first : stored_rule (recounted gone left r) ≡ deleted_rule gone left (stored_rule r) = kept-recounted gone left r h x.0.ascending in
    let rest : map stored_rule (map (recounted gone left) rs) ≡ map (deleted_rule gone left) (map stored_rule rs) = rules-deleted gone left d rs h x.1 in
    λ i. first i ∷ rest i

-- a key with a rule is no destination
pub source-free : (m : State) (key k : Key) (d : Record) (r : Rule) → IsLinked m → get key m ≡ Some d → rule_to k d.rules ≡ Some r → link_to m key ≡ None
source-free m key k d r h there x = go (link_to m key) refl
  where
    go : (o : Option Link) → link_to m key ≡ o → o ≡ None
    go None y = refl
    go (Some l) y =
        let t : IsTarget m key = link-target m key l h y in
        let eq : t.record_of ≡ d = some-same t.record_of d (sym t.there ∙ there) in
        let one : None ≡ Some r = ap (rule_to k) (sym t.no_rules ∙ ap (λ (c : Record). c.rules) eq) ∙ x in absurd (cc one)

-- what a key without a link shows is its own samples
pub shown-free : (m : State) (key : Key) (d : Record) → link_to m key ≡ None → shown_by (rule_into m key) d ≡ d.plain
shown-free m key d x = ap (λ (o : Option Link). shown_by (option_map (λ (l : Link). l.rule) o) d) x

module _ (limits : Limits) (m : State) (key : Key) (d : Record) (from to : ℕ) (v : IsValid limits m) (there : get key m ≡ Some d) where
  -- the deletion as one change of each record
  abbrev recount : Record → Rule → Rule
  recount c r = recounted (between from to c.plain) (outside from to c.plain) r

  abbrev touched_by : Rule → ℕ → Bool
  touched_by = meets (between from to (plain_at (get key m)))

  -- ---- the key itself

  -- its highest time stays
  high-deleted : high_by (rule_into (bodies key (without from to) touched_by (is_within from to) m) key) d.high ≡ d.high
  high-deleted = go (link_to m key) refl
    where
      go : (o : Option Link) → link_to m key ≡ o → high_by (rule_into (bodies key (without from to) touched_by (is_within from to) m) key) d.high ≡ d.high
      go None x =
          ap (λ (o : Option Link). high_by (option_map (λ (l : Link). l.rule) o) d.high)
          (link-bodies-none key (without from to) recount touched_by (is_within from to) m key (deletion-keeps from to) x)
      go (Some l) x =
          ap (λ (o : Option Rule). high_by o d.high) (own-rule m key d (without from to) recount touched_by (is_within from to) (deletion-done limits m key d from to v there) l x)
          ∙ high-same (Some (cleared_to key (is_within from to) l.rule)) d.high
          (λ b y. high-tidy m key d b v.settled there
          (ap (λ (o : Option Link). is_row_by (option_map (λ (q : Link). q.rule) o) b) x ∙ told-cleared (λ c. same l.rule.dest key && is_within from to c) (Some l.rule) b y))

  -- its rules
  own-rules-deleted : map stored_rule (map (recount d) d.rules) ≡
      map (deleted_rule (between from to (shown_by (rule_into m key) d)) (outside from to (shown_by (rule_into m key) d))) (map stored_rule d.rules)
  own-rules-deleted = go (link_to m key) refl
    where
      go : (o : Option Link) → link_to m key ≡ o → map stored_rule (map (recount d) d.rules) ≡
          map (deleted_rule (between from to (shown_by (rule_into m key) d)) (outside from to (shown_by (rule_into m key) d))) (map stored_rule d.rules)
      go None x =
          rules-deleted (between from to d.plain) (outside from to d.plain) d d.rules (ascending-times (λ t. not (is_within from to t)) d.plain (v.sound key d there).ascending) (v.sound key d there).rules
          ∙ ap (λ (ps : List Point). map (deleted_rule (between from to ps) (outside from to ps)) (map stored_rule d.rules)) (sym (shown-free m key d x))
      go (Some l) x =
          let t : IsTarget m key = link-target m key l v.linked x in
          let none : d.rules ≡ [] = ap (λ (c : Record). c.rules) (some-same d t.record_of (sym there ∙ t.there)) ∙ t.no_rules in
          ap (λ (rs : List Rule). map stored_rule (map (recount d) rs)) none
          ∙ ap (λ (rs : List Rule). map (deleted_rule (between from to (shown_by (rule_into m key) d)) (outside from to (shown_by (rule_into m key) d))) (map stored_rule rs)) (sym none)

  -- The stored series of the key itself.
  pub key-deleted : get key (kept (deleted key from to m)) ≡ Some (stored_without from to (stored_record (link_to m key) d))
  key-deleted =
      let list : shown (deleted key from to m) key ≡ outside from to (shown_by (rule_into m key) d) = shown-deleted limits m key d from to v there ∙ ap (outside from to) (shown-there m key d there) in
      let high : high_by (rule_into (bodies key (without from to) touched_by (is_within from to) m) key) d.high ≡ d.high = high-deleted in
      let rules : map stored_rule (map (recount d) d.rules) ≡
      map (deleted_rule (between from to (shown_by (rule_into m key) d)) (outside from to (shown_by (rule_into m key) d))) (map stored_rule d.rules) = own-rules-deleted in
      kept-bodies key (without from to) recount touched_by (is_within from to) m (deletion-keeps from to) key d there
      ∙ ap (λ (b : Bool). Some (record (stored_record (link_to m key) (if b then without from to d else d)) {
        list = shown (deleted key from to m) key;
        high = high_by (rule_into (bodies key (without from to) touched_by (is_within from to) m) key) (if b then without from to d else d).high;
      })) (same-refl key)
      ∙ (λ i. Some (record (stored_record (link_to m key) d) { list = list i; high = high i; rules = rules i }))

  -- ---- its destinations

  -- The stored series of a destination is updated.
  pub dest-deleted-kept : (k : Key) (r : Rule) (e : Record) → link_to m k ≡ Some (record { source = key; rule = r }) → rule_to k d.rules ≡ Some r → get k m ≡ Some e →
      get k (kept (deleted key from to m)) ≡
      Some (updated_series (loses (between from to d.plain) (stored_rule r)) (deleted_rows (between from to d.plain) (outside from to d.plain) e.born (stored_rule r)) (stored_record (link_to m k) e))
  dest-deleted-kept k r e x rule y =
      kept-updated_list m key d (without from to) recount touched_by (is_within from to) (deletion-done limits m key d from to v there) v.sound
      (sound-bodies key (without from to) touched_by (is_within from to) m (λ c z. sound-without from to c z) v.sound)
      k r e (loses (between from to d.plain) (stored_rule r)) (deleted_rows (between from to d.plain) (outside from to d.plain) e.born (stored_rule r)) x y
      (subst (λ (o : Option Record). IsUpdate r (recount d r) e.born (lost_by key (meets (between from to (plain_at o))) (Some (record { source = key; rule = recount d r })))
      (loses (between from to d.plain) (stored_rule r)) (deleted_rows (between from to d.plain) (outside from to d.plain) e.born (stored_rule r))) (sym there)
      (mending-deleted (between from to d.plain) (outside from to d.plain) e.born key r (ascending-times (λ t. not (is_within from to t)) d.plain (v.sound key d there).ascending)
      (each-rule-at (IsSoundRule d) k d.rules r rule (v.sound key d there).rules).ascending))
      ∙ ap (λ (o : Option Link). Some (updated_series (loses (between from to d.plain) (stored_rule r)) (deleted_rows (between from to d.plain) (outside from to d.plain) e.born (stored_rule r)) (stored_record o e))) (sym x)

  -- ---- each key

  -- what the deletion does to another stored series, by the rule of the key that writes to it
  elsewhere-deleted : (k : Key) (c : StoredSeries) (o : Option Rule) → same k key ≡ false → rule_to k d.rules ≡ o →
      after_deletion key from to (Some (stored_record (link_to m key) d)) k c ≡ updated_by_deletion from to (stored_record (link_to m key) d) (option_map stored_rule o) c
  elsewhere-deleted k c o other x =
      ap (λ (b : Bool). if b then stored_without from to c else updated_by_deletion from to (stored_record (link_to m key) d) (stored_rule_to k (map stored_rule d.rules)) c) other
      ∙ ap (λ (q : Option StoredRule). updated_by_deletion from to (stored_record (link_to m key) d) q c) (rule_to-kept k d.rules ∙ ap (option_map stored_rule) x)

  each-deleted : (k : Key) → Place m key k →
      option_map (after_deletion key from to (Some (stored_record (link_to m key) d)) k) (get k (kept m)) ≡ get k (kept (deleted key from to m))
  each-deleted k (Here x) =
      subst (λ (j : Key). option_map (after_deletion key from to (Some (stored_record (link_to m key) d)) j) (get j (kept m)) ≡ get j (kept (deleted key from to m))) (sym (same-true k key x))
      (ap (option_map (after_deletion key from to (Some (stored_record (link_to m key) d)) key)) (kept-there m key d there)
      ∙ ap (λ (b : Bool). Some (if b then stored_without from to (stored_record (link_to m key) d) else updated_by_deletion from to (stored_record (link_to m key) d) (stored_rule_to key (map stored_rule d.rules)) (stored_record (link_to m key) d))) (same-refl key)
      ∙ sym key-deleted)
  each-deleted k (Destination l x y) =
      let fnd : Found m.entries k l = link-found m k l x in
      let source : l.source ≡ key = same-true l.source key y in
      let link : link_to m k ≡ Some (record { source = key; rule = l.rule }) = x ∙ ap (λ (j : Key). Some (record { source = j; rule = l.rule })) source in
      let eq : fnd.record_of ≡ d = some-same fnd.record_of d (sym fnd.there ∙ ap (λ (j : Key). get j m) source ∙ there) in
      let rule : rule_to k d.rules ≡ Some l.rule = ap (λ (c : Record). rule_to k c.rules) (sym eq) ∙ fnd.rule in
      let t : IsTarget m k = link-target m k l v.linked x in
      let own : shown_by (rule_into m key) d ≡ d.plain = shown-free m key d (source-free m key k d l.rule v.linked there rule) in
      ap (option_map (after_deletion key from to (Some (stored_record (link_to m key) d)) k)) (kept-there m k t.record_of t.there)
      ∙ ap (λ (c : StoredSeries). Some c) (elsewhere-deleted k (stored_record (link_to m k) t.record_of) (Some l.rule)
      (dest-other m key d (without from to) recount touched_by (is_within from to) (deletion-done limits m key d from to v there) k l.rule link) rule)
      ∙ ap (λ (ps : List Point). Some (updated_series (loses (between from to ps) (stored_rule l.rule)) (deleted_rows (between from to ps) (outside from to ps) t.record_of.born (stored_rule l.rule)) (stored_record (link_to m k) t.record_of))) own
      ∙ sym (dest-deleted-kept k l.rule t.record_of link rule t.there)
  each-deleted k (Elsewhere x) = go (get k m) refl
    where
      none : rule_to k d.rules ≡ None
      none = without_rule (rule_to k d.rules) refl
        where
          without_rule : (o : Option Rule) → rule_to k d.rules ≡ o → o ≡ None
          without_rule None y = refl
          without_rule (Some r) y = absurd (false≢true (sym (x.linked (record { source = key; rule = r }) (rule-link m key k d r v.linked there y)) ∙ same-refl key))

      go : (o : Option Record) → get k m ≡ o → option_map (after_deletion key from to (Some (stored_record (link_to m key) d)) k) (get k (kept m)) ≡ get k (kept (deleted key from to m))
      go None y =
          ap (option_map (after_deletion key from to (Some (stored_record (link_to m key) d)) k)) (kept-missing m k y)
          ∙ sym (kept-bodies-missing key (without from to) recount touched_by (is_within from to) m (deletion-keeps from to) k y)
      go (Some c) y =
          ap (option_map (after_deletion key from to (Some (stored_record (link_to m key) d)) k)) (kept-there m k c y)
          ∙ ap (λ (q : StoredSeries). Some q) (elsewhere-deleted k (stored_record (link_to m k) c) None x.other none)
          ∙ sym (kept-there m k c y)
          ∙ sym (kept-elsewhere key (without from to) recount touched_by (is_within from to) m (deletion-keeps from to) k v.settled x)

  -- Storing and deleting commute.
  pub kept-deleted : kept (deleted key from to m) ≡ keys_deleted key from to (kept m)
  kept-deleted =
      sym (kept-each (kept m) (after_deletion key from to (get key (kept m))) m (deleted key from to m) refl
      (λ k. ap (option_map (after_deletion key from to (get key (kept m)) k)) (sym (get-kept m k))
      ∙ ap (λ (o : Option StoredSeries). option_map (after_deletion key from to o k) (get k (kept m))) (kept-there m key d there)
      ∙ each-deleted k (place-of m key k) ∙ get-kept (deleted key from to m) k))
