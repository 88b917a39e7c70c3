-- The stored data after TS.ALTER.
use Rattle.std.proofs.Common.{◌≡◌, Bool, true, false, nat_le, if◌then◌else◌, map, Option, Some, None, option_map, refl, sym, ap, ◌∙◌, subst}
use Rattle.ts_spec.specs.declared.limits.Limits.{Limits}
use Rattle.ts_spec.specs.Sample.{at_times}
use Rattle.ts_spec.specs.Key.{Key, same}
use Rattle.ts_spec.specs.Keyed.{get}
use Rattle.ts_spec.specs.State.{Rule, Record, State, link_to, rule_into, change, edge}
use Rattle.ts_spec.specs.Rules.{high_by, settled, shown, shown_by}
use Rattle.ts_spec.specs.Command.{Change}
use Rattle.ts_spec.specs.Refusal.{NoKey, LabelsFull}
use Rattle.ts_spec.specs.Step.{altered, is_longer, alter_at, alter}
use Rattle.ts_spec.specs.Valid.{IsSoleLink, IsValid}
use Rattle.ts_spec.specs.StoredSeries.{stored_record, kept}
use Rattle.ts_spec.specs.StoredKeys.{stored_altered, keys_changed}
use Rattle.ts_spec.specs.StoredStep.{stored_alter_at, stored_alter}
use Rattle.ts_spec.proofs.Keys.{same-true}
use Rattle.ts_spec.proofs.Maps.{get-each, maps-same}
use Rattle.ts_spec.proofs.Links.{IsReshape}
use Rattle.ts_spec.proofs.Linked.{rule-uniform, link-sole, link-dest}
use Rattle.ts_spec.proofs.Tidy.{record-tidy, map-id-rules}
use Rattle.ts_spec.proofs.Bodies.{bodies}
use Rattle.ts_spec.proofs.Keeps.{Place, Here, Destination, Elsewhere, place-of, shown-there, shown-elsewhere}
use Rattle.ts_spec.proofs.Altering.{bodies-nothing, altered-keeps, shown-altered, shown-dest-altered, valid-altered}
use Rattle.ts_spec.proofs.StoredMaps.{get-kept}
use Rattle.ts_spec.proofs.CountsAfter.{counts-on-altered}
use Rattle.ts_spec.proofs.Led.{IsKnown, IsLed, led-refused, led-unless, led-at}
use Rattle.ts_spec.proofs.StoredBodies.{kept-bodies, kept-bodies-missing}

-- rules lead where they did
rule-altered : (m : State) (key : Key) (c : Change) (k : Key) → rule_into (change key (altered c) m) k ≡ rule_into m k
rule-altered m key c k = rule-uniform (λ j d. if same j key then altered c d else d) (λ r. r) keeps k m ∙ stays (rule_into m k)
  where
    rules : (b : Bool) (d : Record) → (if b then altered c d else d).rules ≡ map (λ (r : Rule). r) d.rules
    rules true d = map-id-rules d.rules
    rules false d = map-id-rules d.rules

    keeps : IsReshape (λ j d. if same j key then altered c d else d) (λ j d r. r)
    keeps = record { rules = λ j d. rules (same j key) d; dest = λ j d r. refl }

    stays : (o : Option Rule) → option_map (λ (r : Rule). r) o ≡ o
    stays None = refl
    stays (Some r) = refl

module _ (limits : Limits) (m : State) (key : Key) (d : Record) (c : Change) (v : IsValid limits m) (there : get key m ≡ Some d) where
  abbrev n : State
  n = bodies key (altered c) (λ r b. false) (λ b. false) m

  high-altered : (k : Key) (e : Record) → get k m ≡ Some e → high_by (rule_into n k) e.high ≡ e.high
  high-altered k e x =
      ap (λ (q : State). high_by (rule_into q k) e.high) (bodies-nothing key (altered c) m)
      ∙ ap (λ (o : Option Rule). high_by o e.high) (rule-altered m key c k)
      ∙ ap (λ (q : Record). q.high) (record-tidy m k e v.settled x)

  list-here : (k : Key) (e : Record) → same k key ≡ true → get k m ≡ Some e → shown (settled n) k ≡ at_times (nat_le (edge (altered c e))) (shown_by (rule_into m k) e)
  list-here k e y x =
      subst (λ (j : Key). shown (settled (bodies j (altered c) (λ r b. false) (λ b. false) m)) k ≡ at_times (nat_le (edge (altered c e))) (shown m k)) (same-true k key y) (shown-altered limits m k e c v x)
      ∙ ap (at_times (nat_le (edge (altered c e)))) (shown-there m k e x)

  list-other : (k : Key) → same k key ≡ false → shown (settled n) k ≡ shown m k
  list-other k y = go (place-of m key k)
    where
      go : Place m key k → shown (settled n) k ≡ shown m k
      go (Here z) = absurd (cc (z, y))
      go (Elsewhere e) = shown-elsewhere key (altered c) (λ d r. r) (λ r b. false) (λ b. false) m k (altered-keeps c) v.settled e
      go (Destination l z w) =
          let sole : IsSoleLink m key l.rule = subst (λ (j : Key). IsSoleLink m j l.rule) (same-true l.source key w) (link-sole m k l v.linked z) in
          subst (λ (j : Key). shown (settled n) j ≡ shown m j) (link-dest m k l z) (shown-dest-altered limits m key d c v there l.rule sole)

  each-altered : (k : Key) (e : Record) → get k m ≡ Some e → get k (kept (settled n)) ≡ Some (if same k key then stored_altered c (stored_record (link_to m k) e) else stored_record (link_to m k) e)
  each-altered k e x = kept-bodies key (altered c) (λ d r. r) (λ r b. false) (λ b. false) m (altered-keeps c) k e x ∙ go (same k key) refl
    where
      high : high_by (rule_into n k) e.high ≡ e.high
      high = high-altered k e x

      go : (b : Bool) → same k key ≡ b →
          Some (record (stored_record (link_to m k) (if b then altered c e else e)) { list = shown (settled n) k; high = high_by (rule_into n k) (if b then altered c e else e).high })
          ≡ Some (if b then stored_altered c (stored_record (link_to m k) e) else stored_record (link_to m k) e)
      go true y = let list : shown (settled n) k ≡ at_times (nat_le (edge (altered c e))) (shown_by (rule_into m k) e) = list-here k e y x in λ i. Some (record (stored_record (link_to m k) (altered c e)) { list = list i; high = high i })
      go false y = let list : shown (settled n) k ≡ shown_by (rule_into m k) e = list-other k y ∙ shown-there m k e x in λ i. Some (record (stored_record (link_to m k) e) { list = list i; high = high i })

  pub kept-altered : keys_changed key (stored_altered c) (kept m) ≡ kept (settled (change key (altered c) m))
  kept-altered =
      maps-same (keys_changed key (stored_altered c) (kept m)) (kept (settled n))
      (λ k. get-each (λ j q. if same j key then stored_altered c q else q) k (kept m)
      ∙ ap (option_map (λ q. if same k key then stored_altered c q else q)) (get-kept m k)
      ∙ go k (get k m) refl)
      ∙ ap (λ (q : State). kept (settled q)) (bodies-nothing key (altered c) m)
    where
      go : (k : Key) (o : Option Record) → get k m ≡ o → option_map (λ q. if same k key then stored_altered c q else q) (option_map (stored_record (link_to m k)) o) ≡ get k (kept (settled n))
      go k None x = sym (kept-bodies-missing key (altered c) (λ d r. r) (λ r b. false) (λ b. false) m (altered-keeps c) k x)
      go k (Some e) x = sym (each-altered k e x)

pub led-altered : {Room : Type 0} {Spared : Key → Type 0} (limits : Limits) (m : State) → IsValid limits m → (key : Key) (c : Change) →
    IsLed limits Room Spared (IsKnown m) m (alter limits m key c) (stored_alter limits (kept m) key c)
led-altered limits m v key c =
    led-at limits m v key (alter_at limits m key c) (stored_alter_at limits (kept m) key c) (λ x. led-refused limits m v NoKey)
    (λ d x. led-unless limits m v (is_longer limits.labels c.labels) _ LabelsFull _ _ refl
    (λ few. record {
      is_step = λ room. record { response = refl; stands = record { valid = valid-altered limits m key d c v x few; kept = kept-altered limits m key d c v x } };
      counts = λ s k old other known h. counts-on-altered limits m s k key c old v known.joins.linked known.joins.source_for_ever known.joins.dest_for_ever known.counts;
    }))
