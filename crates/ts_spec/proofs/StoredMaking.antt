-- The stored data after a new series and after a new rule.
use Rattle.std.proofs.Common.{◌≡◌, ℕ, ℤ, ◌≤◌, Bool, true, false, nat_lt, nat_le, if◌then◌else◌, [], ◌∷◌, ◌++◌, map, length, Option, Some, None, is_some, option_map, refl, sym, ap, ◌∙◌}
use Rattle.std.proofs.lemmas.Bool.{false≢true}
use Rattle.std.proofs.lemmas.List.{map-append}
use Rattle.ts_spec.specs.declared.limits.Limits.{Limits}
use Rattle.ts_spec.specs.declared.bucket.Aggregator.{Aggregator}
use Rattle.ts_spec.specs.Sample.{at_times}
use Rattle.ts_spec.specs.Bucket.{Grid}
use Rattle.ts_spec.specs.Key.{Key, same}
use Rattle.ts_spec.specs.Keyed.{get, with_key, count_keys}
use Rattle.ts_spec.specs.State.{Rule, Record, State, Link, link_to, edge}
use Rattle.ts_spec.specs.Command.{Spec}
use Rattle.ts_spec.specs.Response.{Response, Done, Count}
use Rattle.ts_spec.specs.Refusal.{KeyExists, LabelsFull, KeysFull, NoKey, SameKey, SourceIsDest, DestIsSource, DestHasSource, RulesSpent, RulesFull}
use Rattle.ts_spec.specs.Step.{fresh, new_key, create, create_with, has_rules, with_rule, ruled, create_rule_at, create_rule}
use Rattle.ts_spec.specs.Valid.{IsLinked, IsValid}
use Rattle.ts_spec.specs.StoredSeries.{StoredSeries, stored_rule, stored_record, kept}
use Rattle.ts_spec.specs.StoredKeys.{stored_with_rule, keys_ruled, keys_changed}
use Rattle.ts_spec.specs.StoredStep.{stored_new_key, stored_create, stored_create_with, stored_create_rule_at, stored_create_rule}
use Rattle.ts_spec.proofs.Keys.{same-true, same-sym}
use Rattle.ts_spec.proofs.Maps.{get-with, get-each}
use Rattle.ts_spec.proofs.PlainWrite.{get-change, own-kept}
use Rattle.ts_spec.proofs.KeysComeAndGo.{unlinked-new, links-new, valid-with}
use Rattle.ts_spec.proofs.MakingRules.{new_rule, IsRulable, link-made, link-stays, dest-not-source, valid-ruled}
use Rattle.ts_spec.proofs.StoredMaps.{get-kept, count-kept, some-mapped, some-kept, kept-same, any-rules, count-rules}
use Rattle.ts_spec.proofs.CountsAfter.{counts-on-new, counts-on-ruled}
use Rattle.ts_spec.proofs.Allowed.{missing, IsNewRecord, empty-new, one-new, is-new, rulable}
use Rattle.ts_spec.proofs.Led.{IsKnown, IsLed, led-refused, led-unless, led-at}

-- ---- a new series

pub kept-with : (m : State) (key : Key) (c : Record) → IsLinked m → get key m ≡ None → c.rules ≡ [] → with_key key (stored_record None c) (kept m) ≡ kept (with_key key c m)
kept-with m key c linked missing none =
    kept-same (with_key key (stored_record None c) (kept m)) (with_key key c m)
    (λ k. get-with k key (stored_record None c) (kept m)
    ∙ go k (same key k) refl
    ∙ ap (λ (l : Option Link). option_map (stored_record l) (if same key k then Some c else get k m)) (sym (links-new m key c linked missing none k))
    ∙ ap (option_map (stored_record (link_to (with_key key c m) k))) (sym (get-with k key c m)))
  where
    go : (k : Key) (b : Bool) → same key k ≡ b → (if b then Some (stored_record None c) else get k (kept m)) ≡ option_map (stored_record (link_to m k)) (if b then Some c else get k m)
    go k true x = ap (λ (l : Option Link). Some (stored_record l c)) (sym (ap (link_to m) (sym (same-true key k x)) ∙ unlinked-new m key c linked missing none))
    go k false x = get-kept m k

module _ {Room : Type 0} {Spared : Key → Type 0} {Known : Key → Key → Rule → Type 0} (limits : Limits) (m : State) (v : IsValid limits m) where
  -- creating a series has the same response, and gives the stored form of the new state
  led-new_key : (key : Key) (c : Record) (r : Response) → get key m ≡ None →
      c.rules ≡ [] → (Room → IsNewRecord limits c) → IsLed limits Room Spared Known m (new_key limits m key c r) (stored_new_key limits (kept m) key (stored_record None c) r)
  led-new_key key c r missing none new =
      led-unless limits m v (nat_lt limits.labels (length c.labels)) _ LabelsFull _ _ refl
      (λ few. led-unless limits m v (nat_le limits.keys (count_keys m)) _ KeysFull _ _ (ap (nat_le limits.keys) (count-kept m))
      (λ free. record {
        is_step = λ room. record { response = refl; stands = record { valid = valid-with limits m key c v (is-new limits m key c missing (new room) few free); kept = kept-with m key c v.linked missing none } };
        counts = λ s k old other known h. counts-on-new m s k key old c limits v missing none h;
      }))

  pub led-create : (key : Key) (spec : Spec) →
      IsLed limits Room Spared Known m (create limits m key spec) (stored_create limits (kept m) key spec)
  led-create key spec =
      led-unless limits m v (is_some (get key m)) _ KeyExists _ _ (some-kept m key)
      (λ x. led-new_key key (fresh spec [] None) Done (missing (get key m) x) refl (λ room. empty-new limits spec))

  -- a new series with one sample
  pub led-create_with : (key : Key) (spec : Spec) (t : ℕ) (x : ℤ) →
      (Room → 1 ≤ limits.samples) → get key m ≡ None → IsLed limits Room Spared Known m (create_with limits m key spec t x) (stored_create_with limits (kept m) key spec t x)
  led-create_with key spec t x room missing =
      led-new_key key (fresh spec (record { time = t; value = x; made = 0 } ∷ []) (Some t)) (Count t) missing refl (λ r. one-new limits spec t x (room r))

-- ---- a new rule

abbrev sourced : Key → StoredSeries → StoredSeries
sourced source c = record c { source = Some source }

module _ (limits : Limits) (m : State) (source dest : Key) (agg : Aggregator) (grid : Grid) (s d : Record) (v : IsValid limits m) (h : IsRulable limits m source dest s d) where
  source-kept : (c : Record) → stored_record None (with_rule dest agg grid c) ≡ stored_with_rule dest agg grid (stored_record None c)
  source-kept c =
      let rules : map stored_rule (c.rules ++ new_rule dest agg grid c ∷ []) ≡ map stored_rule c.rules ++ stored_rule (new_rule dest agg grid c) ∷ [] = map-append stored_rule c.rules (new_rule dest agg grid c ∷ []) in
      λ i. record (stored_with_rule dest agg grid (stored_record None c)) { rules = rules i }

  dest-kept : (c : Record) → get dest m ≡ Some c → stored_record (Some (record { source = source; rule = new_rule dest agg grid s })) c ≡ sourced source (stored_record None c)
  dest-kept c x =
      let list : at_times (nat_le (edge c)) c.plain ≡ c.plain = own-kept m dest c v.settled x in
      λ i. record (sourced source (stored_record None c)) { list = list i }

  stays : (k : Key) → same k dest ≡ false → link_to (ruled source dest agg grid m) k ≡ link_to m k
  stays k x = link-stays limits m source dest agg grid s d v h k (same-sym dest k ∙ x)

  made : (k : Key) → same k dest ≡ true → link_to (ruled source dest agg grid m) k ≡ Some (record { source = source; rule = new_rule dest agg grid s })
  made k x = ap (link_to (ruled source dest agg grid m)) (same-true k dest x) ∙ link-made limits m source dest agg grid s d v h

  each-key : (k : Key) (a b : Bool) → same k source ≡ a → same k dest ≡ b → (o : Option Record) → get k m ≡ o →
      option_map (λ c. if b then sourced source c else c) (option_map (λ c. if a then stored_with_rule dest agg grid c else c) (option_map (stored_record (link_to m k)) o))
      ≡ option_map (stored_record (link_to (ruled source dest agg grid m) k)) (option_map (λ c. if a then with_rule dest agg grid c else c) o)
  each-key k a b x y None z = refl
  each-key k true true x y (Some c) z = absurd (false≢true (sym (dest-not-source limits m source dest agg grid s d v h) ∙ ap (λ (j : Key). same j source) (sym (same-true k dest y)) ∙ x))
  each-key k true false x y (Some c) z =
      let free : link_to m k ≡ None = ap (link_to m) (same-true k source x) ∙ h.source_free in
      ap (λ (l : Option Link). Some (stored_with_rule dest agg grid (stored_record l c))) free
      ∙ ap (λ (q : StoredSeries). Some q) (sym (source-kept c))
      ∙ ap (λ (l : Option Link). Some (stored_record l (with_rule dest agg grid c))) (sym (stays k y ∙ free))
  each-key k false true x y (Some c) z =
      let free : link_to m k ≡ None = ap (link_to m) (same-true k dest y) ∙ h.dest_free in
      ap (λ (l : Option Link). Some (sourced source (stored_record l c))) free
      ∙ ap (λ (q : StoredSeries). Some q) (sym (dest-kept c (ap (λ (j : Key). get j m) (sym (same-true k dest y)) ∙ z)))
      ∙ ap (λ (l : Option Link). Some (stored_record l c)) (sym (made k y))
  each-key k false false x y (Some c) z = ap (λ (l : Option Link). Some (stored_record l c)) (sym (stays k y))

  pub kept-ruled : keys_ruled source dest agg grid (kept m) ≡ kept (ruled source dest agg grid m)
  kept-ruled =
      kept-same (keys_ruled source dest agg grid (kept m)) (ruled source dest agg grid m)
      (λ k. get-each (λ j c. if same j dest then sourced source c else c) k (keys_changed source (stored_with_rule dest agg grid) (kept m))
      ∙ ap (option_map (λ c. if same k dest then sourced source c else c)) (get-each (λ j c. if same j source then stored_with_rule dest agg grid c else c) k (kept m) ∙ ap (option_map (λ c. if same k source then stored_with_rule dest agg grid c else c)) (get-kept m k))
      ∙ each-key k (same k source) (same k dest) refl refl (get k m) refl
      ∙ ap (option_map (stored_record (link_to (ruled source dest agg grid m) k))) (sym (get-change m source k (with_rule dest agg grid))))

pub led-create_rule : {Room : Type 0} {Spared : Key → Type 0} (limits : Limits) (m : State) → IsValid limits m → (source dest : Key) (agg : Aggregator) (grid : Grid) →
    IsLed limits Room Spared (IsKnown m) m (create_rule limits m source dest agg grid) (stored_create_rule limits (kept m) source dest agg grid)
led-create_rule limits m v source dest agg grid =
    led-unless limits m v (same source dest) _ SameKey _ _ refl
    (λ other. led-at limits m v source (λ o. create_rule_at limits m source dest agg grid o (get dest m)) (λ o. stored_create_rule_at limits (kept m) source dest agg grid o (get dest (kept m)))
    (λ x. led-refused limits m v NoKey)
    (λ s x. led-at limits m v dest (create_rule_at limits m source dest agg grid (Some s)) (stored_create_rule_at limits (kept m) source dest agg grid (Some (stored_record (link_to m source) s)))
    (λ y. led-refused limits m v NoKey)
    (λ d y. led-unless limits m v (is_some (link_to m source)) _ SourceIsDest _ _ (some-mapped (λ l. l.source) (link_to m source))
    (λ a. led-unless limits m v (has_rules d.rules) _ DestIsSource _ _ (any-rules d.rules)
    (λ b. led-unless limits m v (is_some (link_to m dest)) _ DestHasSource _ _ (some-mapped (λ l. l.source) (link_to m dest))
    (λ c. led-unless limits m v (nat_le limits.born s.born) _ RulesSpent _ _ refl
    (λ g. led-unless limits m v (nat_le limits.rules (length s.rules)) _ RulesFull _ _ (ap (nat_le limits.rules) (count-rules s.rules))
    (λ h. (let i : IsRulable limits m source dest s d = rulable limits m source dest s d x y other a b c g h in
    record {
      is_step = λ room. record { response = refl; stands = record { valid = valid-ruled limits m source dest agg grid s d v i; kept = kept-ruled limits m source dest agg grid s d v i } };
      counts = λ j k old other known. counts-on-ruled limits m j k source dest agg grid s d old v i known.joins.linked;
    })))))))))
