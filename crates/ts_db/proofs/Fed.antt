-- The stored data after destinations are updated one after another; it is that of a write and of a deletion.
use Rattle.std.proofs.Common.{◌≡◌, ℕ, ℤ, Bool, true, false, List, [], ◌∷◌, refl, sym, ◌∙◌, ap, subst}
use Rattle.std.specs.Prelude.{Option, None, Some, option_map, if◌then◌else◌}
use Rattle.ts_spec.specs.Sample.{put, between, outside}
use Rattle.ts_spec.specs.Key.{Key, same}
use Rattle.ts_spec.specs.Keyed.{get, with_key, each}
use Rattle.ts_spec.specs.StoredSeries.{StoredRule, StoredSeries, StoredKeys}
use Rattle.ts_spec.specs.StoredKeys.{keys_changed}
use Rattle.ts_spec.specs.StoredUpdates.{stored_rule_to, updated_series, update_dest, stored_sample, stored_with, written_row, after_write, keys_written, stored_without, deleted_rows, loses, after_deletion, keys_deleted}
use Rattle.ts_spec.proofs.Keys.{same-refl, same-true, same-sym}
use Rattle.ts_spec.proofs.Maps.{get-each, get-with, maps-same}
use Rattle.ts_db.specs.Links.{AreLinks, AreApart}
use Rattle.ts_db.specs.DestinationUpdates.{Rows, RemovedTimes, keys_destinations_updated}
use Rattle.ts_db.proofs.KeptLinks.{HasLinks}

-- what each key has then: the rule to it updates it, if there is one
pub get-update_dest : (rows : Rows) (gone : RemovedTimes) (qs : List StoredRule) (m : StoredKeys) (k : Key) → AreApart qs → get k (keys_destinations_updated rows gone qs m) ≡ option_map (update_dest rows gone (stored_rule_to k qs)) (get k m)
get-update_dest rows gone [] m k a = same-option (get k m)
  where
    same-option : (o : Option StoredSeries) → o ≡ option_map (λ d. d) o
    same-option None = refl
    same-option (Some d) = refl
get-update_dest rows gone (q ∷ qs) m k a =
    get-update_dest rows gone qs (keys_changed q.dest (λ d. updated_series (gone q) (rows d.born q) d) m) k a.1
    ∙ ap (option_map (update_dest rows gone (stored_rule_to k qs))) (get-each (λ j d. if same j q.dest then updated_series (gone q) (rows d.born q) d else d) k m)
    ∙ go (same k q.dest) refl (get k m)
  where
    go : (b : Bool) → same k q.dest ≡ b → (o : Option StoredSeries)
        → option_map (update_dest rows gone (stored_rule_to k qs)) (option_map (λ d. if same k q.dest then updated_series (gone q) (rows d.born q) d else d) o) ≡ option_map (update_dest rows gone (stored_rule_to k (q ∷ qs))) o
    go b x None = refl
    go true x (Some d) =
        let last : stored_rule_to k qs ≡ None = ap (λ (j : Key). stored_rule_to j qs) (same-true k q.dest x) ∙ a.0 in
        let first : stored_rule_to k (q ∷ qs) ≡ Some q = ap (λ b. if b then Some q else stored_rule_to k qs) (same-sym q.dest k ∙ x) in
        ap (λ (o : Option StoredRule). Some (update_dest rows gone o (if same k q.dest then updated_series (gone q) (rows d.born q) d else d))) last
        ∙ ap (λ b. Some (if b then updated_series (gone q) (rows d.born q) d else d)) x
        ∙ ap (λ (o : Option StoredRule). Some (update_dest rows gone o d)) (sym first)
    go false x (Some d) =
        let first : stored_rule_to k (q ∷ qs) ≡ stored_rule_to k qs = ap (λ b. if b then Some q else stored_rule_to k qs) (same-sym q.dest k ∙ x) in
        ap (λ b. Some (update_dest rows gone (stored_rule_to k qs) (if b then updated_series (gone q) (rows d.born q) d else d))) x
        ∙ ap (λ (o : Option StoredRule). Some (update_dest rows gone o d)) (sym first)

-- a key to which no rule of it leads
pub no-own : (m : StoredKeys) (key : Key) (all qs : List StoredRule) → AreLinks m key all qs → stored_rule_to key qs ≡ None
no-own m key all [] x = refl
no-own m key all (q ∷ qs) x = ap (λ b. if b then Some q else stored_rule_to key qs) x.0.apart ∙ no-own m key all qs x.1

module _ (m : StoredKeys) (key : Key) (s : StoredSeries) (is : get key m ≡ Some s) (links : HasLinks m key s.rules) where
  -- one key changes, and then the destinations of its rules are updated
  change-update_dest : (rows : Rows) (gone : RemovedTimes) (e : StoredSeries) (f : Key → StoredSeries → StoredSeries) → f key s ≡ e → ((k : Key) (d : StoredSeries) → same k key ≡ false → f k d ≡ update_dest rows gone (stored_rule_to k s.rules) d)
      → each f m ≡ keys_destinations_updated rows gone s.rules (with_key key e m)
  change-update_dest rows gone e f here other = maps-same (each f m) (keys_destinations_updated rows gone s.rules (with_key key e m)) (λ k.
      get-each f k m ∙ pick k (same k key) refl ∙ ap (option_map (update_dest rows gone (stored_rule_to k s.rules))) (sym (get-with k key e m)) ∙ sym (get-update_dest rows gone s.rules (with_key key e m) k links.apart))
    where
      elsewhere : (k : Key) → same k key ≡ false → (o : Option StoredSeries) → option_map (f k) o ≡ option_map (update_dest rows gone (stored_rule_to k s.rules)) o
      elsewhere k x None = refl
      elsewhere k x (Some d) = ap (λ (y : StoredSeries). Some y) (other k d x)

      own : option_map (f key) (get key m) ≡ option_map (update_dest rows gone (stored_rule_to key s.rules)) (if same key key then Some e else get key m)
      own =
          ap (option_map (f key)) is ∙ ap (λ (y : StoredSeries). Some y) here
          ∙ ap (λ (o : Option StoredRule). Some (update_dest rows gone o e)) (sym (no-own m key s.rules s.rules links.links))
          ∙ ap (λ b. option_map (update_dest rows gone (stored_rule_to key s.rules)) (if b then Some e else get key m)) (sym (same-refl key))

      pick : (k : Key) (b : Bool) → same k key ≡ b → option_map (f k) (get k m) ≡ option_map (update_dest rows gone (stored_rule_to k s.rules)) (if same key k then Some e else get k m)
      pick k true x =
          subst (λ (j : Key). option_map (f j) (get j m) ≡ option_map (update_dest rows gone (stored_rule_to j s.rules)) (if same key j then Some e else get j m)) (sym (same-true k key x)) own
      pick k false x = elsewhere k x (get k m) ∙ ap (λ b. option_map (update_dest rows gone (stored_rule_to k s.rules)) (if b then Some e else get k m)) (sym (same-sym key k ∙ x))

  pub written-update_dest : (t : ℕ) (v : ℤ) → keys_written key t v m ≡ keys_destinations_updated (written_row (stored_sample t v s) (put (stored_sample t v s) s.list)) (λ q b. false) s.rules (with_key key (stored_with t v s) m)
  written-update_dest t v =
      ap (λ (o : Option StoredSeries). each (after_write key t v o) m) is
      ∙ change-update_dest (written_row (stored_sample t v s) (put (stored_sample t v s) s.list)) (λ q b. false) (stored_with t v s) (after_write key t v (Some s))
      (ap (λ b. if b then stored_with t v s else update_dest (written_row (stored_sample t v s) (put (stored_sample t v s) s.list)) (λ q b. false) (stored_rule_to key s.rules) s) (same-refl key))
      (λ k d x. ap (λ b. if b then stored_with t v d else update_dest (written_row (stored_sample t v s) (put (stored_sample t v s) s.list)) (λ q b. false) (stored_rule_to k s.rules) d) x)

  pub deleted-update_dest : (from to : ℕ) → keys_deleted key from to m
      ≡ keys_destinations_updated (deleted_rows (between from to s.list) (outside from to s.list)) (loses (between from to s.list)) s.rules (with_key key (stored_without from to s) m)
  deleted-update_dest from to =
      ap (λ (o : Option StoredSeries). each (after_deletion key from to o) m) is
      ∙ change-update_dest (deleted_rows (between from to s.list) (outside from to s.list)) (loses (between from to s.list)) (stored_without from to s) (after_deletion key from to (Some s))
      (ap (λ b. if b then stored_without from to s else update_dest (deleted_rows (between from to s.list) (outside from to s.list)) (loses (between from to s.list)) (stored_rule_to key s.rules) s) (same-refl key))
      (λ k d x. ap (λ b. if b then stored_without from to d else update_dest (deleted_rows (between from to s.list) (outside from to s.list)) (loses (between from to s.list)) (stored_rule_to k s.rules) d) x)
