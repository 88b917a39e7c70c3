-- The stored data after rules end and keys are deleted.
use Rattle.std.proofs.Common.{◌≡◌, ℕ, ◌+◌, Bool, true, false, not, ◌&&◌, ◌||◌, if◌then◌else◌, cond, List, [], ◌∷◌, map, filter, Option, Some, None, is_some, option_map, refl, sym, ap, ◌∙◌}
use Rattle.std.specs.Prelude.{⊤}
use Rattle.ts_spec.specs.declared.limits.Limits.{Limits}
use Rattle.ts_spec.specs.Key.{Key, same}
use Rattle.ts_spec.specs.Keyed.{get, without_key}
use Rattle.ts_spec.specs.State.{Rule, Record, State, Link, rule_to, link_to, rule_into}
use Rattle.ts_spec.specs.Rules.{shown_by, ended_in, ended, dropped}
use Rattle.ts_spec.specs.Refusal.{NoKey, NoRule}
use Rattle.ts_spec.specs.Response.{Count}
use Rattle.ts_spec.specs.Step.{delete_rule_at, delete_rule, drop_keys, count_there}
use Rattle.ts_spec.specs.Valid.{IsValid}
use Rattle.ts_spec.specs.StoredSeries.{StoredSeries, StoredRule, stored_rule, stored_record, kept}
use Rattle.ts_spec.specs.StoredKeys.{source_left, stored_ended, keys_ended, keys_dropped}
use Rattle.ts_spec.specs.StoredStep.{stored_delete_rule_at, stored_delete_rule, stored_drop_keys, stored_count_there}
use Rattle.ts_spec.proofs.Maps.{get-each, get-without}
use Rattle.ts_spec.proofs.Keeps.{shown-there}
use Rattle.ts_spec.proofs.EndingRules as ending
use Rattle.ts_spec.proofs.KeysGo.{valid-dropped, loose-ended, links-left}
use Rattle.ts_spec.proofs.StoredMaps.{get-kept, some-mapped, some-kept, kept-same, kept-each, rule_to-kept}
use Rattle.ts_spec.proofs.CountsAfter.{counts-on-ended, counts-on-dropped}
use Rattle.ts_spec.proofs.Led.{IsLed, led-told, led-refused, led-if, led-at}

filter-kept : (test : Key → Bool) (rs : List Rule) → filter (λ q. test q.dest) (map stored_rule rs) ≡ map stored_rule (filter (λ r. test r.dest) rs)
filter-kept test [] = refl
filter-kept test (r ∷ rs) = go (test r.dest) (filter-kept test rs)
  where
    go : (b : Bool) → filter (λ q. test q.dest) (map stored_rule rs) ≡ map stored_rule (filter (λ r. test r.dest) rs) →
        cond b (stored_rule r ∷ filter (λ q. test q.dest) (map stored_rule rs)) (filter (λ q. test q.dest) (map stored_rule rs)) ≡ map stored_rule (cond b (r ∷ filter (λ r. test r.dest) rs) (filter (λ r. test r.dest) rs))
    go true ih = ap (λ (qs : List StoredRule). stored_rule r ∷ qs) ih
    go false ih = ih

-- ---- the end of rules

module _ (limits : Limits) (m : State) (ends : Key → Key → Bool) (v : IsValid limits m) where
  source-ended : (k : Key) → source_left ends k (option_map (λ l. l.source) (link_to m k)) ≡ option_map (λ l. l.source) (link_to (ended ends m) k)
  source-ended k = go (link_to m k) refl
    where
      go : (o : Option Link) → link_to m k ≡ o → source_left ends k (option_map (λ l. l.source) o) ≡ option_map (λ l. l.source) (link_to (ended ends m) k)
      go None x = ap (option_map (λ (l : Link). l.source)) (sym (ending.link-none-left limits m ends v k x))
      go (Some l) x = again (ends l.source k) refl
        where
          again : (b : Bool) → ends l.source k ≡ b → (if b then None else Some l.source) ≡ option_map (λ l. l.source) (link_to (ended ends m) k)
          again true e = ap (option_map (λ (l : Link). l.source)) (sym (ending.link-gone limits m ends v k l x e))
          again false e = ap (option_map (λ (l : Link). l.source)) (sym (ending.link-left limits m ends v k l x e))

  record-ended : (k : Key) (d : Record) → get k m ≡ Some d → stored_ended ends k (stored_record (link_to m k) d) ≡ stored_record (link_to (ended ends m) k) (ended_in ends m k d)
  record-ended k d x =
      let list : shown_by (rule_into m k) d ≡ shown_by (rule_into (ended ends m) k) (ended_in ends m k d) =
      sym (shown-there m k d x) ∙ sym (ending.shown-ended limits m ends v k d x)
      ∙ shown-there (ended ends m) k (ended_in ends m k d) (get-each (λ j c. ended_in ends m j c) k m ∙ ap (option_map (ended_in ends m k)) x) in
      let rules : filter (λ q. not (ends k q.dest)) (map stored_rule d.rules) ≡ map stored_rule (filter (λ r. not (ends k r.dest)) d.rules) = filter-kept (λ j. not (ends k j)) d.rules in
      let source : source_left ends k (option_map (λ (l : Link). l.source) (link_to m k)) ≡ option_map (λ (l : Link). l.source) (link_to (ended ends m) k) = source-ended k in
      λ i. record (stored_ended ends k (stored_record (link_to m k) d)) { list = list i; rules = rules i; source = source i }

  pub kept-ended : keys_ended ends (kept m) ≡ kept (ended ends m)
  kept-ended =
      kept-each (kept m) (stored_ended ends) m (ended ends m) refl
      (λ k. go k (get k m) refl ∙ ap (option_map (stored_record (link_to (ended ends m) k))) (sym (get-each (λ j c. ended_in ends m j c) k m)))
    where
      go : (k : Key) (o : Option Record) → get k m ≡ o → option_map (stored_ended ends k) (option_map (stored_record (link_to m k)) o) ≡ option_map (stored_record (link_to (ended ends m) k)) (option_map (ended_in ends m k) o)
      go k None x = refl
      go k (Some d) x = ap (λ (q : StoredSeries). Some q) (record-ended k d x)

pub led-without_rule : {Room : Type 0} {Spared : Key → Type 0} {Known : Key → Key → Rule → Type 0} (limits : Limits) (m : State) → IsValid limits m → (source dest : Key) →
    IsLed limits Room Spared Known m (delete_rule m source dest) (stored_delete_rule (kept m) source dest)
led-without_rule {Room} {Spared} {Known} limits m v source dest =
    led-at limits m v source (delete_rule_at m source dest) (stored_delete_rule_at (kept m) source dest) (λ x. led-refused limits m v NoKey)
    (λ d x. rw (ap is_some (rule_to-kept dest d.rules) ∙ some-mapped stored_rule (rule_to dest d.rules))
    (led-if limits m v (is_some (rule_to dest d.rules)) _ _ _ _
    (record {
      is_step = λ room. record { response = refl; stands = record { valid = ending.valid-ended limits m (λ s e. same s source && same e dest) v; kept = kept-ended limits m (λ s e. same s source && same e dest) v } };
      counts = λ s k old other known h. counts-on-ended limits m (λ i j. same i source && same j dest) v s k old h;
    })
    (led-refused limits m v NoRule)))

-- ---- the end of keys

pub kept-dropped : (limits : Limits) (m : State) (key : Key) → IsValid limits m → keys_dropped key (kept m) ≡ kept (dropped key m)
kept-dropped limits m key v =
    ap (without_key key) (kept-ended limits m (λ s d. same s key || same d key) v)
    ∙ kept-same (without_key key (kept n)) (without_key key n)
    (λ k. get-without k key (kept n) ∙ go k (same key k)
    ∙ ap (λ (l : Option Link). option_map (stored_record l) (if same key k then None else get k n)) (sym (links-left limits n key (ending.valid-ended limits m (λ s d. same s key || same d key) v) (loose-ended limits m key v) k))
    ∙ ap (option_map (stored_record (link_to (without_key key n) k))) (sym (get-without k key n)))
  where
    n : State
    n = ended (λ s d. same s key || same d key) m

    go : (k : Key) (b : Bool) → (if b then None else get k (kept n)) ≡ option_map (stored_record (link_to n k)) (if b then None else get k n)
    go k true = refl
    go k false = get-kept n k

-- the keys go one after another
pub led-dropped : {Spared : Key → Type 0} (limits : Limits) (m : State) → IsValid limits m → (so_far : ℕ) (ks : List Key) → IsLed limits ⊤ Spared (λ s k old. ⊤) m (drop_keys m so_far ks) (stored_drop_keys (kept m) so_far ks)
led-dropped limits m v so_far [] = led-told limits m v (Count so_far) (Count so_far) refl
led-dropped {Spared} limits m v so_far (k ∷ ks) =
    rw (some-kept m k) (go (is_some (get k m)) (led-dropped limits (dropped k m) (valid-dropped limits m k v) (so_far + 1) ks) (led-dropped limits m v so_far ks))
  where
    go : (b : Bool) → IsLed limits ⊤ Spared (λ s k old. ⊤) (dropped k m) (drop_keys (dropped k m) (so_far + 1) ks) (stored_drop_keys (kept (dropped k m)) (so_far + 1) ks) →
        IsLed limits ⊤ Spared (λ s k old. ⊤) m (drop_keys m so_far ks) (stored_drop_keys (kept m) so_far ks) →
        IsLed limits ⊤ Spared (λ s k old. ⊤) m (drop_keys (if b then dropped k m else m) (if b then so_far + 1 else so_far) ks) (stored_drop_keys (if b then keys_dropped k (kept m) else kept m) (if b then so_far + 1 else so_far) ks)
    go true there gone = rw (kept-dropped limits m k v) (record { is_step = there.is_step; counts = λ s j old other known h. there.counts s j old other tt (counts-on-dropped limits m s j k old v h) })
    go false there gone = gone

pub there-kept : (m : State) (ks : List Key) → stored_count_there (kept m) ks ≡ count_there m ks
there-kept m [] = refl
there-kept m (k ∷ ks) = rw (some-kept m k, there-kept m ks) refl
