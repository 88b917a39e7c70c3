-- A restored rule is represented by the stored data with it.
use Rattle.std.proofs.Common.{◌≡◌, ℕ, ◌<◌, Bool, true, false, if◌then◌else◌, List, [], ◌∷◌, ◌++◌, map, length, Option, Some, None, option_map, refl, sym, ap, ◌∙◌, subst}
use Rattle.std.proofs.lemmas.Bool.{false≢true}
use Rattle.std.proofs.lemmas.List.{map-append}
use Rattle.ts_spec.specs.declared.limits.Limits.{Limits}
use Rattle.ts_spec.specs.Key.{Key, same}
use Rattle.ts_spec.specs.Keyed.{get}
use Rattle.ts_spec.specs.State.{Rule, Record, State, Link, link_to}
use Rattle.ts_spec.specs.Rules.{shown_by}
use Rattle.ts_spec.specs.Valid.{EachRule}
use Rattle.ts_spec.specs.StoredSeries.{StoredRule, StoredSeries, StoredKeys, stored_rule, stored_record, kept}
use Rattle.ts_spec.specs.StoredKeys.{keys_changed}
use Rattle.ts_spec.specs.Represents.{RepresentsState}
use Rattle.ts_spec.proofs.Keys.{same-true, same-sym}
use Rattle.ts_spec.proofs.Maps.{get-each}
use Rattle.ts_spec.proofs.Linked.{From, mapped-from}
use Rattle.ts_spec.proofs.PlainWrite.{get-change, own-kept}
use Rattle.ts_spec.proofs.StoredMaps.{get-kept, kept-same, count-rules}
use Rattle.ts_restore.specs.Checkpoint.{RulePart}
use Rattle.ts_restore.specs.Restored.{sourced, with_stored_rule, keys_with_rule, restored_rule, add_rule, rule_added, restored_at, with_restored_rule}
use Rattle.ts_restore.specs.Restorable.{AreMadeBefore, IsNewRule}
use Rattle.ts_restore.proofs.OpenRules.{shown-open}
use Rattle.ts_restore.proofs.AddedLinks.{IsAddable, link-stays, link-made}
use Rattle.ts_restore.proofs.AddedRules.{valid-added}
use Rattle.ts_restore.proofs.RestoredRules.{sound-restored, open-restored, stored-restored}

-- a series without a source is no destination
unlinked : (o : Option Link) → option_map (λ l. l.source) o ≡ None → o ≡ None
unlinked None e = refl
unlinked (Some l) e = absurd (cc e)

no-rules : (rs : List Rule) → map stored_rule rs ≡ [] → rs ≡ []
no-rules [] e = refl
no-rules (r ∷ rs) e = absurd (cc e)

made-before : (n : ℕ) (rs : List Rule) → AreMadeBefore n (map stored_rule rs) → EachRule (λ r. r.made < n) rs
made-before n [] x = tt
made-before n (r ∷ rs) x = (x.0, made-before n rs x.1)

module _ (limits : Limits) (m : State) (p : RulePart) (x : RepresentsState limits (kept m) m) (h : IsNewRule limits (kept m) p) where
  source-from : From (stored_record (link_to m p.source)) (get p.source m) h.source
  source-from = mapped-from (stored_record (link_to m p.source)) (get p.source m) h.source (sym (get-kept m p.source) ∙ h.source_there)

  dest-from : From (stored_record (link_to m p.rule.dest)) (get p.rule.dest m) h.dest
  dest-from = mapped-from (stored_record (link_to m p.rule.dest)) (get p.rule.dest m) h.dest (sym (get-kept m p.rule.dest) ∙ h.dest_there)

  abbrev s : Record
  s = source-from.value

  abbrev d : Record
  d = dest-from.value

  abbrev new : Rule
  new = restored_rule p.rule s

  source-free : link_to m p.source ≡ None
  source-free = unlinked (link_to m p.source) (ap (λ (q : StoredSeries). q.source) source-from.gives ∙ h.source_free)

  dest-free : link_to m p.rule.dest ≡ None
  dest-free = unlinked (link_to m p.rule.dest) (ap (λ (q : StoredSeries). q.source) dest-from.gives ∙ h.dest_free)

  same-list : h.source.list ≡ s.plain
  same-list = ap (λ (q : StoredSeries). q.list) (sym source-from.gives) ∙ ap (λ (o : Option Link). shown_by (option_map (λ l. l.rule) o) s) source-free

  same-high : h.source.high ≡ s.high
  same-high = ap (λ (q : StoredSeries). q.high) (sym source-from.gives)

  same-born : h.source.born ≡ s.born
  same-born = ap (λ (q : StoredSeries). q.born) (sym source-from.gives)

  same-rules : h.source.rules ≡ map stored_rule s.rules
  same-rules = ap (λ (q : StoredSeries). q.rules) (sym source-from.gives)

  new-stored : stored_rule new ≡ p.rule
  new-stored = stored-restored s h.source same-list same-high same-born p.rule h.rule

  addable : IsAddable limits m p.source new s d
  addable = record {
    other = h.other;
    source_there = source-from.is;
    dest_there = dest-from.is;
    source_free = source-free;
    dest_free = dest-free;
    dest_rules = no-rules d.rules (ap (λ (q : StoredSeries). q.rules) dest-from.gives ∙ h.dest_rules);
    rules = subst (λ (n : ℕ). n < limits.rules) (ap (λ (qs : List StoredRule). length qs) same-rules ∙ count-rules s.rules) h.rules;
    after = made-before p.rule.made s.rules (subst (AreMadeBefore p.rule.made) same-rules h.after);
    sound = sound-restored s h.source same-list same-high same-born p.rule h.rule;
    open_alone = open-restored s h.source same-list same-high same-born p.rule h.rule;
  }

  -- ---- the stored data

  source-stored : (c : Record) → stored_record None (add_rule new c) ≡ with_stored_rule p.rule (stored_record None c)
  source-stored c =
      let rules : map stored_rule (c.rules ++ new ∷ []) ≡ map stored_rule c.rules ++ p.rule ∷ [] =
      map-append stored_rule c.rules (new ∷ []) ∙ ap (λ (q : StoredRule). map stored_rule c.rules ++ q ∷ []) new-stored in
      λ i. record (with_stored_rule p.rule (stored_record None c)) { rules = rules i }

  dest-stored : (c : Record) → get p.rule.dest m ≡ Some c → stored_record (Some (record { source = p.source; rule = new })) c ≡ sourced p.source (stored_record None c)
  dest-stored c e =
      let list : shown_by (Some new) c ≡ c.plain = shown-open new c addable.open_alone (own-kept m p.rule.dest c x.valid.settled e) in
      λ i. record (sourced p.source (stored_record None c)) { list = list i }

  stays : (k : Key) → same k p.rule.dest ≡ false → link_to (rule_added p.source new m) k ≡ link_to m k
  stays k e = link-stays limits m p.source new s d x.valid addable k (same-sym p.rule.dest k ∙ e)

  made : (k : Key) → same k p.rule.dest ≡ true → link_to (rule_added p.source new m) k ≡ Some (record { source = p.source; rule = new })
  made k e = ap (link_to (rule_added p.source new m)) (same-true k p.rule.dest e) ∙ link-made limits m p.source new s d x.valid addable

  not-source : same p.rule.dest p.source ≡ false
  not-source = same-sym p.rule.dest p.source ∙ h.other

  each-key : (k : Key) (a b : Bool) → same k p.source ≡ a → same k p.rule.dest ≡ b → (o : Option Record) → get k m ≡ o →
      option_map (λ c. if b then sourced p.source c else c) (option_map (λ c. if a then with_stored_rule p.rule c else c) (option_map (stored_record (link_to m k)) o))
      ≡ option_map (stored_record (link_to (rule_added p.source new m) k)) (option_map (λ c. if a then add_rule new c else c) o)
  each-key k a b e f None z = refl
  each-key k true true e f (Some c) z = absurd (false≢true (sym not-source ∙ ap (λ (j : Key). same j p.source) (sym (same-true k p.rule.dest f)) ∙ e))
  each-key k true false e f (Some c) z =
      let free : link_to m k ≡ None = ap (link_to m) (same-true k p.source e) ∙ source-free in
      ap (λ (l : Option Link). Some (with_stored_rule p.rule (stored_record l c))) free
      ∙ ap (λ (q : StoredSeries). Some q) (sym (source-stored c))
      ∙ ap (λ (l : Option Link). Some (stored_record l (add_rule new c))) (sym (stays k f ∙ free))
  each-key k false true e f (Some c) z =
      let free : link_to m k ≡ None = ap (link_to m) (same-true k p.rule.dest f) ∙ dest-free in
      ap (λ (l : Option Link). Some (sourced p.source (stored_record l c))) free
      ∙ ap (λ (q : StoredSeries). Some q) (sym (dest-stored c (ap (λ (j : Key). get j m) (sym (same-true k p.rule.dest f)) ∙ z)))
      ∙ ap (λ (l : Option Link). Some (stored_record l c)) (sym (made k f))
  each-key k false false e f (Some c) z = ap (λ (l : Option Link). Some (stored_record l c)) (sym (stays k f))

  stored-added : keys_with_rule p (kept m) ≡ kept (rule_added p.source new m)
  stored-added =
      kept-same (keys_with_rule p (kept m)) (rule_added p.source new m)
      (λ k. get-each (λ j c. if same j p.rule.dest then sourced p.source c else c) k (keys_changed p.source (with_stored_rule p.rule) (kept m))
      ∙ ap (option_map (λ c. if same k p.rule.dest then sourced p.source c else c)) (get-each (λ j c. if same j p.source then with_stored_rule p.rule c else c) k (kept m) ∙ ap (option_map (λ c. if same k p.source then with_stored_rule p.rule c else c)) (get-kept m k))
      ∙ each-key k (same k p.source) (same k p.rule.dest) refl refl (get k m) refl
      ∙ ap (option_map (stored_record (link_to (rule_added p.source new m) k))) (sym (get-change m p.source k (add_rule new))))

  represents-added : RepresentsState limits (keys_with_rule p (kept m)) (with_restored_rule p m)
  represents-added =
      let is : rule_added p.source new m ≡ with_restored_rule p m = ap (λ (o : Option Record). restored_at p o m) (sym source-from.is) in
      subst (RepresentsState limits (keys_with_rule p (kept m))) is
      (record { valid = valid-added limits m p.source new s d x.valid addable; kept = stored-added })

-- The stored data with a new rule represents the state with it.
pub represents-rule : (limits : Limits) (keys : StoredKeys) (m : State) (p : RulePart) → RepresentsState limits keys m → IsNewRule limits keys p → RepresentsState limits (keys_with_rule p keys) (with_restored_rule p m)
represents-rule limits keys m p r h =
    subst (λ (ks : StoredKeys). RepresentsState limits (keys_with_rule p ks) (with_restored_rule p m)) (sym r.kept)
    (represents-added limits m p (record { valid = r.valid; kept = refl }) (subst (λ (ks : StoredKeys). IsNewRule limits ks p) r.kept h))
