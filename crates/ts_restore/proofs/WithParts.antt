-- A restored rule adds to the parts whose rules the stored data has.
use Rattle.std.proofs.Common.{◌≡◌, Bool, true, false, if◌then◌else◌, List, [], ◌∷◌, ◌++◌, Option, Some, None, option_map, refl, sym, ap, ◌∙◌, append-nil}
use Rattle.std.specs.Option.{option_or}
use Rattle.ts_spec.specs.Key.{Key, same}
use Rattle.ts_spec.specs.Keyed.{get, each}
use Rattle.ts_spec.specs.StoredSeries.{StoredRule, StoredSeries, StoredKeys}
use Rattle.ts_spec.specs.StoredKeys.{keys_changed}
use Rattle.ts_spec.proofs.Keys.{same-true, same-sym}
use Rattle.ts_spec.proofs.Maps.{get-each, maps-same}
use Rattle.ts_restore.specs.Checkpoint.{RulePart}
use Rattle.ts_restore.specs.Restored.{sourced, with_stored_rule, keys_with_rule}
use Rattle.ts_restore.proofs.PartLists.{rules_from, source_to, rules_from-append, source_to-append}

-- a stored series with the rules of these parts in place of its own
abbrev pub with_parts : List RulePart → Key → StoredSeries → StoredSeries
with_parts ps k d = record d { rules = rules_from k ps; source = source_to k ps }

or-none : (o : Option Key) → option_or o None ≡ o
or-none None = refl
or-none (Some x) = refl

-- ---- one more rule

module _ (keys : StoredKeys) (done : List RulePart) (p : RulePart) (free : source_to p.rule.dest done ≡ None) where
  more-rules : (k : Key) (a : Bool) → same k p.source ≡ a → rules_from k (done ++ p ∷ []) ≡ (if a then rules_from k done ++ p.rule ∷ [] else rules_from k done)
  more-rules k true e =
      rules_from-append k done (p ∷ []) ∙ ap (λ (b : Bool). rules_from k done ++ (if b then p.rule ∷ [] else [])) (same-sym p.source k ∙ e)
  more-rules k false e =
      rules_from-append k done (p ∷ []) ∙ ap (λ (b : Bool). rules_from k done ++ (if b then p.rule ∷ [] else [])) (same-sym p.source k ∙ e) ∙ append-nil (rules_from k done)

  more-source : (k : Key) (b : Bool) → same k p.rule.dest ≡ b → source_to k (done ++ p ∷ []) ≡ (if b then Some p.source else source_to k done)
  more-source k true e =
      let none : source_to k done ≡ None = ap (λ (j : Key). source_to j done) (same-true k p.rule.dest e) ∙ free in
      source_to-append k done (p ∷ [])
      ∙ ap (λ (b : Bool). option_or (source_to k done) (if b then Some p.source else None)) (same-sym p.rule.dest k ∙ e)
      ∙ ap (λ (o : Option Key). option_or o (Some p.source)) none
  more-source k false e =
      source_to-append k done (p ∷ [])
      ∙ ap (λ (b : Bool). option_or (source_to k done) (if b then Some p.source else None)) (same-sym p.rule.dest k ∙ e)
      ∙ or-none (source_to k done)

  each-key : (k : Key) (a b : Bool) → same k p.source ≡ a → same k p.rule.dest ≡ b → (o : Option StoredSeries) →
      option_map (λ d. if b then sourced p.source d else d) (option_map (λ d. if a then with_stored_rule p.rule d else d) (option_map (with_parts done k) o)) ≡ option_map (with_parts (done ++ p ∷ []) k) o
  each-key k a b x y None = refl
  each-key k true true x y (Some d) =
      ap (λ (qs : List StoredRule). Some (record d { rules = qs; source = Some p.source })) (sym (more-rules k true x))
      ∙ ap (λ (o : Option Key). Some (record d { rules = rules_from k (done ++ p ∷ []); source = o })) (sym (more-source k true y))
  each-key k true false x y (Some d) =
      ap (λ (qs : List StoredRule). Some (record d { rules = qs; source = source_to k done })) (sym (more-rules k true x))
      ∙ ap (λ (o : Option Key). Some (record d { rules = rules_from k (done ++ p ∷ []); source = o })) (sym (more-source k false y))
  each-key k false true x y (Some d) =
      ap (λ (qs : List StoredRule). Some (record d { rules = qs; source = Some p.source })) (sym (more-rules k false x))
      ∙ ap (λ (o : Option Key). Some (record d { rules = rules_from k (done ++ p ∷ []); source = o })) (sym (more-source k true y))
  each-key k false false x y (Some d) =
      ap (λ (qs : List StoredRule). Some (record d { rules = qs; source = source_to k done })) (sym (more-rules k false x))
      ∙ ap (λ (o : Option Key). Some (record d { rules = rules_from k (done ++ p ∷ []); source = o })) (sym (more-source k false y))

  pub one-rule : keys_with_rule p (each (with_parts done) keys) ≡ each (with_parts (done ++ p ∷ [])) keys
  one-rule =
      maps-same (keys_with_rule p (each (with_parts done) keys)) (each (with_parts (done ++ p ∷ [])) keys)
      (λ k. get-each (λ j d. if same j p.rule.dest then sourced p.source d else d) k (keys_changed p.source (with_stored_rule p.rule) (each (with_parts done) keys))
      ∙ ap (option_map (λ d. if same k p.rule.dest then sourced p.source d else d))
      (get-each (λ j d. if same j p.source then with_stored_rule p.rule d else d) k (each (with_parts done) keys) ∙ ap (option_map (λ d. if same k p.source then with_stored_rule p.rule d else d)) (get-each (with_parts done) k keys))
      ∙ each-key k (same k p.source) (same k p.rule.dest) refl refl (get k keys)
      ∙ sym (get-each (with_parts (done ++ p ∷ [])) k keys))
