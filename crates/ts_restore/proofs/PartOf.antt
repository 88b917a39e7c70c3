-- Each rule part of the stored data of a valid state is one of its rules.
use Rattle.std.proofs.Common.{◌≡◌, ℕ, ◌<◌, ◌≤◌, List, [], ◌∷◌, ◌++◌, map, Some, refl, subst}
use Rattle.ts_spec.specs.declared.limits.Limits.{Limits}
use Rattle.ts_spec.specs.Key.{Key}
use Rattle.ts_spec.specs.Keyed.{Entry, get, each_in}
use Rattle.ts_spec.specs.State.{Rule, Record, State, link_to}
use Rattle.ts_spec.specs.Valid.{EachRule, IsSoundRule, IsMadeAfter, IsInOrder, IsSoleLink, IsValid}
use Rattle.ts_spec.specs.StoredSeries.{StoredRule, stored_rule, stored_record, kept}
use Rattle.ts_spec.specs.Represents.{HaveDurations, AllHaveDurations}
use Rattle.ts_spec.proofs.StoredMaps.{kept-there}
use Rattle.ts_restore.specs.Checkpoint.{RulePart, parts_from, rule_parts}
use Rattle.ts_restore.specs.Restorable.{AreMadeBefore}
use Rattle.ts_restore.proofs.Entries.{AllEntries, each-entry}
use Rattle.ts_restore.proofs.PartLists.{AllParts, parts-join}

-- a part is the stored form of a rule of its source
pub record IsPartOf (m : State) (p : RulePart) : Type 0 where
  pub source : Record
  pub there : get p.source m ≡ Some source
  pub rule : Rule
  pub stored : stored_rule rule ≡ p.rule
  pub sound : IsSoundRule source rule
  pub sole : IsSoleLink m p.source rule
  pub duration : 1 ≤ rule.grid.duration

one-source : (m : State) (k : Key) (d : Record) → get k m ≡ Some d → (rs : List Rule) → EachRule (IsSoundRule d) rs → EachRule (IsSoleLink m k) rs → HaveDurations (map stored_rule rs) →
    AllParts (IsPartOf m) (parts_from k (map stored_rule rs))
one-source m k d there [] sound sole long = tt
one-source m k d there (r ∷ rs) sound sole long =
    (record { source = d; there = there; rule = r; stored = refl; sound = sound.0; sole = sole.0; duration = long.0 }, one-source m k d there rs sound.1 sole.1 long.1)

module _ (limits : Limits) (m : State) (v : IsValid limits m) (long : AllHaveDurations (kept m)) where
  all-sources : (es : List (Entry Record)) → AllEntries (λ k d. get k m ≡ Some d) es → AllParts (IsPartOf m) (rule_parts (each_in (λ k d. stored_record (link_to m k) d) es))
  all-sources [] h = tt
  all-sources (e ∷ es) h =
      parts-join (IsPartOf m) (parts_from e.key (map stored_rule e.value.rules)) (rule_parts (each_in (λ k d. stored_record (link_to m k) d) es))
      (one-source m e.key e.value h.0 e.value.rules (v.sound e.key e.value h.0).rules (v.linked e.key e.value h.0) (long e.key (stored_record (link_to m e.key) e.value) (kept-there m e.key e.value h.0)))
      (all-sources es h.1)

  -- Each part is one of the rules.
  pub all-parts : AllParts (IsPartOf m) (rule_parts (kept m).entries)
  all-parts = all-sources m.entries (each-entry (λ k d. get k m ≡ Some d) m.entries m.sorted (λ k d e. e))

-- ---- the order of rules

after-at : (n : ℕ) (rs : List Rule) (xs : List StoredRule) (q : StoredRule) (ys : List StoredRule) → IsMadeAfter n rs → map stored_rule rs ≡ xs ++ q ∷ ys → n < q.made
after-at n [] [] q ys h e = absurd (cc e)
after-at n [] (x ∷ xs) q ys h e = absurd (cc e)
after-at n (r ∷ rs) [] q ys h e = let is : stored_rule r ≡ q = cc e in subst (λ (x : StoredRule). n < x.made) is h.0
after-at n (r ∷ rs) (x ∷ xs) q ys h e = after-at n rs xs q ys h.1 (cc e)

-- The rules before one among those of a source were created before it.
pub made-in-order : (rs : List Rule) (xs : List StoredRule) (q : StoredRule) (ys : List StoredRule) → IsInOrder rs → map stored_rule rs ≡ xs ++ q ∷ ys → AreMadeBefore q.made xs
made-in-order rs [] q ys h e = tt
made-in-order [] (x ∷ xs) q ys h e = absurd (cc e)
made-in-order (r ∷ rs) (x ∷ xs) q ys h e =
    let is : stored_rule r ≡ x = cc e in
    let rest : map stored_rule rs ≡ xs ++ q ∷ ys = cc e in
    (subst (λ (y : StoredRule). y.made < q.made) is (after-at r.made rs xs q ys h.0 rest), made-in-order rs xs q ys h.1 rest)
