-- The rules of a checkpoint of stored data are new one after another, and give the stored data back.
use Rattle.std.proofs.Common.{◌≡◌, suc, ◌+◌, ◌<◌, ◌≤◌, Bool, true, false, if◌then◌else◌, List, [], ◌∷◌, ◌++◌, map, length, Option, Some, None, option_map, refl, sym, ap, ◌∙◌, subst, arith, length-append, append-nil, append_assoc}
use Rattle.ts_spec.specs.declared.limits.Limits.{Limits}
use Rattle.ts_spec.specs.Key.{Key, same}
use Rattle.ts_spec.specs.Keyed.{get, each}
use Rattle.ts_spec.specs.State.{Rule, Record, State, Link, link_to}
use Rattle.ts_spec.specs.Rules.{shown_by}
use Rattle.ts_spec.specs.Valid.{IsValid}
use Rattle.ts_spec.specs.StoredSeries.{StoredRule, StoredSeries, StoredKeys, stored_rule, stored_record, kept}
use Rattle.ts_spec.specs.StoredStep.{stored_rules_at}
use Rattle.ts_spec.specs.Represents.{AllHaveDurations}
use Rattle.ts_spec.proofs.Keys.{same-true, same-refl}
use Rattle.ts_spec.proofs.Maps.{get-each, maps-same}
use Rattle.ts_spec.proofs.Tidy.{some-same}
use Rattle.ts_spec.proofs.Linked.{IsTarget, link-target}
use Rattle.ts_spec.proofs.StoredMaps.{get-kept, kept-there, count-rules}
use Rattle.ts_restore.specs.Checkpoint.{RulePart, rule_parts}
use Rattle.ts_restore.specs.Restored.{keys_with_rule, keys_with_all_rules}
use Rattle.ts_restore.specs.Restorable.{AreMadeBefore, IsRule, IsNewRule, AreNewRules}
use Rattle.ts_restore.proofs.PartLists.{rules_from, source_to, AllParts, rules_from-append, parts-front, parts-at, PartTo, part-to, before-parts, rules-of-parts, source-of-parts}
use Rattle.ts_restore.proofs.PartOf.{IsPartOf, all-parts, made-in-order}
use Rattle.ts_restore.proofs.StoredRules.{rule-stored}
use Rattle.ts_restore.proofs.WithParts.{with_parts, one-rule}

-- one of several rules
not-none : (xs : List StoredRule) (q : StoredRule) (ys : List StoredRule) → xs ++ q ∷ ys ≡ [] → ⊥
not-none [] q ys e = cc e
not-none (x ∷ xs) q ys e = cc e

abbrev link_of : Key → Rule → Link
link_of source r = record { source = source; rule = r }

same-link : (a b : Link) → Some a ≡ Some b → a ≡ b
same-link a b e = cc e

front-none : (xs ys : List StoredRule) → xs ++ ys ≡ [] → xs ≡ []
front-none [] ys e = refl
front-none (x ∷ xs) ys e = absurd (cc e)

module _ (limits : Limits) (m : State) (v : IsValid limits m) (long : AllHaveDurations (kept m)) where
  abbrev parts : List RulePart
  parts = rule_parts (kept m).entries

  -- the rules of a source, and the source of a destination
  rules-back : (k : Key) (d : Record) → get k m ≡ Some d → rules_from k parts ≡ map stored_rule d.rules
  rules-back k d e = rules-of-parts k (kept m).entries (kept m).sorted ∙ ap stored_rules_at (kept-there m k d e)

  source-back : (k : Key) → source_to k parts ≡ option_map (λ l. l.source) (link_to m k)
  source-back k = source-of-parts k (λ j d. stored_record (link_to m j) d) (λ j d. refl) m.entries

  -- all parts give the stored data
  pub keys-back : each (with_parts parts) (kept m) ≡ kept m
  keys-back = maps-same (each (with_parts parts) (kept m)) (kept m) (λ k. get-each (with_parts parts) k (kept m) ∙ ap (option_map (with_parts parts k)) (get-kept m k) ∙ go k (get k m) refl ∙ sym (get-kept m k))
    where
      go : (k : Key) (o : Option Record) → get k m ≡ o → option_map (with_parts parts k) (option_map (stored_record (link_to m k)) o) ≡ option_map (stored_record (link_to m k)) o
      go k None e = refl
      go k (Some d) e =
          ap (λ (qs : List StoredRule). Some (record (stored_record (link_to m k) d) { rules = qs; source = source_to k parts })) (rules-back k d e)
          ∙ ap (λ (o : Option Key). Some (record (stored_record (link_to m k) d) { rules = map stored_rule d.rules; source = o })) (source-back k)

  module _ (done : List RulePart) (p : RulePart) (rest : List RulePart) (split : parts ≡ done ++ p ∷ rest) where
    all : AllParts (IsPartOf m) (done ++ p ∷ rest)
    all = subst (AllParts (IsPartOf m)) split (all-parts limits m v long)

    here : IsPartOf m p
    here = parts-at (IsPartOf m) done p rest all

    same_dest : here.rule.dest ≡ p.rule.dest
    same_dest = ap (λ (q : StoredRule). q.dest) here.stored

    dest-is : get p.rule.dest m ≡ Some here.sole.dest
    dest-is = ap (λ (k : Key). get k m) (sym same_dest) ∙ here.sole.there

    -- the rules of its source
    own-rules : map stored_rule here.source.rules ≡ rules_from p.source done ++ p.rule ∷ rules_from p.source rest
    own-rules =
        sym (rules-back p.source here.source here.there) ∙ ap (rules_from p.source) split ∙ rules_from-append p.source done (p ∷ rest)
        ∙ ap (λ (b : Bool). rules_from p.source done ++ (if b then p.rule ∷ rules_from p.source rest else rules_from p.source rest)) (same-refl p.source)

    -- a key with the source's rules is no destination
    not-dest : (d : Record) → get p.source m ≡ Some d → d.rules ≡ [] → ⊥
    not-dest d e none =
        let is : here.source ≡ d = some-same here.source d (sym here.there ∙ e) in
        not-none (rules_from p.source done) p.rule (rules_from p.source rest) (sym own-rules ∙ ap (λ (c : Record). map stored_rule c.rules) is ∙ ap (map stored_rule) none)

    other : (b : Bool) → same p.source p.rule.dest ≡ b → b ≡ false
    other false e = refl
    other true e = absurd (not-dest here.sole.dest (ap (λ (k : Key). get k m) (same-true p.source p.rule.dest e) ∙ dest-is) here.sole.no_rules)

    before : AreMadeBefore p.rule.made (rules_from p.source done)
    before = made-in-order here.source.rules (rules_from p.source done) p.rule (rules_from p.source rest) (v.sound p.source here.source here.there).in_order own-rules

    source-free : source_to p.source done ≡ None
    source-free = go (source_to p.source done) refl
      where
        go : (o : Option Key) → source_to p.source done ≡ o → o ≡ None
        go None e = refl
        go (Some x) e =
            let q : PartTo (IsPartOf m) (IsPartOf m) p.source = part-to (IsPartOf m) (IsPartOf m) p.source x done (parts-front (IsPartOf m) done (p ∷ rest) all) (parts-front (IsPartOf m) done (p ∷ rest) all) e in
            let to : q.holds.rule.dest ≡ p.source = ap (λ (r : StoredRule). r.dest) q.holds.stored ∙ q.dest in
            absurd (not-dest q.holds.sole.dest (ap (λ (k : Key). get k m) (sym to) ∙ q.holds.sole.there) q.holds.sole.no_rules)

    dest-free : source_to p.rule.dest done ≡ None
    dest-free = go (source_to p.rule.dest done) refl
      where
        go : (o : Option Key) → source_to p.rule.dest done ≡ o → o ≡ None
        go None e = refl
        go (Some x) e =
            let q : PartTo (IsPartOf m) (λ r. same r.source p.source ≡ true → r.rule.made < p.rule.made) p.rule.dest =
            part-to (IsPartOf m) (λ r. same r.source p.source ≡ true → r.rule.made < p.rule.made) p.rule.dest x done (parts-front (IsPartOf m) done (p ∷ rest) all) (before-parts p.rule.made p.source done before) e in
            let to : q.holds.rule.dest ≡ here.rule.dest = ap (λ (r : StoredRule). r.dest) q.holds.stored ∙ q.dest ∙ sym same_dest in
            let one : link_of q.part.source q.holds.rule ≡ link_of p.source here.rule =
            same-link (link_of q.part.source q.holds.rule) (link_of p.source here.rule) (sym q.holds.sole.link ∙ ap (link_to m) to ∙ here.sole.link) in
            let source : q.part.source ≡ p.source = ap (λ (l : Link). l.source) one in
            let made : q.part.rule.made ≡ p.rule.made = ap (λ (r : StoredRule). r.made) (sym q.holds.stored) ∙ ap (λ (l : Link). l.rule.made) one ∙ ap (λ (r : StoredRule). r.made) here.stored in
            let less : q.part.rule.made < p.rule.made = q.also (ap (λ (k : Key). same k p.source) source ∙ same-refl p.source) in
            absurd (omega arith)

    no-rules : rules_from p.rule.dest done ≡ []
    no-rules =
        front-none (rules_from p.rule.dest done) (rules_from p.rule.dest (p ∷ rest))
        (sym (rules_from-append p.rule.dest done (p ∷ rest)) ∙ ap (rules_from p.rule.dest) (sym split) ∙ rules-back p.rule.dest here.sole.dest dest-is ∙ ap (map stored_rule) here.sole.no_rules)

    room : length (rules_from p.source done) < limits.rules
    room =
        let few : length here.source.rules ≤ limits.rules = (v.within p.source here.source here.there).rules in
        let count : length (map stored_rule here.source.rules) ≡ length here.source.rules = count-rules here.source.rules in
        let both : length (map stored_rule here.source.rules) ≡ length (rules_from p.source done) + suc (length (rules_from p.source rest)) =
        ap (λ (qs : List StoredRule). length qs) own-rules ∙ length-append (rules_from p.source done) (p.rule ∷ rules_from p.source rest) in
        omega arith

    -- the source is no destination, so what it shows are its own samples
    unlinked : link_to m p.source ≡ None
    unlinked = go (link_to m p.source) refl
      where
        go : (o : Option Link) → link_to m p.source ≡ o → o ≡ None
        go None e = refl
        go (Some l) e =
            let t : IsTarget m p.source = link-target m p.source l v.linked e in absurd (not-dest t.record_of t.there t.no_rules)

    rule : (s : StoredSeries) → s.list ≡ here.source.plain → s.high ≡ here.source.high → s.born ≡ here.source.born → IsRule s p.rule
    rule s list high born =
        subst (IsRule s) here.stored (rule-stored here.source s list high born (v.sound p.source here.source here.there).ascending here.rule here.sound here.duration)

    stored-there : (k : Key) (d : Record) → get k m ≡ Some d → get k (each (with_parts done) (kept m)) ≡ Some (with_parts done k (stored_record (link_to m k) d))
    stored-there k d e = get-each (with_parts done) k (kept m) ∙ ap (option_map (with_parts done k)) (kept-there m k d e)

    is-new : IsNewRule limits (each (with_parts done) (kept m)) p
    is-new = record {
      other = other (same p.source p.rule.dest) refl;
      source = with_parts done p.source (stored_record (link_to m p.source) here.source);
      source_there = stored-there p.source here.source here.there;
      dest = with_parts done p.rule.dest (stored_record (link_to m p.rule.dest) here.sole.dest);
      dest_there = stored-there p.rule.dest here.sole.dest dest-is;
      source_free = source-free;
      dest_free = dest-free;
      dest_rules = no-rules;
      rules = room;
      after = before;
      rule = rule (with_parts done p.source (stored_record (link_to m p.source) here.source)) (ap (λ (o : Option Link). shown_by (option_map (λ l. l.rule) o) here.source) unlinked) refl refl;
    }

  -- from some parts on
  record IsBack (done rest : List RulePart) : Type 0 where
    new : AreNewRules limits (each (with_parts done) (kept m)) rest
    keys : keys_with_all_rules rest (each (with_parts done) (kept m)) ≡ each (with_parts (done ++ rest)) (kept m)

  rules-on : (rest done : List RulePart) → parts ≡ done ++ rest → IsBack done rest
  rules-on [] done split = record { new = tt; keys = ap (λ (ps : List RulePart). each (with_parts ps) (kept m)) (sym (append-nil done)) }
  rules-on (p ∷ rest) done split =
      let more : (done ++ p ∷ []) ++ rest ≡ done ++ p ∷ rest = append_assoc done (p ∷ []) rest in
      let step : keys_with_rule p (each (with_parts done) (kept m)) ≡ each (with_parts (done ++ p ∷ [])) (kept m) = one-rule (kept m) done p (dest-free done p rest split) in
      let ih : IsBack (done ++ p ∷ []) rest = rules-on rest (done ++ p ∷ []) (split ∙ sym more) in
      record {
        new = (is-new done p rest split, subst (λ (ks : StoredKeys). AreNewRules limits ks rest) (sym step) ih.new);
        keys = ap (keys_with_all_rules rest) step ∙ ih.keys ∙ ap (λ (ps : List RulePart). each (with_parts ps) (kept m)) more;
      }

  -- Each rule is new after those before it, and all of them give the stored data.
  pub new-rules : AreNewRules limits (each (with_parts []) (kept m)) parts
  new-rules = (rules-on parts [] refl).new

  pub keys-of-rules : keys_with_all_rules parts (each (with_parts []) (kept m)) ≡ kept m
  keys-of-rules = (rules-on parts [] refl).keys ∙ keys-back
