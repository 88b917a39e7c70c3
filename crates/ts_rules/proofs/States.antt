-- The planned rule and destination are the stored data after the command, in each state that it represents.
use Rattle.std.proofs.Common.{◌≡◌, ℕ, ℤ, ◌<◌, ◌≤◌, Bool, true, false, cond, if◌then◌else◌, List, [], ◌∷◌, map, length, Option, None, Some, option_map, refl, sym, ap, ◌∙◌, subst}
use Rattle.ts_spec.specs.declared.limits.Limits.{Limits}
use Rattle.ts_spec.specs.Sample.{Point, between, outside, put}
use Rattle.ts_spec.specs.Key.{Key, same}
use Rattle.ts_spec.specs.Keyed.{get}
use Rattle.ts_spec.specs.State.{State, link_to, rule_to}
use Rattle.ts_spec.specs.Rules.{is_append, shown, written, deleted}
use Rattle.ts_spec.specs.StoredSeries.{StoredRule, StoredSeries, kept, stored_rule, stored_record}
use Rattle.ts_spec.specs.StoredStep.{stored_rules_at, list_at}
use Rattle.ts_spec.specs.StoredUpdates.{stored_rule_to, stored_sample, stored_with, stored_without, updated_list, high_after_rows, written_rule, written_row, deleted_rule, deleted_rows, loses, updated_by_write, updated_by_deletion, after_write, after_deletion}
use Rattle.ts_spec.proofs.Keys.{same-true, same-refl}
use Rattle.ts_spec.proofs.Maps.{get-each}
use Rattle.ts_spec.proofs.Linked.{From, mapped-from}
use Rattle.ts_spec.proofs.RuleLists.{rule-link}
use Rattle.ts_spec.proofs.StoredMaps.{get-kept, rule_to-kept, list-kept}
use Rattle.ts_spec.proofs.StoredWritten.{kept-written}
use Rattle.ts_spec.proofs.Deleted.{source-free, kept-deleted}
use Rattle.ts_series.specs.History.{History, list_of}
use Rattle.ts_rules.specs.declared.rule.Rule.{Rule}
use Rattle.ts_rules.specs.Rules.{stored_rule_for}
use Rattle.ts_rules.specs.Plans.{list_after_update}
use Rattle.ts_rules.specs.States.{IsOfState, IsLawOfWrites, IsLawOfDeletions}

-- a change of rules that keeps their destinations
changed-to : (k : Key) (f : StoredRule → StoredRule) (qs : List StoredRule) → ((q : StoredRule) → (f q).dest ≡ q.dest) → stored_rule_to k (map f qs) ≡ option_map f (stored_rule_to k qs)
changed-to k f [] h = refl
changed-to k f (q ∷ qs) h =
    ap (λ (j : Key). cond (same j k) (Some (f q)) (stored_rule_to k (map f qs))) (h q) ∙ go (same q.dest k) (changed-to k f qs h)
  where
    go : (b : Bool) → stored_rule_to k (map f qs) ≡ option_map f (stored_rule_to k qs) → cond b (Some (f q)) (stored_rule_to k (map f qs)) ≡ option_map f (cond b (Some q) (stored_rule_to k qs))
    go true ih = refl
    go false ih = ih

module _ (limits : Limits) (m : State) (key to : Key) (r : Rule) (source dest : History) (s d : StoredSeries) (limit : ℕ) (h : IsOfState limits m key to r source dest s d) where
  -- the record of the source
  origin : From (stored_record (link_to m key)) (get key m) s
  origin = mapped-from (stored_record (link_to m key)) (get key m) s (sym (get-kept m key) ∙ h.source_there)

  -- the rule in it
  led : From stored_rule (rule_to to origin.value.rules) (stored_rule_for to r)
  led = mapped-from stored_rule (rule_to to origin.value.rules) (stored_rule_for to r) (sym (rule_to-kept to origin.value.rules) ∙ ap (λ (c : StoredSeries). stored_rule_to to c.rules) origin.gives ∙ h.rule)

  -- a source is no destination of its own
  apart : same to key ≡ false
  apart = go (same to key) refl
    where
      link : link_to m to ≡ Some (record { source = key; rule = led.value })
      link = rule-link m key to origin.value led.value h.valid.linked origin.is led.is

      free : link_to m key ≡ None
      free = source-free m key to origin.value led.value h.valid.linked origin.is led.is

      go : (b : Bool) → same to key ≡ b → same to key ≡ false
      go false e = e
      go true e =
          let clash : None ≡ Some (record { source = key; rule = led.value }) = sym free ∙ ap (link_to m) (sym (same-true to key e)) ∙ link in
          absurd (cc clash)

  -- ---- a write

  module _ (t : ℕ) (v : ℤ) where
    abbrev p : Point
    p = stored_sample t v s

    source-after : get key (kept (written key t v m)) ≡ Some (stored_with t v s)
    source-after =
        ap (get key) (kept-written limits m key origin.value t v h.valid origin.is)
        ∙ get-each (after_write key t v (get key (kept m))) key (kept m)
        ∙ ap (λ (o : Option StoredSeries). option_map (after_write key t v o key) o) h.source_there
        ∙ ap (λ (b : Bool). Some (if b then stored_with t v s else updated_by_write t v s (stored_rule_to key s.rules) s)) (same-refl key)

    dest-after : get to (kept (written key t v m)) ≡ Some (updated_by_write t v s (Some (stored_rule_for to r)) d)
    dest-after =
        ap (get to) (kept-written limits m key origin.value t v h.valid origin.is)
        ∙ get-each (after_write key t v (get key (kept m))) to (kept m)
        ∙ (λ i. option_map (after_write key t v (h.source_there i) to) (h.dest_there i))
        ∙ ap (λ (b : Bool). Some (if b then stored_with t v d else updated_by_write t v s (stored_rule_to to s.rules) d)) apart
        ∙ ap (λ (q : Option StoredRule). Some (updated_by_write t v s q d)) h.rule

    -- the list of the destination
    list-after : (updated_by_write t v s (Some (stored_rule_for to r)) d).list ≡ list_after_update (λ u. false) (written_row p (put p (list_of source)) dest.born (stored_rule_for [] r)) dest
    list-after = λ i. updated_list (h.dest_options i).retention (h.dest_high i) (λ u. false) (written_row p (put p (h.source_list i)) (h.dest_born i) (stored_rule_for to r)) (h.dest_list i)

    high-after : (updated_by_write t v s (Some (stored_rule_for to r)) d).high ≡ high_after_rows (written_row p (put p (list_of source)) dest.born (stored_rule_for [] r)) dest.high
    high-after = λ i. high_after_rows (written_row p (put p (h.source_list i)) (h.dest_born i) (stored_rule_for to r)) (h.dest_high i)

    shown-after : shown (written key t v m) to ≡ list_after_update (λ u. false) (written_row p (put p (list_of source)) dest.born (stored_rule_for [] r)) dest
    shown-after = sym (list-kept (written key t v m) to) ∙ ap list_at dest-after ∙ list-after

    rule-after : (n : Rule) → stored_rule_for to n ≡ written_rule (is_append t source.high) p (put p (list_of source)) (stored_rule_for to r) → stored_rule_to to (stored_rules_at (get key (kept (written key t v m)))) ≡ Some (stored_rule_for to n)
    rule-after n e =
        ap (λ (o : Option StoredSeries). stored_rule_to to (stored_rules_at o)) source-after
        ∙ changed-to to (written_rule (is_append t s.high) p (put p s.list)) s.rules (λ q. refl)
        ∙ ap (option_map (written_rule (is_append t s.high) p (put p s.list))) h.rule
        ∙ (λ i. Some (written_rule (is_append t (h.source_high i)) p (put p (h.source_list i)) (stored_rule_for to r)))
        ∙ ap (λ (q : StoredRule). Some q) (sym e)

    pub law-of-writes : IsLawOfWrites limits m key to r source dest s d limit t v
    law-of-writes = record {
      planned = λ plan x. record {
        rule = rule-after plan.rule (x.0.kept to);
        destination = dest-after ∙ (λ i. Some (record d { list = (list-after ∙ sym x.1.list) i; high = (high-after ∙ sym x.1.high) i }));
        fits = subst (λ (ps : List Point). length ps ≤ limit) (sym shown-after) x.1.fits;
      };
      full = λ x. subst (λ (ps : List Point). limit < length ps) (sym shown-after) x;
    }

  -- ---- a deletion

  module _ (first last : ℕ) where
    abbrev gone : List Point → List Point
    gone ps = between first last ps

    abbrev left : List Point → List Point
    left ps = outside first last ps

    source-left : get key (kept (deleted key first last m)) ≡ Some (stored_without first last s)
    source-left =
        ap (get key) (kept-deleted limits m key origin.value first last h.valid origin.is)
        ∙ get-each (after_deletion key first last (get key (kept m))) key (kept m)
        ∙ ap (λ (o : Option StoredSeries). option_map (after_deletion key first last o key) o) h.source_there
        ∙ ap (λ (b : Bool). Some (if b then stored_without first last s else updated_by_deletion first last s (stored_rule_to key s.rules) s)) (same-refl key)

    dest-left : get to (kept (deleted key first last m)) ≡ Some (updated_by_deletion first last s (Some (stored_rule_for to r)) d)
    dest-left =
        ap (get to) (kept-deleted limits m key origin.value first last h.valid origin.is)
        ∙ get-each (after_deletion key first last (get key (kept m))) to (kept m)
        ∙ (λ i. option_map (after_deletion key first last (h.source_there i) to) (h.dest_there i))
        ∙ ap (λ (b : Bool). Some (if b then stored_without first last d else updated_by_deletion first last s (stored_rule_to to s.rules) d)) apart
        ∙ ap (λ (q : Option StoredRule). Some (updated_by_deletion first last s q d)) h.rule

    list-left : (updated_by_deletion first last s (Some (stored_rule_for to r)) d).list ≡
        list_after_update (loses (gone (list_of source)) (stored_rule_for [] r)) (deleted_rows (gone (list_of source)) (left (list_of source)) dest.born (stored_rule_for [] r)) dest
    list-left = λ i. updated_list (h.dest_options i).retention (h.dest_high i) (loses (gone (h.source_list i)) (stored_rule_for to r))
        (deleted_rows (gone (h.source_list i)) (left (h.source_list i)) (h.dest_born i) (stored_rule_for to r)) (h.dest_list i)

    high-left : (updated_by_deletion first last s (Some (stored_rule_for to r)) d).high ≡ high_after_rows (deleted_rows (gone (list_of source)) (left (list_of source)) dest.born (stored_rule_for [] r)) dest.high
    high-left = λ i. high_after_rows (deleted_rows (gone (h.source_list i)) (left (h.source_list i)) (h.dest_born i) (stored_rule_for to r)) (h.dest_high i)

    shown-left : shown (deleted key first last m) to ≡ list_after_update (loses (gone (list_of source)) (stored_rule_for [] r)) (deleted_rows (gone (list_of source)) (left (list_of source)) dest.born (stored_rule_for [] r)) dest
    shown-left = sym (list-kept (deleted key first last m) to) ∙ ap list_at dest-left ∙ list-left

    rule-left : (n : Rule) → stored_rule_for to n ≡ deleted_rule (gone (list_of source)) (left (list_of source)) (stored_rule_for to r) → stored_rule_to to (stored_rules_at (get key (kept (deleted key first last m)))) ≡ Some (stored_rule_for to n)
    rule-left n e =
        ap (λ (o : Option StoredSeries). stored_rule_to to (stored_rules_at o)) source-left
        ∙ changed-to to (deleted_rule (gone s.list) (left s.list)) s.rules (λ q. refl)
        ∙ ap (option_map (deleted_rule (gone s.list) (left s.list))) h.rule
        ∙ (λ i. Some (deleted_rule (gone (h.source_list i)) (left (h.source_list i)) (stored_rule_for to r)))
        ∙ ap (λ (q : StoredRule). Some q) (sym e)

    pub law-of-deletions : IsLawOfDeletions limits m key to r source dest d limit first last
    law-of-deletions = record {
      planned = λ plan x. record {
        rule = rule-left plan.rule (x.0.kept to);
        destination = dest-left ∙ (λ i. Some (record d { list = (list-left ∙ sym x.1.list) i; high = (high-left ∙ sym x.1.high) i }));
        fits = subst (λ (ps : List Point). length ps ≤ limit) (sym shown-left) x.1.fits;
      };
      full = λ x. subst (λ (ps : List Point). limit < length ps) (sym shown-left) x;
    }
