-- TS.ALTER keeps a state valid.
use Rattle.std.proofs.Common.{◌≡◌, ℕ, ◌≤◌, Bool, true, false, not, ◌&&◌, nat_lt, nat_le, if◌then◌else◌, List, [], ◌∷◌, map, length, Option, Some, None, option_map, refl, sym, ap, ◌∙◌, subst, arith, le-leb, ltb-false}
use Rattle.std.specs.Option.{option_or, unwrap_or}
use Rattle.std.proofs.lemmas.Bool.{false≢true, and_parts}
use Rattle.ts_spec.specs.declared.limits.Limits.{Limits}
use Rattle.ts_spec.specs.Sample.{Point, at, at_times}
use Rattle.ts_spec.specs.Bucket.{start}
use Rattle.ts_spec.specs.Key.{Key, same}
use Rattle.ts_spec.specs.Keyed.{get}
use Rattle.ts_spec.specs.State.{Label, Rule, Record, State, Link, link_to, change, edge, edge_of}
use Rattle.ts_spec.specs.Rules.{bucket_sample, is_closed, has_row_of, shown, shown_by, tidied_by, edge_at, expired, cleared_to, clear_record, lost_by, lost_from, lost, settled}
use Rattle.ts_spec.specs.Command.{Change}
use Rattle.ts_spec.specs.Step.{altered, is_longer}
use Rattle.ts_spec.specs.Valid.{IsCountable, IsSoundRule, IsOwn, IsSound, IsSoleLink, IsValid}
use Rattle.ts_spec.proofs.Samples.{at-times, ascending-times, ascending-same}
use Rattle.ts_spec.proofs.Maps.{get-each, maps-same}
use Rattle.ts_spec.proofs.Linked.{link-dest}
use Rattle.ts_spec.proofs.Shows.{at-shown}
use Rattle.ts_spec.proofs.Tidy.{record-tidy, own-tidy, KeepsRules, map-id-rules}
use Rattle.ts_spec.proofs.Unmoved.{times-kept}
use Rattle.ts_spec.proofs.Sound.{each-rule-to}
use Rattle.ts_spec.proofs.Bodies.{bodies, sound-bodies}
use Rattle.ts_spec.proofs.Keeps.{shown-there, link-expired, valid-bodies}
use Rattle.ts_spec.proofs.Exact.{IsDone}
use Rattle.ts_spec.proofs.ShownAfter.{tells, told-cleared_at, length-times}
use Rattle.ts_spec.proofs.ClientChanges.{ascending-key, shown-source, shown-own, shown-dest}

-- a command that touches nothing and clears nothing changes the one record alone
pub bodies-nothing : (key : Key) (f : Record → Record) (m : State) → bodies key f (λ r b. false) (λ b. false) m ≡ change key f m
bodies-nothing key f m =
    maps-same (bodies key f (λ r b. false) (λ b. false) m) (change key f m)
    (λ k. get-each (λ j c. clear_record key (λ b. false) c) k (lost key (λ r b. false) (change key f m))
    ∙ ap (option_map (clear_record key (λ b. false))) (get-each (λ j c. lost_from key (λ r b. false) (link_to (change key f m) j) c) k (change key f m))
    ∙ go (link_to (change key f m) k) (get k (change key f m)))
  where
    and-false : (b : Bool) → (b && false) ≡ false
    and-false true = refl
    and-false false = refl

    not-lost : (o : Option Link) (t : ℕ) → not (lost_by key (λ r b. false) o t) ≡ true
    not-lost None t = refl
    not-lost (Some l) t = ap not (and-false (same l.source key))

    uncleared : (r : Rule) → cleared_to key (λ b. false) r ≡ r
    uncleared r =
        let seen : at_times (λ t. not ((same r.dest key && false) && is_closed r (start r.grid t))) r.seen ≡ r.seen =
        times-kept (λ t. not ((same r.dest key && false) && is_closed r (start r.grid t))) r.seen (λ t. ap (λ (b : Bool). not (b && is_closed r (start r.grid t))) (and-false (same r.dest key))) in
        λ i. record r { seen = seen i }

    all : (rs : List Rule) → map (cleared_to key (λ b. false)) rs ≡ rs
    all [] = refl
    all (r ∷ rs) = let first : cleared_to key (λ b. false) r ≡ r = uncleared r in let rest : map (cleared_to key (λ b. false)) rs ≡ rs = all rs in λ i. first i ∷ rest i

    go : (l : Option Link) (o : Option Record) → option_map (clear_record key (λ b. false)) (option_map (lost_from key (λ r b. false) l) o) ≡ o
    go l None = refl
    go l (Some c) =
        let plain : at_times (λ t. not (lost_by key (λ r b. false) l t)) c.plain ≡ c.plain = times-kept (λ t. not (lost_by key (λ r b. false) l t)) c.plain (not-lost l) in
        let rules : map (cleared_to key (λ b. false)) c.rules ≡ c.rules = all c.rules in
        λ i. Some (record c { plain = plain i; rules = rules i })

-- in a settled state, no row of a rule is before the edge of its destination
pub told-edge : (m : State) (k : Key) (l : Link) (d : Record) (b : ℕ) → settled m ≡ m → link_to m k ≡ Some l → get k m ≡ Some d → has_row_of l.rule b ≡ true → nat_le (edge d) b ≡ true
told-edge m k l d b h x there t =
    let low : edge_at (get l.rule.dest m) ≡ edge d = ap (λ (j : Key). edge_at (get j m)) (link-dest m k l x) ∙ ap edge_at there in
    let same_rule : expired (edge d) l.rule ≡ l.rule = ap (λ (n : ℕ). expired n l.rule) (sym low) ∙ link-expired m k l h x in
    let told : (not (nat_lt b (edge d)) && has_row_of l.rule b) ≡ true = sym (told-cleared_at (λ c. nat_lt c (edge d)) l.rule b) ∙ ap (λ (r : Rule). has_row_of r b) same_rule ∙ t in
    let late : not (nat_lt b (edge d)) ≡ true = (and_parts (not (nat_lt b (edge d))) (has_row_of l.rule b) told).0 in
    le-leb (edge d) b (ltb-false b (edge d) (untrue (nat_lt b (edge d)) late))
  where
    untrue : (c : Bool) → not c ≡ true → c ≡ false
    untrue true e = absurd (false≢true e)
    untrue false e = refl

-- ---- the change

pub altered-keeps : (c : Change) → KeepsRules (altered c) (λ d r. r)
altered-keeps c = record { rules = λ d. map-id-rules d.rules; dest = λ d r. refl }

pub sound-altered : (c : Change) (d : Record) → IsSound d → IsSound (altered c d)
sound-altered c d s = record {
  ascending = s.ascending;
  own = λ t p e. (let o : IsOwn d p = s.own t p e in record { time = o.time; made = o.made });
  in_order = s.in_order;
  rules = each-rule-to (IsSoundRule d) (IsSoundRule (altered c d)) d.rules
      (λ r x. record {
        made_from = x.made_from;
        made_to = x.made_to;
        ascending = x.ascending;
        seen = λ t p e. (let q : IsCountable d r p = x.seen t p e in record { since = q.since; made = q.made; time = q.time });
        eligible = x.eligible;
        top = x.top;
      }) s.rules;
}

longer-not : (limits : Limits) (o : Option (List Label)) (old : List Label) → is_longer limits.labels o ≡ false → length old ≤ limits.labels → length (unwrap_or o old) ≤ limits.labels
longer-not limits None old h k = k
longer-not limits (Some labels) old h k = ltb-false limits.labels (length labels) h

module _ (limits : Limits) (m : State) (key : Key) (d : Record) (c : Change) (v : IsValid limits m) (there : get key m ≡ Some d) where
  altering : IsDone m key d (altered c) (λ d r. r)
  altering = record { linked = v.linked; settled = v.settled; there = there; keeps = altered-keeps c }

  -- New options remove the samples before the new edge from what the key shows.
  pub shown-altered : shown (settled (bodies key (altered c) (λ r b. false) (λ b. false) m)) key ≡ at_times (nat_le (edge (altered c d))) (shown m key)
  shown-altered = go (link_to m key) refl
    where
      go : (o : Option Link) → link_to m key ≡ o → shown (settled (bodies key (altered c) (λ r b. false) (λ b. false) m)) key ≡ at_times (nat_le (edge (altered c d))) (shown m key)
      go None x =
          shown-source m key d (altered c) (λ d r. r) (λ r b. false) (λ b. false) altering x
          ∙ ap (at_times (nat_le (edge (altered c d)))) (sym (shown-there m key d there ∙ ap (λ (o : Option Link). shown_by (option_map (λ (l : Link). l.rule) o) d) x))
      go (Some l) x =
          ascending-same (shown (settled (bodies key (altered c) (λ r b. false) (λ b. false) m)) key) (at_times (nat_le (edge (altered c d))) (shown m key))
          (ascending-key (settled (bodies key (altered c) (λ r b. false) (λ b. false) m)) key (sound-bodies key (altered c) (λ r b. false) (λ b. false) m (λ q y. sound-altered c q y) v.sound))
          (ascending-times (nat_le (edge (altered c d))) (shown m key) (ascending-key m key v.sound))
          (λ t. shown-own m key d (altered c) (λ d r. r) (λ r b. false) (λ b. false) l altering x (λ b y. y) t
          ∙ ap (λ (o : Option Point). if nat_le (edge (altered c d)) t then o else None) (inner t (nat_le (edge d) t) refl ∙ sym (at-shown l.rule d t))
          ∙ ap (λ (ps : List Point). if nat_le (edge (altered c d)) t then at t ps else None) (sym (shown-there m key d there ∙ ap (λ (o : Option Link). shown_by (option_map (λ (q : Link). q.rule) o) d) x))
          ∙ sym (at-times t (nat_le (edge (altered c d))) (shown m key)))
        where
          inner : (t : ℕ) (b : Bool) → nat_le (edge d) t ≡ b → option_or (tells l.rule d.born t) (at t d.plain) ≡ (if b then option_or (tells l.rule d.born t) (at t d.plain) else None)
          inner t true y = refl
          inner t false y = nothing (has_row_of l.rule t) refl (at t d.plain) refl
            where
              nothing : (a : Bool) → has_row_of l.rule t ≡ a → (o : Option Point) → at t d.plain ≡ o → option_or (tells l.rule d.born t) (at t d.plain) ≡ None
              nothing true z o w = absurd (false≢true (sym y ∙ told-edge m key l d t v.settled x there z))
              nothing false z (Some p) w = absurd (false≢true (sym y ∙ (own-tidy m key d t p v.settled there w).0))
              nothing false z None w = ap (λ (a : Bool). option_or (if a then Some (bucket_sample l.rule d.born t) else None) (at t d.plain)) z ∙ w

  -- and its destinations show what they showed
  pub shown-dest-altered : (r : Rule) → IsSoleLink m key r → shown (settled (bodies key (altered c) (λ r b. false) (λ b. false) m)) r.dest ≡ shown m r.dest
  shown-dest-altered r s =
      ascending-same (shown (settled (bodies key (altered c) (λ r b. false) (λ b. false) m)) r.dest) (shown m r.dest)
      (ascending-key (settled (bodies key (altered c) (λ r b. false) (λ b. false) m)) r.dest (sound-bodies key (altered c) (λ r b. false) (λ b. false) m (λ q y. sound-altered c q y) v.sound))
      (ascending-key m r.dest v.sound)
      (λ t. shown-dest m key d (altered c) (λ d r. r) (λ r b. false) (λ b. false) altering r.dest r s.dest s.link s.there t
      ∙ ap (λ (o : Option ℕ). if nat_le (edge_of s.dest.options.retention o) t then option_or (tells r s.dest.born t) (if not (same key key && false) then at t s.dest.plain else None) else None)
      (ap (λ (q : Record). q.high) (ap (λ (o : Option Link). tidied_by (option_map (λ (q : Link). q.rule) o) s.dest) (sym s.link) ∙ record-tidy m r.dest s.dest v.settled s.there))
      ∙ ap (λ (b : Bool). if nat_le (edge s.dest) t then option_or (tells r s.dest.born t) (if not b then at t s.dest.plain else None) else None) (and-false (same key key))
      ∙ sym (at-shown r s.dest t)
      ∙ ap (at t) (sym (shown-there m r.dest s.dest s.there ∙ ap (λ (o : Option Link). shown_by (option_map (λ (q : Link). q.rule) o) s.dest) s.link)))
    where
      and-false : (b : Bool) → (b && false) ≡ false
      and-false true = refl
      and-false false = refl

  -- TS.ALTER keeps the state valid, if the labels are within the limit.
  pub valid-altered : is_longer limits.labels c.labels ≡ false → IsValid limits (settled (change key (altered c) m))
  valid-altered few =
      subst (λ (n : State). IsValid limits (settled n)) (bodies-nothing key (altered c) m)
      (valid-bodies limits m key d (altered c) (λ d r. r) (λ r b. false) (λ b. false) (altered-keeps c)
      (record { labels = λ q x. longer-not limits c.labels q.labels few x; born = λ q. refl }) (λ q x. sound-altered c q x) v there
      (let room : length (shown m key) ≤ limits.samples = (v.within key d there).samples in
      let fewer : length (at_times (nat_le (edge (altered c d))) (shown m key)) ≤ length (shown m key) = length-times (nat_le (edge (altered c d))) (shown m key) in
      subst (λ (ps : List Point). length ps ≤ limits.samples) (sym shown-altered) (omega arith))
      (each-rule-to (IsSoleLink m key) (λ r. length (shown (settled (bodies key (altered c) (λ r b. false) (λ b. false) m)) r.dest) ≤ limits.samples) d.rules
      (λ r s. subst (λ (ps : List Point). length ps ≤ limits.samples) (sym (shown-dest-altered r s)) (v.within r.dest s.dest s.there).samples)
      (v.linked key d there)))
