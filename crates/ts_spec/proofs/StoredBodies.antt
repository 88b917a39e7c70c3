-- The stored series of each key after a write or a deletion on one of them.
use Rattle.std.proofs.Common.{◌≡◌, ℕ, Bool, true, false, ◌&&◌, nat_lt, if◌then◌else◌, List, [], ◌∷◌, map, Option, Some, None, option_map, refl, sym, ap, ◌∙◌, arith, le-ltb}
use Rattle.ts_spec.specs.Bucket.{members}
use Rattle.ts_spec.specs.Aggregate.{summary}
use Rattle.ts_spec.specs.Key.{Key, same}
use Rattle.ts_spec.specs.Keyed.{get}
use Rattle.ts_spec.specs.State.{Rule, Record, State, Link, link_to, rule_into}
use Rattle.ts_spec.specs.Rules.{open_of, is_past, is_closed, cleared, cleared_to, high_by, edge_at, expired_in, tidied, settled, shown, shown_by}
use Rattle.ts_spec.specs.StoredSeries.{summary_at, stored_rule, stored_record, kept}
use Rattle.ts_spec.proofs.Links.{Found, link-found}
use Rattle.ts_spec.proofs.Linked.{with_rule_by}
use Rattle.ts_spec.proofs.Settles.{settled_record, get-settled}
use Rattle.ts_spec.proofs.Tidy.{KeepsRules, record-tidy}
use Rattle.ts_spec.proofs.Bodies.{bodies, body, get-bodies, link-bodies-none, link-bodies-some, link-elsewhere, IsElsewhere}
use Rattle.ts_spec.proofs.ShownAfter.{members-cleared}
use Rattle.ts_spec.proofs.Keeps.{shown-there, shown-elsewhere}
use Rattle.ts_spec.proofs.CountsAll.{link-settled}
use Rattle.ts_spec.proofs.StoredMaps.{kept-there, kept-missing}

-- ---- cleared rules

-- Clearing drops only counted samples of closed buckets, so the stored rule stays.
pub kept-cleared : (test : ℕ → Bool) (r : Rule) → stored_rule (cleared test r) ≡ stored_rule r
kept-cleared test r = let running : summary_at (cleared test r) (open_of r) ≡ summary_at r (open_of r) = go (open_of r) refl in λ i. record (stored_rule r) { running = running i }
  where
    go : (o : Option ℕ) → open_of r ≡ o → summary_at (cleared test r) o ≡ summary_at r o
    go None e = refl
    go (Some b) e =
        ap summary (members-cleared r.grid (λ c. test c && is_closed r c) b r.seen
        ∙ ap (λ (o : Option ℕ). if test b && is_past o b then [] else members r.grid b r.seen) e
        ∙ ap (λ (x : Bool). if test b && x then [] else members r.grid b r.seen) (le-ltb b b (omega arith))
        ∙ untouched (test b))
      where
        untouched : (x : Bool) → (if x && false then [] else members r.grid b r.seen) ≡ members r.grid b r.seen
        untouched true = refl
        untouched false = refl

-- rules that change but have the same stored form
pub kept-rules-same : (g : Rule → Rule) (rs : List Rule) → ((r : Rule) → stored_rule (g r) ≡ stored_rule r) → map stored_rule (map g rs) ≡ map stored_rule rs
kept-rules-same g [] h = refl
kept-rules-same g (r ∷ rs) h =
    let first : stored_rule (g r) ≡ stored_rule r = h r in let rest : map stored_rule (map g rs) ≡ map stored_rule rs = kept-rules-same g rs h in λ i. first i ∷ rest i

-- ---- the command on a key, in general

module _ (key : Key) (f : Record → Record) (g : Record → Rule → Rule) (touches : Rule → ℕ → Bool) (test : ℕ → Bool) (m : State) (h : KeepsRules f g) where
  -- the keys of the sources stay
  pub source-bodies : (k : Key) → option_map (λ (l : Link). l.source) (link_to (settled (bodies key f touches test m)) k) ≡ option_map (λ (l : Link). l.source) (link_to m k)
  source-bodies k = ap (option_map (λ (l : Link). l.source)) (link-settled (bodies key f touches test m) k) ∙ same_source (link_to (bodies key f touches test m) k) ∙ go (link_to m k) refl
    where
      same_source : (o : Option Link) → option_map (λ (l : Link). l.source) (option_map (with_rule_by (expired_in (tidied (bodies key f touches test m)))) o) ≡ option_map (λ (l : Link). l.source) o
      same_source None = refl
      same_source (Some l) = refl

      go : (o : Option Link) → link_to m k ≡ o → option_map (λ (l : Link). l.source) (link_to (bodies key f touches test m) k) ≡ option_map (λ (l : Link). l.source) o
      go None x = ap (option_map (λ (l : Link). l.source)) (link-bodies-none key f g touches test m k h x)
      go (Some l) x =
          let from : Found m.entries k l = link-found m k l x in
          ap (option_map (λ (q : Link). q.source)) (link-bodies-some key f g touches test m k l from.record_of h x from.there)

  -- the stored series of a key: from its changed record, with what it then shows, and its highest time raised by
  -- the rule that writes to it
  pub kept-bodies : (k : Key) (c : Record) → get k m ≡ Some c →
      get k (kept (settled (bodies key f touches test m))) ≡
      Some (record (stored_record (link_to m k) (if same k key then f c else c)) {
        list = shown (settled (bodies key f touches test m)) k;
        high = high_by (rule_into (bodies key f touches test m) k) (if same k key then f c else c).high;
      })
  kept-bodies k c x =
      let after : get k (settled (bodies key f touches test m)) ≡ Some (settled_record (bodies key f touches test m) k (body key f touches test m k c)) =
      get-settled (bodies key f touches test m) k ∙ ap (option_map (settled_record (bodies key f touches test m) k)) (get-bodies key f touches test m k ∙ ap (option_map (body key f touches test m k)) x) in
      let list : shown_by (rule_into (settled (bodies key f touches test m)) k) (settled_record (bodies key f touches test m) k (body key f touches test m k c)) ≡ shown (settled (bodies key f touches test m)) k =
      sym (shown-there (settled (bodies key f touches test m)) k (settled_record (bodies key f touches test m) k (body key f touches test m k c)) after) in
      let rules : map stored_rule (map (expired_in (tidied (bodies key f touches test m))) (map (cleared_to key test) (if same k key then f c else c).rules)) ≡ map stored_rule (if same k key then f c else c).rules =
      kept-rules-same (expired_in (tidied (bodies key f touches test m))) (map (cleared_to key test) (if same k key then f c else c).rules) (λ r. kept-cleared (λ b. nat_lt b (edge_at (get r.dest (tidied (bodies key f touches test m))))) r)
      ∙ kept-rules-same (cleared_to key test) (if same k key then f c else c).rules (λ r. kept-cleared (λ b. same r.dest key && test b) r) in
      let source : option_map (λ (l : Link). l.source) (link_to (settled (bodies key f touches test m)) k) ≡ option_map (λ (l : Link). l.source) (link_to m k) = source-bodies k in
      kept-there (settled (bodies key f touches test m)) k (settled_record (bodies key f touches test m) k (body key f touches test m k c)) after
      ∙ (λ i. Some (record (stored_record (link_to m k) (if same k key then f c else c)) {
        list = list i;
        high = high_by (rule_into (bodies key f touches test m) k) (if same k key then f c else c).high;
        rules = rules i;
        source = source i;
      }))

  pub kept-bodies-missing : (k : Key) → get k m ≡ None → get k (kept (settled (bodies key f touches test m))) ≡ None
  kept-bodies-missing k x =
      kept-missing (settled (bodies key f touches test m)) k
      (get-settled (bodies key f touches test m) k ∙ ap (option_map (settled_record (bodies key f touches test m) k)) (get-bodies key f touches test m k ∙ ap (option_map (body key f touches test m k)) x))

  -- The stored series of a key stays, unless it is the key of the command or one of its destinations.
  pub kept-elsewhere : (k : Key) → settled m ≡ m → IsElsewhere m key k → get k (kept (settled (bodies key f touches test m))) ≡ get k (kept m)
  kept-elsewhere k s e = go (get k m) refl
    where
      go : (o : Option Record) → get k m ≡ o → get k (kept (settled (bodies key f touches test m))) ≡ get k (kept m)
      go None x = kept-bodies-missing k x ∙ sym (kept-missing m k x)
      go (Some c) x =
          let rule : rule_into (bodies key f touches test m) k ≡ rule_into m k = ap (option_map (λ (l : Link). l.rule)) (link-elsewhere key f g touches test m k h e) in
          let list : shown (settled (bodies key f touches test m)) k ≡ shown_by (rule_into m k) c = shown-elsewhere key f g touches test m k h s e ∙ shown-there m k c x in
          let high : high_by (rule_into (bodies key f touches test m) k) c.high ≡ c.high =
          ap (λ (q : Option Rule). high_by q c.high) rule ∙ ap (λ (q : Record). q.high) (record-tidy m k c s x) in
          kept-bodies k c x
          ∙ ap (λ (b : Bool). Some (record (stored_record (link_to m k) (if b then f c else c)) {
            list = shown (settled (bodies key f touches test m)) k;
            high = high_by (rule_into (bodies key f touches test m) k) (if b then f c else c).high;
          })) e.other
          ∙ (λ i. Some (record (stored_record (link_to m k) c) { list = list i; high = high i }))
          ∙ sym (kept-there m k c x)
