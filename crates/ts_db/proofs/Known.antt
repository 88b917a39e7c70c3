-- Facts about a store that represents a state: its links, and the capacity of open buckets.
use Rattle.std.proofs.Common.{◌≡◌, ◌<◌, ◌≤◌, ◌^◌, ℕ, Bool, true, false, List, [], ◌∷◌, refl, sym, ◌∙◌, ap, subst, arith}
use Rattle.std.specs.Prelude.{None, Some, if◌then◌else◌}
use Rattle.slab.specs.Slab as slab
use Rattle.ts_spec.specs.Sample.{Point}
use Rattle.ts_spec.specs.Key.{Key, same}
use Rattle.ts_spec.specs.Rules.{is_append}
use Rattle.ts_spec.specs.StoredSeries.{StoredRule, StoredSeries}
use Rattle.ts_spec.specs.StoredUpdates.{stored_rule_to}
use Rattle.ts_spec.specs.Represents.{HaveDurations, AllHaveDurations}
use Rattle.ts_spec.proofs.Keys.{same-refl}
use Rattle.ts_spec.proofs.BucketRoom.{CanCountOneMore, stands-room}
use Rattle.ts_sample.specs.declared.sample.Id.{Id}
use Rattle.ts_rules.specs.declared.rule.Rule.{Rule}
use Rattle.ts_rules.specs.Rules.{stored_rule_for}
use Rattle.ts_db.specs.declared.node.Node.{Node}
use Rattle.ts_db.specs.declared.store.Store.{Store}
use Rattle.ts_db.specs.declared.planning.SourceChange.TheVariants.{Write}
use Rattle.ts_db.specs.Links.{AreLinks, AreApart}
use Rattle.ts_db.specs.Planning.{AllHaveCountCapacity, NoneTo, AreDistinct}
use Rattle.ts_db.specs.Store.{rules_by, key_at, key_in, stored_node, db_view_of, HaveGrids, IsInOrder, IsDb, Holds}
use Rattle.ts_db.proofs.Applying.{there}
use Rattle.ts_db.proofs.Collecting.{IsOf, node-of}
use Rattle.ts_db.proofs.KeptLinks.{HasLinks, links-of}

-- the rules of a key are links
pub links : (s : Store) → IsDb s → (key : Key) (id : Id) (n : Node) → Holds s key id n → HasLinks (db_view_of s).keys key (rules_by (key_in s.nodes) n.rules.items)
links s db key id n holds = links-of s.limits (db_view_of s).keys db.stands.to.state db.stands.stands.state key (stored_node s.nodes n) (there s db.store key id n holds)

-- ---- capacity

some-long : (names : Id → Key) (rs : List Rule) → HaveGrids rs → HaveDurations (rules_by names rs)
some-long names [] g = tt
some-long names (r ∷ rs) g = (g.0.some, some-long names rs g.1)

pub durations : (s : Store) → IsInOrder s → AllHaveDurations (db_view_of s).keys
durations s store k d is =
    let of : IsOf s.nodes d = node-of s.nodes s.keys.entries k d is in
    subst (λ (c : StoredSeries). HaveDurations c.rules) (sym of.same) (some-long (key_in s.nodes) of.node.rules.items (store.each of.number of.node of.there).grids)

below : (a b c : ℕ) → a < b → b ≤ c → a < c
below a b c x y = omega (arith, x, y)

-- each rule of a key has capacity for a sample that is appended to its open bucket
pub takes : (s : Store) → IsDb s → (key : Key) (id : Id) (n : Node) → Holds s key id n → (p : Point) → AllHaveCountCapacity (Write p) n.series n.rules.items
takes s db key id n holds p =
    go n.rules.items (db.store.each id.0 n holds.node).grids
    (λ fresh. stands-room s.limits (db_view_of s).keys db.stands.to.state key (stored_node s.nodes n) p.time db.stands.stands.state (durations s db.store) (there s db.store key id n holds) fresh)
  where
    go : (rs : List Rule) → HaveGrids rs → (is_append p.time n.series.high ≡ true → CanCountOneMore p.time (rules_by (key_in s.nodes) rs)) → AllHaveCountCapacity (Write p) n.series rs
    go [] g room = tt
    go (r ∷ rs) g room = (λ fresh here. below r.running.count r.grid.duration (10 ^ 14) ((room fresh).0 here) g.0.short, go rs g.1 (λ fresh. (room fresh).1))

-- ---- destinations

module _ (s : Store) (store : IsInOrder s) (key : Key) (id : Id) (n : Node) (holds : Holds s key id n) where
  pub named : key_in s.nodes id ≡ key
  named = ap key_at holds.node ∙ store.named key id n holds.number holds.node

  -- no rule of a key leads to the key itself
  pub none-own : (all : List StoredRule) (rs : List Rule) → AreLinks (db_view_of s).keys key all (rules_by (key_in s.nodes) rs) → NoneTo id.0 rs
  none-own all [] x = tt
  none-own all (r ∷ rs) x = (λ e. absurd (cc (sym x.0.apart ∙ ap (λ (k : Key). same k key) (ap key_at (ap (slab.get s.nodes) e) ∙ named) ∙ same-refl key)), none-own all rs x.1)

-- rules to different keys lead to different ids
pub distinct : (s : Store) (rs : List Rule) → AreApart (rules_by (key_in s.nodes) rs) → AreDistinct rs
distinct s [] x = tt
distinct s (r ∷ rs) x = (go rs x.0, distinct s rs x.1)
  where
    go : (ps : List Rule) → stored_rule_to (key_in s.nodes r.dest) (rules_by (key_in s.nodes) ps) ≡ None → NoneTo r.dest.0 ps
    go [] e = tt
    go (p ∷ ps) e = pick (same (key_in s.nodes p.dest) (key_in s.nodes r.dest)) refl e (λ y. go ps y)
      where
        pick : (b : Bool) → same (key_in s.nodes p.dest) (key_in s.nodes r.dest) ≡ b → (if b then Some (stored_rule_for (key_in s.nodes p.dest) p) else stored_rule_to (key_in s.nodes r.dest) (rules_by (key_in s.nodes) ps)) ≡ None
            → (stored_rule_to (key_in s.nodes r.dest) (rules_by (key_in s.nodes) ps) ≡ None → NoneTo r.dest.0 ps) → NoneTo r.dest.0 (p ∷ ps)
        pick true x e ih = absurd (cc e)
        pick false x e ih =
            (λ alike. absurd (cc (sym x ∙ ap (λ (k : Key). same k (key_in s.nodes r.dest)) (ap key_at (ap (slab.get s.nodes) alike)) ∙ same-refl (key_in s.nodes r.dest))), ih e)
