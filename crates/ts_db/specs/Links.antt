-- What holds of all links: each rule leads to another existing key, which has no rules itself.
use Rattle.std.specs.Prelude.{◌≡◌, false, ⊤, List, [], ◌∷◌, None, Some}
use Rattle.ts_spec.specs.Key.{Key, same}
use Rattle.ts_spec.specs.Keyed.{get}
use Rattle.ts_spec.specs.StoredSeries.{StoredRule, StoredSeries, StoredKeys}
use Rattle.ts_spec.specs.StoredUpdates.{stored_rule_to}

-- A rule of key k, among all its rules. It is the only rule to its destination, which is another existing key without
-- rules and has k as its rule source.
pub record IsLink (m : StoredKeys) (k : Key) (all : List StoredRule) (q : StoredRule) : Type 0 where
  pub found : stored_rule_to q.dest all ≡ Some q
  pub apart : same q.dest k ≡ false
  pub dest : StoredSeries
  pub there : get q.dest m ≡ Some dest
  pub no_rules : dest.rules ≡ []
  pub source : dest.source ≡ Some k

-- the same for each of these rules
abbrev pub AreLinks : StoredKeys → Key → (all : List StoredRule) → List StoredRule → Type 0
AreLinks m k all [] = ⊤
AreLinks m k all (q ∷ qs) = IsLink m k all q × AreLinks m k all qs

-- no two of these rules have the same destination
abbrev pub AreApart : List StoredRule → Type 0
AreApart [] = ⊤
AreApart (q ∷ qs) = (stored_rule_to q.dest qs ≡ None) × AreApart qs
