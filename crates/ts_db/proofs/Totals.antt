-- The number of samples in all series, counted one by one.
use Rattle.std.proofs.Common.{◌≡◌, ◌+◌, ◌*◌, ◌^◌, ◌-◌, ◌≤◌, ◌<◌, ℕ, [], ◌∷◌, length, refl, ◌∙◌, ap, arith}
use Rattle.std.proofs.Math.Nat.{mul-le-mul}
use Rattle.std.specs.Prelude.{Option, Some, option_map, sum_by}
use Rattle.slab.specs.Slab as slab
use Rattle.ts_spec.specs.Key.{Key}
use Rattle.ts_spec.specs.declared.limits.Limits.{Limits}
use Rattle.ts_sample.specs.declared.sample.Id.{Id}
use Rattle.ts_series.specs.History.{list_of}
use Rattle.ts_db.specs.declared.node.Node.{Node}
use Rattle.ts_db.specs.Store.{Nodes, Numbers, stored_node, IsNode, of_each_node, node_reach, id_for_key}
use Rattle.ts_db.specs.Totals.{samples_in}
use Rattle.std.specs.List.{All}
use Rattle.std.proofs.lemmas.List.Elements.{All-head, All-tail}
use Rattle.std.proofs.lemmas.List.Sums.{sum_by-cons}
use Rattle.std.specs.Option.{unwrap_or}
use Rattle.ts_spec.specs.Keyed.{Entry, get}
use Rattle.ts_spec.specs.StoredSeries.{StoredSeries}
use Rattle.ts_db.proofs.Reaches.{reach-number}
use Rattle.ts_db.proofs.Selecting.{HaveNodes, listing, onto}

-- one key more on the walk
pub total-next : (nodes : Nodes) (k : Key) (id : Id) (n : Node) (rest es : Numbers) → rest ≡ (k, id) ∷ es → slab.get nodes id.0 ≡ Some n
    → samples_in (listing nodes rest) ≡ length (list_of n.series) + samples_in (listing nodes es)
total-next nodes k id n rest es split at =
    ap (λ (l : Numbers). samples_in (listing nodes l)) split
    ∙ ap (λ (o : Option Node). samples_in (onto k (option_map (stored_node nodes) o) (listing nodes es))) at

-- no key shows more than the limit
total-bound : (limits : Limits) (nodes : Nodes) (es : Numbers) → ((i : ℕ) (n : Node) → slab.get nodes i ≡ Some n → IsNode limits n) → HaveNodes nodes es
    → samples_in (listing nodes es) ≤ length es * limits.samples
total-bound limits nodes [] each there = omega arith
total-bound limits nodes (e ∷ es) each there =
    let one : length (list_of there.0.0.series) ≤ limits.samples = (each e.1.0 there.0.0 there.0.1).within in
    let rest : samples_in (listing nodes es) ≤ length es * limits.samples = total-bound limits nodes es each there.1 in
    let split : samples_in (listing nodes (e ∷ es)) ≡ length (list_of there.0.0.series) + samples_in (listing nodes es) = total-next nodes e.0 e.1 there.0.0 (e ∷ es) es refl there.0.1 in
    omega (arith, one, rest, split)

-- so the number of all samples fits 64 bits
pub total-fits : (limits : Limits) (nodes : Nodes) (es : Numbers) → ((i : ℕ) (n : Node) → slab.get nodes i ≡ Some n → IsNode limits n) → HaveNodes nodes es
    → length es ≤ limits.keys → limits.keys < 2 ^ 32 → limits.samples < 2 ^ 32 → samples_in (listing nodes es) < 2 ^ 64
total-fits limits nodes es each there few keys samples =
    let bound = total-bound limits nodes es each there in
    let most : length es * limits.samples ≤ (2 ^ 32) * (2 ^ 32 - 1) = mul-le-mul {n₂ = 2 ^ 32} {m₂ = 2 ^ 32 - 1} (omega (arith, few, keys)) (omega (arith, samples)) in
    omega (arith, bound, most)

-- ---- how much of them is decoded

-- the reach of the series of these ids, added up
abbrev pub reaches : Nodes → Numbers → ℕ
reaches nodes [] = 0
reaches nodes (e ∷ es) = node_reach (slab.get nodes e.1.0) + reaches nodes es

-- they are those of the keys
pub reaches-listing : (nodes : Nodes) (all es : Numbers) → HaveNodes nodes es → All (λ (e : Key × Id). id_for_key e.0 all ≡ Some e.1) es
    → sum_by (λ (e : Entry StoredSeries). unwrap_or (get e.key (of_each_node node_reach nodes all)) 0) (listing nodes es) ≡ reaches nodes es
reaches-listing nodes all [] there each = refl
reaches-listing nodes all (e ∷ es) there each =
    let far : (Entry StoredSeries) → ℕ = λ e. unwrap_or (get e.key (of_each_node node_reach nodes all)) 0 in
    let own : ℕ = unwrap_or (get e.0 (of_each_node node_reach nodes all)) 0 in
    let here : own ≡ node_reach (slab.get nodes e.1.0) = reach-number nodes all e.0 e.1 (All-head (λ (d : Key × Id). id_for_key d.0 all ≡ Some d.1) e es each) in
    let rest : sum_by far (listing nodes es) ≡ reaches nodes es = reaches-listing nodes all es there.1 (All-tail (λ (d : Key × Id). id_for_key d.0 all ≡ Some d.1) e es each) in
    ap (λ (o : Option Node). sum_by far (onto e.0 (option_map (stored_node nodes) o) (listing nodes es))) there.0.1
    ∙ sum_by-cons far (record { key = e.0; value = stored_node nodes there.0.0 }) (listing nodes es)
    ∙ (λ i. here i + rest i)
