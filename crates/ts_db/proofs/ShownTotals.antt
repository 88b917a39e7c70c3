-- Stored data has as many samples as the state it represents.
use Rattle.std.proofs.Common.{◌≡◌, ◌+◌, Bool, true, false, cond, List, [], ◌∷◌, length, Some, refl, sym, ap, ◌∙◌}
use Rattle.std.specs.Prelude.{⊤}
use Rattle.std.proofs.lemmas.Bool.{false≢true, and_parts}
use Rattle.ts_spec.specs.Key.{same, is_before}
use Rattle.ts_spec.specs.Keyed.{Entry, is_below, is_sorted, get_in, each_in}
use Rattle.ts_spec.specs.State.{Record, State, link_to}
use Rattle.ts_spec.specs.Rules.{shown}
use Rattle.ts_spec.specs.Totals.{shown_in, total_shown}
use Rattle.ts_spec.specs.StoredSeries.{kept, stored_record}
use Rattle.ts_spec.proofs.Keys.{same-true, same-refl, before-irrefl}
use Rattle.ts_spec.proofs.Keeps.{shown-there}
use Rattle.ts_db.specs.Totals.{samples_in, total_of}

-- each of these entries is found among all
abbrev AreFound : (all es : List (Entry Record)) → Type 0
AreFound all [] = ⊤
AreFound all (e ∷ es) = (get_in e.key all ≡ Some e.value) × AreFound all es

-- also where an entry stands before them
found-later : (e : Entry Record) (all es : List (Entry Record)) → is_below e.key es ≡ true → AreFound all es → AreFound (e ∷ all) es
found-later e all [] h f = tt
found-later e all (d ∷ es) h f =
    let parts : (is_before e.key d.key ≡ true) × (is_below e.key es ≡ true) = and_parts (is_before e.key d.key) (is_below e.key es) h in
    (go (same e.key d.key) refl parts.0, found-later e all es parts.1 f.1)
  where
    go : (b : Bool) → same e.key d.key ≡ b → is_before e.key d.key ≡ true → cond b (Some e.value) (get_in d.key all) ≡ Some d.value
    go true x l = absurd (false≢true (sym (before-irrefl e.key) ∙ ap (is_before e.key) (same-true e.key d.key x) ∙ l))
    go false x l = f.0

-- each entry of a map is found
found : (es : List (Entry Record)) → is_sorted es ≡ true → AreFound es es
found [] h = tt
found (e ∷ es) h =
    let parts : (is_below e.key es ≡ true) × (is_sorted es ≡ true) = and_parts (is_below e.key es) (is_sorted es) h in
    (ap (λ (b : Bool). cond b (Some e.value) (get_in e.key es)) (same-refl e.key), found-later e es es parts.0 (found es parts.1))

kept-in : (m : State) (es : List (Entry Record)) → AreFound m.entries es → samples_in (each_in (λ k d. stored_record (link_to m k) d) es) ≡ shown_in m es
kept-in m [] f = refl
kept-in m (e ∷ es) f =
    let here : length (stored_record (link_to m e.key) e.value).list ≡ length (shown m e.key) = ap length (sym (shown-there m e.key e.value f.0)) in
    let rest : samples_in (each_in (λ k d. stored_record (link_to m k) d) es) ≡ shown_in m es = kept-in m es f.1 in
    λ i. here i + rest i

pub total-kept : (m : State) → total_of (kept m) ≡ total_shown m
total-kept m = kept-in m m.entries (found m.entries m.sorted)
