-- Lemmas about which connections are closed.
use Rattle.std.proofs.Common.{◌≡◌, ℕ, ◌+◌, ◌<◌, ◌≤◌, Bool, true, false, not, ◌&&◌, ◌==◌, if◌then◌else◌, nat_lt, [], Option, Some, None, is_some, refl, sym, ap, ◌∙◌, arith}
use Rattle.std.proofs.lemmas.Bool.{eqb-true, eqb-false, ltb-true, ltb-false, lt-ltb, le-ltb}
use Rattle.std.specs.Ordering.{nat_cmp}
use Rattle.std.specs.Option.{unwrap_or}
use Rattle.std.specs.BTreeMap.{BTreeMap, get, Updates, is_at}
use Rattle.std.specs.Map.{lookup}
use Rattle.ts_mux.specs.OwnReaders.{index_in, AreBelow}
use Rattle.ts_mux.proofs.Apart.{other_key}

-- a number that is not the next one is below the one after it only if it is below the next one
below_next : (at next : ℕ) → (at == next) ≡ false → nat_lt at (next + 1) ≡ nat_lt at next
below_next at next apart = go (nat_lt at next) refl
  where
    go : (below : Bool) → nat_lt at next ≡ below → nat_lt at (next + 1) ≡ below
    go true e = lt-ltb at (next + 1) (omega (arith, ltb-true at next e))
    go false e = le-ltb at (next + 1) (omega (arith, ltb-false at next e, eqb-false at next apart))

-- at first every connection is open
pub none_reached : (at : ℕ) (kept : Bool) → (nat_lt at 0 && not kept) ≡ false
none_reached at kept = ap (λ below. below && not kept) (le-ltb at 0 (omega arith))

-- one more connection is reached, and it is open
pub reached_next : (next : ℕ) (old new : BTreeMap ℕ (Option ℕ)) → Updates nat_cmp old new next (Some None) → (at : ℕ)
    → (nat_lt at (next + 1) && not (is_some (get nat_cmp new at))) ≡ (nat_lt at next && not (is_some (get nat_cmp old at)))
reached_next next old new updates at = go (at == next) refl
  where
    both : (below : Bool) → (below && false) ≡ false
    both true = refl
    both false = refl

    go : (test : Bool) → (at == next) ≡ test → (nat_lt at (next + 1) && not (is_some (get nat_cmp new at))) ≡ (nat_lt at next && not (is_some (get nat_cmp old at)))
    go true same =
        ap (λ to. nat_lt at (next + 1) && not (is_some (get nat_cmp new to))) (eqb-true at next same)
        ∙ ap (λ (kept : Option (Option ℕ)). nat_lt at (next + 1) && not (is_some kept)) updates.1
        ∙ both (nat_lt at (next + 1))
        ∙ sym (ap (λ below. below && not (is_some (get nat_cmp old at))) (ap (λ to. nat_lt to next) (eqb-true at next same) ∙ le-ltb next next (omega arith)))
    go false apart =
        ap (λ below. below && not (is_some (get nat_cmp new at))) (below_next at next apart)
        ∙ ap (λ (kept : Option (Option ℕ)). nat_lt at next && not (is_some kept)) (updates.2 at (other_key next at apart))

-- a connection that is reached is no longer open
pub closed_now : (link reached : ℕ) (old new : BTreeMap ℕ (Option ℕ)) → link < reached → Updates nat_cmp old new link None → (at : ℕ)
    → (nat_lt at reached && not (is_some (get nat_cmp new at))) ≡ (if at == link then true else (nat_lt at reached && not (is_some (get nat_cmp old at))))
closed_now link reached old new below updates at = go (at == link) refl
  where
    go : (test : Bool) → (at == link) ≡ test
        → (nat_lt at reached && not (is_some (get nat_cmp new at))) ≡ (if test then true else (nat_lt at reached && not (is_some (get nat_cmp old at))))
    go true same =
        ap (λ to. nat_lt to reached && not (is_some (get nat_cmp new to))) (eqb-true at link same)
        ∙ ap (λ (kept : Option (Option ℕ)). nat_lt link reached && not (is_some kept)) updates.1
        ∙ ap (λ test. test && true) (lt-ltb link reached below)
    go false apart = ap (λ (kept : Option (Option ℕ)). nat_lt at reached && not (is_some kept)) (updates.2 at (other_key link at apart))

-- an open connection stays open
pub open_still : (link reached : ℕ) (index : Option ℕ) (old new : BTreeMap ℕ (Option ℕ)) → get nat_cmp old link ≡ Some None → Updates nat_cmp old new link (Some index) → (at : ℕ)
    → (nat_lt at reached && not (is_some (get nat_cmp new at))) ≡ (nat_lt at reached && not (is_some (get nat_cmp old at)))
open_still link reached index old new there updates at = go (at == link) refl
  where
    go : (test : Bool) → (at == link) ≡ test → (nat_lt at reached && not (is_some (get nat_cmp new at))) ≡ (nat_lt at reached && not (is_some (get nat_cmp old at)))
    go true same =
        ap (λ to. nat_lt at reached && not (is_some (get nat_cmp new to))) (eqb-true at link same)
        ∙ ap (λ (kept : Option (Option ℕ)). nat_lt at reached && not (is_some kept)) updates.1
        ∙ sym (ap (λ (kept : Option (Option ℕ)). nat_lt at reached && not (is_some kept)) there)
        ∙ sym (ap (λ to. nat_lt at reached && not (is_some (get nat_cmp old to))) (eqb-true at link same))
    go false apart = ap (λ (kept : Option (Option ℕ)). nat_lt at reached && not (is_some kept)) (updates.2 at (other_key link at apart))

-- whether a connection that is reached is closed
pub closed_if : (link reached : ℕ) (kept : Option (Option ℕ)) (entries : BTreeMap ℕ (Option ℕ)) → link < reached → get nat_cmp entries link ≡ kept
    → (nat_lt link reached && not (is_some (get nat_cmp entries link))) ≡ not (is_some kept)
closed_if link reached kept entries below there =
    ap (λ test. test && not (is_some (get nat_cmp entries link))) (lt-ltb link reached below) ∙ ap (λ (o : Option (Option ℕ)). not (is_some o)) there

-- a connection with an index is open
pub open_with : (link reached index : ℕ) (kept : Option (Option ℕ)) → unwrap_or kept None ≡ Some index → (nat_lt link reached && not (is_some kept)) ≡ false
open_with link reached index None there = absurd (eqb-false 0 0 (sym (ap is_some there)) refl)
open_with link reached index (Some kept) there = go (nat_lt link reached)
  where
    go : (below : Bool) → (below && false) ≡ false
    go true = refl
    go false = refl

-- ---- the entries of the open connections

-- an empty map
pub none_kept : (m : BTreeMap ℕ (Option ℕ)) → m.entries ≡ [] → (at : ℕ) → get nat_cmp m at ≡ None
none_kept m empty at = ap (λ entries. lookup (is_at (nat_cmp at)) entries) empty

-- a map with the same entries
pub same_kept : (old new : BTreeMap ℕ (Option ℕ)) → new.entries ≡ old.entries → (at : ℕ) → get nat_cmp new at ≡ get nat_cmp old at
same_kept old new same at = ap (λ entries. lookup (is_at (nat_cmp at)) entries) same

pub below_same : (reached : ℕ) (old new : BTreeMap ℕ (Option ℕ)) → new.entries ≡ old.entries → AreBelow reached old → AreBelow reached new
below_same reached old new same below = λ at above. same_kept old new same at ∙ below at above

pub below_any : (reached : ℕ) (old new : BTreeMap ℕ (Option ℕ)) (link later : ℕ) (slot : Option (Option ℕ)) → Updates nat_cmp old new link slot → link < later → reached ≤ later
    → AreBelow reached old → AreBelow later new
below_any reached old new link later slot updates within longer below = λ at above. go at above (at == link) refl
  where
    go : (at : ℕ) → later ≤ at → (test : Bool) → (at == link) ≡ test → get nat_cmp new at ≡ None
    go at above true same =
        let here : at ≡ link = eqb-true at link same in
        absurd (omega (arith, here, above, within))
    go at above false apart = updates.2 at (other_key link at apart) ∙ below at (omega (arith, above, longer))

-- a map without one of its entries
pub below_without : (reached : ℕ) (old new : BTreeMap ℕ (Option ℕ)) (link : ℕ) → Updates nat_cmp old new link None → AreBelow reached old → AreBelow reached new
below_without reached old new link updates below at above = go (at == link) refl
  where
    go : (test : Bool) → (at == link) ≡ test → get nat_cmp new at ≡ None
    go true same = ap (get nat_cmp new) (eqb-true at link same) ∙ updates.1
    go false apart = updates.2 at (other_key link at apart) ∙ below at above

-- the index of a new connection is none, as before
pub index_next : (next : ℕ) (old new : BTreeMap ℕ (Option ℕ)) → Updates nat_cmp old new next (Some None) → AreBelow next old → (at : ℕ) → index_in new at ≡ index_in old at
index_next next old new updates below at = go (at == next) refl
  where
    go : (test : Bool) → (at == next) ≡ test → index_in new at ≡ index_in old at
    go true same =
        ap (index_in new) (eqb-true at next same)
        ∙ ap (λ (o : Option (Option ℕ)). unwrap_or o None) updates.1
        ∙ sym (ap (λ (o : Option (Option ℕ)). unwrap_or o None) (below next (omega arith)))
        ∙ sym (ap (index_in old) (eqb-true at next same))
    go false apart = ap (λ (o : Option (Option ℕ)). unwrap_or o None) (updates.2 at (other_key next at apart))

-- the indexes after an update of one connection
pub index_here : (link : ℕ) (slot : Option (Option ℕ)) (old new : BTreeMap ℕ (Option ℕ)) → Updates nat_cmp old new link slot → index_in new link ≡ unwrap_or slot None
index_here link slot old new updates = ap (λ (o : Option (Option ℕ)). unwrap_or o None) updates.1

pub index_other : (link : ℕ) (slot : Option (Option ℕ)) (old new : BTreeMap ℕ (Option ℕ)) → Updates nat_cmp old new link slot
    → (at : ℕ) → (at == link) ≡ false → index_in new at ≡ index_in old at
index_other link slot old new updates at apart = ap (λ (o : Option (Option ℕ)). unwrap_or o None) (updates.2 at (other_key link at apart))
