-- Lemmas about the connections that were found last.
use Rattle.std.proofs.Common.{◌≡◌, ◌≢◌, ◌⊎◌, inl, inr, ℕ, ◌<◌, Bool, true, false, ◌==◌, if◌then◌else◌, List, length, get_or, set, replicate, Option, Some, None, is_some, refl, sym, ap, ◌∙◌}
use Rattle.std.proofs.lemmas.Bool.{cases_eq, eqb-true, eqb-false}
use Rattle.std.proofs.lemmas.List.{get_or-set_same, get_or-set_other, get_or-replicate}
use Rattle.std.specs.Prelude.{◌%◌}
use Rattle.std.specs.Option.{unwrap_or}
use Rattle.ts_mux.specs.declared.current_connection.CurrentConnection.{CurrentConnection}
use Rattle.ts_mux.specs.RecentIndexes.{index_if, recent_in, Takes, Clears}

some_index : (one other : ℕ) → Some one ≡ Some other → one ≡ other
some_index one other e = ap (λ (o : Option ℕ). unwrap_or o 0) e

pub no_index : (index : ℕ) → None ≡ Some index → ⊥
no_index index e = eqb-false 0 0 (sym (ap is_some e)) refl

pub none_recent : (link : ℕ) → link % 256 < 256 → recent_in (replicate 256 None) link ≡ None
none_recent link within = ap (index_if link) (get_or-replicate 256 (link % 256) None None within)

-- the connection in a slot is the one that was asked for
in_slot : (link index : ℕ) (at : CurrentConnection) → index_if link (Some at) ≡ Some index → (at.link ≡ link) × (at.index ≡ index)
in_slot link index at e = go (at.link == link) refl e
  where
    go : (test : Bool) → (at.link == link) ≡ test → (if test then Some at.index else None) ≡ Some index → (at.link ≡ link) × (at.index ≡ index)
    go true same e = (eqb-true at.link link same, some_index at.index index e)
    go false apart e = absurd (no_index index e)

pub takes : (slots : List (Option CurrentConnection)) (at : CurrentConnection) (slot : ℕ) → slot ≡ at.link % 256 → slot < length slots
    → Takes at (recent_in slots) (recent_in (set slots slot (Some at)))
takes slots at slot is within = λ link index e. go link index (cases_eq (link % 256) slot) e
  where
    go : (link index : ℕ) → (link % 256 ≡ slot) ⊎ (link % 256 ≢ slot) → recent_in (set slots slot (Some at)) link ≡ Some index
        → (recent_in slots link ≡ Some index) ⊎ ((at.link ≡ link) × (at.index ≡ index))
    go link index (inl same) e =
        inr (in_slot link index at
        (sym (ap (λ n. index_if link (get_or (set slots slot (Some at)) n None)) same ∙ ap (index_if link) (get_or-set_same slots slot (Some at) None within)) ∙ e))
    go link index (inr differs) e = inl (sym (ap (index_if link) (get_or-set_other slots slot (link % 256) (Some at) None differs)) ∙ e)

pub clears : (slots : List (Option CurrentConnection)) (gone slot : ℕ) → slot ≡ gone % 256 → slot < length slots
    → Clears gone (recent_in slots) (recent_in (set slots slot None))
clears slots gone slot is within = λ link index e. go link index (cases_eq (link % 256) slot) e
  where
    apart : (link : ℕ) → link % 256 ≢ slot → (link == gone) ≡ false
    apart link differs = go (link == gone) refl
      where
        go : (test : Bool) → (link == gone) ≡ test → test ≡ false
        go true same = absurd (differs (ap (λ n. n % 256) (eqb-true link gone same) ∙ sym is))
        go false other = refl

    go : (link index : ℕ) → (link % 256 ≡ slot) ⊎ (link % 256 ≢ slot) → recent_in (set slots slot None) link ≡ Some index
        → (recent_in slots link ≡ Some index) × ((link == gone) ≡ false)
    go link index (inl same) e =
        absurd (no_index index
        (sym (ap (λ n. index_if link (get_or (set slots slot None) n None)) same ∙ ap (index_if link) (get_or-set_same slots slot None None within)) ∙ e))
    go link index (inr differs) e =
        (sym (ap (index_if link) (get_or-set_other slots slot (link % 256) None None differs)) ∙ e, apart link differs)
