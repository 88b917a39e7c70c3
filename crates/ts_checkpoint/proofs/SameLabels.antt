-- Labels that are the same one after another.
use Rattle.std.proofs.Common.{◌≡◌, ℕ, suc, List, [], ◌∷◌, ◌++◌, take, Some, sym, ap, ◌∙◌}
use Rattle.std.specs.Prelude.{Option, None, option_map, slice_get}
use Rattle.ts_spec.specs.State.{Label}
use Rattle.ts_journal.proofs.Putting.{items-next}

there : (o : Option Label) (name value : List ℕ) → option_map (λ l. l.name) o ≡ Some name → option_map (λ l. l.value) o ≡ Some value
    → o ≡ Some (record { name = name; value = value })
there None name value n v = absurd (cc n)
there (Some l) name value n v = let a : l.name ≡ name = cc n in let b : l.value ≡ value = cc v in λ i. Some (record { name = a i; value = b i })

-- one label more
pub same-next : (ls ms : List Label) (i : ℕ) (name value : List ℕ) → option_map (λ l. l.name) (slice_get ls i) ≡ Some name → option_map (λ l. l.value) (slice_get ls i) ≡ Some value
    → option_map (λ l. l.name) (slice_get ms i) ≡ Some name → option_map (λ l. l.value) (slice_get ms i) ≡ Some value
    → take i ls ≡ take i ms → take (suc i) ls ≡ take (suc i) ms
same-next ls ms i name value n v m w same =
    items-next ls i (record { name = name; value = value }) (there (slice_get ls i) name value n v)
    ∙ ap (λ (ps : List Label). ps ++ record { name = name; value = value } ∷ []) same
    ∙ sym (items-next ms i (record { name = name; value = value }) (there (slice_get ms i) name value m w))
