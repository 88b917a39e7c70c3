-- Labels and their values, one by one.
use Rattle.std.proofs.Common.{◌≡◌, Bool, true, false, ◌||◌, if◌then◌else◌, List, [], ◌∷◌, ap}
use Rattle.std.specs.Prelude.{Ok, Err}
use Rattle.ts_spec.specs.State.{Label}
use Rattle.ts_spec.specs.Labels.{with_label}
use Rattle.ts_spec.specs.Refusal.{BadLabels}
use Rattle.ts_spec.specs.Settings.{Word}
use Rattle.ts_spec.specs.SeriesOptions.{is_empty, labels_after}

-- a label that was read goes on to those of the words after its value
pub labels-next : (labels more : List Label) (name value : Word) (words : List Word)
    → labels_after labels (name ∷ value ∷ []) ≡ Ok more → labels_after labels (name ∷ value ∷ words) ≡ labels_after more words
labels-next labels more name value words = go (is_empty name || is_empty value)
  where
    go : (b : Bool) → (if b then Err BadLabels else Ok (with_label (record { name = name; value = value }) labels)) ≡ Ok more
        → (if b then Err BadLabels else labels_after (with_label (record { name = name; value = value }) labels) words) ≡ labels_after more words
    go true h = absurd (cc h)
    go false h = let e : with_label (record { name = name; value = value }) labels ≡ more = cc h in ap (λ ls. labels_after ls words) e
