-- What posting lists and labels lose where many ids lose their labels.
use Rattle.std.specs.Prelude.{◌≡◌, ℕ, true, false, List, [], Option, option_map, Vec}
use Rattle.std.specs.BTreeMap.{BTreeMap}
use Rattle.ts_spec.specs.State.{Label}
use Rattle.ts_sample.specs.declared.sample.Id.{Id}
use Rattle.ts_index.specs.Numbers.{AreAscending, has_id}
use Rattle.ts_index.specs.Postings.{posting_in}

-- no labels in place of the labels, if there were any
abbrev pub none_left : Option (List Label) → Option (List Label)
none_left labels = option_map (λ ls. []) labels

-- Posting lists lose none but these ids and get none, and stay in order.
pub record Loses {Z : Type 0} (gone : List Id) (old new : BTreeMap (List ℕ) (BTreeMap (List ℕ) (Vec Id Z))) : Type 0 where
  pub ascending : (l v : List ℕ) → AreAscending (posting_in l v new)
  pub fewer : (l v : List ℕ) (q : ℕ) → has_id q (posting_in l v new) ≡ true → has_id q (posting_in l v old) ≡ true
  pub others : (l v : List ℕ) (q : ℕ) → has_id q gone ≡ false → has_id q (posting_in l v new) ≡ has_id q (posting_in l v old)
