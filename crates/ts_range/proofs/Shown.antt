-- Visitors after a list of samples.
use Rattle.std.proofs.Common.{◌≡◌, ℕ, ◌+◌, ◌≤◌, List, [], ◌∷◌, ◌++◌, length, sym, ◌∙◌, ap, subst, append-nil, append_assoc, arith}
use Rattle.std.specs.Prelude.{filter}
use Rattle.ts_spec.specs.Answer.{Row}
use Rattle.ts_spec.specs.Sample.{Point, IsAscending}
use Rattle.ts_sample.specs.Visit.{visited}
use Rattle.ts_range.specs.LastValues.{LastValues, with_one, last_rows, IsLine}
use Rattle.ts_range.specs.RowScanState.{RowScanState, lets, with_seen, rows_passing, rows_of_scan}

-- a visitor that goes on over the rest as it went over all, and has room for it
pub record IsShown {V : Type 0} (step : V → Point → V) (places : V → ℕ) (begin now : V) (all rest : List Point) : Type 0 where
  pub visited : visited step now rest ≡ visited step begin all
  pub room : length rest ≤ places now

-- after one more
pub shown-more : {V : Type 0} (step : V → Point → V) (places : V → ℕ) (begin now : V) (all rest more : List Point) (p : Point)
    → ((v : V) (q : Point) → places v ≤ places (step v q) + 1) → rest ≡ p ∷ more → IsShown step places begin now all rest → IsShown step places begin (step now p) all more
shown-more step places begin now all rest more p lowers split shown = record {
  visited = sym (ap (visited step now) split) ∙ shown.visited;
  room = omega (arith, lowers now p, shown.room, ap length split);
}

-- after all of them
pub shown-whole : {V : Type 0} (step : V → Point → V) (places : V → ℕ) (begin now : V) (all rest : List Point) → rest ≡ [] → IsShown step places begin now all rest → now ≡ visited step begin all
shown-whole step places begin now all rest none shown = sym (ap (visited step now) none) ∙ shown.visited

-- a walk after these samples
pub seen-visited : (w : RowScanState) (ps : List Point) → visited with_seen w ps ≡ record w { seen = w.seen ++ ps }
seen-visited w [] = ap (λ (l : List Point). record w { seen = l }) (sym (append-nil w.seen))
seen-visited w (p ∷ ps) = seen-visited (with_seen w p) ps ∙ ap (λ (l : List Point). record w { seen = l }) (append_assoc w.seen (p ∷ []) ps)

-- the rows of one that had not begun
pub walk-emitted : (has : List Row → Type 0) (w end : RowScanState) (ps : List Point) → w.seen ≡ [] → IsAscending ps → end ≡ visited with_seen w ps
    → (IsAscending end.seen → (asked : List Point) → has (rows_of_scan end asked)) → (asked : List Point) → has (rows_passing w.buckets asked (filter (lets w) ps))
walk-emitted has w end ps none rises is rows asked =
    let all : end ≡ record w { seen = ps } = is ∙ seen-visited w ps ∙ ap (λ (l : List Point). record w { seen = l ++ ps }) none in
    let seen : end.seen ≡ ps = ap (λ (x : RowScanState). x.seen) all in
    subst has (ap (λ (x : RowScanState). rows_of_scan x asked) all) (rows (subst IsAscending (sym seen) rises) asked)

-- a line of buckets after these samples
shown-visited : (v : LastValues) (ps : List Point) → visited with_one v ps ≡ record v { seen = v.seen ++ ps }
shown-visited v [] = ap (λ (l : List Point). record v { seen = l }) (sym (append-nil v.seen))
shown-visited v (p ∷ ps) = shown-visited (with_one v p) ps ∙ ap (λ (l : List Point). record v { seen = l }) (append_assoc v.seen (p ∷ []) ps)

-- the rows of one that had not begun
pub line-emitted : (has : List Row → Type 0) (v end : LastValues) (ps : List Point) → v.seen ≡ [] → end ≡ visited with_one v ps
    → ((lo hi : ℕ) → IsLine lo hi end → has (last_rows end)) → (lo hi : ℕ) → IsLine lo hi (record v { seen = ps }) → has (last_rows (record v { seen = ps }))
line-emitted has v end ps none is rows lo hi line =
    let all : end ≡ record v { seen = ps } = is ∙ shown-visited v ps ∙ ap (λ (l : List Point). record v { seen = l ++ ps }) none in
    subst (λ (x : LastValues). has (last_rows x)) all (rows lo hi (subst (IsLine lo hi) (sym all) line))
