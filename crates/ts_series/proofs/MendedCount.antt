-- The number of samples after rows replace those of an interval.
use Rattle.std.proofs.Common.{◌≡◌, ℕ, ◌+◌, ◌-◌, ◌^◌, ◌<◌, ◌≤◌, Bool, not, ◌&&◌, List, [], ◌∷◌, length, drop, refl, sym, ◌∙◌, ap, subst, arith, length-drop}
use Rattle.std.specs.Prelude.{nat_lt, nat_le, min, Option, None, Some}
use Rattle.std.proofs.lemmas.Bool.Decides.{nat_tests}
use Rattle.ts_spec.specs.Sample.{Point, IsAscending, is_within, at_times, between, outside, put_all}
use Rattle.ts_spec.specs.State.{edge_of}
use Rattle.ts_spec.specs.StoredUpdates.{high_after_rows}
use Rattle.ts_sample.specs.Chunk.{joined, AreMade}
use Rattle.ts_sample.proofs.Between.{filter-filter}
use Rattle.ts_spec.specs.declared.series.Encoding.{Encoding}
use Rattle.ts_series.specs.Stored.{Change, points, pieces_after, IsReady, HasLimits}
use Rattle.ts_series.specs.History.{History, low, limit_for, IsKeptIn}
use Rattle.ts_series.specs.Plan.{Plan, AreWithin, chunk_capacity, IsForIn}
use Rattle.ts_series.specs.Mend.{list_after_update}
use Rattle.ts_series.proofs.Counting.{one_if, length-cons_if, times-length}
use Rattle.ts_series.proofs.Mending.{count-updated_list}
use Rattle.ts_series.proofs.Edges.{from-edge}
use Rattle.ts_series.proofs.Ready.{Shows, edge-with, is-for, written-list}

-- ---- those from an edge on that are not in an interval

module _ (edge from to : ℕ) where
  -- a time from the edge on that is not in the interval
  abbrev is_left : ℕ → Bool
  is_left t = not (is_within from to t) && nat_le edge t

  left-is : (ps : List Point) → length (at_times (nat_le edge) (outside from to ps)) ≡ length (at_times is_left ps)
  left-is ps = ap length (filter-filter (λ (p : Point). nat_le edge p.time) (λ (p : Point). not (is_within from to p.time)) ps)

  -- the interval is before the edge
  module _ (past : to < edge) where
    past-one : (t : ℕ) → one_if (is_left t) + one_if (nat_lt t edge) ≡ 1
    past-one t = grind (arith, nat_tests, past)

    past-counts : (ps : List Point) → length (at_times is_left ps) + length (at_times (λ t. nat_lt t edge) ps) ≡ length ps
    past-counts [] = omega arith
    past-counts (p ∷ ps) =
        omega (
          arith,
          past-counts ps,
          past-one p.time,
          length-cons_if (is_left p.time) p (at_times is_left ps),
          length-cons_if (nat_lt p.time edge) p (at_times (λ t. nat_lt t edge) ps),
        )

    pub count-past : (ps : List Point) → length (at_times (nat_le edge) (outside from to ps)) + length (at_times (λ t. nat_lt t edge) ps) ≡ length ps
    count-past ps = omega (arith, left-is ps, past-counts ps)

  -- it ends from the edge on
  module _ (start : ℕ) (reached : edge ≤ to) (start_is : start ≡ min from edge) where
    left-one : (t : ℕ) → one_if (is_left t) + one_if (is_within from to t) + one_if (nat_lt t start) ≡ 1
    left-one t = grind (arith, nat_tests, reached, start_is)

    left-counts : (ps : List Point) → length (at_times is_left ps) + length (between from to ps) + length (at_times (λ t. nat_lt t start) ps) ≡ length ps
    left-counts [] = omega arith
    left-counts (p ∷ ps) =
        omega (
          arith,
          left-counts ps,
          left-one p.time,
          length-cons_if (is_left p.time) p (at_times is_left ps),
          length-cons_if (is_within from to p.time) p (between from to ps),
          length-cons_if (nat_lt p.time start) p (at_times (λ t. nat_lt t start) ps),
        )

    pub count-left : (ps : List Point) → length (at_times (nat_le edge) (outside from to ps)) + length (between from to ps) + length (at_times (λ t. nat_lt t start) ps) ≡ length ps
    count-left ps = omega (arith, left-is ps, left-counts ps)

-- ---- a mended list, by all samples of the chunks

module _ (from to : ℕ) (rows : List Point) (h : History) (shown : Shows h) (ascending : IsAscending (points h.held)) (rises : IsAscending rows) (within : AreWithin from to rows) where
  abbrev pub edge : ℕ
  edge = edge_of h.options.retention (high_after_rows rows h.high)

  pub updated_list-all : list_after_update from to rows h ≡ at_times (nat_le edge) (put_all rows (outside from to (points h.held)))
  updated_list-all =
      ap (λ (l : List Point). at_times (nat_le edge) (put_all rows (outside from to l))) shown
      ∙ sym (from-edge (low h) edge rows (Some (record { from = from; to = to })) (points h.held) (edge-with h.options.retention rows h.high) ascending)

  -- it has the rows from the edge on, and what is left from there on
  pub updated_list-count : length (list_after_update from to rows h) ≡ length (at_times (nat_le edge) rows) + length (at_times (nat_le edge) (outside from to (points h.held)))
  updated_list-count = ap length updated_list-all ∙ count-updated_list (nat_le edge) from to rows (points h.held) rises within

  pub updated_list-most : length (list_after_update from to rows h) ≤ length rows + length (points h.held)
  updated_list-most =
      omega (
        arith,
        updated_list-count,
        times-length (nat_le edge) rows,
        times-length (nat_le edge) (outside from to (points h.held)),
        times-length (λ t. not (is_within from to t)) (points h.held),
      )

  -- whether it is longer than a limit
  pub updated_list-exceeds : (limit low kept place : ℕ) → low ≡ edge → drop place rows ≡ at_times (nat_le low) rows → kept ≡ length (at_times (nat_le low) (outside from to (points h.held))) → limit < 2 ^ 32
      → nat_lt limit (min (kept + (length rows - place)) (2 ^ 64 - 1)) ≡ nat_lt limit (length (list_after_update from to rows h))
  updated_list-exceeds limit low kept place is after left small =
      let count : kept + (length rows - place) ≡ length (list_after_update from to rows h) =
      omega (
        arith,
        updated_list-count,
        left,
        ap length after,
        length-drop place rows,
        ap (λ e. length (at_times (nat_le e) rows)) is,
        ap (λ e. length (at_times (nat_le e) (outside from to (points h.held)))) is,
      ) in
      capped (kept + (length rows - place)) ∙ ap (nat_lt limit) count
    where
      capped : (n : ℕ) → nat_lt limit (min n (2 ^ 64 - 1)) ≡ nat_lt limit n
      capped n = grind (arith, nat_tests)

-- ---- the plan

-- a plan that puts rows in the place of the samples of an interval
abbrev pub mends : Encoding → (from to : ℕ) → (rows : List Point) → Change → (room : Option ℕ) → Plan
mends encoding from to rows change room = record { cut = Some (record { from = from; to = to }); removed = 0; encoding = encoding; wrote = rows; options = None; change = change; room = room }

-- it is for the series, of which `h` is the view
pub mends-for : {format : List Point → List ℕ} (from to : ℕ) (rows wrote : List Point) (change : Change) (room : Option ℕ) (h k : History) → h ≡ k → Shows h → IsKeptIn format h → AreMade k.born rows → wrote ≡ rows
    → IsReady format h.held change → length h.held.pieces + length change.pieces ≤ chunk_capacity room h.held → HasLimits (limit_for h.options.chunk_size) h.held.limits change
    → joined (pieces_after change h.held.pieces) ≡ put_all rows (outside from to (points h.held)) → IsForIn format (mends h.options.encoding from to wrote change room) k
mends-for {format} from to rows wrote change room h k view shown kept made same ready enough limits list =
    let encoding = h.options.encoding in
    subst (λ (l : List Point). IsForIn format (mends encoding from to l change room) k) (sym same)
    (subst (IsForIn format (mends encoding from to rows change room)) view
    (is-for (mends encoding from to rows change room) h refl refl (subst (λ (x : History). AreMade x.born rows) (sym view) made) ready enough limits
    (written-list (mends encoding from to rows change room) h refl shown kept.chunks.ascending list)))
