-- The number of a destination's samples after a deletion on its source: those within retention without the lost ones,
-- and the rows.
use Rattle.std.proofs.Common.{◌≡◌, ℕ, ◌+◌, ◌-◌, ◌/◌, ◌≤◌, Bool, true, false, not, ◌&&◌, ◌==◌, max, nat_lt, nat_le, cond, if◌then◌else◌, List, [], ◌∷◌, ◌++◌, filter, length, Option, None, refl, sym, ap, ◌∙◌, subst, arith, le-leb, leb-true}
use Rattle.std.specs.Option.{option_or}
use Rattle.std.proofs.lemmas.Bool.{and_parts, and_from}
use Rattle.ts_spec.specs.Sample.{Point, IsAscending, at, at_times, between, is_within, put_all}
use Rattle.ts_spec.specs.Bucket.{start, starts}
use Rattle.ts_spec.specs.Aggregate.{result_of}
use Rattle.ts_spec.specs.State.{edge_of}
use Rattle.ts_spec.specs.StoredSeries.{StoredRule}
use Rattle.ts_spec.specs.StoredUpdates.{recounted_bucket, high_after_rows, rows_of}
use Rattle.ts_spec.proofs.Samples.{at-after, at-put_all, at-times, ascending-times}
use Rattle.ts_spec.proofs.TwoBuckets.{loses-within}
use Rattle.ts_spec.proofs.TwoRows.{deleted_rows-ascending}
use Rattle.ts_sample.proofs.Between.{times-alike, times-both}
use Rattle.ts_series.specs.History.{History, list_of, reach, limit_for}
use Rattle.ts_series.proofs.Counting.{length-put, length-cons_if, one_if, times-fewer}
use Rattle.ts_series.proofs.Reach.{new-within-reach}
use Rattle.ts_rules.specs.declared.rule.Rule.{Rule}
use Rattle.ts_rules.specs.Rules.{stored_rule_for}
use Rattle.ts_rules.specs.Plans.{list_after_update}
use Rattle.ts_rules.specs.Deletions.{gone_of, left_of, is_lost, rows_left}
use Rattle.ts_rules.proofs.Times.{same-test, within, within-from, within-to}

-- ---- rows in the place of samples that go

-- each row stands where a sample would go
abbrev StandFor : (gone : ℕ → Bool) → List Point → Type 0
StandFor gone [] = Unit {0}
StandFor gone (p ∷ rows) = (gone p.time ≡ true) × StandFor gone rows

updated_list-count : (test gone : ℕ → Bool) (rows ps : List Point) → IsAscending rows → StandFor gone rows →
    length (at_times test (put_all rows (at_times (λ t. not (gone t)) ps))) ≡ length (at_times test rows) + length (at_times test (at_times (λ t. not (gone t)) ps))
updated_list-count test gone [] ps rises stand = omega arith
updated_list-count test gone (p ∷ rows) ps rises stand =
    omega (arith, length-put test p (put_all rows (at_times (λ t. not (gone t)) ps)) none, updated_list-count test gone rows ps rises.1 stand.1, length-cons_if (test p.time) p (at_times test rows))
  where
    none : at p.time (put_all rows (at_times (λ t. not (gone t)) ps)) ≡ None
    none =
        at-put_all p.time rows (at_times (λ t. not (gone t)) ps)
        ∙ ap (λ (o : Option Point). option_or o (at p.time (at_times (λ t. not (gone t)) ps))) (at-after p.time p.time rows rises.0 (omega arith))
        ∙ at-times p.time (λ t. not (gone t)) ps
        ∙ ap (λ (x : Bool). if not x then at p.time ps else None) stand.0

-- those that stay and those that go are all
stay-and-go : (test gone : ℕ → Bool) (ps : List Point) → length (at_times test (at_times (λ t. not (gone t)) ps)) + length (at_times (λ t. test t && gone t) ps) ≡ length (at_times test ps)
stay-and-go test gone [] = refl
stay-and-go test gone (p ∷ ps) = go (test p.time) (gone p.time) refl (stay-and-go test gone ps)
  where
    staying : (x : Bool) → test p.time ≡ x → length (cond (test p.time) (p ∷ at_times test (at_times (λ t. not (gone t)) ps)) (at_times test (at_times (λ t. not (gone t)) ps))) ≡ one_if x + length (at_times test (at_times (λ t. not (gone t)) ps))
    staying x e = length-cons_if (test p.time) p (at_times test (at_times (λ t. not (gone t)) ps)) ∙ ap (λ y. one_if y + length (at_times test (at_times (λ t. not (gone t)) ps))) e

    go : (x y : Bool) → test p.time ≡ x → length (at_times test (at_times (λ t. not (gone t)) ps)) + length (at_times (λ t. test t && gone t) ps) ≡ length (at_times test ps) →
        length (at_times test (cond (not y) (p ∷ at_times (λ t. not (gone t)) ps) (at_times (λ t. not (gone t)) ps))) + length (cond (x && y) (p ∷ at_times (λ t. test t && gone t) ps) (at_times (λ t. test t && gone t) ps))
        ≡ length (cond x (p ∷ at_times test ps) (at_times test ps))
    go true true e ih = omega (arith, ih)
    go true false e ih = omega (arith, ih, staying true e)
    go false true e ih = ih
    go false false e ih = omega (arith, ih, staying false e)

-- ---- the rows of a deletion

rows-stand : (gone : ℕ → Bool) (left : List Point) (born : ℕ) (q : StoredRule) (bs : List ℕ) → StandFor gone (rows_of left born q (filter gone bs))
rows-stand gone left born q [] = tt
rows-stand gone left born q (b ∷ bs) = go (gone b) refl (rows-stand gone left born q bs)
  where
    row : (x : Bool) (rows : List Point) → gone b ≡ true → StandFor gone rows → StandFor gone ((if x then [] else record { time = b; value = result_of q.agg (recounted_bucket q b left); made = born } ∷ []) ++ rows)
    row true rows e h = h
    row false rows e h = (e, h)

    go : (x : Bool) → gone b ≡ x → StandFor gone (rows_of left born q (filter gone bs)) → StandFor gone (rows_of left born q (cond x (b ∷ filter gone bs) (filter gone bs)))
    go true e h = row ((recounted_bucket q b left).count == 0) (rows_of left born q (filter gone bs)) e h
    go false e h = h

pub rows_left-ascending : (r : Rule) (source : History) (from to born : ℕ) → IsAscending (list_of source) → IsAscending (rows_left r source from to born)
rows_left-ascending r source from to born a =
    deleted_rows-ascending (gone_of source from to) (left_of source from to) born (stored_rule_for [] r) (ascending-times (λ t. not (is_within from to t)) (list_of source) a)

module _ (r : Rule) (source h : History) (from to : ℕ) (ascending : IsAscending (list_of source)) where
  abbrev lost : ℕ → Bool
  lost = is_lost r source from to

  -- those that go, counted from the edge on between the first start and the last
  removed-are : (edge : ℕ) → length (at_times lost (between (max (start r.grid from) edge) (start r.grid to) (list_of h))) ≡ length (at_times (λ t. nat_le edge t && lost t) (list_of h))
  removed-are edge =
      ap length
      (times-both lost (is_within (max (start r.grid from) edge) (start r.grid to)) (list_of h)
      ∙ times-alike (λ t. is_within (max (start r.grid from) edge) (start r.grid to) t && lost t) (λ t. nat_le edge t && lost t) (list_of h)
      (λ t. same-test (is_within (max (start r.grid from) edge) (start r.grid to) t && lost t) (nat_le edge t && lost t)
      (λ e. (let x = and_parts (is_within (max (start r.grid from) edge) (start r.grid to) t) (lost t) e in
      let low : max (start r.grid from) edge ≤ t = within-from (max (start r.grid from) edge) (start r.grid to) t x.0 in
      and_from (nat_le edge t) (lost t) (le-leb edge t (omega (arith, low))) x.1))
      (λ e. (let x = and_parts (nat_le edge t) (lost t) e in
      let inside = loses-within (stored_rule_for [] r) from to t (list_of source) x.1 in
      let low : start r.grid from ≤ t = within-from (start r.grid from) (start r.grid to) t inside in
      let since : edge ≤ t = leb-true edge t x.0 in
      and_from (is_within (max (start r.grid from) edge) (start r.grid to) t) (lost t)
      (within (max (start r.grid from) edge) (start r.grid to) t (omega (arith, low, since)) (within-to (start r.grid from) (start r.grid to) t inside)) x.1))))

  module _ {edge first last removed count written : ℕ} {rows shown : List Point} (is_rows : rows ≡ rows_left r source from to h.born) (is_edge : edge ≡ edge_of h.options.retention (high_after_rows rows h.high))
      (begins : first ≡ start r.grid from) (ends : last ≡ start r.grid to) (is_shown : shown ≡ between (max first edge) last (list_of h)) (is_removed : removed ≡ length (at_times lost shown))
      (is_count : count ≡ length (at_times (nat_le edge) (list_of h))) (is_written : written ≡ length (at_times (nat_le edge) rows)) where
    all-removed : removed ≡ length (at_times (λ t. nat_le edge t && lost t) (list_of h))
    all-removed =
        is_removed ∙ ap (λ (ps : List Point). length (at_times lost ps)) is_shown
        ∙ (λ i. length (at_times lost (between (max (begins i) edge) (ends i) (list_of h)))) ∙ removed-are edge

    -- no more go than there are
    pub removed-within : removed ≤ count
    removed-within = omega (arith, all-removed, is_count, stay-and-go (nat_le edge) lost (list_of h))

    pub count-after : count - removed + written ≡ length (list_after_update lost (rows_left r source from to h.born) h)
    count-after =
        let all : length (at_times (nat_le edge) (put_all rows (at_times (λ t. not (lost t)) (list_of h)))) ≡ length (at_times (nat_le edge) rows) + length (at_times (nat_le edge) (at_times (λ t. not (lost t)) (list_of h))) =
        updated_list-count (nat_le edge) lost rows (list_of h)
        (subst IsAscending (sym is_rows) (rows_left-ascending r source from to h.born ascending))
        (subst (StandFor lost) (sym is_rows) (rows-stand lost (left_of source from to) h.born (stored_rule_for [] r) (starts r.grid (left_of source from to)))) in
        let same : length (at_times (nat_le edge) (put_all rows (at_times (λ t. not (lost t)) (list_of h)))) ≡ length (list_after_update lost (rows_left r source from to h.born) h) =
        (λ i. length (at_times (nat_le (is_edge i)) (put_all rows (at_times (λ t. not (lost t)) (list_of h))))) ∙ ap (λ (qs : List Point). length (list_after_update lost qs h)) is_rows in
        omega (arith, all-removed, is_count, is_written, all, same, stay-and-go (nat_le edge) lost (list_of h))

    pub full-after : (limit : ℕ) → nat_lt limit (count - removed + written) ≡ nat_lt limit (length (list_after_update lost (rows_left r source from to h.born) h))
    full-after limit = ap (nat_lt limit) count-after

    -- how many are shown between the first start and the last
    pub shown-few : length shown ≤ length (between (start r.grid from) (start r.grid to) (list_of h))
    shown-few =
        let less : length (between (max (start r.grid from) edge) (start r.grid to) (list_of h)) ≤ length (between (start r.grid from) (start r.grid to) (list_of h)) =
        times-fewer (is_within (max (start r.grid from) edge) (start r.grid to)) (is_within (start r.grid from) (start r.grid to)) (list_of h)
        (λ t e. (let low : max (start r.grid from) edge ≤ t = within-from (max (start r.grid from) edge) (start r.grid to) t e in
        within (start r.grid from) (start r.grid to) t (omega (arith, low)) (within-to (max (start r.grid from) edge) (start r.grid to) t e))) in
        let same : length shown ≡ length (between (max (start r.grid from) edge) (start r.grid to) (list_of h)) = ap length is_shown ∙ (λ i. length (between (max (begins i) edge) (ends i) (list_of h))) in
        omega (arith, less, same)

-- a series reaches over some samples
pub some-reach : (h : History) → 1 ≤ reach h
some-reach h = omega (arith, new-within-reach {h = h} {k = h} (limit_for h.options.chunk_size) (limit_for h.options.chunk_size / 3) refl refl refl)
