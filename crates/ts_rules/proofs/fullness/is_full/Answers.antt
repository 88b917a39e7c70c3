use Rattle.std.proofs.Common.{◌≡◌, List, ◌&&◌, max, nat_le, length, refl, sym, ap, ◌∙◌, subst, arith}
use Rattle.ts_spec.specs.Sample.{Point, IsAscending, at_times, between, is_within}
use Rattle.ts_spec.specs.Bucket.{start}
use Rattle.ts_spec.specs.Rules.{is_past}
use Rattle.ts_spec.specs.StoredUpdates.{lies_in}
use Rattle.ts_spec.proofs.Buckets.{start-le}
use Rattle.ts_spec.proofs.Samples.{ascending-times}
use Rattle.ts_series.specs.History.{list_of}
use Rattle.ts_series.proofs.Counting.{times-length}
use Rattle.ts_series.proofs.TimeFor.{between-longer}
use Rattle.ts_rules.specs.Deletions.{rows_left, is_lost}
use Rattle.ts_rules.specs.Ends.{rows_at}
use Rattle.ts_rules.proofs.FullAfter.{rows_left-ascending, removed-within, full-after, shown-few, some-reach}
use Rattle.ts_rules.proofs.fullness.is_full.Goals as goal
use Rattle.ts_rules.proofs.fullness.is_full.Goals.{After-count_from}

pub edge-edge-requires : goal.edge-edge-requires
edge-edge-requires g c = subst IsAscending (sym c.new-ends.ensures.rows) (rows_left-ascending c.args.rule.now c.args.deletion.now.source.now c.args.deletion.now.from c.args.deletion.now.to c.born.result c.known.ensures.kept.ascending)

pub count_lost-removed-requires-clause-gone : goal.count_lost-removed-requires-clause-gone
count_lost-removed-requires-clause-gone g c =
    subst IsAscending (sym c.new-gone.ensures.left) (ascending-times (is_within c.args.deletion.now.from c.args.deletion.now.to) (list_of c.args.deletion.now.source.now) c.known.ensures.kept.ascending)

pub count_lost-removed-requires-clause-shown : goal.count_lost-removed-requires-clause-shown
count_lost-removed-requires-clause-shown g c =
    subst IsAscending (sym c.new-shown.ensures.left) (ascending-times (is_within c.max-first.result c.start_of-last.result) (list_of c.args.dest.now) c.known-2.ensures.kept.ascending)

pub count_lost-removed-requires-clause-few : goal.count_lost-removed-requires-clause-few
count_lost-removed-requires-clause-few g c =
    omega (
      arith,
      ap (λ (ps : List Point). length ps) c.new-shown.ensures.left,
      times-length (is_within c.max-first.result c.start_of-last.result) (list_of c.args.dest.now),
      c.requires.fits,
      c.ranges.limit.fits,
    )

-- the rows, what is shown and how many of that go
rows : (g : _) (c : After-count_from g) → rows_at c.new-ends.result ≡ rows_left c.args.rule.now c.args.deletion.now.source.now c.args.deletion.now.from c.args.deletion.now.to c.args.dest.now.born
rows g c = c.new-ends.ensures.rows ∙ ap (rows_left c.args.rule.now c.args.deletion.now.source.now c.args.deletion.now.from c.args.deletion.now.to) c.born.ensures

shown : (g : _) (c : After-count_from g) → c.new-shown.result ≡ between (max c.start_of.result c.edge-edge.result) c.start_of-last.result (list_of c.args.dest.now)
shown g c = c.new-shown.ensures.left ∙ ap (λ n. between n c.start_of-last.result (list_of c.args.dest.now)) c.max-first.ensures

removed : (g : _) (c : After-count_from g) → c.count_lost-removed.result ≡ length (at_times (is_lost c.args.rule.now c.args.deletion.now.source.now c.args.deletion.now.from c.args.deletion.now.to) c.new-shown.result)
removed g c =
    c.count_lost-removed.ensures.count
    ∙ ap (λ (gone : List Point). length (at_times (λ t. is_past c.args.rule.now.current t && lies_in c.args.rule.now.grid gone t) c.new-shown.result)) c.new-gone.ensures.left

pub overflow_sub-left : goal.overflow_sub-left
overflow_sub-left g c =
    let at = (goal.at.overflow_sub-left g c).After-count_from in
    removed-within c.args.rule.now c.args.deletion.now.source.now c.args.dest.now c.args.deletion.now.from c.args.deletion.now.to c.known.ensures.kept.ascending
    (rows g at) c.edge-edge.ensures c.start_of.ensures c.start_of-last.ensures (shown g at) (removed g at) c.count_from.ensures.count refl

pub overflow_add-result : goal.overflow_add-result
overflow_add-result g c =
    omega (arith, c.count_from.ensures.count, times-length (nat_le c.edge-edge.result) (list_of c.args.dest.now), c.requires.fits, c.ranges.limit.fits, c.count_from-2.ensures.few)

pub returns : goal.returns
returns g c =
    let at = (goal.at.returns g c).After-count_from in
    let grid = c.args.rule.now.grid in
    let few = shown-few c.args.rule.now c.args.deletion.now.source.now c.args.dest.now c.args.deletion.now.from c.args.deletion.now.to c.known.ensures.kept.ascending
    (rows g at) c.edge-edge.ensures c.start_of.ensures c.start_of-last.ensures (shown g at) (removed g at) c.count_from.ensures.count c.count_from-2.ensures.count in
    record {
      full = full-after c.args.rule.now c.args.deletion.now.source.now c.args.dest.now c.args.deletion.now.from c.args.deletion.now.to c.known.ensures.kept.ascending
          (rows g at) c.edge-edge.ensures c.start_of.ensures c.start_of-last.ensures (shown g at) (removed g at) c.count_from.ensures.count c.count_from-2.ensures.count c.args.limit;
      shared = c.new-ends.ensures.shared;
      steps = record {
        counted = omega (arith, c.new-gone.ensures.steps.counted, c.new-ends.ensures.counted, c.new-shown.ensures.steps.counted, c.count_lost-removed.ensures.steps.counted, c.count_from.ensures.steps.counted);
        bounded = omega (
          arith,
          c.new-gone.ensures.steps.bounded,
          c.new-ends.ensures.bounded,
          c.new-shown.ensures.steps.bounded,
          c.count_lost-removed.ensures.steps.bounded,
          c.count_from.ensures.steps.bounded,
          ap (λ (ps : List Point). length ps) c.new-gone.ensures.left,
          few,
          between-longer (start grid c.args.deletion.now.from) (start grid c.args.deletion.now.to) c.args.deletion.now.to (list_of c.args.dest.now) (start-le grid c.args.deletion.now.to c.known-3.ensures.some),
          some-reach c.args.dest.now,
        );
      };
    }
