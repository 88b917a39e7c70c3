use Rattle.std.proofs.Common.{◌≡◌, ◌+◌, List, [], ◌++◌, refl, sym, ◌∙◌, ap, subst, arith}
use Rattle.std.specs.Prelude.{filter}
use Rattle.ts_spec.specs.Sample.{Point, is_within, between}
use Rattle.ts_spec.proofs.Samples.{ascending-times}
use Rattle.ts_range.specs.RowScanState.{RowScanState, lets}
use Rattle.ts_range.proofs.Filtered.{length-filter}
use Rattle.ts_questions.specs.Asking.{queried_samples, queried_pieces}
use Rattle.ts_questions.proofs.InShares.{IsSoFar, at-start, with-scan_batch, with-last, none-left, room-left, seen-more, seen-alone, rows-of-all, rows-of-enough}
use Rattle.ts_questions.proofs.WalkBounds.{seamed-none, upto-none, seamed-more, upto-more, at-seam}
use Rattle.ts_questions.proofs.walked.scan_in_batches.Goals as goal

pub loop-start-init : goal.loop-start-init
loop-start-init g c = record {
  same = refl;
  so_far =
      let l = queried_samples c.args.series_query.now in
      at-start (lets c.args.walk) c.args.walk.seen (between c.args.from c.args.to l) c.requires.none
      (ascending-times (is_within c.args.from c.args.to) l c.known.ensures.rising)
      (omega (arith, c.known.ensures.few, length-filter (λ (p : Point). is_within c.args.from c.args.to p.time) l));
  inside = omega arith;
  upto = upto-none (queried_pieces c.args.series_query.now) c.args.from c.args.steps.now;
  seams = seamed-none (queried_pieces c.args.series_query.now) c.args.from c.args.to c.args.steps.now;
}

pub visit-requires : goal.visit-requires
visit-requires g c =
    let l = queried_samples c.args.series_query.now in
    record { room = room-left (lets c.args.walk) c.loop-start.walk.seen (between c.loop-start.from c.loop-start.to l) (between c.args.from c.args.to l) c.loop-start.invariant.so_far }

pub loop-start-preserved : goal.loop-start-preserved
loop-start-preserved g c =
    let walk = c.args.walk in
    let old = c.loop-start.walk in
    let first = c.in-Some.start in
    let last = c.in-Some.last in
    let scan_batch = c.scan_batch_of-scan_batch.result in
    let within = c.in-Some.ensures.within in
    let inner = c.scan_batch_of-scan_batch.ensures.within in
    let l = queried_samples c.args.series_query.now in
    let is : c.in-Err.walk ≡ record walk { seen = old.seen ++ between scan_batch.first scan_batch.last l } =
    c.in-Err.ensures.walk ∙ seen-more walk old c.visit.new.visit (between scan_batch.first scan_batch.last l) c.loop-start.invariant.same c.visit.ensures.visited in
    record {
      same = seen-alone walk c.in-Err.walk (old.seen ++ between scan_batch.first scan_batch.last l) is;
      so_far =
          subst (λ (ps : List Point). IsSoFar (lets walk) ps (between (scan_batch.end + 1) last l) (between c.args.from c.args.to l)) (sym (ap (λ (w : RowScanState). w.seen) is))
          (with-scan_batch walk old l (between c.args.from c.args.to l) c.loop-start.from c.loop-start.to first last scan_batch.first scan_batch.last scan_batch.end c.loop-start.invariant.same
          c.loop-start.invariant.so_far (c.in-Some.ensures.all l) within.0 within.1.1 (c.scan_batch_of-scan_batch.ensures.all l) inner.0 inner.2
          c.known.ensures.rising (omega (arith, inner.0, inner.1, inner.2)) inner.3);
      inside = omega (arith, within.1.1, c.loop-start.invariant.inside);
      upto =
          upto-more (queried_pieces c.args.series_query.now) c.args.from c.loop-start.from scan_batch.first scan_batch.last c.args.steps.now c.loop-start.steps c.visit.new.steps c.loop-start.invariant.upto
          (omega (arith, within.0, inner.0)) inner.1 c.visit.ensures.seams scan_batch.end inner.2
          (at-seam (queried_pieces c.args.series_query.now) scan_batch.end last c.scan_batch_of-scan_batch.ensures.seam c.if-scan_batch-last.false);
      seams =
          seamed-more (queried_pieces c.args.series_query.now) c.args.from c.loop-start.from scan_batch.first scan_batch.last c.args.steps.now c.loop-start.steps c.visit.new.steps c.loop-start.invariant.upto
          (omega (arith, within.0, inner.0)) inner.1 c.visit.ensures.seams c.args.to (omega (arith, inner.2, inner.3, within.1.1, c.loop-start.invariant.inside));
    }

-- the last share was the last one wanted
pub returns-then-scan_batch-last-clause-rows : goal.returns-then-scan_batch-last-clause-rows
returns-then-scan_batch-last-clause-rows g c =
    let walk = c.args.walk in
    let old = c.loop-start.walk in
    let first = c.in-Some.start in
    let last = c.in-Some.last in
    let scan_batch = c.scan_batch_of-scan_batch.result in
    let within = c.in-Some.ensures.within in
    let inner = c.scan_batch_of-scan_batch.ensures.within in
    let l = queried_samples c.args.series_query.now in
    let whole = between c.args.from c.args.to l in
    rows-of-all (g.T.RowSink.has c.finish.result) walk c.visit.new.visit (old.seen ++ between scan_batch.first scan_batch.last l) whole l
    (seen-more walk old c.visit.new.visit (between scan_batch.first scan_batch.last l) c.loop-start.invariant.same c.visit.ensures.visited) (λ rises. c.finish.ensures.rows rises l)
    (with-last walk old l whole c.loop-start.from c.loop-start.to first last scan_batch.first scan_batch.last scan_batch.end c.loop-start.invariant.same c.loop-start.invariant.so_far (c.in-Some.ensures.all l)
    within.0 within.1.1 (c.scan_batch_of-scan_batch.ensures.all l) inner.0 inner.2 c.if-scan_batch-last.true)

pub returns-then-scan_batch-last-clause-limit : goal.returns-then-scan_batch-last-clause-limit
returns-then-scan_batch-last-clause-limit g c =
    let scan_batch = c.scan_batch_of-scan_batch.result in
    let l = queried_samples c.args.series_query.now in
    c.finish.ensures.limit
    ∙ ap (λ (w : RowScanState). w.limit)
    (seen-more c.args.walk c.loop-start.walk c.visit.new.visit (between scan_batch.first scan_batch.last l) c.loop-start.invariant.same c.visit.ensures.visited)

pub returns-then-scan_batch-last-clause-seams : goal.returns-then-scan_batch-last-clause-seams
returns-then-scan_batch-last-clause-seams g c =
    let scan_batch = c.scan_batch_of-scan_batch.result in
    let within = c.in-Some.ensures.within in
    let inner = c.scan_batch_of-scan_batch.ensures.within in
    seamed-more (queried_pieces c.args.series_query.now) c.args.from c.loop-start.from scan_batch.first scan_batch.last c.args.steps.now c.loop-start.steps c.visit.new.steps c.loop-start.invariant.upto
    (omega (arith, within.0, inner.0)) inner.1 c.visit.ensures.seams c.args.to (omega (arith, inner.2, inner.3, within.1.1, c.loop-start.invariant.inside))

-- the taker is full
pub returns-in-Ok-clause-rows : goal.returns-in-Ok-clause-rows
returns-in-Ok-clause-rows g c =
    let walk = c.args.walk in
    let old = c.loop-start.walk in
    let first = c.in-Some.start in
    let last = c.in-Some.last in
    let scan_batch = c.scan_batch_of-scan_batch.result in
    let within = c.in-Some.ensures.within in
    let inner = c.scan_batch_of-scan_batch.ensures.within in
    let l = queried_samples c.args.series_query.now in
    let whole = between c.args.from c.args.to l in
    rows-of-enough (g.T.RowSink.has c.in-Ok.row_sink) walk c.visit.new.visit (old.seen ++ between scan_batch.first scan_batch.last l) whole l
    (seen-more walk old c.visit.new.visit (between scan_batch.first scan_batch.last l) c.loop-start.invariant.same c.visit.ensures.visited) (between (scan_batch.end + 1) last l)
    (λ more rises. c.in-Ok.ensures.rows more l rises)
    (with-scan_batch walk old l whole c.loop-start.from c.loop-start.to first last scan_batch.first scan_batch.last scan_batch.end c.loop-start.invariant.same c.loop-start.invariant.so_far (c.in-Some.ensures.all l)
    within.0 within.1.1 (c.scan_batch_of-scan_batch.ensures.all l) inner.0 inner.2
    c.known.ensures.rising (omega (arith, inner.0, inner.1, inner.2)) inner.3)

pub returns-in-Ok-clause-limit : goal.returns-in-Ok-clause-limit
returns-in-Ok-clause-limit g c =
    let scan_batch = c.scan_batch_of-scan_batch.result in
    let l = queried_samples c.args.series_query.now in
    c.in-Ok.ensures.limit
    ∙ ap (λ (w : RowScanState). w.limit)
    (seen-more c.args.walk c.loop-start.walk c.visit.new.visit (between scan_batch.first scan_batch.last l) c.loop-start.invariant.same c.visit.ensures.visited)

pub returns-in-Ok-clause-seams : goal.returns-in-Ok-clause-seams
returns-in-Ok-clause-seams g c =
    let scan_batch = c.scan_batch_of-scan_batch.result in
    let within = c.in-Some.ensures.within in
    let inner = c.scan_batch_of-scan_batch.ensures.within in
    seamed-more (queried_pieces c.args.series_query.now) c.args.from c.loop-start.from scan_batch.first scan_batch.last c.args.steps.now c.loop-start.steps c.visit.new.steps c.loop-start.invariant.upto
    (omega (arith, within.0, inner.0)) inner.1 c.visit.ensures.seams c.args.to (omega (arith, inner.2, inner.3, within.1.1, c.loop-start.invariant.inside))

-- nothing more is wanted
pub returns-clause-rows : goal.returns-clause-rows
returns-clause-rows g c =
    let walk = c.args.walk in
    let old = c.loop-start.walk in
    let l = queried_samples c.args.series_query.now in
    let rest = between c.loop-start.from c.loop-start.to l in
    let whole = between c.args.from c.args.to l in
    rows-of-all (g.T.RowSink.has c.finish-2.result) walk old old.seen whole l c.loop-start.invariant.same (λ rises. c.finish-2.ensures.rows rises l)
    (none-left (lets walk) old.seen rest whole (subst (λ (w : RowScanState). filter (lets w) rest ≡ []) c.loop-start.invariant.same (c.in_default.ensures.none l)) c.loop-start.invariant.so_far)

pub returns-clause-limit : goal.returns-clause-limit
returns-clause-limit g c = c.finish-2.ensures.limit ∙ ap (λ (w : RowScanState). w.limit) c.loop-start.invariant.same

pub returns-clause-seams : goal.returns-clause-seams
returns-clause-seams g c = c.loop-start.invariant.seams
