use Rattle.std.proofs.Common.{◌≡◌, ◌⊎◌, inl, inr, ℕ, ◌-◌, ◌<◌, ◌≤◌, List, ◌++◌, map, take, ◌∙◌, ap, arith}
use Rattle.std.proofs.lemmas.List.{length-map}
use Rattle.std.specs.Prelude.{reverse}
use Rattle.ts_spec.specs.Answer.{Row}
use Rattle.ts_spec.specs.Sample.{Point}
use Rattle.ts_range.specs.Query.{row_of}
use Rattle.ts_questions.specs.Asking.{queried_samples, queried_pieces, queried_reach, rows_in}
use Rattle.ts_questions.proofs.RowsSplit.{Begins, in-parts, in-none, found-none, found-more, found-enough, found-all, found-rest}
use Rattle.ts_questions.proofs.WalkBounds.{goes-first, goes-more, goes-last, goes-none}
use Rattle.ts_questions.proofs.reversed_samples.last_rows.Goals as goal

pub loop-found-init : goal.loop-found-init
loop-found-init g c = record {
  inside = (omega (arith, c.if-end-from.false), omega arith);
  few = omega arith;
  found = found-none c.args.count (map row_of c.new-found.result.items) (rows_in c.args.series_query.now.query.now (queried_samples c.args.series_query.now) c.args.from c.args.series_query.now.query.now.to) (ap (map row_of) c.new-found.ensures.items);
  seams = goes-first (queried_pieces c.args.series_query.now) (queried_reach c.args.series_query.now) c.args.from c.args.series_query.now.query.now.to c.args.steps.now;
}

-- a share that does not begin with the interval begins with a bucket, and is one of the first three
other : {A B : Type 0} → A ⊎ B → (A → ⊥) → B
other (inl a) not-a = absurd (not-a a)
other (inr b) not-a = b

before : (from start : ℕ) → from ≤ start → (start ≡ from → ⊥) → from < start
before from start le differ = grind (arith, le, differ)

pub loop-found-preserved : goal.loop-found-preserved
loop-found-preserved g c =
    let q = c.args.series_query.now.query.now in
    let old = c.loop-found in
    let start = c.start_of_batch-start.result in
    let within = c.start_of_batch-start.ensures.within in
    let past : c.args.from < start = before c.args.from start within.0 c.if-start-from.false in
    let begins : Begins q start = other c.start_of_batch-start.ensures.bucket c.if-start-from.false in
    record {
      inside = (omega (arith, past), omega (arith, within.1, old.invariant.inside.1));
      few = omega (arith, other c.start_of_batch-start.ensures.few c.if-start-from.false);
      found =
          let all : List Point = queried_samples c.args.series_query.now in
          found-more c.args.count (map row_of old.found.items) (rows_in q all c.args.from (start - 1)) (rows_in q all start old.end) (rows_in q all c.args.from old.end) (rows_in q all c.args.from q.to) (map row_of c.in_ok-found.found.items)
          old.invariant.found (in-parts q all c.known.ensures.rising c.args.from old.end start past within.1 begins)
          (c.in_ok-found.ensures ∙ ap (λ (rs : List Row). take c.args.count (map row_of old.found.items ++ reverse rs)) c.in_ok-rows.ensures.rows);
      seams =
          goes-more (queried_pieces c.args.series_query.now) (queried_reach c.args.series_query.now) c.args.from q.to old.end old.scan_batches c.args.steps.now old.steps old.invariant.seams
          start c.rows_between.new.steps (c.known.ensures.cuts (start - 1)) past within.1 c.rows_between.ensures.seams;
    }

-- there is no interval
pub returns-then-end-from-clause-rows : goal.returns-then-end-from-clause-rows
returns-then-end-from-clause-rows g c =
    let q = c.args.series_query.now.query.now in
    let all : List Point = queried_samples c.args.series_query.now in
    let left = rows_in q all c.args.from q.to in
    let found = map row_of c.new-found.result.items in
    found-all c.args.count found left left (found-none c.args.count found left (ap (map row_of) c.new-found.ensures.items)) (in-none q all c.args.from q.to c.if-end-from.true)

-- the last share was told
pub returns-then-start-from-clause-rows : goal.returns-then-start-from-clause-rows
returns-then-start-from-clause-rows g c =
    let q = c.args.series_query.now.query.now in
    let old = c.loop-found in
    let all : List Point = queried_samples c.args.series_query.now in
    let found = map row_of old.found.items in
    found-rest c.args.count found (rows_in q all c.args.from old.end) (rows_in q all c.args.from q.to) (map row_of c.in_ok-found.found.items) old.invariant.found
    (c.in_ok-found.ensures ∙ ap (λ (rs : List Row). take c.args.count (found ++ reverse rs)) (c.in_ok-rows.ensures.rows ∙ ap (λ (t : ℕ). rows_in q all t old.end) c.if-start-from.true))

pub returns-clause-rows : goal.returns-clause-rows
returns-clause-rows g c =
    let q = c.args.series_query.now.query.now in
    let old = c.loop-found in
    let all : List Point = queried_samples c.args.series_query.now in
    found-enough c.args.count (map row_of old.found.items) (rows_in q all c.args.from old.end) (rows_in q all c.args.from q.to) old.invariant.found
    (omega (arith, c.loop-found-test.false, c.len.ensures, length-map old.found.items row_of))

-- ---- how many steps were taken

pub returns-in_err-rows-clause-seams : goal.returns-in_err-rows-clause-seams
returns-in_err-rows-clause-seams g c =
    let old = c.loop-found in
    goes-last (queried_pieces c.args.series_query.now) (queried_reach c.args.series_query.now) c.args.from c.args.series_query.now.query.now.to old.end old.scan_batches c.args.steps.now old.steps old.invariant.seams
    c.start_of_batch-start.result c.rows_between.new.steps old.invariant.few c.start_of_batch-start.ensures.within.0 c.rows_between.ensures.seams

pub returns-in_err-found-clause-seams : goal.returns-in_err-found-clause-seams
returns-in_err-found-clause-seams g c =
    let old = c.loop-found in
    goes-last (queried_pieces c.args.series_query.now) (queried_reach c.args.series_query.now) c.args.from c.args.series_query.now.query.now.to old.end old.scan_batches c.args.steps.now old.steps old.invariant.seams
    c.start_of_batch-start.result c.rows_between.new.steps old.invariant.few c.start_of_batch-start.ensures.within.0 c.rows_between.ensures.seams

pub returns-then-start-from-clause-seams : goal.returns-then-start-from-clause-seams
returns-then-start-from-clause-seams g c =
    let old = c.loop-found in
    goes-last (queried_pieces c.args.series_query.now) (queried_reach c.args.series_query.now) c.args.from c.args.series_query.now.query.now.to old.end old.scan_batches c.args.steps.now old.steps old.invariant.seams
    c.start_of_batch-start.result c.rows_between.new.steps old.invariant.few c.start_of_batch-start.ensures.within.0 c.rows_between.ensures.seams

pub returns-clause-seams : goal.returns-clause-seams
returns-clause-seams g c =
    let old = c.loop-found in
    goes-none (queried_pieces c.args.series_query.now) (queried_reach c.args.series_query.now) c.args.from c.args.series_query.now.query.now.to old.end old.scan_batches c.args.steps.now old.steps old.invariant.seams old.invariant.few
