use Rattle.std.proofs.Common.{◌≡◌, ◌<◌, ◌≤◌, ◌-◌, ℕ, suc, List, [], ap, sym, subst, ◌∙◌, arith}
use Rattle.std.specs.Prelude.{nat_le, take, option_map}
use Rattle.ts_spec.specs.Sample.{Point, IsAscending}
use Rattle.ts_spec.proofs.Samples.{ascending-times}
use Rattle.ts_range.specs.Query.{buckets_of, query_of, row_of, span_of}
use Rattle.ts_questions.specs.Asking.{queried_samples, queried_rows}
use Rattle.ts_questions.proofs.FewRead.{Reads, reads-past, reads-more, upto, upto-between}
use Rattle.ts_questions.proofs.Reaching.{plain}
use Rattle.ts_questions.proofs.few_samples.emit_few.Goals as goal

pub loop-left-init : goal.loop-left-init
loop-left-init g c =
    let series_query = c.args.series_query.now in
    let q = series_query.query.now in
    let l = queried_samples series_query in
    let few = c.requires.few in
    let left = c.read_from-samples.ensures.left few.own in
    record {
      reads = record {
        done = [];
        emitted = c.requires.none;
        split =
            plain (query_of q) l (ap (option_map (λ times. times.items)) few.times) (ap (option_map span_of) few.values) (ap (option_map buckets_of) few.buckets) c.requires.forward c.args.count few.count q.to
            ∙ ap (take c.args.count) (sym (upto-between q.from q.to l))
            ∙ ap (λ (ps : List Point). take c.args.count (upto q.to ps)) (sym left);
        rises = subst IsAscending (sym left) (ascending-times (nat_le q.from) l c.known.ensures.rising);
      };
      few = omega (arith, c.read_from-samples.ensures.steps);
    }

-- the first of what is left
pub loop-left-preserved : goal.loop-left-preserved
loop-left-preserved g c =
    let old = c.loop-left in
    let to = c.args.series_query.now.query.now.to in
    let all = queried_rows c.args.series_query.now in
    let less = old.left - 1 in
    let more : old.left ≡ suc less = omega (arith, c.loop-left-test.true) in
    let upto : c.in-Some.sample.time ≤ to = omega (arith, c.if-sample-to.false, ap (λ (p : Point). p.time) c.sample.view_is) in
    record {
      reads =
          subst (λ (ps : List Point). Reads (g.T.RowSink.has c.row-in-loop-left.new.self) all to less ps) (sym c.next.ensures.left)
          (reads-more (g.T.RowSink.has old.row_sink) all to (g.T.RowSink.has c.row-in-loop-left.new.self) less old.samples c.in-Some.sample (row_of c.row.result)
          (subst (λ (n : ℕ). Reads (g.T.RowSink.has old.row_sink) all to n old.samples) more old.invariant.reads)
          (sym c.next.ensures.next ∙ c.in-Some.is) upto c.row.ensures c.row-in-loop-left.ensures.taken);
      few = omega (arith, c.next.ensures.steps.bounded, old.invariant.few, c.loop-left-test.true);
    }

pub returns-then-sample-to-clause-rows : goal.returns-then-sample-to-clause-rows
returns-then-sample-to-clause-rows g c =
    let old = c.loop-left in
    let to = c.args.series_query.now.query.now.to in
    let past : to < c.in-Some.sample.time = omega (arith, c.if-sample-to.true, ap (λ (p : Point). p.time) c.sample.view_is) in
    reads-past (g.T.RowSink.has old.row_sink) (queried_rows c.args.series_query.now) to old.left old.samples c.in-Some.sample old.invariant.reads (sym c.next.ensures.next ∙ c.in-Some.is) past
