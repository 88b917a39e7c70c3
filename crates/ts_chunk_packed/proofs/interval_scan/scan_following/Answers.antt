use Rattle.std.proofs.Common.{◌≡◌, ◌+◌, ◌<◌, drop, sym, ap, ◌∙◌, subst, length, arith}
use Rattle.ts_spec.specs.Sample.{Point}
use Rattle.ts_chunk_packed.proofs.Resting.{length-samples_from}
use Rattle.ts_chunk_packed.proofs.Walking.{Walked, begun, follows, no_earlier, some_room, walked_on, ended, all_walked}
use Rattle.ts_chunk_packed.proofs.interval_scan.scan_following.Goals as goal
use Rattle.ts_chunk_packed.proofs.interval_scan.scan_following.Goals.{After-into_parts-context, After-decode-sample}

count : (g : _) (c : After-into_parts-context g) → length c.args.rest.list ≡ c.into_parts-context.result.2
count g c = ap length c.into_parts-context.ensures.list ∙ length-samples_from c.into_parts-context.result.0 c.into_parts-context.result.2 c.into_parts-context.result.1.now

inside : (g : _) (c : After-decode-sample g) → c.loop.counter < length c.args.rest.list
inside g c = omega (arith, ap length c.into_parts-context.ensures.list, length-samples_from c.into_parts-context.result.0 c.into_parts-context.result.2 c.into_parts-context.result.1.now)

pub loop-init : goal.loop-init
loop-init g c =
    let parts = c.into_parts-context in
    begun g.met.V.Visit.lowers parts.result.0 parts.result.2 parts.result.1.now parts.ensures.left (sym parts.ensures.list) c.requires.room

pub decode-sample-requires : goal.decode-sample-requires
decode-sample-requires g c =
    follows g.met.V.Visit.lowers (omega (arith, count g (goal.at.decode-sample-requires g c).After-into_parts-context)) c.loop.invariant

pub returns-then-sample-to : goal.returns-then-sample-to
returns-then-sample-to g c =
    let at = goal.at.returns-then-sample-to g c in
    let time = ap (λ (q : Point). q.time) c.sample.view_is in
    let end = ended g.met.V.Visit.lowers (inside g at.After-decode-sample) c.loop.invariant c.decode-sample.ensures.sample c.decode-sample.ensures.rest (omega arith) in
    record {
      visited = end.0;
      counted = omega (arith, end.1);
      bounded = omega (arith, count g at.After-into_parts-context, c.loop.invariant.bounded, c.tick.ensures);
    }

pub offer-requires : goal.offer-requires
offer-requires g c =
    let time = ap (λ (q : Point). q.time) c.sample.view_is in
    some_room g.met.V.Visit.lowers (inside g (goal.at.offer-requires g c).After-decode-sample) c.loop.invariant c.decode-sample.ensures.sample c.decode-sample.ensures.rest (omega arith)

pub after-context-requires : goal.after-context-requires
after-context-requires g c =
    no_earlier g.met.V.Visit.lowers (inside g (goal.at.after-context-requires g c).After-decode-sample) c.loop.invariant c.decode-sample.ensures.sample c.decode-sample.ensures.rest

pub loop-preserved : goal.loop-preserved
loop-preserved g c =
    let all = c.args.rest.list in
    let l = c.loop in
    let time = ap (λ (q : Point). q.time) c.sample.view_is in
    let on = walked_on g.met.V.Visit.lowers (inside g (goal.at.loop-preserved g c).After-decode-sample) l.invariant c.decode-sample.ensures.sample c.decode-sample.ensures.rest (omega arith)
    c.offer.new.visit c.offer.ensures c.after-context.result c.after-context.ensures in
    subst (λ n. Walked g.V.Visit.step g.V.Visit.room c.args.from c.args.to c.args.visit.now c.offer.new.visit all (drop (l.counter + 1) all) c.after-context.result c.decode-sample.result.1.now c.args.steps.now n (l.counter + 1))
    (sym c.tick.ensures) on

pub returns : goal.returns
returns g c =
    let long = count g (goal.at.returns g c).After-into_parts-context in
    let end = all_walked g.met.V.Visit.lowers (omega (arith, long)) c.loop.invariant in
    record { visited = end.0; counted = end.1; bounded = omega (arith, long, c.loop.invariant.bounded) }
