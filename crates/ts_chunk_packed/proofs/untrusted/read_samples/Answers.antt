use Rattle.std.proofs.Common.{◌≡◌, ◌<◌, ◌≤◌, length, rules, arith}
use Rattle.ts_chunk_packed.proofs.Restoring.{none_read, next_is, shorter, not_before, few, read_more, all_read}
use Rattle.ts_chunk_packed.proofs.untrusted.read_samples.Goals as goal

pub loop-rest-init : goal.loop-rest-init
loop-rest-init c = record { read = none_read c.args.bytes.now c.new-context.result c.new-context.ensures }

pub returns-in_default-clause-none : goal.returns-in_default-clause-none
returns-in_default-clause-none c =
    λ ps coded.
    let l = c.loop-rest in
    let some : 0 < length l.rest.now = search rules in
    let next = next_is l.invariant.read ps coded some in
    c.in_default.ensures.none next.follows next.past

pub after-context-requires : goal.after-context-requires
after-context-requires c = let known = not_before c.loop-rest.invariant.read c.in-Some.sample.time c.in-Some.ensures.past in search rules

pub overflow_add-count : goal.overflow_add-count
overflow_add-count c = omega (arith, few c.loop-rest.invariant.read, c.requires)

pub loop-rest-smaller : goal.loop-rest-smaller
loop-rest-smaller c = shorter c.loop-rest.invariant.read c.in-Some.sample c.in-Some.after.now _ c.in-Some.ensures.is (search rules)

pub loop-rest-preserved : goal.loop-rest-preserved
loop-rest-preserved c =
    let more : c.loop-rest.made ≤ c.max-made.result = omega (arith, c.max-made.ensures) in
    let here : c.in-Some.sample.made ≤ c.max-made.result = search rules in
    record {
      read = read_more c.loop-rest.invariant.read c.in-Some.sample _ c.in-Some.after.now _ c.keep_first.new.first c.after-context.result c.max-made.result c.in-Some.ensures.is (cc) (search rules) c.known.ensures c.in-Some.ensures.past c.keep_first.ensures c.after-context.ensures more here;
    }

pub returns-clause-some : goal.returns-clause-some
returns-clause-some c =
    let l = c.loop-rest in
    let none : length l.rest.now ≡ 0 = search rules in
    all_read l.invariant.read none
