use Rattle.std.proofs.Common.{◌≡◌, ◌∙◌, ◌+◌, sym, ap, drop, arith}
use Rattle.std.specs.Ordering.{nat_cmp, ordering_then}
use Rattle.std.specs.Cmp.Lexicographic.{slice_cmp}
use Rattle.ts_resp.specs.Words.{big_endian}
use Rattle.ts_resp.proofs.OrderLemmas.{eight_cmp, then-same, then-apart}
use Rattle.ts_resp.proofs.order.order.Goals as goal

pub returns-then-x-y : goal.returns-then-x-y
returns-then-x-y c =
    c.cmp.ensures
    ∙ sym (then-apart c.eight-x.result c.eight-y.result _ c.if-x-y.true)
    ∙ ap (λ x. ordering_then (nat_cmp x c.eight-y.result) (slice_cmp nat_cmp (drop (c.loop-at.at + 8) c.args.a.now) (drop (c.loop-at.at + 8) c.args.b.now))) c.eight-x.ensures
    ∙ ap (λ y. ordering_then (nat_cmp (big_endian 0 8 (drop c.loop-at.at c.args.a.now)) y) (slice_cmp nat_cmp (drop (c.loop-at.at + 8) c.args.a.now) (drop (c.loop-at.at + 8) c.args.b.now))) c.eight-y.ensures
    ∙ sym (eight_cmp c.args.a.now c.args.b.now c.loop-at.at c.type_inv.a c.type_inv.b (omega arith) (omega arith))
    ∙ c.loop-at.invariant.left

pub loop-at-preserved : goal.loop-at-preserved
loop-at-preserved c =
    let same : big_endian 0 8 (drop c.loop-at.at c.args.a.now) ≡ big_endian 0 8 (drop c.loop-at.at c.args.b.now) = sym c.eight-x.ensures ∙ c.if-x-y.false ∙ c.eight-y.ensures in
    record {
      within = omega arith;
      left =
          sym (then-same (big_endian 0 8 (drop c.loop-at.at c.args.a.now)) (big_endian 0 8 (drop c.loop-at.at c.args.b.now)) _ same)
          ∙ sym (eight_cmp c.args.a.now c.args.b.now c.loop-at.at c.type_inv.a c.type_inv.b (omega arith) (omega arith))
          ∙ c.loop-at.invariant.left;
    }
