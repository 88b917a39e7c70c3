use Rattle.std.proofs.Common.{◌≡◌, suc, ◌++◌, ◌∙◌, take, drop, ap, sym, append-nil, arith}
use Rattle.ts_series.proofs.InPlace.{on-some}
use Rattle.ts_series.proofs.ring.remove_interval.Goals as goal

pub returns-then-end-start-eq1-clause-items : goal.returns-then-end-start-eq1-clause-items
returns-then-end-start-eq1-clause-items g c =
    let old = c.args.ring.now in
    let next : suc c.args.start ≡ c.args.end = omega (arith, c.requires.ordered, c.if-end-start-eq1.true) in
    on-some c.remove.result (c.remove.ensures.variant.1 (omega (arith, old.ok.0, c.requires.within, next))) c.remove.ensures.items
    ∙ ap (λ n. take c.args.start old.items ++ drop n old.items) next
    ∙ ap (λ l. l ++ drop c.args.end old.items) (sym (append-nil (take c.args.start old.items)))
