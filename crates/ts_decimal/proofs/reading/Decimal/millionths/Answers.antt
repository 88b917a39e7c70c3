use Rattle.std.proofs.Common.{◌+◌, ◌-◌, sym, ◌∙◌, arith}
use Rattle.ts_decimal.proofs.Nearest.{raised, lowered, raised-gives}
use Rattle.ts_decimal.proofs.reading.Decimal.millionths.Goals as goal

pub returns-then-self-raised-clause-value : goal.returns-then-self-raised-clause-value
returns-then-self-raised-clause-value c = λ n h.
    raised-gives n c.args.self.now.digits.first (c.args.self.now.up + 6) c.args.self.now.down _ c.raise.result
    (raised n c.args.self.now.digits.first c.args.self.now.digits.dropped (c.args.self.now.up + 6) c.args.self.now.down (c.args.self.now.digits.dropped + c.args.self.now.up + 6 - c.args.self.now.down) h (omega arith))
    c.raise.ensures.value c.raise.ensures.within

pub returns-else-self-raised-clause-value : goal.returns-else-self-raised-clause-value
returns-else-self-raised-clause-value c = λ n h.
    lowered n c.args.self.now.digits.first c.args.self.now.digits.dropped (c.args.self.now.up + 6) c.args.self.now.down (c.args.self.now.down - (c.args.self.now.digits.dropped + c.args.self.now.up + 6)) (omega arith) h (omega arith)
    ∙ sym c.lower.ensures.value
