use Rattle.std.proofs.Common.{drop, ◌∙◌, ap}
use Rattle.ts_rules.proofs.IntervalReading.{walk-next}
use Rattle.ts_rules.proofs.interval_cursor.IntervalCursor.advance.Goals as goal

pub returns-clause-left : goal.returns-clause-left
returns-clause-left g c =
    walk-next c.self.inside.to c.self.inside.rest c.next_upto-self-inside.new.rest c.self.inside.head c.next_upto-self-inside.result c.is_none.result c.self.invariant c.is_none.ensures c.if-is_none.false
    c.next_upto-self-inside.ensures.next c.next_upto-self-inside.ensures.left
    ∙ ap (drop 1) c.self.view_is
