use Rattle.std.proofs.Common.{refl, eq-eqb, ne_eqb}
use Rattle.ts_labels.proofs.TextLemmas.{before_last-end}
use Rattle.ts_labels.proofs.filter_text.before_last.Goals as goal

pub returns-then-last-byte : goal.returns-then-last-byte
returns-then-last-byte c =
    rw (c.in_ok-last.ensures.cases.0, before_last-end, eq-eqb c.in_ok-last.last.now c.args.byte c.if-last-byte.true) refl

pub returns-else-last-byte : goal.returns-else-last-byte
returns-else-last-byte c =
    rw (c.in_ok-last.ensures.cases.0, before_last-end, ne_eqb c.in_ok-last.last.now c.args.byte c.if-last-byte.false) refl
