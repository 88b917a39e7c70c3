use Rattle.ts_decimal.proofs.Kept.{Leads-drop}
use Rattle.ts_decimal.proofs.lexer.Leading.with.Goals as goal

pub returns-else-self-lt-DROP_THRESHOLD-clause-value : goal.returns-else-self-lt-DROP_THRESHOLD-clause-value
returns-else-self-lt-DROP_THRESHOLD-clause-value c = λ n h. Leads-drop _ _ n _ c.requires.digit c.if-self-lt-DROP_THRESHOLD.false h
