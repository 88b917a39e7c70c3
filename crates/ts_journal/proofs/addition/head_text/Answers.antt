use Rattle.std.proofs.Common.{refl}
use Rattle.std.specs.Fmt.{digits}
use Rattle.ts_journal.proofs.addition.head_text.Goals as goal

pub returns-in-None-clause-text : goal.returns-in-None-clause-text
unfolding digits
returns-in-None-clause-text c = rw c.in-None.is refl

pub returns-in-Some-clause-text : goal.returns-in-Some-clause-text
unfolding digits
returns-in-Some-clause-text c = rw c.in-Some.is refl
