use Rattle.std.proofs.Common.{refl}
use Rattle.std.specs.Fmt.{digits}
use Rattle.ts_journal.proofs.addition.policy_text.Goals as goal

pub returns-in-Block : goal.returns-in-Block
unfolding digits
returns-in-Block c = rw c.in-Block.is refl

pub returns-in-First : goal.returns-in-First
unfolding digits
returns-in-First c = rw c.in-First.is refl

pub returns-in-Last : goal.returns-in-Last
unfolding digits
returns-in-Last c = rw c.in-Last.is refl

pub returns-in-Min : goal.returns-in-Min
unfolding digits
returns-in-Min c = rw c.in-Min.is refl

pub returns-in-Max : goal.returns-in-Max
unfolding digits
returns-in-Max c = rw c.in-Max.is refl

pub returns-in-Sum : goal.returns-in-Sum
unfolding digits
returns-in-Sum c = rw c.in-Sum.is refl
