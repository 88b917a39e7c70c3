use Rattle.ts_labels.proofs.LabelLemmas.{AreDistinct-labels_in}
use Rattle.ts_labels.proofs.pairs.Pairs.set.Goals as goal

pub invariant_of-self-in_ok-insert-in-Many : goal.invariant_of-self-in_ok-insert-in-Many
invariant_of-self-in_ok-insert-in-Many c = AreDistinct-labels_in c.insert.new.self.entries c.insert.ensures.unique

pub invariant_of-self-in_ok-insert-in-Many-2 : goal.invariant_of-self-in_ok-insert-in-Many-2
invariant_of-self-in_ok-insert-in-Many-2 c = AreDistinct-labels_in c.insert.new.self.entries c.insert.ensures.unique

pub invariant_of-self-in_ok-insert-in-Many-3 : goal.invariant_of-self-in_ok-insert-in-Many-3
invariant_of-self-in_ok-insert-in-Many-3 c = AreDistinct-labels_in c.insert.new.self.entries c.insert.ensures.unique

pub invariant_of-self-then-len-lt-MAX_LINEAR : goal.invariant_of-self-then-len-lt-MAX_LINEAR
invariant_of-self-then-len-lt-MAX_LINEAR c = c.set_few.ensures.distinct

pub invariant_of-self-in_ok-insert-in-Few : goal.invariant_of-self-in_ok-insert-in-Few
invariant_of-self-in_ok-insert-in-Few c = AreDistinct-labels_in c.insert-in-Few.new.self.entries c.insert-in-Few.ensures.unique
