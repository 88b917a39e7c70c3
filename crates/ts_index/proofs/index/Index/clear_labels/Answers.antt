use Rattle.std.proofs.Common.{sym, subst}
use Rattle.ts_index.specs.Numbers.{AreInOrder}
use Rattle.ts_index.proofs.LosingLemmas.{posted-left}
use Rattle.ts_index.proofs.index.Index.clear_labels.Goals as goal

pub clear_lists-requires-clause-order : goal.clear_lists-requires-clause-order
clear_lists-requires-clause-order c = subst AreInOrder (sym c.self.view_is) c.known.ensures

pub clear_entries-requires : goal.clear_entries-requires
clear_entries-requires c = record { order = subst AreInOrder (sym c.self.view_is) c.known.ensures }

pub invariant_of-self : goal.invariant_of-self
invariant_of-self c =
    posted-left c.args.ids.now c.self.inside.labels.entries c.clear_entries.new.labels.entries c.self.inside.lists c.clear_lists.new.lists (subst AreInOrder (sym c.self.view_is) c.known.ensures)
    c.clear_entries.ensures.order c.self.invariant c.clear_lists.ensures.loses c.clear_lists.ensures.gone c.clear_entries.ensures.cleared
