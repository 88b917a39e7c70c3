use Rattle.std.proofs.Common.{ℕ, sym, ap, ◌∙◌}
use Rattle.std.specs.BTreeMap.{is_at}
use Rattle.std.specs.Map.{lookup}
use Rattle.std.specs.Ordering.{nat_cmp}
use Rattle.ts_group.proofs.summaries.slot_index_of.Goals as goal

pub returns-then-is_slot_of : goal.returns-then-is_slot_of
returns-then-is_slot_of c =
    let at = c.is_slot_of.ensures c.if-is_slot_of.true in
    sym (ap (λ (t : ℕ). lookup (is_at (nat_cmp t)) c.args.slot_indices.now.entries) (sym at.1) ∙ c.requires.each c.args.next at.0)
