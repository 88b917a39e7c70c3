use Rattle.std.proofs.Common.{[], length, sym, ap, ◌∙◌, arith, subst}
use Rattle.std.proofs.Math.ListN.{set}
use Rattle.std.proofs.lemmas.List.{get_or_default}
use Rattle.std.proofs.lemmas.Result.{on_ok_weaker}
use Rattle.ts_range.specs.Query.{row_of}
use Rattle.ts_group.specs.SlotIndices.{slot_at}
use Rattle.ts_group.specs.Summaries.{AreTimely}
use Rattle.ts_group.specs.declared.slots.Slot.{Slot}
use Rattle.ts_group.proofs.Placed.{time-found, placed-set, row-set, timely-in, timely-inserted, placed-inserted, row-inserted}
use Rattle.ts_group.proofs.summaries.Summaries.add.Goals as goal

pub index_mut-requires : goal.index_mut-requires
index_mut-requires c =
    let found = sym c.slot_index_of.ensures ∙ c.in-Some.is in
    omega (
      arith,
      (time-found c.self.inside.slots.items c.args.row.time c.in-Some.list_index c.self.inside.slot_indices.entries c.self.invariant.times found).0,
      ap length c.deref.ensures.value,
      c.deref.ensures.len,
    )

pub invariant_of-self : goal.invariant_of-self
invariant_of-self c =
    let found = sym c.slot_index_of.ensures ∙ c.in-Some.is in
    let here = time-found c.self.inside.slots.items c.args.row.time c.in-Some.list_index c.self.inside.slot_indices.entries c.self.invariant.times found in
    let was = c.index_mut.ensures.value ∙ get_or_default c.self.inside.slots.items c.in-Some.list_index c.index_mut.result.now (slot_at [] 0) here.0 in
    placed-set c.self.inside.slots.items c.count.new.self c.in-Some.list_index c.args.row.time c.self.inside.slot_indices.entries c.self.invariant found
    (c.count.ensures.time ∙ ap (λ (s : Slot). s.time) was)

pub returns-in-Some-clause-added : goal.returns-in-Some-clause-added
returns-in-Some-clause-added c =
    let found = sym c.slot_index_of.ensures ∙ c.in-Some.is in
    let here = time-found c.self.inside.slots.items c.args.row.time c.in-Some.list_index c.self.inside.slot_indices.entries c.self.invariant.times found in
    let was = c.index_mut.ensures.value ∙ get_or_default c.self.inside.slots.items c.in-Some.list_index c.index_mut.result.now (slot_at [] 0) here.0 in
    on_ok_weaker c.count.result
    (λ counted. λ rows. λ is.
    row-set c.self.inside.slots.items c.count.new.self c.in-Some.list_index c.self.inside.slot_indices.entries rows (row_of c.args.row) c.self.invariant found
    (λ ps. λ sum. counted ps (ap (λ (s : Slot). s.running) was ∙ sum)) (c.self.view_is ∙ is))
    c.count.ensures.counted

pub returns-in-Some-clause-timely : goal.returns-in-Some-clause-timely
returns-in-Some-clause-timely c =
    timely-in c.self.inside.slots.items (set c.self.inside.slots.items c.in-Some.list_index c.count.new.self) c.self.inside.slot_indices.entries (subst AreTimely (sym c.self.view_is) c.requires.timely)

pub invariant_of-self-in-None : goal.invariant_of-self-in-None
invariant_of-self-in-None c =
    let none = sym c.slot_index_of.ensures ∙ c.in-None.is in
    let time = c.in_ok-slot-in-None.ensures.time in
    rw (c.in_ok-self-inside-in-None.ensures.slot_indices, c.in_ok-self-inside-in-None.ensures.slots)
    (placed-inserted c.self.inside.slots.items c.in_ok-slot-in-None.slot c.self.inside.slot_indices.entries c.self.invariant (rw time none))

pub returns-in_ok-self-inside-in-None-clause-added : goal.returns-in_ok-self-inside-in-None-clause-added
returns-in_ok-self-inside-in-None-clause-added c = λ rows. λ is.
    let none = sym c.slot_index_of.ensures ∙ c.in-None.is in
    rw (c.in_ok-self-inside-in-None.ensures.slot_indices, c.in_ok-self-inside-in-None.ensures.slots)
    (row-inserted c.self.inside.slots.items c.in_ok-slot-in-None.slot c.self.inside.slot_indices.entries rows (row_of c.args.row) c.self.invariant none
    c.in_ok-slot-in-None.ensures.time c.in_ok-slot-in-None.ensures.counted (c.self.view_is ∙ is))

pub returns-in_ok-self-inside-in-None-clause-timely : goal.returns-in_ok-self-inside-in-None-clause-timely
returns-in_ok-self-inside-in-None-clause-timely c =
    let time = c.in_ok-slot-in-None.ensures.time in
    rw (c.in_ok-self-inside-in-None.ensures.slot_indices, time)
    (timely-inserted c.self.inside.slots.items c.add_slot.new.slots.items c.args.row.time (length c.self.inside.slots.items) c.self.inside.slot_indices.entries (subst AreTimely (sym c.self.view_is) c.requires.timely) c.args.row.time_fits)
