use Rattle.std.proofs.Common.{[], sym}
use Rattle.std.proofs.lemmas.Result.{on_ok_weaker}
use Rattle.ts_group.specs.Grouped.{labelled_of}
use Rattle.ts_group.proofs.Gathered.{groups-inserted, groups-added}
use Rattle.ts_group.proofs.group_replies.add_to.Goals as goal

pub returns-in_ok-insert-in-None : goal.returns-in_ok-insert-in-None
returns-in_ok-insert-in-None c = λ label. λ ms. λ has. λ is.
    groups-inserted label c.args.value.now c.args.groups.now.entries c.insert.new.self.entries c.add-in-None.new.self ms (labelled_of c.args.member.now) has is (sym c.in-None.ensures.value)
    (c.in_ok-add-in-None.ensures [] c.new-group.ensures)
    (rw (c.get_mut.follows.holds-at-none, c.in_ok-copy-in-None.ensures.bytes) at c.in_ok-insert-in-None.ensures.entries)

pub returns-in-Some : goal.returns-in-Some
returns-in-Some c =
    on_ok_weaker c.add.result
    (λ h. λ label. λ ms. λ has. λ is. groups-added label c.args.value.now c.args.groups.now.entries (c.get_mut.follows.lender c.add.new.self).entries c.in-Some.group.now c.add.new.self
    ms (labelled_of c.args.member.now) has is (sym c.in-Some.ensures.value) h (c.get_mut.follows.holds c.add.new.self).0)
    c.add.ensures
