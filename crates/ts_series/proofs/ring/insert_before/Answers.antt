use Rattle.std.proofs.Common.{◌≡◌, ◌++◌, length, take, drop, ap, arith, length-append}
use Rattle.ts_series.proofs.InPlace.{parted, put-back}
use Rattle.ts_series.proofs.ring.insert_before.Goals as goal
use Rattle.ts_series.proofs.ring.insert_before.Goals.{After-loop-items}

-- what is left of the items, and what the ring has
divided : (g : _) (c : After-loop-items g)
    → (c.loop-items.items.items ≡ take c.args.left c.args.items.now.items) × (c.loop-items.ring.items ≡ drop c.args.left c.args.items.now.items ++ c.rotate_left.new.self.items)
divided g c =
    let items = c.loop-items.items in
    parted c.args.left items.items c.loop-items.ring.items c.args.items.now.items c.rotate_left.new.self.items c.loop-items.invariant.items
    (omega (arith, items.ok.0, c.loop-items.invariant.enough, c.len.ensures, c.loop-items-test.false)) c.requires.enough

pub rotate_right-requires : goal.rotate_right-requires
rotate_right-requires g c =
    omega (
      arith,
      c.requires.within,
      c.requires.enough,
      c.loop-items.ring.ok.0,
      c.loop-items.items.ok.0,
      c.loop-items-test.false,
      c.len.ensures,
      ap length c.loop-items.invariant.items,
      length-append c.loop-items.items.items c.loop-items.ring.items,
      length-append c.args.items.now.items c.rotate_left.new.self.items,
      c.rotate_left.ensures.len,
      c.rotate_left.new.self.ok.0,
      c.args.ring.now.ok.0,
    )

pub returns-clause-ring : goal.returns-clause-ring
returns-clause-ring g c =
    let ring = c.loop-items.ring in
    put-back c.args.place ring.len (drop c.args.left c.args.items.now.items) c.args.ring.now.items c.rotate_left.new.self.items ring.items c.rotate_right.new.self.items c.requires.within
    c.rotate_left.ensures.items (divided g (goal.at.returns-clause-ring g c).After-loop-items).1 ring.ok.0 c.rotate_right.ensures.items

pub returns-clause-items : goal.returns-clause-items
returns-clause-items g c = (divided g (goal.at.returns-clause-items g c).After-loop-items).0
