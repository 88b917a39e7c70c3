use Rattle.std.proofs.Common.{◌-◌, refl, arith}
use Rattle.ts_series.proofs.InPlace.{more-places}
use Rattle.ts_series.proofs.ring.resize_gap.Goals as goal

pub returns-then-places-wanted-clause-left : goal.returns-then-places-wanted-clause-left
returns-then-places-wanted-clause-left g c =
    let all = c.args.items.now in
    let ring = c.args.ring.now in
    more-places c.args.start c.args.end (c.args.end - c.args.start) all.items c.insert_before.new.items.items ring.items c.insert_before.new.ring.items
    c.requires.ordered c.requires.within refl (omega (arith, all.ok.0, c.len-wanted.ensures, c.if-places-wanted.true)) c.insert_before.ensures.items c.insert_before.ensures.ring
