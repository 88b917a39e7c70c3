use Rattle.std.proofs.Common.{ℕ, ◌+◌, ◌≤◌, length, refl, ◌∙◌, arith, length-drop, length-take}
use Rattle.ts_io.proofs.Adding.{adds_none, adds_on, adds_all}
use Rattle.ts_io.proofs.log.append_all_counted.Goals as goal

pub loop-written-init : goal.loop-written-init
loop-written-init g c = record { within = omega arith; fine = refl; place = refl; draft = refl; added = adds_none _ }

pub loop-written-preserved : goal.loop-written-preserved
loop-written-preserved g c =
    let within : c.loop-written.written + c.in_ok-written.field-0 ≤ length c.args.bytes.now = omega (arith, c.in_ok-written.ensures.bound, length-take {A = ℕ}, length-drop {A = ℕ}) in
    record {
      within = within;
      fine = c.in_ok-written.ensures.cause.fine ∙ c.loop-written.invariant.fine;
      place = c.in_ok-written.ensures.place ∙ c.loop-written.invariant.place;
      draft = c.in_ok-written.ensures.draft ∙ c.loop-written.invariant.draft;
      added = adds_on _ _ _ _ _ _ c.loop-written.invariant.added within c.in_ok-written.ensures.bytes;
    }

pub returns-clause-all : goal.returns-clause-all
returns-clause-all g c = adds_all _ _ _ _ c.loop-written-test.false c.loop-written.invariant.added
