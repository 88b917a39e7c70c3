use Rattle.std.proofs.Common.{◌≡◌, sym, None, Some}
use Rattle.ts_checkpoint.specs.Loading.{parts_said}
use Rattle.ts_checkpoint.specs.PartOf.{part_of}
use Rattle.ts_execution.proofs.Carried.{carries_none, carries_as}
use Rattle.ts_execution.proofs.Staged.{enters-first, first-change}
use Rattle.ts_execution.proofs.next_change.take_first.Goals as goal

pub returns-in-Ok-Some-clause-takes : goal.returns-in-Ok-Some-clause-takes
returns-in-Ok-Some-clause-takes g c =
    let said : parts_said (part_of c.args.words.items) ≡ Some c.in-Ok-Some.left = sym (rw c.in-Ok-Some.field-0-is at c.in-Ok-Some.ensures) in
    carries_none _ _ (λ from stands. enters-first c.args.words.items c.in-Ok-Some.left c.args.after said c.enter.result c.enter.new.self c.enter.ensures.enters from)

pub returns-in-Ok-None-clause-takes : goal.returns-in-Ok-None-clause-takes
returns-in-Ok-None-clause-takes g c =
    let said : parts_said (part_of c.args.words.items) ≡ None = sym (rw c.in-Ok-None.field-0-is at c.in-Ok-None.ensures) in
    carries_as _ _ _ _ (λ from to is. first-change c.args.words.items c.args.after said c.take_change.result from to (is 0)) c.take_change.ensures.takes
