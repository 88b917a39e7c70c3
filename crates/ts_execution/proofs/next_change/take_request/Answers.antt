use Rattle.std.proofs.Common.{◌≡◌, sym, subst}
use Rattle.ts_execution.specs.Stages.{TakesRequest, BreaksOn}
use Rattle.ts_execution.specs.declared.stage.Stage.{Stage}
use Rattle.ts_execution.specs.declared.stage.Stage.TheVariants as stage
use Rattle.ts_execution.proofs.Carried.{carries_as}
use Rattle.ts_execution.proofs.Staged.{enters-part, part-refused}
use Rattle.ts_execution.proofs.next_change.take_request.Goals as goal

pub returns-in-Changes-clause-takes : goal.returns-in-Changes-clause-takes
returns-in-Changes-clause-takes g c =
    carries_as _ _ _ _
    (λ from to is. subst (λ (s : Stage). TakesRequest c.take_change.result s s c.args.words.items c.args.end c.args.after from to) (sym c.in-Changes.is) (is c.in-Changes.checkpoint))
    c.take_change.ensures.takes

pub returns-in-Start-clause-takes : goal.returns-in-Start-clause-takes
returns-in-Start-clause-takes g c =
    carries_as _ _ _ _
    (λ from to is. subst (λ (s : Stage). TakesRequest c.take_first.result s c.take_first.new.stage c.args.words.items c.args.end c.args.after from to) (sym c.in-Start.is) (is c.args.end))
    c.take_first.ensures.takes

pub returns-in-Taken-clause-takes : goal.returns-in-Taken-clause-takes
returns-in-Taken-clause-takes g c =
    let same : c.args.stage.now ≡ stage.Parts c.in-Parts.more c.take.result = cc in
    carries_as _ _ _ _
    (λ from to is. subst (λ (s : Stage). TakesRequest c.enter.result s c.enter.new.self c.args.words.items c.args.end c.args.after from to) (sym same)
    (enters-part c.args.words.items c.in-Parts.more c.take.result c.in-Taken.current c.args.end c.args.after c.enter.result c.enter.new.self c.enter.ensures.enters from to is))
    c.in-Taken.ensures

pub returns-in-Refused-clause-takes : goal.returns-in-Refused-clause-takes
returns-in-Refused-clause-takes g c =
    let same : c.args.stage.now ≡ stage.Parts c.in-Parts.more c.take.result = cc in
    carries_as _ _ _ _
    (λ from to is. subst (λ (s : Stage). BreaksOn s c.args.words.items c.args.end c.args.after c.args.end from to) (sym same)
    (part-refused c.args.words.items c.in-Parts.more c.take.result c.args.end c.args.after c.args.stage.now from to is))
    c.in-Refused.ensures
