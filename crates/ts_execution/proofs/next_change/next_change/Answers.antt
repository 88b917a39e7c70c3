use Rattle.std.proofs.Common.{◌<◌, ◌∙◌, refl, ap}
use Rattle.ts_execution.specs.Stages.{load_at}
use Rattle.ts_execution.proofs.Carried.{carries_none, carries_as}
use Rattle.ts_execution.proofs.Staged.{finds-by, broken-at, onward-by}
use Rattle.ts_execution.proofs.next_change.next_change.Goals as goal

pub returns-in-Request-clause-finds : goal.returns-in-Request-clause-finds
returns-in-Request-clause-finds g c =
    carries_as _ _ _ _
    (finds-by c.in-Request.words.items c.args.stage.now c.take_request.new.stage c.args.reader.now c.next.new.self c.args.end c.begin.result c.begin.ensures c.in-Request.ensures.request c.take_request.result)
    c.take_request.ensures.takes

pub returns-in-Request-clause-onward : goal.returns-in-Request-clause-onward
returns-in-Request-clause-onward g c = onward-by c.take_request.result (c.args.reader.now.begin < c.next.new.self.begin) c.in-Request.ensures.progress

pub returns-in-Request-clause-all : goal.returns-in-Request-clause-all
returns-in-Request-clause-all g c = λ none. absurd (c.take_request.ensures.some none)

pub returns-in-NotYet-clause-finds : goal.returns-in-NotYet-clause-finds
returns-in-NotYet-clause-finds g c = carries_none _ _ (λ from stands. (refl, refl, c.in-NotYet.ensures.same))

pub returns-in-NotYet-clause-all : goal.returns-in-NotYet-clause-all
returns-in-NotYet-clause-all g c = λ _. record { rest = c.in-NotYet.ensures.not_yet; begun = c.in-NotYet.ensures.begin }

pub returns-in-Memory-clause-finds : goal.returns-in-Memory-clause-finds
returns-in-Memory-clause-finds g c = carries_none _ _ (λ from stands. tt)

pub returns-in-Broken-clause-finds : goal.returns-in-Broken-clause-finds
returns-in-Broken-clause-finds g c = carries_none _ _
    (λ from stands. (
      refl,
      λ size more. ap (load_at c.args.stage.now from.limits from.state c.args.end size) (c.in-Broken.ensures.broken more)
          ∙ broken-at c.args.stage.now from.limits from.state c.args.end size c.in-Broken.fault.kind c.in-Broken.fault.place,
    ))
