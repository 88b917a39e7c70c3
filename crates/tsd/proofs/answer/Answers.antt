use Rattle.tsd.proofs.answer.Goals as goal

pub returns-clause-journaled : goal.returns-clause-journaled
returns-clause-journaled g c = λ keep journal bytes has told.
    rw c.usual_budget.ensures at (rw c.usual.ensures at (c.top.ensures.journaled keep journal bytes has told))

pub returns-clause-hosted : goal.returns-clause-hosted
returns-clause-hosted g c = λ kept_in is kept journal has.
    rw c.usual_budget.ensures at (rw c.usual.ensures at (c.top.ensures.hosted kept_in is kept journal has))

pub returns-clause-hosted_in_memory : goal.returns-clause-hosted_in_memory
returns-clause-hosted_in_memory g c = λ is.
    rw c.usual_budget.ensures at (rw c.usual.ensures at (c.top.ensures.hosted_in_memory is))
