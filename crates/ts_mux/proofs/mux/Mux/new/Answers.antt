use Rattle.std.proofs.Common.{ap}
use Rattle.ts_mux.specs.ClosedLinks.{is_closed, stream_of_link, fed_to_link}
use Rattle.ts_mux.specs.Links.{stream_or, fed_in}
use Rattle.ts_mux.proofs.Unsent.{ahead_unsent, drained_unsent, within_unsent}
use Rattle.ts_mux.proofs.mux.Mux.new.Goals as goal

pub invariant_of-result-clause-drained : goal.invariant_of-result-clause-drained
invariant_of-result-clause-drained c =
    drained_unsent c.args.limits (stream_of_link c.args.limits c.new.result) (λ at more. ap (λ reader. stream_or c.args.limits reader more) (c.new.ensures.readers at))

pub invariant_of-result-clause-within : goal.invariant_of-result-clause-within
invariant_of-result-clause-within c = within_unsent (fed_to_link c.new.result) (λ at. ap fed_in (c.new.ensures.readers at))

pub returns-clause-order : goal.returns-clause-order
returns-clause-order c = λ frames.
    ahead_unsent c.args.limits (stream_of_link c.args.limits c.new.result) (λ at more. ap (λ reader. stream_or c.args.limits reader more) (c.new.ensures.readers at))
    (is_closed c.new.result) c.new.ensures.open frames
