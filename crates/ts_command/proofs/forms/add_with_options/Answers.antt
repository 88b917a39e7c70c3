use Rattle.ts_labels.specs.Spec.{spec_of}
use Rattle.ts_command.specs.Given.{given_of}
use Rattle.ts_command.proofs.AddLemmas.{add-read}
use Rattle.ts_command.proofs.forms.add_with_options.Goals as goal

pub returns-clause-command : goal.returns-clause-command
returns-clause-command c =
    rw (← c.as_slice.ensures.value)
    (add-read c.as_slice.result.now c.swap_remove.result c.time-item.result c.value-item.result c.in_ok-at.at c.in_ok-value.value
    (given_of c.in_ok-given.given) (spec_of c.spec.result)
    c.in-len4-up.len_at_least (rw (← c.as_slice.ensures.value) at c.swap_remove.ensures.value) c.time-item.is c.value-item.is
    (rw c.bytes.ensures at c.in_ok-at.ensures.answer) (rw c.bytes-2.ensures at c.in_ok-value.ensures.answer)
    c.in_ok-given.ensures c.spec.ensures)
