use Rattle.ts_labels.specs.Spec.{spec_of}
use Rattle.ts_command.specs.Forms.{signed_by}
use Rattle.ts_command.specs.Given.{given_of}
use Rattle.ts_command.proofs.AddLemmas.{incr-read}
use Rattle.ts_command.proofs.forms.incr_with_options.Goals as goal

pub returns-clause-command : goal.returns-clause-command
returns-clause-command c =
    rw (← c.as_slice.ensures.value)
    (incr-read (signed_by c.args.sign) c.as_slice.result.now c.swap_remove.result c.value-item.result c.in_ok-value.value c.of.result
    (given_of c.in_ok-given.given) c.unwrap_or.result (spec_of c.spec.result)
    c.in-len3-up.len_at_least (rw (← c.as_slice.ensures.value) at c.swap_remove.ensures.value) c.value-item.is
    (rw c.bytes.ensures at c.in_ok-value.ensures.answer) c.in_ok-given.ensures c.of.ensures c.unwrap_or.ensures c.spec.ensures)
