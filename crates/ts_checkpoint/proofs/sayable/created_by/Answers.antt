use Rattle.std.proofs.Common.{rules, ◌≡◌, Ok, sym, ap, ◌∙◌}
use Rattle.std.proofs.lemmas.Bool.{not-false}
use Rattle.ts_spec.specs.Command.{Spec, Command, Create}
use Rattle.ts_labels.specs.Spec.{spec_of}
use Rattle.ts_command.specs.Reading.{command_of}
use Rattle.ts_checkpoint.proofs.SameOptions.{same_options, same-options}
use Rattle.ts_checkpoint.proofs.sayable.created_by.Goals as goal

pub returns : goal.returns
returns c =
    let found = c.in-Create.found in
    let spec = c.in-Create.spec in
    let wanted : Spec = record { options = c.args.options.now; labels = c.args.labels.now } in
    let key : found ≡ c.args.key.now = search rules in
    let options : spec.options ≡ c.args.options.now = same-options spec.options c.args.options.now (not-false (same_options spec.options c.args.options.now) (sym c.ne-2.ensures ∙ c.if-ne-2.false)) in
    let labels : spec.labels ≡ c.args.labels.now = search rules in
    let same : spec_of spec ≡ wanted = λ i. record { options = options i; labels = labels i } in
    let command : command_of c.args.command ≡ Create c.args.key.now wanted = ap command_of c.in-Create.is ∙ (λ i. Create (key i) (same i)) in
    (ap (λ (k : Command). Ok k) command, key, same)
