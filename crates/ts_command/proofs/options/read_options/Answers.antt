use Rattle.ts_command.specs.Given.{given_of}
use Rattle.ts_command.specs.Options.{setting_of, table_of, list_option}
use Rattle.ts_command.proofs.OptionLemmas.{goes-on}
use Rattle.ts_command.proofs.options.read_options.Goals as goal

pub loop-name-preserved : goal.loop-name-preserved
loop-name-preserved c =
    let own = c.split_arguments.result.0.now in
    let rest = c.split_arguments.result.1.now in
    goes-on (table_of c.args.set) (list_option c.args.set) (given_of c.args.given.now) (given_of c.loop-name.given) (given_of c.add_own.new.given)
    (setting_of c.in_ok-option.option) c.in-Some.name.now c.in-Some.after.now own rest c.args.words.now
    (rw c.in-Some.ensures.cases.0 at c.loop-name.invariant)
    (rw c.bytes.ensures at c.in_ok-option.ensures.option)
    (rw c.size.ensures at c.split_arguments.ensures.own)
    (rw c.size.ensures at c.split_arguments.ensures.rest)
    c.in_ok-add_own.ensures
