use Rattle.std.proofs.Common.{length}
use Rattle.ts_command.specs.Given.{given_of}
use Rattle.ts_command.specs.Options.{table_of, list_option}
use Rattle.ts_command.proofs.OptionLemmas.{GoesOn}
use Rattle.ts_command.proofs.options.read_options.Given as goal

-- what is given so far goes on to what all options say, and if words from here on may make a list, all may
abbrev pub invariant-loop-name : goal.invariant-loop-name
invariant-loop-name l = GoesOn (table_of l.set) (list_option l.set) (given_of l.initial.given) (given_of l.given) l.rest l.words

abbrev pub decreases-loop-name : goal.decreases-loop-name
decreases-loop-name l = length l.rest
