use Rattle.std.proofs.Common.{drop}
use Rattle.std.specs.Prelude.{IsTrue}
use Rattle.ts_range.specs.Query.{query_of}
use Rattle.ts_command.specs.Given.{given_of}
use Rattle.ts_spec.specs.Grammar.{range}
use Rattle.ts_spec.specs.Ranges.{has_list}
use Rattle.ts_command.specs.Faults.{fault_of_word}
use Rattle.ts_command.specs.Reading.{command_of}
use Rattle.ts_command.specs.declared.fault.WordFault.{WordFault}
use Rattle.ts_command.proofs.AnswerLemmas.{word-fault-says}
use Rattle.ts_command.proofs.RangeLemmas.{range-read, range-refused}
use Rattle.ts_command.proofs.queries.read_range.Goals as goal

pub returns-clause-command : goal.returns-clause-command
returns-clause-command c =
    rw (← c.as_slice.ensures.value)
    (range-read c.args.reverse c.as_slice.result.now c.swap_remove.result c.from-item.result c.to-item.result c.in_ok-first.first c.in_ok-last.last
    (given_of c.in_ok-given.given) (query_of c.in_ok-query.query)
    c.in-len4-up.len_at_least (rw (← c.as_slice.ensures.value) at c.swap_remove.ensures.value) c.from-item.is c.to-item.is
    (rw c.bytes.ensures at c.in_ok-first.ensures.answer) (rw c.bytes-2.ensures at c.in_ok-last.ensures.answer)
    c.in_ok-given.ensures (rw (c.bytes-3.ensures, c.bytes-4.ensures) at c.in_ok-query.ensures))

-- what is asked can't be met
pub returns-in_err-query-clause-command : goal.returns-in_err-query-clause-command
returns-in_err-query-clause-command c =
    let fault : WordFault = c.in_err-query.field-0.0 in
    word-fault-says (IsTrue (has_list (drop 3 (drop 1 c.args.words.items)))) command_of c.from_residual-in_err-query.result fault (range c.args.reverse (drop 1 c.args.words.items))
    c.from_residual-in_err-query.ensures.1
    (rw (← c.as_slice.ensures.value)
    (range-refused c.args.reverse c.as_slice.result.now c.from-item.result c.to-item.result c.in_ok-first.first c.in_ok-last.last (given_of c.in_ok-given.given) (fault_of_word fault)
    c.in-len4-up.len_at_least c.from-item.is c.to-item.is (rw c.bytes.ensures at c.in_ok-first.ensures.answer) (rw c.bytes-2.ensures at c.in_ok-last.ensures.answer)
    c.in_ok-given.ensures (rw (c.bytes-3.ensures, c.bytes-4.ensures) at c.in_err-query.ensures)))
