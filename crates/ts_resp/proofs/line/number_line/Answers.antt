use Rattle.ts_resp.specs.Lines.{line_of}
use Rattle.ts_resp.proofs.LineLemmas.{number_line-goes, number_line-returns, number_line-wrong, number_line-open}
use Rattle.ts_resp.proofs.line.number_line.Goals as goal

pub returns-in-Returns-clause-line : goal.returns-in-Returns-clause-line
returns-in-Returns-clause-line c =
    number_line-returns _ _ _ _ _ _ _ c.loop-at-test.true c.in-Returns.ensures c.loop-at.invariant

pub returns-in-Wrong-clause-line : goal.returns-in-Wrong-clause-line
returns-in-Wrong-clause-line c =
    number_line-wrong _ _ _ _ _ _ c.loop-at-test.true c.in-Wrong.ensures c.loop-at.invariant

pub loop-at-preserved : goal.loop-at-preserved
loop-at-preserved c =
    number_line-goes _ _ _ _ _ _ _ c.loop-at-test.true c.in-Goes.ensures c.loop-at.invariant

pub returns-clause-line : goal.returns-clause-line
returns-clause-line c = number_line-open _ _ (line_of c.loop-at.line) c.args.bytes.now _ _ c.loop-at-test.false c.loop-at.invariant
