use Rattle.std.proofs.Common.{map}
use Rattle.ts_spec.specs.Ranges.{IsAlign}
use Rattle.ts_command.specs.declared.names.TheConstants.{ALIGNS}
use Rattle.ts_command.proofs.TableLemmas.{named-holds}
use Rattle.ts_command.proofs.names.align_named.Goals as goal

pub returns-clause-bound : goal.returns-clause-bound
returns-clause-bound c =
    rw c.named.ensures
    (named-holds IsAlign c.args.word.now (map (λ row. (row.0.now, row.1)) ALIGNS)
    ((λ named t is. absurd (cc is)), ((λ named t is. absurd (cc is)), ((λ named t is. absurd (cc is)), ((λ named t is. absurd (cc is)), tt)))))
