use Rattle.std.proofs.Common.{◌≡◌, length, map}
use Rattle.ts_spec.specs.Names.{named}
use Rattle.ts_agg.proofs.names.named.Given as goal

-- what is left of the table gives the same
abbrev pub invariant-loop-table : goal.invariant-loop-table
invariant-loop-table g l = named (map (λ row. (row.0.now, row.1)) l.table) l.word ≡ named (map (λ row. (row.0.now, row.1)) l.initial.table) l.word

abbrev pub decreases-loop-table : goal.decreases-loop-table
decreases-loop-table g l = length l.table
