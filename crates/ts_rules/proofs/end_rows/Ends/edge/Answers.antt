use Rattle.std.proofs.Common.{◌++◌, Option, subst}
use Rattle.ts_spec.specs.Sample.{Point, IsAscending}
use Rattle.ts_rules.specs.Rules.{one_of}
use Rattle.ts_rules.proofs.end_rows.Ends.edge.Goals as goal

pub edge_with-requires-in-Some-Some : goal.edge_with-requires-in-Some-Some
edge_with-requires-in-Some-Some c =
    subst (λ (ends : Option Point × Option Point). IsAscending (one_of ends.0 ++ one_of ends.1)) (λ i. (c.in-Some-Some.is-0 i, c.in-Some-Some.is-1 i)) c.requires
