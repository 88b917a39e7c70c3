use Rattle.std.proofs.Common.{List, sym, subst}
use Rattle.ts_spec.specs.Sample.{Point}
use Rattle.ts_range.specs.LastValues.{values_of, IsLasting}
use Rattle.ts_range.proofs.last_values.LastValuesVisit.sample.Goals as goal

pub invariant_of-self : goal.invariant_of-self
invariant_of-self g c =
    subst (λ (ps : List Point). IsLasting (g.T.RowSink.has c.accept_sample.new.row_sink) (values_of c.self.inside.filters.now c.self.inside.filling ps) c.accept_sample.new.current) (sym c.with-self-inside.ensures)
    (c.accept_sample.ensures c.self.inside.seen.points c.self.invariant)
