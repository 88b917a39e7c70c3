use Rattle.std.proofs.Common.{None, sym, ap, ◌∙◌}
use Rattle.std.specs.Ordering.{nat_cmp}
use Rattle.std.specs.Prelude.{is_some}
use Rattle.std.specs.BTreeMap.{get}
use Rattle.std.specs.Option.{unwrap_or}
use Rattle.ts_mux.specs.OwnReaders.{index_in, reader_at}
use Rattle.ts_mux.proofs.ClosedLinks.{none_reached, none_kept}
use Rattle.ts_mux.proofs.OwnReaders.{own_none}
use Rattle.ts_mux.proofs.RecentLemmas.{no_index}
use Rattle.ts_mux.proofs.open_connections.OpenConnections.new.Goals as goal

pub invariant_of-result-clause-below : goal.invariant_of-result-clause-below
invariant_of-result-clause-below c = λ at above. none_kept c.new.result c.new.ensures.empty at

pub invariant_of-result-clause-own : goal.invariant_of-result-clause-own
invariant_of-result-clause-own c =
    own_none (index_in c.new.result) c.new-2.result (λ at. ap (λ o. unwrap_or o None) (none_kept c.new.result c.new.ensures.empty at))

pub returns-clause-open : goal.returns-clause-open
returns-clause-open c = λ link. none_reached link (is_some (get nat_cmp c.new.result link))

pub returns-clause-readers : goal.returns-clause-readers
returns-clause-readers c = λ link. ap (λ o. reader_at c.new-2.result (unwrap_or o None)) (none_kept c.new.result c.new.ensures.empty link)

pub invariant_of-result-clause-recent_indexes : goal.invariant_of-result-clause-recent_indexes
invariant_of-result-clause-recent_indexes c = λ link index e. absurd (no_index index (sym (c.new-3.ensures link) ∙ e))
