use Rattle.std.proofs.Common.{◌≡◌, ◌+◌, ◌<◌, ◌^◌, length, sym, ◌∙◌, ap, subst, arith, rules}
use Rattle.std.specs.Prelude.{sum_by}
use Rattle.ts_spec.specs.Keyed.{Entry}
use Rattle.ts_spec.specs.StoredSeries.{StoredSeries}
use Rattle.ts_series.specs.History.{list_of}
use Rattle.ts_db.specs.DbState.{reach_at}
use Rattle.ts_db.specs.Bounds.{reach_of_all}
use Rattle.ts_db.specs.Store.{db_view_of}
use Rattle.ts_db.specs.Totals.{samples_in}
use Rattle.ts_db.proofs.Laws.{total-law}
use Rattle.ts_db.proofs.Selecting.{HaveNodes, listing, listing-entries, all-there}
use Rattle.ts_db.proofs.Totals.{reaches, reaches-listing, total-next, total-fits}
use Rattle.ts_db.proofs.db.Db.total.Goals as goal

pub loop-key-init : goal.loop-key-init
loop-key-init g c =
    let all : c.into_iter-key-iterator.result ≡ c.self.inside.store.keys.entries = c.into_iter-key-iterator.ensures.into_iter_gives ∙ c.iter-key-items.ensures.rest in
    let given : samples_in (listing c.self.inside.store.nodes c.into_iter-key-iterator.result) ≡ samples_in (listing c.self.inside.store.nodes c.self.inside.store.keys.entries) =
    ap (λ l. samples_in (listing c.self.inside.store.nodes l)) all in
    let reached : reaches c.self.inside.store.nodes c.into_iter-key-iterator.result ≡ reaches c.self.inside.store.nodes c.self.inside.store.keys.entries = ap (reaches c.self.inside.store.nodes) all in
    record {
      sum = omega (arith, given);
      there = subst (HaveNodes c.self.inside.store.nodes) (sym all)
          (all-there c.self.inside.store.nodes c.self.inside.store.keys.entries c.self.inside.store.keys.entries c.self.invariant.store.stored c.iter-key-items.ensures.found);
      counted = omega arith;
      steps = omega (arith, reached);
    }

pub overflow_add-total : goal.overflow_add-total
overflow_add-total g c =
    let nodes = c.self.inside.store.nodes in
    let es = c.self.inside.store.keys.entries in
    let keys : c.self.inside.store.limits.keys < 2 ^ 32 = search rules in
    let samples : c.self.inside.store.limits.samples < 2 ^ 32 = search rules in
    let all : samples_in (listing nodes es) < 2 ^ 64 =
    total-fits c.self.inside.store.limits nodes es c.self.invariant.store.each (all-there nodes es es c.self.invariant.store.stored c.iter-key-items.ensures.found) c.self.invariant.store.few keys samples in
    let one : samples_in (listing nodes c.loop-key._key-iterator) ≡ length (list_of c.node.result.now.series) + samples_in (listing nodes c.next.new.self) =
    total-next nodes c.in-Some._key.now c.in-Some.id.now c.node.result.now c.loop-key._key-iterator c.next.new.self c.in-Some.ensures.steps (c.node.ensures) in
    omega (arith, all, one, c.loop-key.invariant.sum, c.len.ensures.len)

pub returns-clause-each : goal.returns-clause-each
returns-clause-each g c = rw (← c.self.view_is) (λ held st.
    let nodes = c.self.inside.store.nodes in
    let es = c.self.inside.store.keys.entries in
    let none : samples_in (listing nodes c.loop-key._key-iterator) ≡ 0 = ap (λ l. samples_in (listing nodes l)) c.in-None.ensures.steps.0 in
    let count : c.loop-key.total ≡ samples_in (listing nodes es) = omega (arith, c.loop-key.invariant.sum, none) in
    count ∙ sym (ap samples_in (listing-entries nodes es c.iter-key-items.ensures.ordered (all-there nodes es es c.self.invariant.store.stored c.iter-key-items.ensures.found)))
    ∙ total-law (db_view_of c.self.inside.store) held st)

pub returns-clause-steps : goal.returns-clause-steps
returns-clause-steps g c =
    let nodes = c.self.inside.store.nodes in
    let es = c.self.inside.store.keys.entries in
    let there : HaveNodes nodes es = all-there nodes es es c.self.invariant.store.stored c.iter-key-items.ensures.found in
    let all : reach_of_all (db_view_of c.self.inside.store) ≡ reaches nodes es =
    ap (sum_by (λ (e : Entry StoredSeries). reach_at (db_view_of c.self.inside.store) e.key)) (listing-entries nodes es c.iter-key-items.ensures.ordered there) ∙ reaches-listing nodes es es there c.iter-key-items.ensures.found in
    rw (← c.self.view_is) (record { counted = c.loop-key.invariant.counted; bounded = omega (arith, c.loop-key.invariant.steps, all) })
