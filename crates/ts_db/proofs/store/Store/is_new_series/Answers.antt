use Rattle.std.proofs.Common.{◌≤◌, length, arith}
use Rattle.std.proofs.lemmas.Bool.Decides.{nat_tests}
use Rattle.ts_series.specs.History.{list_of}
use Rattle.ts_db.specs.Store.{db_view_of}
use Rattle.ts_db.proofs.NewSeries.{new-series}
use Rattle.ts_db.proofs.store.Store.is_new_series.Goals as goal

pub returns-then-born-self-clause-new : goal.returns-then-born-self-clause-new
returns-then-born-self-clause-new g c =
    let s = c.args.self.now in
    let h = c.args.series.now in (
      (λ t.
          let born : h.born ≤ s.limits.born = omega (arith, c.born.ensures, c.if-born-self.true) in
          let samples : length (list_of h) ≤ s.limits.samples = grind (arith, nat_tests, c.len.ensures.len) in
          new-series s.limits (db_view_of s).keys c.args.key.now c.args.labels.now h c.requires.kept c.if-has.ensures c.if-is_full.ensures c.if-are_too_many.ensures born samples),
      (λ x. let samples : length (list_of h) ≤ s.limits.samples = x.series.samples in grind (arith, nat_tests, c.len.ensures.len)),
    )
