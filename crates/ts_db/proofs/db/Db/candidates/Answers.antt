use Rattle.std.proofs.Common.{refl, arith}
use Rattle.ts_db.specs.Store.{db_view_of}
use Rattle.ts_db.proofs.Choosing.{IsTold, is-told, fewest-same}
use Rattle.ts_db.proofs.Lent.{candidates-live, candidates-cover}
use Rattle.ts_db.proofs.db.Db.candidates.Goals as goal
use Rattle.ts_db.proofs.db.Db.candidates.Goals.{After-index}

-- what the index tells
is : (c : After-index) → IsTold c.self.inside.store.nodes c.self.inside.store.keys.entries c.index.result.now
is c = is-told c.self.inside.store c.self.invariant.store c.index.result.now c.index.ensures.indexed c.index.ensures.order c.index.ensures.sorted c.index.ensures.found

pub returns-clause-live : goal.returns-clause-live
returns-clause-live c = rw (← c.self.view_is)
    (let s = c.self.inside.store in
    candidates-live s.nodes s.keys.entries c.index.result.now (is (goal.at.returns-clause-live c).After-index) (db_view_of s) refl refl c.args.filters.now c.candidates.result c.candidates.ensures.live c.candidates.ensures.once
    c.candidates.ensures.covers)

pub returns-clause-covers : goal.returns-clause-covers
returns-clause-covers c = rw (← c.self.view_is)
    (let s = c.self.inside.store in
    candidates-cover s.nodes s.keys.entries c.index.result.now (is (goal.at.returns-clause-covers c).After-index) (db_view_of s) refl refl c.args.filters.now c.candidates.result c.candidates.ensures.live c.candidates.ensures.once
    c.candidates.ensures.covers)

pub returns-clause-few : goal.returns-clause-few
returns-clause-few c = rw (← c.self.view_is)
    (let s = c.self.inside.store in
    let same = fewest-same s.nodes s.keys.entries c.index.result.now (is (goal.at.returns-clause-few c).After-index) (db_view_of s) refl c.args.filters.now in
    omega (arith, same, c.candidates.ensures.few))
