use Rattle.std.proofs.Common.{◌≡◌, List, sym, ◌∙◌, ap}
use Rattle.std.specs.Prelude.{nat_lt, Option, Ok}
use Rattle.ts_spec.specs.Sample.{Point, at_times, last_of}
use Rattle.ts_spec.specs.Queries.{asked}
use Rattle.ts_db.proofs.Asking.{finds-no-key, finds-there}
use Rattle.ts_db.proofs.Laws.{asked-law}
use Rattle.ts_db.proofs.db.Db.before.Goals as goal

pub returns-in_default-clause-before : goal.returns-in_default-clause-before
returns-in_default-clause-before g c = finds-no-key {T = Option Point} c.args.self.now c.args.key.now (λ held before. before ≡ last_of (at_times (λ u. nat_lt u c.args.t) (asked held.state c.args.latest c.args.key.now))) c.in_default.ensures.there

pub returns-clause-before : goal.returns-clause-before
returns-clause-before g c =
    finds-there c.args.self.now c.args.key.now (λ held before. before ≡ last_of (at_times (λ u. nat_lt u c.args.t) (asked held.state c.args.latest c.args.key.now))) (Ok c.before_of.result) c.in-Some.ensures.there
    (λ held st. c.before_of.ensures.before c.args.key.now (sym c.in-Some.ensures.id) ∙ ap (λ (ps : List Point). last_of (at_times (λ u. nat_lt u c.args.t) ps)) (asked-law c.args.self.now c.args.key.now c.args.latest held st))
