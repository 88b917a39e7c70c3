use Rattle.std.proofs.Common.{◌≡◌, sym, ◌∙◌, ap}
use Rattle.std.specs.Prelude.{Option, Ok}
use Rattle.ts_spec.specs.Sample.{Point, last_of}
use Rattle.ts_spec.specs.Queries.{asked}
use Rattle.ts_db.proofs.Asking.{finds-no-key, finds-there}
use Rattle.ts_db.proofs.Laws.{asked-law}
use Rattle.ts_db.proofs.db.Db.last.Goals as goal

pub returns-in_default-clause-last : goal.returns-in_default-clause-last
returns-in_default-clause-last g c = finds-no-key {T = Option Point} c.args.self.now c.args.key.now (λ held last. last ≡ last_of (asked held.state c.args.latest c.args.key.now)) c.in_default.ensures.there

pub returns-clause-last : goal.returns-clause-last
returns-clause-last g c =
    finds-there c.args.self.now c.args.key.now (λ held last. last ≡ last_of (asked held.state c.args.latest c.args.key.now)) (Ok c.last_of.result) c.in-Some.ensures.there
    (λ held st. c.last_of.ensures.last c.args.key.now (sym c.in-Some.ensures.id) ∙ ap last_of (asked-law c.args.self.now c.args.key.now c.args.latest held st))
