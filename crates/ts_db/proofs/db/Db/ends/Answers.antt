use Rattle.std.proofs.Common.{◌≡◌, ℕ, sym, ◌∙◌, ap}
use Rattle.std.specs.Prelude.{Option, Ok}
use Rattle.ts_spec.specs.Queries.{asked}
use Rattle.ts_db.specs.DbState.{ends_of}
use Rattle.ts_db.proofs.Asking.{finds-no-key, finds-there}
use Rattle.ts_db.proofs.Laws.{asked-law}
use Rattle.ts_db.proofs.db.Db.ends.Goals as goal

pub returns-in_default-clause-ends : goal.returns-in_default-clause-ends
returns-in_default-clause-ends g c = finds-no-key {T = Option (ℕ × ℕ)} c.args.self.now c.args.key.now (λ held ends. ends ≡ ends_of (asked held.state c.args.latest c.args.key.now)) c.in_default.ensures.there

pub returns-clause-ends : goal.returns-clause-ends
returns-clause-ends g c =
    finds-there c.args.self.now c.args.key.now (λ held ends. ends ≡ ends_of (asked held.state c.args.latest c.args.key.now)) (Ok c.ends_of.result) c.in-Some.ensures.there
    (λ held st. c.ends_of.ensures.ends c.args.key.now (sym c.in-Some.ensures.id) ∙ ap ends_of (asked-law c.args.self.now c.args.key.now c.args.latest held st))
