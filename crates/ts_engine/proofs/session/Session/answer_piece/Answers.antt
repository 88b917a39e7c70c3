use Rattle.std.proofs.Common.{refl}
use Rattle.ts_execution.proofs.Carried.{carries_none, carries_as}
use Rattle.ts_engine.proofs.Sessions.{piece_answers, not_fed}
use Rattle.ts_engine.proofs.session.Session.answer_piece.Goals as goal

pub returns-in-Ok-clause-goes : goal.returns-in-Ok-clause-goes
returns-in-Ok-clause-goes g c = carries_as _ _ _ _ (λ from to goes. piece_answers c.answer_all.result _ _ _ _ _ _ c.in-Ok.ensures.ok refl refl goes) c.answer_all.ensures.goes

pub returns-clause-goes : goal.returns-clause-goes
returns-clause-goes g c = carries_none _ _ (λ from stands. not_fed _ _ _ _ refl refl)
