use Rattle.std.proofs.Common.{◌<◌, refl, sym, ◌∙◌, ap, subst}
use Rattle.ts_resp.specs.Reading.{Reading, stream_of}
use Rattle.ts_execution.proofs.Carried.{carries_none, carries_as}
use Rattle.ts_engine.proofs.Sessions.{answered_next, refused_next, fed_only, not_fed}
use Rattle.ts_engine.proofs.session.Session.answer_next.Goals as goal

pub returns-in-Request-clause-goes : goal.returns-in-Request-clause-goes
returns-in-Request-clause-goes g c =
    carries_as _ _ _ _ (λ from to replied. answered_next c.answer.result c.in-Request.words.items _ _ c.next.new.self _ _ c.in-Request.ensures.request c.in-Request.ensures.progress replied)
    c.answer.ensures.replied

pub returns-in-Request-clause-onward : goal.returns-in-Request-clause-onward
returns-in-Request-clause-onward g c = λ is. subst (λ (r : Reading). c.args.self.now.reader.begin < r.begin) (sym c.answer.ensures.reader) c.in-Request.ensures.progress

pub returns-in-Request-clause-current : goal.returns-in-Request-clause-current
returns-in-Request-clause-current g c = λ is. absurd (c.answer.ensures.ends is)

pub returns-in-NotYet-clause-goes : goal.returns-in-NotYet-clause-goes
returns-in-NotYet-clause-goes g c = carries_none _ _ (λ from stands. (fed_only _ _ _ _ c.in-NotYet.ensures.same refl refl, record { rest = c.in-NotYet.ensures.not_yet }))

pub returns-in-Memory-clause-goes : goal.returns-in-Memory-clause-goes
returns-in-Memory-clause-goes g c = carries_none _ _ (λ from stands. not_fed _ _ _ _ refl refl)

pub returns-in-Broken-clause-goes : goal.returns-in-Broken-clause-goes
returns-in-Broken-clause-goes g c = carries_none _ _ (λ from stands. refused_next c.reply_fault.result c.in-Broken.fault _ _ _ _
    (λ more. ap (λ (r : Reading). stream_of r more) c.reply_fault.ensures.reader ∙ c.in-Broken.ensures.same more) c.in-Broken.ensures.broken c.reply_fault.ensures.executed refl c.reply_fault.ensures.refused)
