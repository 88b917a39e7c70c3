use Rattle.std.proofs.Common.{◌+◌, refl, sym, ◌∙◌}
use Rattle.std.specs.Prelude.{None, Some}
use Rattle.ts_engine.specs.declared.replying.Go.TheVariants as go
use Rattle.ts_engine.proofs.Carrying.{replies_each}
use Rattle.ts_engine.proofs.session.Session.answer.Goals as goal

pub returns-in-Ok-clause-replied : goal.returns-in-Ok-clause-replied
returns-in-Ok-clause-replied g c =
    rw c.give_back.ensures
    (replies_each g.T.Handler.kind (Some go.Quit) c.args.words.items c.args.self.now.reader c.args.self.now.executed (c.args.self.now.executed + 1)
    (λ held. g.T.Handler.world c.args.handler.now held (g.C.Clock.readings c.args.clock.now)) (λ held. g.T.Handler.world c.answer-answered.new.self held (g.C.Clock.readings c.answer-answered.new.clock))
    c.args.db.now c.answer-answered.new.db (g.K.Sink.has c.args.out.now) (g.K.Sink.has c.answer-answered.new.out) c.answer-answered.new.room.bytes
    c.in-Ok.ensures.answered (sym c.in-Ok.ensures.quits ∙ c.if-quits.true) refl)

pub returns-in-Ok-2-clause-replied : goal.returns-in-Ok-2-clause-replied
returns-in-Ok-2-clause-replied g c =
    rw c.give_back.ensures
    (replies_each g.T.Handler.kind None c.args.words.items c.args.self.now.reader c.args.self.now.executed (c.args.self.now.executed + 1)
    (λ held. g.T.Handler.world c.args.handler.now held (g.C.Clock.readings c.args.clock.now)) (λ held. g.T.Handler.world c.answer-answered.new.self held (g.C.Clock.readings c.answer-answered.new.clock))
    c.args.db.now c.answer-answered.new.db (g.K.Sink.has c.args.out.now) (g.K.Sink.has c.answer-answered.new.out) c.answer-answered.new.room.bytes
    c.in-Ok.ensures.answered (sym c.in-Ok.ensures.quits ∙ c.if-quits.false) refl)

pub returns-in-Err-clause-replied : goal.returns-in-Err-clause-replied
returns-in-Err-clause-replied g c =
    rw c.give_back.ensures
    (replies_each g.T.Handler.kind (Some go.WriteFault) c.args.words.items c.args.self.now.reader c.args.self.now.executed (c.args.self.now.executed + 1)
    (λ held. g.T.Handler.world c.args.handler.now held (g.C.Clock.readings c.args.clock.now)) (λ held. g.T.Handler.world c.answer-answered.new.self held (g.C.Clock.readings c.answer-answered.new.clock))
    c.args.db.now c.answer-answered.new.db (g.K.Sink.has c.args.out.now) (g.K.Sink.has c.answer-answered.new.out) c.answer-answered.new.room.bytes
    c.in-Err.ensures.answered tt refl)
