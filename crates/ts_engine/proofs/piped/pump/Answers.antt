use Rattle.std.proofs.Common.{◌≡◌, take, sym, arith}
use Rattle.std.proofs.lemmas.Bool.Decides.{nat_tests}
use Rattle.ts_execution.proofs.Carried.{carries_none, carries_as}
use Rattle.ts_engine.specs.SessionView.{ended_of}
use Rattle.ts_engine.proofs.Carrying.{if_none}
use Rattle.ts_engine.proofs.Pipes.{pumped_end, pumped_piece, pumped_fault, goes_by}
use Rattle.ts_engine.proofs.piped.pump.Goals as goal

pub returns-in-Ok-eq0-clause-pumped : goal.returns-in-Ok-eq0-clause-pumped
returns-in-Ok-eq0-clause-pumped g c =
    let none : c.in-Ok-eq0.field-0 ≡ 0 = grind (arith, nat_tests, c.in-Ok-eq0.field-0-is, c.in-Ok-eq0.field-0-test) in
    carries_none _ _ (λ from stands.
    pumped_end _ (g.S.Source.left c.args.input.now) (g.S.Source.left c.read.new.self) _ c.end_of_input.result c.end_of_input.ensures (record { rest = c.requires.current })
    c.in-Ok-eq0.field-0 c.read.new.buf none c.in-Ok-eq0.ensures.bytes.0 (c.in-Ok-eq0.ensures.bytes.1 none (omega (arith, c.requires.room))))

pub returns-in-Ok-clause-pumped : goal.returns-in-Ok-clause-pumped
returns-in-Ok-clause-pumped g c =
    carries_as _ _ _ _ (λ from to goes. pumped_piece c.piece_with-go.result _ _ _ _ _ _ _ _ (take c.in-Ok.count c.read.new.buf) c.end_of_piece.ensures (sym c.in-Ok.ensures.bound.1) c.in-Ok.ensures.bytes.0 goes)
    (if_none (ended_of c.args.session.now) c.requires.ended c.piece_with-go.ensures.goes)

pub returns-in-Ok-clause-current : goal.returns-in-Ok-clause-current
returns-in-Ok-clause-current g c = λ none. if_none (ended_of c.args.session.now) c.requires.ended c.piece_with-go.ensures.current (goes_by c.piece_with-go.result c.end_of_piece.result c.end_of_piece.ensures none)

pub returns-in-Err-clause-pumped : goal.returns-in-Err-clause-pumped
returns-in-Err-clause-pumped g c = carries_none _ _ (λ from stands. pumped_fault _ _ _ _ c.in-Err.ensures.bytes (record { rest = c.requires.current }))
