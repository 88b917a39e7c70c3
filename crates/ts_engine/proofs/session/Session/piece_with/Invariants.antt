use Rattle.ts_engine.proofs.session.Session.piece_with.Given as goal

abbrev pub ghosts-answer_piece : goal.ghosts-answer_piece
ghosts-answer_piece g a = record { name = a.blank.name; parts = a.blank.parts }
