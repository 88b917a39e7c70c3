use Rattle.ts_execution.proofs.journal_piece.read_piece.Given as goal

abbrev pub ghosts-replay_piece : goal.ghosts-replay_piece
ghosts-replay_piece g a = record { name = a.blank.name; parts = a.blank.parts }
