use Rattle.test_chunks.proofs.main.Given as goal

abbrev pub ghosts-answers : goal.ghosts-answers
ghosts-answers a = record { name = a.blank.name; parts = a.blank.parts }
