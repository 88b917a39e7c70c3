use Rattle.test_commands.proofs.direct.is_executed.Given as goal

abbrev pub ghosts-replies : goal.ghosts-replies
ghosts-replies a = record { name = a.blank.name; parts = a.blank.parts }
