use Rattle.test_database.proofs.devices.run.Given as goal

abbrev pub ghosts-run_with_steps : goal.ghosts-run_with_steps
ghosts-run_with_steps a = record { name = a.blank.name; parts = a.blank.parts }
