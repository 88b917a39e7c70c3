use Rattle.test_libraries.proofs.sample.steps_are_counted_without_bytes.Given as goal

abbrev pub ghosts-seven_from_zero : goal.ghosts-seven_from_zero
ghosts-seven_from_zero g a = record { name = a.blank.name; parts = a.blank.parts }
