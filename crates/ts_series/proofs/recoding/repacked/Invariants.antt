use Rattle.ts_series.proofs.recoding.repacked.Given as goal

abbrev pub ghosts-recoded : goal.ghosts-recoded
ghosts-recoded a = record { name = a.blank.name; parts = a.blank.parts }
