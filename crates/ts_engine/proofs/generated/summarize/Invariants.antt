use Rattle.ts_engine.proofs.generated.summarize.Given as goal

-- the steps are counted in this call's own ledger
abbrev pub ghosts-count_samples : goal.ghosts-count_samples
ghosts-count_samples a = record { name = a.blank.name; parts = a.blank.parts }
