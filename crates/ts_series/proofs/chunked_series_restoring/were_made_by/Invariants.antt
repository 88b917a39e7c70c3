use Rattle.ts_series.proofs.chunked_series_restoring.were_made_by.Given as goal

abbrev pub ghosts-greatest_made : goal.ghosts-greatest_made
ghosts-greatest_made g a = record { name = a.blank.name; parts = a.blank.parts }
