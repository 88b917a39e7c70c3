-- The limits of the database.
use Rattle.std.specs.Prelude.{◌-◌, ◌^◌}
use Rattle.ts_spec.specs.declared.limits.Limits.{Limits}

-- the limits that the program runs with
abbrev pub usual : Limits
usual = record {
  wire = record { words = 2 ^ 20; word_bytes = 2 ^ 20; request_bytes = 2 ^ 24; line_bytes = 2 ^ 16 };
  keys = 2 ^ 16;
  labels = 64;
  rules = 16;
  samples = 2 ^ 24;
  empty_rows = 1000000;
  born = 2 ^ 32 - 1;
}
