-- The samples that a cursor has yet to read, for either encoding.
use Rattle.std.specs.Prelude.{List}
use Rattle.ts_spec.specs.Sample.{Point}
use Rattle.ts_series.specs.declared.cursor.CursorByEncoding.{CursorByEncoding}
use Rattle.ts_series.specs.declared.cursor.CursorByEncoding.TheVariants.{Plain, Packed}

-- the remaining samples
abbrev pub left_in : CursorByEncoding → List Point
left_in (Plain ps) = ps
left_in (Packed ps) = ps
