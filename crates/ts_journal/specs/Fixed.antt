-- The commands whose record does not depend on the reply's items.
use Rattle.std.specs.Prelude.{ℕ, Bool, false, List, []}
use Rattle.ts_spec.specs.Command.{Command, Madd}
use Rattle.ts_spec.specs.Encoded.{encoded_words}
use Rattle.ts_spec.specs.Command.{Triple}
use Rattle.ts_spec.specs.Wire.{Request}
use Rattle.ts_journal.specs.Record.{record_words, is_change, triple_words}

-- all changes except TS.MADD
abbrev pub is_fixed : Command → Bool
is_fixed (Madd triples) = false
is_fixed c = is_change c

-- the arguments of such a record
abbrev pub fixed_words : (reading : ℕ) → Command → Request
fixed_words reading (Madd triples) = []
fixed_words reading c = record_words reading c

-- the text of a triple's arguments
abbrev pub triple_text : (reading : ℕ) → Triple → List ℕ
triple_text reading t = encoded_words (triple_words reading t)
