use Rattle.std.proofs.Common.{map, sym, arith}
use Rattle.std.proofs.lemmas.List.{length-map}
use Rattle.std.specs.String.{string_bytes}
use Rattle.ts_words.proofs.Words.{too_many}
use Rattle.ts_words.proofs.mode.Mode.read.Goals as goal

pub returns-in_default-2-clause-mode : goal.returns-in_default-2-clause-mode
returns-in_default-2-clause-mode c =
    sym (too_many (map string_bytes c.args.words.now) (omega (arith, c.in_default.len_at_least, length-map c.args.words.now string_bytes)))
