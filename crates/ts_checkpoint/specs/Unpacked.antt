-- The samples whose packed form is given.
use Rattle.std.specs.Prelude.{ℕ, zero, suc, if◌then◌else◌, List, [], ◌∷◌, length, Option, Some, None}
use Rattle.std.specs.Str.{bytes_eq}
use Rattle.ts_spec.specs.Sample.{Point}
use Rattle.ts_chunk_packed.specs.Packed.{State, begin, next, packed, sample_of}

-- the samples that the bytes code after a context, one after another to the end of the bytes, but at most `turns`
abbrev pub all_samples_from : State → (turns : ℕ) → List ℕ → List Point
all_samples_from s zero bytes = []
all_samples_from s (suc n) [] = []
all_samples_from s (suc n) (byte ∷ bytes) =
    let first = sample_of s (byte ∷ bytes) in first.0 ∷ all_samples_from (next s first.0) n first.1

-- these samples, if these bytes are their packed form
abbrev pub if_packed : (bytes : List ℕ) → List Point → Option (List Point)
if_packed bytes ps = if bytes_eq (packed ps) bytes then Some ps else None

-- the samples whose packed form the bytes are, if there are any; each takes at least one byte
unfoldable pub unpacked : List ℕ → Option (List Point)
unpacked bytes = if_packed bytes (all_samples_from begin (length bytes) bytes)
