-- A command's record, before its reply is known.
use Rattle.std.specs.Prelude.{◌≡◌, ℕ, List, [], Option, None, Some, is_some, IfSome}
use Rattle.ts_spec.specs.Command.{Command}
use Rattle.ts_journal.specs.Content.{bytes_after}
use Rattle.ts_journal.specs.Record.{is_change, IsRecordOf}
use Rattle.ts_journal.specs.declared.record.Record.{Record}

-- the bytes of the record, given the reply's text; empty without a record
abbrev pub record_bytes : Option Record → (reply : List ℕ) → List ℕ
record_bytes None reply = []
record_bytes (Some r) reply = bytes_after r reply

-- a change has a record, and no other command has one
abbrev pub HasRecord : (reading : ℕ) → Command → Option Record → Type 0
HasRecord reading c record_ = (is_some record_ ≡ is_change c) × IfSome record_ (λ r. IsRecordOf reading c (bytes_after r))
