-- The limits under which a journal is read.
use Rattle.std.specs.Prelude.{◌≡◌, ◌≢◌, ℕ, ◌+◌, ◌*◌, ◌≤◌, [], Ok}
use Rattle.ts_spec.specs.declared.wire.WireLimits.{WireLimits}
use Rattle.ts_spec.specs.Command.{Command}
use Rattle.ts_spec.specs.StreamPrefixes.{IsWithin}
use Rattle.ts_spec.specs.Grammar.{command}
use Rattle.ts_spec.specs.Text.{Reply}
use Rattle.ts_spec.specs.Wire.{Request}
use Rattle.ts_journal.specs.Record.{accepted, record_words}

-- these limits are small enough for a journal's limits to be computed from them
pub record IsBounded (limits : WireLimits) : Type 0 where
  pub words : limits.words ≤ 4000000000
  pub word_bytes : limits.word_bytes ≤ 4000000000
  pub request_bytes : limits.request_bytes ≤ 100000000
  pub line_bytes : limits.line_bytes ≤ 50000000

-- limits that fit the record of an array request, and that of an inline request
abbrev pub journal_limits : WireLimits → WireLimits
journal_limits limits = record {
  words = limits.words + limits.line_bytes + 32;
  word_bytes = limits.word_bytes + limits.line_bytes + 32;
  request_bytes = 24 * (limits.request_bytes + limits.line_bytes) + 512;
  line_bytes = limits.line_bytes;
}

-- the request is the record of a command whose own request is within the limits
pub record IsRecordWithin (limits : WireLimits) (request : Request) : Type 0 where
  pub words : Request
  pub within : IsWithin limits words
  pub change : Command
  pub says : command words ≡ Ok change
  pub reading : ℕ
  pub reply : Reply
  pub its : request ≡ record_words reading (accepted change reply)
  pub some : request ≢ []
