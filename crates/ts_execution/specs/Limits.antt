-- Wire limits that allow a request.
use Rattle.std.specs.Prelude.{◌≤◌}
use Rattle.ts_spec.specs.declared.wire.WireLimits.{WireLimits}

-- a request of one byte is within the limits
pub record CanRead (limits : WireLimits) : Type 0 where
  pub words : 1 ≤ limits.words
  pub word_bytes : 1 ≤ limits.word_bytes
  pub request_bytes : 1 ≤ limits.request_bytes
  pub line_bytes : 1 ≤ limits.line_bytes
