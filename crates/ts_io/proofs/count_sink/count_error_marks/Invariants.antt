use Rattle.std.proofs.Common.{◌≡◌, ◌+◌, ◌≤◌, drop}
use Rattle.ts_io.specs.Counts.{error_marks_after}
use Rattle.ts_io.proofs.count_sink.count_error_marks.Given as goal

-- the marks counted so far and those still to come are all marks
abbrev pub invariant-loop-byte : goal.invariant-loop-byte
invariant-loop-byte l = record {
  all : l.marks + error_marks_after l.before (drop l.byte-index l.bytes) ≡ error_marks_after l.fn.before l.bytes;
  few : l.marks ≤ l.byte-index;
}
