use Rattle.std.proofs.Common.{◌≡◌, ℕ, List, length, Some, None}
use Rattle.ts_resp.specs.Reading.{stream_of, fed}
use Rattle.ts_resp.proofs.reader.Reader.read_words.Given as goal

-- the reader with the arguments so far represents the same stream as before the loop
abbrev pub invariant-loop-so_far : goal.invariant-loop-so_far
invariant-loop-so_far l = record {
  between : l.self.so_far ≡ None;
  stream : (more : List ℕ) → stream_of (record l.self { so_far = Some l.so_far }) more
      ≡ stream_of (record l.initial.self { so_far = Some l.initial.so_far }) more;
  fed_same : fed l.self ≡ fed l.initial.self;
  begin : l.self.begin ≡ l.initial.self.begin;
  limits : l.self.limits ≡ l.initial.self.limits;
}

abbrev pub decreases-loop-so_far : goal.decreases-loop-so_far
decreases-loop-so_far l = length l.self.unread
