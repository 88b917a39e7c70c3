use Rattle.std.proofs.Common.{◌≡◌, ℕ, ◌≤◌, List, length}
use Rattle.ts_resp.specs.Reading.{stream_of, fed, unfinished}
use Rattle.ts_resp.proofs.reader.Reader.next.Given as goal

-- the reader represents the same stream as before the loop
abbrev pub invariant-loop-next : goal.invariant-loop-next
invariant-loop-next l = record {
  stream : (more : List ℕ) → stream_of l.self more ≡ stream_of l.initial.self more;
  fed_same : fed l.self ≡ fed l.initial.self;
  later : l.initial.self.begin ≤ l.self.begin;
  place : unfinished l.self ≡ unfinished l.initial.self;
  limits : l.self.limits ≡ l.initial.self.limits;
}

abbrev pub decreases-loop-next : goal.decreases-loop-next
decreases-loop-next l = length l.self.unread
