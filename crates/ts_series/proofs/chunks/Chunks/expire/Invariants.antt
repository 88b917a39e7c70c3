use Rattle.std.proofs.Common.{◌≡◌, ℕ, ◌+◌, nat_le, length}
use Rattle.ts_spec.specs.Sample.{at_times}
use Rattle.ts_series.specs.Stored.{points, AreAmong}
use Rattle.ts_series.proofs.chunks.Chunks.expire.Given as goal

-- the samples from the edge on stay, no limit comes, and the places for chunks stay
abbrev pub invariant-loop-self : goal.invariant-loop-self
invariant-loop-self g l = record {
  kept : at_times (nat_le l.edge) (points l.self) ≡ at_times (nat_le l.edge) (points l.initial.self);
  limits : (one : ℕ) → AreAmong one l.initial.self.limits l.self.limits;
  room : length l.self.pieces + l.self.room ≡ length l.initial.self.pieces + l.initial.self.room;
}

abbrev pub decreases-loop-self : goal.decreases-loop-self
decreases-loop-self g l = length l.self.pieces
