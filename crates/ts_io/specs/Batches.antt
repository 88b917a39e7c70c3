-- A connection with batched replies: the bytes sent, and those in the queue.
use Rattle.std.specs.Prelude.{◌≡◌, ℕ, ◌≤◌, List, ◌++◌, length, take, Bool, Option, None, Some, Result, MatchResult}
use Rattle.std.specs.Io.KnownBytes.{Consumes}
use Rattle.ts_io.specs.declared.batches.Batches.{Batches}

-- the connection, the queued bytes, and whether the peer is behind
abbrev pub connection_of : {C : Type 0} → Batches C → C
connection_of b = b.connection

abbrev pub waiting_of : {C : Type 0} → Batches C → List ℕ
waiting_of b = b.waiting

abbrev pub peer_is_behind : {C : Type 0} → Batches C → Bool
peer_is_behind b = b.is_behind

-- w is the bytes sent, followed by those in the queue
abbrev pub Holds : (List ℕ → Type 0) → List ℕ → List ℕ → Type 0
Holds sent waiting w = (front : List ℕ) × sent front × (w ≡ front ++ waiting)

-- a read that does not wait: if it returns a count, it consumed that many bytes, otherwise none
abbrev pub NonBlockingRead : Option (List ℕ) → Option (List ℕ) → Option ℕ → List ℕ → Type 0
NonBlockingRead old new None buf = new ≡ old
NonBlockingRead old new (Some n) buf = (n ≤ length buf) × Consumes old new (take n buf) × (n ≡ 0 → new ≡ old)

-- the same for a read that may fail: an error consumes none
abbrev pub NonBlockingConsumes : {E : Type 0} → Option (List ℕ) → Option (List ℕ) → Result (Option ℕ) E → List ℕ → Type 0
NonBlockingConsumes old new r buf = MatchResult r (λ o. NonBlockingRead old new o buf) (λ _. new ≡ old)
