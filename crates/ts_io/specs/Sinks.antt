-- What a call does to the bytes that a sink has. A sink is a predicate on lists of bytes: "it has w".
use Rattle.std.specs.Prelude.{ℕ, ◌≤◌, List, [], ◌++◌, length, take, Result, MatchResult}
use Rattle.ts_io.specs.Calls.{Calls}

-- if it had w, it now has w followed by these bytes
pub record Grows (old new : List ℕ → Type 0) (bytes : List ℕ) : Type 0 where
  pub each : (w : List ℕ) → old w → new (w ++ bytes)

-- it grew by some prefix of these bytes
pub record GrowsByPrefix (old new : List ℕ → Type 0) (bytes : List ℕ) : Type 0 where
  pub len : ℕ
  pub within : len ≤ length bytes
  pub grows : Grows old new (take len bytes)

-- a write grows it by the first n bytes at `Ok(n)`, and by none at `Err`
abbrev pub WriteGrows : {E : Type 0} → (List ℕ → Type 0) → (List ℕ → Type 0) → Result ℕ E → List ℕ → Type 0
WriteGrows old new r bytes = MatchResult r (λ n. Grows old new (take n bytes)) (λ _. Grows old new [])

-- the state of a sink in memory: the bytes written, the most that one call accepts, and the calls
pub record MemSinkState : Type 0 where
  pub written : List ℕ
  pub most : ℕ
  pub calls : Calls
