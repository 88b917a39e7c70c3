-- What the calls of a log do to its content, if it is known, and to its read position.
use Rattle.std.specs.Prelude.{◌≡◌, ℕ, ◌+◌, ◌-◌, ◌^◌, ◌≤◌, min, List, length, take, drop, Option, Result, MatchResult}
use Rattle.std.specs.Io.KnownBytes.{append_known}
use Rattle.std.specs.Option.{option_map}
use Rattle.ts_io.specs.Calls.{Calls}

-- the content from this position on
abbrev pub unread : Option (List ℕ) → ℕ → Option (List ℕ)
unread content place = option_map (λ w. drop place w) content

-- the first `len` bytes of the content
abbrev pub front : ℕ → Option (List ℕ) → Option (List ℕ)
front len content = option_map (λ w. take len w) content

-- the position after n more bytes: it stops at the greatest u64
abbrev pub place_after : ℕ → ℕ → ℕ
place_after place n = min (place + n) (2 ^ 64 - 1)

-- a read advances the position by n bytes at `Ok(n)`, and not at `Err`
abbrev pub ReadAdvances : {E : Type 0} → ℕ → ℕ → Result ℕ E → Type 0
ReadAdvances old new r = MatchResult r (λ n. new ≡ place_after old n) (λ _. new ≡ old)

-- an append adds the first n bytes to the content at `Ok(n)`, and none at `Err`
abbrev pub AppendGrows : {E : Type 0} → Option (List ℕ) → Option (List ℕ) → Result ℕ E → List ℕ → Type 0
AppendGrows old new r bytes = MatchResult r (λ n. new ≡ append_known old (take n bytes)) (λ _. new ≡ old)

-- some prefix of these bytes was appended to the content
pub record AppendsPrefix (old new : Option (List ℕ)) (bytes : List ℕ) : Type 0 where
  pub len : ℕ
  pub within : len ≤ length bytes
  pub added : new ≡ append_known old (take len bytes)

-- the state of a log in memory: its content, the draft if there is one, the read position, and the calls
pub record MemLogState : Type 0 where
  pub content : List ℕ
  pub draft : Option (List ℕ)
  pub place : ℕ
  pub calls : Calls
