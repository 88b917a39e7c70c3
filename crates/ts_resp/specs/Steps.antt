-- One step of a reader.
use Rattle.std.specs.Prelude.{◌≡◌, ◌≢◌, ℕ, ◌<◌, ◌≤◌, List, [], length}
use Rattle.ts_spec.specs.Wire.{Then, Broken}
use Rattle.ts_resp.specs.declared.reader.Next.{Next}
use Rattle.ts_resp.specs.Next.{IfRequest, UnlessRequest, OnNotYet, IfBroken}
use Rattle.ts_resp.specs.Reading.{Reading, stream_of, fed, unfinished, ended_at}

-- some bytes were consumed and the stream is unchanged
pub record GoesOn (old new : Reading) : Type 0 where
  pub stream : (more : List ℕ) → stream_of new more ≡ stream_of old more
  pub shorter : length new.unread < length old.unread
  pub fed_same : fed new ≡ fed old
  pub later : old.begin ≤ new.begin
  pub begin : new.begin ≤ fed new
  pub place : unfinished new ≡ unfinished old
  pub limits : new.limits ≡ old.limits

-- the result agrees with the stream
pub record Gives (old new : Reading) (next : Next) : Type 0 where
  pub request : IfRequest next (λ words. (more : List ℕ) → stream_of old more ≡ Then words new.begin (stream_of new more))
  pub words : IfRequest next (λ words. words ≢ [])
  pub progress : IfRequest next (λ _. old.begin < new.begin)
  pub not_yet : OnNotYet next (stream_of new [] ≡ ended_at (unfinished new))
  pub broken : IfBroken next (λ p. (more : List ℕ) → stream_of old more ≡ Broken p.kind p.place)
  pub same : UnlessRequest next ((more : List ℕ) → stream_of new more ≡ stream_of old more)
  pub place : UnlessRequest next (unfinished new ≡ unfinished old)
  pub fed_same : fed new ≡ fed old
  pub later : old.begin ≤ new.begin
  pub begin : new.begin ≤ fed new
  pub limits : new.limits ≡ old.limits
