-- What each prefix of a journal loads to: the database within the run of requests whose replies were written.
use Rattle.std.specs.Prelude.{◌≡◌, ◌⊎◌, true, ℕ, List, [], ◌∷◌, ◌++◌, length, take, Option, Some}
use Rattle.std.proofs.Common.{inl, inr}
use Rattle.ts_spec.specs.Run.{Runs}
use Rattle.ts_spec.specs.Wire.{Request, Ended}
use Rattle.ts_spec.specs.declared.limits.Limits.{Limits}
use Rattle.ts_journal.specs.Loading.{Loads}
use Rattle.ts_checkpoint.specs.Loading.{load}
use Rattle.ts_execution.specs.Journaling.{Snapshot, IsJournaled, journaled}
use Rattle.ts_engine.specs.declared.piped.End.{End}
use Rattle.ts_engine.specs.declared.piped.End.TheVariants as end
use Rattle.ts_engine.specs.Headline.{Exchange, requests, asks_to_quit, AllAnswered, WholeAnswered, LastCut, FaultCut, Writes}
use Rattle.ts_engine.specs.NotJournaled.{NotJournaled}

-- ---- the run whose replies were written

-- the handled requests, their whole replies, and the world after them
pub record HandledRun : Type 0 where
  pub asked : List Request
  pub text : List ℕ
  pub to : Snapshot

module _ (exchange : Exchange journaled) (budget : ℕ) (bytes : List ℕ) (left : Option (List ℕ)) where
  -- the run of all requests in these bytes
  abbrev pub run_of_all : (front text : List ℕ) → HandledRun
  run_of_all front text = record { asked = requests exchange.limits front; text = text; to = exchange.to }

  -- the run, if the input ended or has a QUIT
  abbrev pub run_to_end : WholeAnswered exchange bytes left Ended ⊎ (AllAnswered exchange bytes [] × (asks_to_quit exchange.limits bytes ≡ true)) → HandledRun
  run_to_end (inl whole) = run_of_all bytes whole.answered.text
  run_to_end (inr quits) = run_of_all bytes quits.0.text

  -- the run, if a write failed; with the request whose reply was cut
  abbrev pub run_to_cut : LastCut exchange bytes ⊎ FaultCut exchange bytes → HandledRun
  run_to_cut (inl cut) = record { asked = cut.done ++ cut.last ∷ []; text = cut.text ++ cut.reply; to = exchange.to }
  run_to_cut (inr cut) = run_of_all bytes cut.answered.text

  -- the run, by how the input was answered
  abbrev pub run_of : (e : End) → Writes exchange budget bytes left e → HandledRun
  run_of end.Ended written = run_to_end written
  run_of (end.Truncated place) written = run_of_all bytes written.answered.text
  run_of (end.Protocol fault) written = run_of_all bytes written.0.text
  run_of end.ReadFault written = run_of_all written.front written.answered.text
  run_of end.Budget written = run_of_all written.0.front written.0.answered.text
  run_of end.Memory written = record { asked = written.done; text = written.text; to = exchange.to }
  run_of end.WriteFault written = run_to_cut written

-- ---- prefixes of a journal

-- The run splits where a prefix of the journal ends. The prefix loads to the database after the first requests of the
-- run; its complete requests are those loaded at the start and the records of these.
pub record PrefixReplays (limits : Limits) (from : Snapshot) (run : HandledRun) (front : List ℕ) : Type 0 where
  pub done : List Request
  pub more : List Request
  pub asked : run.asked ≡ done ++ more
  pub text : List ℕ
  pub rest : List ℕ
  pub replies : run.text ≡ text ++ rest
  pub mid : Snapshot
  pub before : Runs IsJournaled from done text mid
  pub after : Runs IsJournaled mid more rest run.to
  pub place : ℕ
  pub content : mid.content ≡ Some (take place front)
  pub loads : load limits front ≡ Loads mid.held.state place

module _ (limits : Limits) (exchange : Exchange journaled) (bytes : List ℕ) (failed : NotJournaled exchange bytes) where
  -- the run before the request whose append failed
  abbrev pub run_to_fault : HandledRun
  run_to_fault = record { asked = failed.done; text = failed.text; to = failed.mid }

  -- The append failed after the last byte of the record. The prefix is the whole journal, and loads to the database
  -- after that request.
  pub record LastReplays (front : List ℕ) : Type 0 where
    pub whole : failed.torn.kept ≡ length failed.torn.record_
    pub content : exchange.to.content ≡ Some front
    pub loads : load limits front ≡ Loads exchange.to.held.state (length front)

  -- a prefix loads to a database within the run, or to the one after the request whose append failed
  abbrev pub ReplaysToFault : (front : List ℕ) → Type 0
  ReplaysToFault front = PrefixReplays limits exchange.from run_to_fault front ⊎ LastReplays front
