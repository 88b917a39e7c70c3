-- What each prefix of the journal that a host leaves loads to: the database within the run of requests that it
-- answered.
use Rattle.std.specs.Prelude.{◌≡◌, ℕ, ◌≤◌, List, [], ◌++◌, length, take, Option, Some}
use Rattle.ts_spec.specs.declared.limits.Limits.{Limits}
use Rattle.ts_mux.specs.declared.frame.Frame.{Frame}
use Rattle.ts_mux.specs.Order.{Event, Asked, Failed, Item}
use Rattle.ts_checkpoint.specs.Fronts.{FrontLoads}
use Rattle.ts_execution.specs.Journaling.{Snapshot, IsJournaled}
use Rattle.ts_host.specs.Answers.{Counts, Ending, Answers, none, reply, leave, answered}
use Rattle.ts_engine.specs.JournalPrefixes.{HandledRun, PrefixReplays}

-- ---- the requests that were answered

-- a reply to a request before others; the text for a protocol error is left out
abbrev pub with_reply : Event → (text others : List ℕ) → List ℕ
with_reply (Asked request) text others = text ++ others
with_reply (Failed fault) text others = others

-- the replies to requests, one after another
abbrev pub replies : {from to : Snapshot} {counts counts' : Counts} {items left : List Item} {frames : List Frame} {endings : List Ending} → Answers IsJournaled from counts items frames endings to counts' left → List ℕ
replies (none agree) = []
replies (leave forgets others) = replies others
replies (reply {item} {text} here counts others) = with_reply item.event text (replies others)

-- the requests that were answered, their replies, and the world after them
abbrev pub run_of_answers : {from to : Snapshot} {counts counts' : Counts} {items left : List Item} {frames : List Frame} {endings : List Ending} → Answers IsJournaled from counts items frames endings to counts' left → HandledRun
run_of_answers {to} answers = record { asked = answered IsJournaled answers; text = replies answers; to = to }

-- ---- the run of a host

-- the requests whose replies were let out, and those that were answered after them
pub record HostRun : Type 0 where
  pub let_out : HandledRun
  pub later : HandledRun

-- both
abbrev pub whole_run : HostRun → HandledRun
whole_run run = record { asked = run.let_out.asked ++ run.later.asked; text = run.let_out.text ++ run.later.text; to = run.later.to }

-- no request was answered in this world
abbrev pub nothing_asked : Snapshot → HandledRun
nothing_asked world = record { asked = []; text = []; to = world }

-- ---- its journal

-- A host began in the world `from` with a journal that had these bytes. What it left in the journal begins with them.
--
-- `prefixes_load`: each prefix of that loads.
-- `replay_matches`: one that contains what the host began with loads to a database within the run.
-- `nothing_lost`: one that contains what was settled loads to a database after all requests whose replies were let out.
pub record HostPrefixes (limits : Limits) (journal : List ℕ) (from : Snapshot) (run : HostRun) (left : Option (List ℕ)) : Type 0 where
  pub stored : List ℕ
  pub content : left ≡ Some stored
  pub begins : take (length journal) stored ≡ journal
  pub prefixes_load : (n : ℕ) → FrontLoads limits stored n
  pub replay_matches : (n : ℕ) → length journal ≤ n → PrefixReplays limits from (whole_run run) (take n stored)
  pub settled : List ℕ
  pub settles : run.let_out.to.content ≡ Some settled
  pub has_settled : take (length settled) stored ≡ settled
  pub nothing_lost : (n : ℕ) → length settled ≤ n → PrefixReplays limits run.let_out.to run.later (take n stored)
