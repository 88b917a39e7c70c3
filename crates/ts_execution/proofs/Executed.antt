-- What `execute` writes is the text of the command's reply.
use Rattle.std.proofs.Common.{◌≡◌, inl, inr, ⊎_elim, ℕ, List, refl}
use Rattle.std.specs.Prelude.{IsTrue, Option, None, Some}
use Rattle.ts_spec.specs.Command.{Triple, Command, Madd, Ping}
use Rattle.ts_spec.specs.Queries.{ping_response}
use Rattle.ts_spec.specs.Replies.{reply_to, memory_reply}
use Rattle.ts_spec.specs.Response.{Response}
use Rattle.ts_spec.specs.Step.{Outcome, step}
use Rattle.ts_spec.specs.Text.{Reply, text}
use Rattle.ts_db.specs.DbState.{DbState, DbView, Represents, Simulates, AllowsOutOfMemory}
use Rattle.ts_questions.specs.Answering.{IsTextOrLost}
use Rattle.ts_execution.specs.Handling.{IsStep, IsOutOfMemory, StepOrOutOfMemory, IsAnswered, Executes, WritesAll, may_run_out_of_memory}
use Rattle.ts_execution.proofs.Carried.{carries_none, carries_as}

-- the response of a command's step
abbrev response_of : (reading : ℕ) → Command → DbState → Response
response_of reading command held = (step held.limits held.state reading command).response

-- out of memory, for a command that may run out of it
out_of_memory : (reading : ℕ) (command : Command) (held : DbState) (written : List ℕ) → IsTrue (may_run_out_of_memory command) → AllowsOutOfMemory (response_of reading command held) → written ≡ text memory_reply
    → Executes reading command held written held
out_of_memory reading command held written may yields is =
    record { reply = memory_reply; its_text = is; done = inr (record { may = may; yields = yields; out_of_memory = record { says = refl; same = refl } }) }

-- a query
asked : (reading : ℕ) (command : Command) (held : DbState) (written : List ℕ) (response : Response) (may : Type 0) → (may → IsTrue (may_run_out_of_memory command) × AllowsOutOfMemory (response_of reading command held))
    → IsAnswered reading command held (reply_to response) held → IsTextOrLost may response written → Executes reading command held written held
asked reading command held written response may lose answered told =
    ⊎_elim (λ (is : written ≡ text (reply_to response)). record { reply = reply_to response; its_text = is; done = inl answered })
    (λ (lost : may × (written ≡ text memory_reply)). let why = lose lost.0 in out_of_memory reading command held written why.0 why.1 lost.1) told

-- PING may run out of memory only for a long argument
pings_lose : (reading : ℕ) (word : Option (List ℕ)) (held : DbState) → IsTrue (may_run_out_of_memory (Ping word)) → IsTrue (may_run_out_of_memory (Ping word)) × AllowsOutOfMemory (response_of reading (Ping word) held)
pings_lose reading None held may = absurd (cc may)
pings_lose reading (Some word) held may = (may, tt)

-- ---- for each state

-- out of memory, for a command that may run out of it
pub wants_memory : (reading : ℕ) (command : Command) (db_view : DbView) (written : List ℕ) → IsTrue (may_run_out_of_memory command) → ((from : DbState) → AllowsOutOfMemory (response_of reading command from))
    → written ≡ text memory_reply → Simulates db_view db_view (λ from to. Executes reading command from written to)
wants_memory reading command db_view written may yields is =
    carries_none db_view (λ from to. Executes reading command from written to) (λ from stands. out_of_memory reading command from written may (yields from) is)

-- TS.MADD
pub writes_execute : (reading : ℕ) (triples : List Triple) (old new : DbView) (written : List ℕ) → Simulates old new (λ from to. WritesAll reading triples from written to)
    → Simulates old new (λ from to. Executes reading (Madd triples) from written to)
writes_execute reading triples old new written carries =
    carries_as old new (λ from to. WritesAll reading triples from written to) (λ from to. Executes reading (Madd triples) from written to)
    (λ from to all. record { reply = all.reply; its_text = all.its_text; done = inl all.all }) carries

-- a command on one series
pub step_executes : (reading : ℕ) (command : Command) (one : DbState → Outcome) (old new : DbView) (reply : Reply) (written : List ℕ) → IsTrue (may_run_out_of_memory command)
    → ((from : DbState) → AllowsOutOfMemory (one from).response → AllowsOutOfMemory (response_of reading command from)) → ((from to : DbState) → IsStep (one from) from reply to → IsAnswered reading command from reply to)
    → Simulates old new (λ from to. StepOrOutOfMemory (one from) from reply to) → written ≡ text reply → Simulates old new (λ from to. Executes reading command from written to)
step_executes reading command one old new reply written may lose answers carries is =
    carries_as old new (λ from to. StepOrOutOfMemory (one from) from reply to) (λ from to. Executes reading command from written to)
    (λ from to done. record {
      reply = reply;
      its_text = is;
      done = ⊎_elim (λ (s : IsStep (one from) from reply to). inl (answers from to s))
          (λ (lost : AllowsOutOfMemory (one from).response × IsOutOfMemory from reply to). inr (record { may = may; yields = lose from lost.0; out_of_memory = lost.1 })) done;
    }) carries

-- a command that cannot run out of memory
pub sure_executes : (reading : ℕ) (command : Command) (old new : DbView) (reply : Reply) (written : List ℕ)
    → Simulates old new (λ from to. IsAnswered reading command from reply to) → written ≡ text reply → Simulates old new (λ from to. Executes reading command from written to)
sure_executes reading command old new reply written carries is =
    carries_as old new (λ from to. IsAnswered reading command from reply to) (λ from to. Executes reading command from written to)
    (λ from to done. record { reply = reply; its_text = is; done = inl done }) carries

-- a query that cannot run out of memory
pub executes_with : (reading : ℕ) (command : Command) (db_view : DbView) (reply : Reply) (written : List ℕ)
    → ((from : DbState) → Represents db_view from → IsAnswered reading command from reply from) → written ≡ text reply → Simulates db_view db_view (λ from to. Executes reading command from written to)
executes_with reading command db_view reply written answered is =
    sure_executes reading command db_view db_view reply written (carries_none db_view (λ from to. IsAnswered reading command from reply to) answered) is

-- a query
pub asks_execute : (reading : ℕ) (command : Command) (db_view : DbView) (written : List ℕ) (response : DbState → Response) (may : DbState → Type 0)
    → ((from : DbState) → may from → IsTrue (may_run_out_of_memory command) × AllowsOutOfMemory (response_of reading command from))
    → ((from : DbState) → IsAnswered reading command from (reply_to (response from)) from) → ((from : DbState) → Represents db_view from → IsTextOrLost (may from) (response from) written)
    → Simulates db_view db_view (λ from to. Executes reading command from written to)
asks_execute reading command db_view written response may lose answered told =
    carries_none db_view (λ from to. Executes reading command from written to)
    (λ from stands. asked reading command from written (response from) (may from) (lose from) (answered from) (told from stands))

-- a query that cannot run out of memory
pub asks_surely : (reading : ℕ) (command : Command) (db_view : DbView) (written : List ℕ) (response : DbState → Response)
    → ((from : DbState) → IsAnswered reading command from (reply_to (response from)) from) → ((from : DbState) → Represents db_view from → written ≡ text (reply_to (response from)))
    → Simulates db_view db_view (λ from to. Executes reading command from written to)
asks_surely reading command db_view written response answered told =
    carries_none db_view (λ from to. Executes reading command from written to)
    (λ from stands. record { reply = reply_to (response from); its_text = told from stands; done = inl (answered from) })

pub pings_execute : (reading : ℕ) (word : Option (List ℕ)) (db_view : DbView) (written : List ℕ) → IsTextOrLost (IsTrue (may_run_out_of_memory (Ping word))) (ping_response word) written
    → Simulates db_view db_view (λ from to. Executes reading (Ping word) from written to)
pings_execute reading word db_view written told =
    asks_execute reading (Ping word) db_view written (λ from. ping_response word) (λ from. IsTrue (may_run_out_of_memory (Ping word))) (pings_lose reading word) (λ from. record { says = refl; state = refl; limits = refl }) (λ from stands. told)
