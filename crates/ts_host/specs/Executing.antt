-- A request that is executed, and its reply that is given.
use Rattle.std.specs.Prelude.{◌≡◌, Bool, true, false, ℕ, List, [], Option, None, Some, Result, Ok, Err}
use Rattle.ts_io.specs.Hubs.{Gains, Outgoing, Same}
use Rattle.ts_io.specs.Sinks.{Grows, GrowsByPrefix}
use Rattle.ts_spec.specs.Wire.{Request}
use Rattle.ts_words.specs.declared.lines.LinkEnd.{LinkEnd}
use Rattle.ts_words.specs.declared.lines.LinkEnd.TheVariants as how
use Rattle.ts_words.specs.Lines.{link_line_of}
use Rattle.ts_execution.specs.Journaling.{Snapshot, IsJournaled}
use Rattle.ts_host.specs.Leaving.{Leaves}
use Rattle.ts_host.specs.RequestCounts.{executed_by}
use Rattle.ts_host.specs.Steps.{Extends}
use Rattle.ts_host.specs.declared.connections.Connections.{Connections}
use Rattle.ts_host.specs.declared.host.HostFault.{HostFault}
use Rattle.ts_host.specs.declared.host.HostFault.TheVariants as fault
use Rattle.ts_host.specs.declared.host.NextItem.{NextItem}
use Rattle.ts_host.specs.declared.host.NextItem.TheVariants as next

-- The request was executed, and a fault ended the run before its reply was given. The journal may lack its record.
pub record IsUntold (request : Request) (reply : List ℕ) (from to : Snapshot) (stored stored' : Option (List ℕ)) : Type 0 where
  pub world : Snapshot
  pub held : world.held ≡ to.held
  pub readings : world.readings ≡ to.readings
  pub journaled : IsJournaled from request reply world
  pub extends : Extends stored stored'
  pub within : Extends stored' world.content

-- the request was executed, and its record was added
abbrev pub IsExecuted : Result Bool HostFault → Request → (reply : List ℕ) → (from to : Snapshot) → (stored stored' : Option (List ℕ)) → Type 0
IsExecuted (Ok closing) request reply from to stored stored' = IsJournaled from request reply to × Extends stored stored'
IsExecuted (Err fault) request reply from to stored stored' = IsUntold request reply from to stored stored'

-- how a link ends after a request
abbrev pub end_if : (closes : Bool) → Option LinkEnd
end_if true = Some how.Ended
end_if false = None

-- a fault, or else what became of the next request
abbrev pub next_after : Option HostFault → NextItem → NextItem
next_after (Some fault) other = next.Fault fault
next_after None other = other

-- the reply was given, and the link dropped if it ends; or a fault came before or within its line
abbrev pub GivesReply : NextItem → (at : ℕ) → Option LinkEnd → (reply : List ℕ) → (old new : Connections) → (out out' : Outgoing) → (had has : List ℕ → Type 0) → Type 0
GivesReply next.Answered at None reply old new out out' had has = Gains out out' (record { link = at; bytes = reply }) × (new ≡ old) × Grows had has []
GivesReply next.Answered at (Some how) reply old new out out' had has =
    Gains out out' (record { link = at; bytes = reply }) × Leaves at old new × Grows had has (link_line_of at (executed_by old.counts at) how)
GivesReply (next.Fault fault.Hub) at end reply old new out out' had has = Same out out' × (new ≡ old) × Grows had has []
GivesReply (next.Fault fault.Line) at (Some how) reply old new out out' had has =
    Gains out out' (record { link = at; bytes = reply }) × Leaves at old new × GrowsByPrefix had has (link_line_of at (executed_by old.counts at) how)
GivesReply other at end reply old new out out' had has = ⊥
