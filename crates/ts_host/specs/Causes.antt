-- Which device failed: an end says that exactly if that device's count of faults rose.
use Rattle.std.specs.Prelude.{◌≡◌, ℕ, Bool, Option, None, Some, Result, Ok, Err}
use Rattle.ts_io.specs.Causes.{Rose}
use Rattle.ts_host.specs.declared.host.HostFault.{HostFault}
use Rattle.ts_host.specs.declared.host.HostFault.TheVariants as fault
use Rattle.ts_host.specs.declared.host.NextItem.{NextItem}
use Rattle.ts_host.specs.declared.host.NextItem.TheVariants as next
use Rattle.ts_host.specs.declared.host.receiving.HubStep.{HubStep}
use Rattle.ts_host.specs.declared.host.receiving.HubStep.TheVariants as step
use Rattle.ts_host.specs.declared.serving.HubEnd.{HubEnd}
use Rattle.ts_host.specs.declared.serving.HubEnd.TheVariants as end

-- the counts of faults of the hub, the output and the journal
pub record Faults : Type 0 where
  pub hub : ℕ
  pub lines : ℕ
  pub journal : ℕ

-- the count rose, and the others stayed
abbrev pub HasCause : Option HostFault → (before now : Faults) → Type 0
HasCause None before now = now ≡ before
HasCause (Some fault.Hub) before now = Rose before.hub now.hub × (now.lines ≡ before.lines) × (now.journal ≡ before.journal)
HasCause (Some fault.Line) before now = (now.hub ≡ before.hub) × Rose before.lines now.lines × (now.journal ≡ before.journal)
HasCause (Some fault.Journal) before now = (now.hub ≡ before.hub) × (now.lines ≡ before.lines) × Rose before.journal now.journal
HasCause (Some fault.Memory) before now = now ≡ before

-- the same for what writes lines alone
abbrev pub LineCause : Option HostFault → (before now : ℕ) → Type 0
LineCause (Some fault.Line) before now = Rose before now
LineCause other before now = now ≡ before

-- the same for the next request
abbrev pub HasNextCause : NextItem → (before now : Faults) → Type 0
HasNextCause (next.Fault fault) before now = HasCause (Some fault) before now
HasNextCause other before now = HasCause None before now

-- the same for the execution of a request, which may add to the journal
abbrev pub ExecutionCause : Result Bool HostFault → (before now : ℕ) → Type 0
ExecutionCause (Ok closes) before now = now ≡ before
ExecutionCause (Err fault.Journal) before now = Rose before now
ExecutionCause (Err fault.Memory) before now = now ≡ before
ExecutionCause (Err other) before now = ⊥

-- the same for a reply, which is given to the hub, and the line of its link
abbrev pub ReplyCause : NextItem → (hub hub' lines lines' : ℕ) → Type 0
ReplyCause (next.Fault fault.Hub) hub hub' lines lines' = Rose hub hub' × (lines' ≡ lines)
ReplyCause (next.Fault fault.Line) hub hub' lines lines' = (hub' ≡ hub) × Rose lines lines'
ReplyCause other hub hub' lines lines' = (hub' ≡ hub) × (lines' ≡ lines)

-- the same for what writes to the journal alone
abbrev pub JournalCause : Option HostFault → (before now : ℕ) → Type 0
JournalCause (Some fault.Journal) before now = Rose before now
JournalCause (Some other) before now = ⊥
JournalCause None before now = now ≡ before

-- the same for a step of the hub
abbrev pub HasStepCause : HubStep → (before now : Faults) → Type 0
HasStepCause (step.Fault fault) before now = HasCause (Some fault) before now
HasStepCause other before now = HasCause None before now

-- the same for a whole run
abbrev pub HasEndCause : HubEnd → (before now : Faults) → Type 0
HasEndCause (end.Stopped fault) before now = HasCause (Some fault) before now
HasEndCause other before now = HasCause None before now
