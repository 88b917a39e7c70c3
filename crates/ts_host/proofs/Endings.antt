-- The end of a run, which settles the last wake-up.
use Rattle.std.proofs.Common.{◌≡◌, ℕ, ◌≤◌, List, [], refl, ap, ◌∙◌, subst}
use Rattle.std.specs.Prelude.{Option, None, Some}
use Rattle.ts_io.specs.Hubs.{Outgoing}
use Rattle.ts_io.specs.declared.hub.Step.{Step}
use Rattle.ts_mux.specs.Muxing.{pending_items}
use Rattle.ts_mux.specs.Order.{closing}
use Rattle.ts_db.specs.DbState.{DbState}
use Rattle.ts_host.specs.Causes.{Faults, HasCause, HasEndCause, JournalCause}
use Rattle.ts_host.specs.Http.{closes}
use Rattle.ts_host.specs.Serving.{IsOver, Ran, Serves, end_after}
use Rattle.ts_host.specs.Settling.{Settles}
use Rattle.ts_host.specs.Shown.{View}
use Rattle.ts_host.specs.declared.connections.Connections.{Connections}
use Rattle.ts_host.specs.declared.host.HostFault.{HostFault}
use Rattle.ts_host.specs.declared.host.HostFault.TheVariants as fault
use Rattle.ts_host.specs.declared.recorder.Recorder.{Recorder}
use Rattle.ts_host.specs.declared.serving.HubEnd.TheVariants as end
use Rattle.ts_host.proofs.Stepping.{new_view, old_view, settled_rested, takes_none, unsettled_halted}
use Rattle.ts_host.proofs.WholeRuns.{ran_halted, ran_out, ran_over}

module _ {J : Type 0} (fell : Option HostFault) (content : J → Option (List ℕ)) (oldr newr : Recorder J) (oldc newc : Connections) (held : DbState) (readings : Option (List ℕ)) (out out' : Outgoing) (has : List ℕ → Type 0)
    (budget : ℕ) (start : View) (coming coming' : Option (List Step)) (taken : ℕ) (ran : Ran start (old_view content oldr newr oldc newc held readings out out' has) coming coming' taken) where
  abbrev pub now : View
  now = new_view content oldr newr oldc newc held readings out out' has

  none_left : newc ≡ oldc → pending_items oldc.mux [] ≡ [] → closing closes (pending_items newc.mux []) ≡ []
  none_left same asked = ap (closing closes) (ap (λ (c : Connections). pending_items c.mux []) same ∙ asked)

  -- nothing more is to come
  pub ends_when_over : IsOver coming' → newc ≡ oldc → pending_items oldc.mux [] ≡ [] → Settles fell content oldr newr out out' → Serves (end_after fell end.Ended) budget start now coming coming'
  ends_when_over over same asked settles = go fell settles
    where
      go : (fell : Option HostFault) → Settles fell content oldr newr out out' → Serves (end_after fell end.Ended) budget start now coming coming'
      go None settled = ran_over start (old_view content oldr newr oldc newc held readings out out' has) coming coming' taken ran budget now over
          (settled_rested content oldr newr oldc newc held readings out out' has (ap (λ (c : Connections). c.mux) same) (ap (λ (c : Connections). c.counts) same) settled [] (λ more. refl)) (none_left same asked)
      go (Some fell) failed = ran_halted start (old_view content oldr newr oldc newc held readings out out' has) coming coming' taken ran fell budget now coming'
          (record { steps = []; takes = takes_none coming' coming' refl; halted = unsettled_halted content oldr newr oldc newc held readings out out' has [] failed })

  -- the budget is used up
  pub ends_at_budget : budget ≤ taken → newc ≡ oldc → pending_items oldc.mux [] ≡ [] → Settles fell content oldr newr out out' → Serves (end_after fell end.Budget) budget start now coming coming'
  ends_at_budget spent same asked settles = go fell settles
    where
      go : (fell : Option HostFault) → Settles fell content oldr newr out out' → Serves (end_after fell end.Budget) budget start now coming coming'
      go None settled = ran_out start (old_view content oldr newr oldc newc held readings out out' has) coming coming' taken ran budget now spent
          (settled_rested content oldr newr oldc newc held readings out out' has (ap (λ (c : Connections). c.mux) same) (ap (λ (c : Connections). c.counts) same) settled [] (λ more. refl)) (none_left same asked)
      go (Some fell) failed = ran_halted start (old_view content oldr newr oldc newc held readings out out' has) coming coming' taken ran fell budget now coming'
          (record { steps = []; takes = takes_none coming' coming' refl; halted = unsettled_halted content oldr newr oldc newc held readings out out' has [] failed })

-- ---- which device failed

module _ (start mid : Faults) (hub journal : ℕ) (fine : mid ≡ start) (same : hub ≡ mid.hub) where
  settled_fine : journal ≡ mid.journal → ◌≡◌ {A = Faults} (record { hub = hub; lines = mid.lines; journal = journal }) start
  settled_fine none =
      ap (λ (n : ℕ). record { hub = n; lines = mid.lines; journal = journal }) same ∙ ap (λ (n : ℕ). record { hub = mid.hub; lines = mid.lines; journal = n }) none ∙ fine

  failed_cause : JournalCause (Some fault.Journal) mid.journal journal → HasCause (Some fault.Journal) start (record { hub = hub; lines = mid.lines; journal = journal })
  failed_cause rose = subst (λ (before : Faults). HasCause (Some fault.Journal) before (record { hub = hub; lines = mid.lines; journal = journal })) fine (same, refl, rose)

pub ended_cause : (fell : Option HostFault) (start mid : Faults) (hub journal : ℕ) → mid ≡ start → hub ≡ mid.hub → JournalCause fell mid.journal journal
    → HasEndCause (end_after fell end.Ended) start (record { hub = hub; lines = mid.lines; journal = journal })
ended_cause None start mid hub journal fine same cause = settled_fine start mid hub journal fine same cause
ended_cause (Some fault.Journal) start mid hub journal fine same cause = failed_cause start mid hub journal fine same cause
ended_cause (Some fault.Hub) start mid hub journal fine same cause = absurd cause
ended_cause (Some fault.Line) start mid hub journal fine same cause = absurd cause
ended_cause (Some fault.Memory) start mid hub journal fine same cause = absurd cause

pub budget_cause : (fell : Option HostFault) (start mid : Faults) (hub journal : ℕ) → mid ≡ start → hub ≡ mid.hub → JournalCause fell mid.journal journal
    → HasEndCause (end_after fell end.Budget) start (record { hub = hub; lines = mid.lines; journal = journal })
budget_cause None start mid hub journal fine same cause = settled_fine start mid hub journal fine same cause
budget_cause (Some fault.Journal) start mid hub journal fine same cause = failed_cause start mid hub journal fine same cause
budget_cause (Some fault.Hub) start mid hub journal fine same cause = absurd cause
budget_cause (Some fault.Line) start mid hub journal fine same cause = absurd cause
budget_cause (Some fault.Memory) start mid hub journal fine same cause = absurd cause
