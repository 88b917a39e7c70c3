-- What a host did, step by step and as a whole.
use Rattle.std.specs.Prelude.{◌≡◌, ◌⊎◌, ◌+◌, ◌≤◌, ℕ, List, [], ◌∷◌, ◌++◌, map, Option, None, Some}
use Rattle.std.specs.Option.{option_map}
use Rattle.ts_io.specs.Hubs.{LetsOut, Outgoing}
use Rattle.ts_io.specs.Pieces.{Piece}
use Rattle.ts_io.specs.Sinks.{Grows, GrowsByPrefix}
use Rattle.ts_io.specs.declared.hub.Step.{Step}
use Rattle.ts_mux.specs.declared.frame.Frame.{Frame}
use Rattle.ts_execution.specs.Journaling.{IsJournaled}
use Rattle.ts_host.specs.Answers.{Agree, Answers, Ending, lines_of}
use Rattle.ts_host.specs.Shown.{Progress, View}
use Rattle.ts_host.specs.Steps.{piece_of, weight, weight_of_step, Extends, Takes}
use Rattle.ts_host.specs.declared.host.HostFault.{HostFault}
use Rattle.ts_host.specs.declared.host.NextItem.{NextItem}
use Rattle.ts_host.specs.declared.host.NextItem.TheVariants as next
use Rattle.ts_host.specs.declared.host.receiving.HubStep.{HubStep}
use Rattle.ts_host.specs.declared.host.receiving.HubStep.TheVariants as step
use Rattle.ts_host.specs.declared.serving.HubEnd.{HubEnd}
use Rattle.ts_host.specs.declared.serving.HubEnd.TheVariants as end

-- These steps were taken, and items were answered, whatever follows. Replies are frames of their connections.
pub record Stretch (old new : Progress) (steps : List Step) : Type 0 where
  pub frames : List Frame
  pub endings : List Ending
  pub answers : (more : List Step)
      → Answers IsJournaled old.world old.counts (old.items (steps ++ more)) frames endings new.world new.counts (new.items more)

-- pieces were given to the hub
pub record Gave (old new : Outgoing) (pieces : List Piece) : Type 0 where
  pub each : (sent given : List Piece) → old sent given → new sent (given ++ pieces)

-- ---- part of a wake-up

-- every reply was given to the hub, and the lines of the connections that ended were written
pub record Went (old new : View) (steps : List Step) : Type 0 where
  pub stretch : Stretch old.progress new.progress steps
  pub stored : Extends old.stored new.stored
  pub gave : Gave old.out new.out (map piece_of stretch.frames)
  pub lines : Grows old.has new.has (lines_of stretch.endings)

-- A fault ended the run. Not all replies were given, not all lines written, and the journal may lack records.
pub record Halted (old new : View) (steps : List Step) : Type 0 where
  pub to : Progress
  pub held : to.world.held ≡ new.progress.world.held
  pub readings : to.world.readings ≡ new.progress.world.readings
  pub stretch : Stretch old.progress to steps
  pub stored : Extends old.stored new.stored
  pub within : Extends new.stored to.world.content
  pub given : List Piece
  pub gave : Gave old.out new.out given
  pub lines : GrowsByPrefix old.has new.has (lines_of stretch.endings)

-- one or the other
abbrev pub Handled : Option HostFault → (old new : View) → List Step → Type 0
Handled None old new steps = Went old new steps
Handled (Some fault) old new steps = Halted old new steps

-- the same for one request
abbrev pub HandledNext : NextItem → (old new : View) → Type 0
HandledNext next.Answered old new = Went old new []
HandledNext next.NoneLeft old new = Went old new []
HandledNext (next.Fault fault) old new = Halted old new []

-- ---- one step of the hub

-- no item came: every record is in the journal, and every reply was let out
pub record Rested (old new : View) (steps : List Step) : Type 0 where
  pub items : (more : List Step) → new.progress.items more ≡ old.progress.items (steps ++ more)
  pub counts : Agree old.progress.counts new.progress.counts
  pub world : new.progress.world ≡ old.progress.world
  pub stored : new.stored ≡ new.progress.world.content
  pub let_out : LetsOut old.out new.out
  pub lines : Grows old.has new.has []

-- one step was taken; a pause settles the wake-up
pub record StepTaken (old new : View) (coming coming' : Option (List Step)) (taken taken' : ℕ) : Type 0 where
  pub step : Step
  pub takes : Takes coming coming' (step ∷ [])
  pub bound : taken' ≤ taken + weight_of_step step
  pub done : Went old new (step ∷ []) ⊎ Rested old new (step ∷ [])

-- a fault came before or within a step
pub record StepHalted (old new : View) (coming coming' : Option (List Step)) : Type 0 where
  pub steps : List Step
  pub takes : Takes coming coming' steps
  pub halted : Halted old new steps

-- nothing more is to come, if that is known
abbrev pub IsOver : Option (List Step) → Type 0
IsOver coming = coming ≡ option_map (λ steps. []) coming

-- what one call did
abbrev pub Stepped : HubStep → (old new : View) → (coming coming' : Option (List Step)) → (taken taken' : ℕ) → Type 0
Stepped step.Taken old new coming coming' taken taken' = StepTaken old new coming coming' taken taken'
Stepped step.Over old new coming coming' taken taken' = Went old new [] × (coming' ≡ coming) × IsOver coming' × (taken' ≡ taken)
Stepped (step.Fault fault) old new coming coming' taken taken' = StepHalted old new coming coming'

-- what a step led to that a fault ended, or none
abbrev pub step_after : Option HostFault → HubStep
step_after (Some fault) = step.Fault fault
step_after None = step.Taken

-- ---- the whole run

-- All replies so far: those that were let out, whose records are in the journal; then those of this wake-up.
pub record SoFar (start now : View) (steps : List Step) : Type 0 where
  pub mid : Progress
  pub one : List Step
  pub two : List Step
  pub split : steps ≡ one ++ two
  pub first : Stretch start.progress mid one
  pub second : Stretch mid now.progress two
  pub settled : Extends mid.world.content now.stored
  pub out : (sent : List Piece) → start.out sent [] → now.out (sent ++ map piece_of first.frames) (map piece_of second.frames)
  pub lines : Grows start.has now.has (lines_of (first.endings ++ second.endings))

-- the same over the steps that were taken from those to come, and what they count toward the budget
pub record Ran (start now : View) (coming coming' : Option (List Step)) (taken : ℕ) : Type 0 where
  pub steps : List Step
  pub takes : Takes coming coming' steps
  pub within : taken ≤ weight steps
  pub so_far : SoFar start now steps

-- every item of these steps was answered, every record is in the journal, and every reply was let out
pub record AllSettled (start now : View) (steps : List Step) : Type 0 where
  pub stretch : Stretch start.progress now.progress steps
  pub none_left : now.progress.items [] ≡ []
  pub stored : now.stored ≡ now.progress.world.content
  pub out : (sent : List Piece) → start.out sent [] → now.out (sent ++ map piece_of stretch.frames) []
  pub lines : Grows start.has now.has (lines_of stretch.endings)

-- A fault ended the run. What was let out are the replies up to some moment, and the journal has the records of all of
-- them, and perhaps some that followed.
pub record Stopped (start now : View) (steps : List Step) : Type 0 where
  pub mid : Progress
  pub to : Progress
  pub held : to.world.held ≡ now.progress.world.held
  pub readings : to.world.readings ≡ now.progress.world.readings
  pub one : List Step
  pub two : List Step
  pub split : steps ≡ one ++ two
  pub first : Stretch start.progress mid one
  pub second : Stretch mid to two
  pub settled : Extends mid.world.content now.stored
  pub within : Extends now.stored to.world.content
  pub out : (sent : List Piece) → start.out sent [] → (given : List Piece) × now.out (sent ++ map piece_of first.frames) given
  pub lines : GrowsByPrefix start.has now.has (lines_of (first.endings ++ second.endings))

-- what was done over the steps that were taken, by how the run ended
abbrev pub Ends : HubEnd → (budget : ℕ) → (start now : View) → (coming : Option (List Step)) → List Step → Type 0
Ends end.Ended budget start now coming steps = AllSettled start now steps × IsOver coming
Ends end.Budget budget start now coming steps = AllSettled start now steps × (budget ≤ weight steps)
Ends (end.Stopped fault) budget start now coming steps = Stopped start now steps

-- a run over the steps that it took from those to come
pub record Serves (ended : HubEnd) (budget : ℕ) (start now : View) (coming coming' : Option (List Step)) : Type 0 where
  pub steps : List Step
  pub takes : Takes coming coming' steps
  pub ends : Ends ended budget start now coming' steps

-- a fault, or else this end
abbrev pub end_after : Option HostFault → HubEnd → HubEnd
end_after (Some fault) other = end.Stopped fault
end_after None other = other
