-- A whole run over the steps of a hub.
use Rattle.std.proofs.Common.{◌≡◌, ℕ, ◌+◌, ◌≤◌, List, [], ◌∷◌, ◌++◌, ◌⊎◌, refl, sym, ap, ◌∙◌, subst, arith, append_assoc, append-nil, inl, inr}
use Rattle.std.specs.Prelude.{Option, None, Some}
use Rattle.std.specs.Option.{option_map}
use Rattle.ts_io.specs.declared.hub.Step.{Step}
use Rattle.ts_host.specs.Serving.{Went, Rested, StepTaken, StepHalted, SoFar, Ran, Serves, IsOver}
use Rattle.ts_host.specs.Shown.{View}
use Rattle.ts_host.specs.Steps.{Extends, Takes, weight}
use Rattle.ts_host.specs.declared.host.HostFault.{HostFault}
use Rattle.ts_host.specs.declared.serving.HubEnd.TheVariants as end
use Rattle.ts_host.proofs.Running.{nothing_yet, went_so_far, rested_so_far, halted_so_far, settled_so_far}
use Rattle.ts_host.proofs.Stepping.{takes_none}

weight_append : (one two : List Step) → weight (one ++ two) ≡ weight one + weight two
weight_append [] two = omega arith
weight_append (step ∷ one) two = omega (arith, weight_append one two)

takes_on : (old mid new : Option (List Step)) (one two : List Step) → Takes old mid one → Takes mid new two → Takes old new (one ++ two)
takes_on old mid None one two first second = first ∙ ap (λ (o : Option (List Step)). option_map (λ rest. one ++ rest) o) second
takes_on old mid (Some rest) one two first second =
    first ∙ ap (λ (o : Option (List Step)). option_map (λ rest. one ++ rest) o) second ∙ ap (λ (l : List Step). Some l) (sym (append_assoc one two rest))

pub ran_none : (start : View) (coming : Option (List Step)) → Extends start.progress.world.content start.stored → Ran start start coming coming 0
ran_none start coming settled = record { steps = []; takes = takes_none coming coming refl; within = omega arith; so_far = nothing_yet start settled }

module _ (start mid : View) (coming coming' : Option (List Step)) (taken : ℕ) (before : Ran start mid coming coming' taken) where
  -- one step more
  pub ran_on : (now : View) (coming'' : Option (List Step)) (taken' : ℕ) → StepTaken mid now coming' coming'' taken taken' → Ran start now coming coming'' taken'
  ran_on now coming'' taken' after = go after.done
    where
      bound : taken' ≤ weight (before.steps ++ after.step ∷ [])
      bound =
          let had = before.within in
          let more = after.bound in
          omega (arith, had, more, weight_append before.steps (after.step ∷ []))

      ran : SoFar start now (before.steps ++ after.step ∷ []) → Ran start now coming coming'' taken'
      ran so_far = record {
        steps = before.steps ++ after.step ∷ [];
        takes = takes_on coming coming' coming'' before.steps (after.step ∷ []) before.takes after.takes;
        within = bound;
        so_far = so_far;
      }

      go : Went mid now (after.step ∷ []) ⊎ Rested mid now (after.step ∷ []) → Ran start now coming coming'' taken'
      go (inl went) = ran (went_so_far start mid before.steps before.so_far now (after.step ∷ []) went)
      go (inr rested) = ran (rested_so_far start mid before.steps before.so_far now (after.step ∷ []) rested)

  -- a fault ended the run
  pub ran_halted : (fault : HostFault) (budget : ℕ) (now : View) (coming'' : Option (List Step)) → StepHalted mid now coming' coming'' → Serves (end.Stopped fault) budget start now coming coming''
  ran_halted fault budget now coming'' after = record {
    steps = before.steps ++ after.steps;
    takes = takes_on coming coming' coming'' before.steps after.steps before.takes after.takes;
    ends = halted_so_far start mid before.steps before.so_far now after.steps after.halted;
  }

  -- the budget is used up, and the last wake-up was settled
  pub ran_out : (budget : ℕ) (now : View) → budget ≤ taken → Rested mid now [] → now.progress.items [] ≡ [] → Serves end.Budget budget start now coming coming'
  ran_out budget now spent after none = record {
    steps = before.steps;
    takes = before.takes;
    ends = (settled_so_far start mid before.steps before.so_far now after none, omega (arith, spent, before.within));
  }

  -- nothing more is to come, and the last wake-up was settled
  pub ran_over : (budget : ℕ) (now : View) → IsOver coming' → Rested mid now [] → now.progress.items [] ≡ [] → Serves end.Ended budget start now coming coming'
  ran_over budget now over after none = record {
    steps = before.steps;
    takes = before.takes;
    ends = (settled_so_far start mid before.steps before.so_far now after none, over);
  }

  -- the hub had nothing more
  pub ran_quiet : (now : View) → Went mid now [] → Ran start now coming coming' taken
  ran_quiet now went = record {
    steps = before.steps;
    takes = before.takes;
    within = before.within;
    so_far = subst (λ (l : List Step). SoFar start now l) (append-nil before.steps) (went_so_far start mid before.steps before.so_far now [] went);
  }
