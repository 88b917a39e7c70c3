-- The response to a triple of TS.MADD, and that a failed triple changes nothing.
use Rattle.std.proofs.Common.{ℕ, Bool, true, false, if◌then◌else◌, [], ◌∷◌, refl, sym}
use Rattle.std.proofs.lemmas.Bool.{false≢true}
use Rattle.std.specs.Prelude.{nat_lt, ℤ, Option, None, Some, Result, Ok, Err}
use Rattle.ts_spec.specs.declared.command.At.{At}
use Rattle.ts_spec.specs.declared.limits.Limits.{Limits}
use Rattle.ts_spec.specs.declared.series.Merge.{Merge}
use Rattle.ts_spec.specs.declared.series.Merge.TheVariants.{By}
use Rattle.ts_spec.specs.Key.{Key}
use Rattle.ts_spec.specs.Keyed.{get}
use Rattle.ts_spec.specs.Ignoring.{ignored}
use Rattle.ts_spec.specs.Refusal.{Fault, Refusal, NoKey, TooOld, SamplesFull, DestinationFull}
use Rattle.ts_spec.specs.ResolvedCommands.{AnswersOneItem}
use Rattle.ts_spec.specs.Response.{Wrote, IsWrong, IsRefused, Count}
use Rattle.ts_spec.specs.Rules.{Merged, Refuse, KeepOld, To, merge, shown, written}
use Rattle.ts_spec.specs.State.{Record, State, edge}
use Rattle.ts_spec.specs.Outcome.{Outcome, refused, answer_only, time_of}
use Rattle.ts_spec.specs.Writing.{shows_more, first_full, rules_at, unless_full, within_destinations, value_at, unless_ignored, write_merged, write, put_at, triple_step}

refusal-told : (m : State) (refusal : Refusal) → AnswersOneItem m (refused m refusal)
refusal-told m refusal = record { item = IsRefused refusal; told = refl; stays = λ e. refl }

count-told : (m n : State) (t : ℕ) → AnswersOneItem m (record { state = n; response = Count t })
count-told m n t = record { item = Wrote t; told = refl; stays = λ e. absurd (false≢true (sym e)) }

either : (m : State) (test : Bool) (one other : Outcome) → AnswersOneItem m one → AnswersOneItem m other → AnswersOneItem m (if test then one else other)
either m true one other h k = h
either m false one other h k = k

full-told : (m : State) (full : Option Key) (done : Outcome) → AnswersOneItem m done → AnswersOneItem m (unless_full m full done)
full-told m None done h = h
full-told m (Some key) done h = refusal-told m (DestinationFull key)

ignored-told : (m : State) (last : Option ℕ) (done : Outcome) → AnswersOneItem m done → AnswersOneItem m (unless_ignored m last done)
ignored-told m None done h = h
ignored-told m (Some t) done h = count-told m m t

merged-told : (limits : Limits) (m : State) (key : Key) (t : ℕ) (met : Merged) → AnswersOneItem m (write_merged limits m key t met)
merged-told limits m key t (Refuse refusal) = refusal-told m refusal
merged-told limits m key t KeepOld = count-told m m t
merged-told limits m key t (To v) =
    let done : Outcome = record { state = written key t v m; response = Count t } in
    either m (shows_more limits.samples done.state key) (refused m SamplesFull) (within_destinations limits m key done) (refusal-told m SamplesFull)
    (full-told m (first_full limits.samples done.state (rules_at (get key m))) done (count-told m (written key t v m) t))

write-told : (limits : Limits) (m : State) (key : Key) (d : Record) (how : Merge) (t : ℕ) (v : ℤ) → AnswersOneItem m (write limits m key d how t v)
write-told limits m key d how t v =
    let met : Merged = merge how (value_at t (shown m key)) v in
    either m (nat_lt t (edge d)) (refused m TooOld) (unless_ignored m (ignored m key d t v) (write_merged limits m key t met)) (refusal-told m TooOld)
    (ignored-told m (ignored m key d t v) (write_merged limits m key t met) (merged-told limits m key t met))

put-told : (limits : Limits) (m : State) (key : Key) (t : ℕ) (v : ℤ) (there : Option Record) → AnswersOneItem m (put_at limits m key t v there)
put-told limits m key t v None = refusal-told m NoKey
put-told limits m key t v (Some d) = write-told limits m key d (By d.options.policy) t v

wrong-told : (m : State) (fault : Fault) → AnswersOneItem m (answer_only m (Rattle.ts_spec.specs.Response.Items (IsWrong fault ∷ [])))
wrong-told m fault = record { item = IsWrong fault; told = refl; stays = λ e. refl }

pub triple-told : (limits : Limits) (m : State) (reading : ℕ) (key : Key) (at : Result At Fault) (v : Result ℤ Fault) → AnswersOneItem m (triple_step limits m reading key at v)
triple-told limits m reading key (Err fault) v = wrong-told m fault
triple-told limits m reading key (Ok at) (Err fault) = wrong-told m fault
triple-told limits m reading key (Ok at) (Ok v) = put-told limits m key (time_of reading at) v (get key m)
