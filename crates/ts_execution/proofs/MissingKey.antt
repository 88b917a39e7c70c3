-- A write with a policy reports a missing key only if the key does not exist, and then TS.ADD creates it.
use Rattle.std.proofs.Common.{◌≡◌, ◌≢◌, ℕ, ℤ, Bool, true, false, [], ◌∷◌, length, refl, sym, ◌∙◌, ap, subst, arith}
use Rattle.std.specs.Prelude.{nat_lt, nat_le, int_lt, ◌+ℤ◌, unsigned_abs, if◌then◌else◌, Option, None, Some}
use Rattle.std.specs.Option.{unwrap_or}
use Rattle.std.proofs.lemmas.Bool.Decides.{nat_tests}
use Rattle.ts_spec.specs.declared.limits.Limits.{Limits}
use Rattle.ts_spec.specs.declared.series.Policy.{Policy}
use Rattle.ts_spec.specs.declared.series.Policy.TheVariants.{Block, First, Last, Min, Max, Sum}
use Rattle.ts_spec.specs.declared.series.Merge.TheVariants.{By}
use Rattle.ts_spec.specs.Command.{Spec}
use Rattle.ts_spec.specs.Key.{Key}
use Rattle.ts_spec.specs.Keyed.{get, count_keys, with_key}
use Rattle.ts_spec.specs.Refusal.{Refusal, NoKey, TooOld, OutOfRange, SamplesFull, LabelsFull, KeysFull}
use Rattle.ts_spec.specs.Response.{Response, Count, Refused}
use Rattle.ts_spec.specs.Rules.{shown, written, Merged, Refuse, KeepOld, To, merge}
use Rattle.ts_spec.specs.Merging.{within_bound}
use Rattle.ts_spec.specs.State.{Record, State, edge}
use Rattle.ts_spec.specs.Step.{Outcome, refused, fresh, first_full, rules_at, unless_full, shows_more, within_destinations, write_merged, value_at, unless_ignored, write, add_at}
use Rattle.ts_spec.specs.Ignoring.{ignored}
use Rattle.ts_spec.specs.Value.{bound}
use Rattle.ts_db.specs.DbState.{AllowsOutOfMemory}
use Rattle.ts_db.specs.PutBy.{put_with_policy_at}

-- the response is not that the key does not exist
abbrev Knows : Response → Type 0
Knows response = response ≡ Refused NoKey → ⊥

other : (r : Refusal) → r ≢ NoKey → Knows (Refused r)
other r apart is = let same : r ≡ NoKey = cc is in apart same

choice : (b : Bool) (x y : Outcome) → Knows x.response → Knows y.response → Knows (if b then x else y).response
choice true x y f g = f
choice false x y f g = g

module _ (limits : Limits) (m : State) (key : Key) (t : ℕ) where
  abbrev after : ℤ → Outcome
  after v = record { state = written key t v m; response = Count t }

  kept_within : (v : ℤ) → Knows (write_merged limits m key t (To v)).response
  kept_within v =
      let done = after v in
      choice (shows_more limits.samples done.state key) (refused m SamplesFull) (within_destinations limits m key done) (other SamplesFull (λ is. absurd (cc is)))
      (go (first_full limits.samples done.state (rules_at (get key m))))
    where
      go : (full : Option Key) → Knows (unless_full m full (after v)).response
      go None is = absurd (cc is)
      go (Some k) is = absurd (cc is)

  merged : (what : Merged) → what ≢ Refuse NoKey → Knows (write_merged limits m key t what).response
  merged (Refuse r) apart is = let same : r ≡ NoKey = cc is in apart (ap (λ (x : Refusal). Refuse x) same)
  merged KeepOld apart is = absurd (cc is)
  merged (To v) apart is = kept_within v is

  bounded : (v : ℤ) → within_bound v ≢ Refuse NoKey
  bounded v = go (nat_le (unsigned_abs v) bound)
    where
      go : (b : Bool) → (if b then To v else Refuse OutOfRange) ≢ Refuse NoKey
      go true is = absurd (cc is)
      go false is = absurd (cc is)

  kept : (b : Bool) (v : ℤ) → (if b then To v else KeepOld) ≢ Refuse NoKey
  kept true v is = absurd (cc is)
  kept false v is = absurd (cc is)

  met : (policy : Policy) (old : Option ℤ) (v : ℤ) → merge (By policy) old v ≢ Refuse NoKey
  met policy None v is = absurd (cc is)
  met Block (Some old) v is = absurd (cc is)
  met First (Some old) v is = absurd (cc is)
  met Last (Some old) v is = absurd (cc is)
  met Min (Some old) v is = kept (int_lt v old) v is
  met Max (Some old) v is = kept (int_lt old v) v is
  met Sum (Some old) v is = bounded (old +ℤ v) is

  unless : (o : Option ℕ) (step : Outcome) → Knows step.response → Knows (unless_ignored m o step).response
  unless None step f is = f is
  unless (Some last) step f is = absurd (cc is)

  writes : (policy : Policy) (d : Record) (v : ℤ) → Knows (write limits m key d (By policy) t v).response
  writes policy d v =
      let step = write_merged limits m key t (merge (By policy) (value_at t (shown m key)) v) in
      choice (nat_lt t (edge d)) (refused m TooOld) (unless_ignored m (ignored m key d t v) step) (other TooOld (λ is. absurd (cc is)))
      (unless (ignored m key d t v) step (merged (merge (By policy) (value_at t (shown m key)) v) (met policy (value_at t (shown m key)) v)))

  pub missing : (v : ℤ) (on : Option Policy) (o : Option Record) → put_with_policy_at limits m key t v on o ≡ refused m NoKey → o ≡ None
  missing v on None is = refl
  missing v on (Some d) is = absurd (writes (unwrap_or on d.options.policy) d v (ap (λ (s : Outcome). s.response) is))

no-fewer : (n : ℕ) → nat_lt n 0 ≡ false
no-fewer n = grind (arith, nat_tests)

-- the step of TS.ADD for a missing key without labels, by whether one more key is allowed
module _ (limits : Limits) (m : State) (key : Key) (t : ℕ) (v : ℤ) (on : Option Policy) (spec : Spec) (none : spec.labels ≡ []) where
  abbrev made : Outcome
  made = record { state = with_key key (fresh spec (record { time = t; value = v; made = 0 } ∷ []) (Some t)) m; response = Count t }

  by-room : (o : Option Record) (b : Bool) → o ≡ None → b ≡ nat_le limits.keys (count_keys m) → add_at limits m key t v on spec o ≡ (if b then refused m KeysFull else made)
  by-room o b missing is =
      ap (add_at limits m key t v on spec) missing
      ∙ ap (λ c. if c then refused m LabelsFull else (if nat_le limits.keys (count_keys m) then refused m KeysFull else made)) few
      ∙ ap (λ c. if c then refused m KeysFull else made) (sym is)
    where
      few : nat_lt limits.labels (length spec.labels) ≡ false
      few = ap (λ ls. nat_lt limits.labels (length ls)) none ∙ no-fewer limits.labels

  pub add-full : (o : Option Record) (b : Bool) → o ≡ None → b ≡ nat_le limits.keys (count_keys m) → b ≡ true → add_at limits m key t v on spec o ≡ refused m KeysFull
  add-full o b missing is full = by-room o b missing is ∙ ap (λ c. if c then refused m KeysFull else made) full

  pub add-yields : (o : Option Record) (b : Bool) → o ≡ None → b ≡ nat_le limits.keys (count_keys m) → b ≡ false → AllowsOutOfMemory (add_at limits m key t v on spec o).response
  add-yields o b missing is room =
      subst (λ (s : Outcome). AllowsOutOfMemory s.response) (sym (by-room o b missing is ∙ ap (λ c. if c then refused m KeysFull else made) room)) tt
