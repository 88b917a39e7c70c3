-- TS.ADD to an existing key is a write with the given duplicate policy, or with that of the series.
use Rattle.std.proofs.Common.{◌≡◌, ◌≢◌, ℕ, ℤ, refl, sym, ap, subst}
use Rattle.std.specs.Prelude.{Option, None, Some, Result, Ok, Err, true, false}
use Rattle.ts_spec.specs.declared.series.Policy.{Policy}
use Rattle.ts_spec.specs.Command.{Spec}
use Rattle.ts_spec.specs.Key.{Key}
use Rattle.ts_spec.specs.Keyed.{Keyed, get}
use Rattle.ts_spec.specs.Refusal as refusal
use Rattle.ts_spec.specs.Refusal.{Refusal}
use Rattle.ts_spec.specs.Response.{Count, Refused}
use Rattle.ts_spec.specs.State.{Record}
use Rattle.ts_spec.specs.Step.{Outcome, add_at, add, put_at, put_own}
use Rattle.ts_sample.specs.declared.sample.Id.{Id}
use Rattle.ts_db.specs.Faults.{refusal_of}
use Rattle.ts_db.specs.PutBy.{put_with_policy_at, put_with_policy}
use Rattle.ts_db.specs.DbState.{DbState, DbView, AnswersCount, IsDone, IsAnswer}
use Rattle.ts_db.specs.declared.fault.DbFault.{DbFault}
use Rattle.ts_db.specs.declared.fault.DbFault.TheVariants.{KeyExists, NoKey, KeysFull, LabelsFull, TooOld, Duplicate, OutOfRange, BeforeLast, SamplesFull, DeleteBeyondRetention, SameKey, SourceIsDest, DestIsSource, DestHasSource, RulesSpent, RulesFull, NoRule, Memory}

-- only one error says that the key does not exist
only_missing : (ids : Keyed Id) (fault : DbFault) → refusal_of ids fault ≡ Some refusal.NoKey → fault ≡ NoKey
only_missing ids KeyExists is = absurd (cc is)
only_missing ids NoKey is = refl
only_missing ids KeysFull is = absurd (cc is)
only_missing ids LabelsFull is = absurd (cc is)
only_missing ids TooOld is = absurd (cc is)
only_missing ids Duplicate is = absurd (cc is)
only_missing ids OutOfRange is = absurd (cc is)
only_missing ids BeforeLast is = absurd (cc is)
only_missing ids (SamplesFull id true) is = absurd (cc is)
only_missing ids (SamplesFull id false) is = absurd (cc is)
only_missing ids DeleteBeyondRetention is = absurd (cc is)
only_missing ids SameKey is = absurd (cc is)
only_missing ids SourceIsDest is = absurd (cc is)
only_missing ids DestIsSource is = absurd (cc is)
only_missing ids DestHasSource is = absurd (cc is)
only_missing ids RulesSpent is = absurd (cc is)
only_missing ids RulesFull is = absurd (cc is)
only_missing ids NoRule is = absurd (cc is)
only_missing ids (Memory e) is = absurd (cc is)

module _ (key : Key) (t : ℕ) (v : ℤ) (on : Option Policy) (spec : Spec) where
  -- a write to an existing key, and TS.ADD
  abbrev pub puts : DbState → Outcome
  puts h = put_with_policy h.limits h.state key t v on

  abbrev pub adds : DbState → Outcome
  adds h = add h.limits h.state key t v on spec

  done_as : (time : ℕ) (from : DbState) (new : DbView) (o : Option Record)
      → IsDone (Count time) from.limits (put_with_policy_at from.limits from.state key t v on o) new → IsDone (Count time) from.limits (add_at from.limits from.state key t v on spec o) new
  done_as time from new None done = absurd (cc done.says)
  done_as time from new (Some d) done = done

  refused_as : (r : Option Refusal) (from : DbState) (o : Option Record) → r ≢ Some refusal.NoKey
      → IsAnswer r from.state (put_with_policy_at from.limits from.state key t v on o) → IsAnswer r from.state (add_at from.limits from.state key t v on spec o)
  refused_as None from None other is = absurd is
  refused_as None from (Some d) other is = is
  refused_as (Some r) from None other is =
      let same : Refused refusal.NoKey ≡ Refused r = ap (λ (s : Outcome). s.response) is in
      let missing : refusal.NoKey ≡ r = cc same in
      absurd (other (ap (λ (x : Refusal). Some x) (sym missing)))
  refused_as (Some r) from (Some d) other is = is

  -- a time was returned, or an error other than that the key does not exist
  pub added : (old new : DbView) (time : ℕ) → AnswersCount old puts (Ok time) new → AnswersCount old adds (Ok time) new
  added old new time answers = λ from stands. done_as time from new (get key from.state) (answers from stands)

  pub not_added : (old new : DbView) (fault : DbFault) → fault ≢ NoKey → AnswersCount old puts (Err fault) new → AnswersCount old adds (Err fault) new
  not_added old new fault there answers = (
    (λ from stands. refused_as (refusal_of old.ids fault) from (get key from.state) (λ missing. there (only_missing old.ids fault missing)) (answers.0 from stands)),
    answers.1,
  )

-- ---- without a policy of its own

own : (h : DbState) (key : Key) (t : ℕ) (v : ℤ) (o : Option Record) → put_with_policy_at h.limits h.state key t v None o ≡ put_at h.limits h.state key t v o
own h key t v None = refl
own h key t v (Some d) = refl

-- the write uses the policy of the series
pub by-own : (old : DbView) (key : Key) (t : ℕ) (v : ℤ) (r : Result ℕ DbFault) (new : DbView) → AnswersCount old (λ h. put_with_policy h.limits h.state key t v None) r new
    → AnswersCount old (λ h. put_own h.limits h.state key t v) r new
by-own old key t v r new = subst (λ (step : DbState → Outcome). AnswersCount old step r new) (λ i h. own h key t v (get key h.state) i)
