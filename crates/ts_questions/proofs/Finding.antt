-- What the database finds for a query.
use Rattle.std.proofs.Common.{◌≡◌, Bool, true, false, ℕ, List, [], ◌∷◌, refl, sym, ◌∙◌, ap, subst}
use Rattle.std.specs.Prelude.{⊤, Option, None, Some, is_some, Ok, Err}
use Rattle.std.proofs.lemmas.Bool.{false≢true}
use Rattle.ts_spec.specs.declared.limits.Limits.{Limits}
use Rattle.ts_spec.specs.Answer.{answer}
use Rattle.ts_spec.specs.Command.{Query}
use Rattle.ts_spec.specs.Key.{Key}
use Rattle.ts_spec.specs.Keyed.{get}
use Rattle.ts_spec.specs.Queries.{asked, rows_response, range_response}
use Rattle.ts_spec.specs.Rules.{open_of, opened, shown_by, shown_at, latest_at, closed_rows}
use Rattle.ts_spec.specs.Sample.{Point, IsAscending, first_of, last_of}
use Rattle.ts_spec.specs.State.{Rule, Record, State, rule_into, edge}
use Rattle.ts_spec.specs.Valid.{IsValid}
use Rattle.ts_spec.proofs.Samples.{ascending-times, ascending-put_all}
use Rattle.ts_range.specs.AskedSamples.{times_of}
use Rattle.ts_db.specs.declared.fault.DbFault.TheVariants.{NoKey}
use Rattle.ts_spec.specs.StoredSeries.{StoredKeys}
use Rattle.ts_spec.specs.StoredQueries.{stored_asked}
use Rattle.ts_spec.proofs.StoredAsked.{asked-kept}
use Rattle.ts_db.specs.DbState.{DbState, DbView, Represents, RepresentsSome, Finds, ends_of}
use Rattle.ts_questions.specs.Answering.{IsReplyText}

-- an answer that was found
pub found : {T : Type 0} (o : Option Record) (what : T → Type 0) (x : T) → Finds o what (Ok x) → what x
found None what x finds = absurd finds
found (Some d) what x finds = finds

-- the times of the ends, said in two ways
pub ends_are : (ps : List Point) → ends_of ps ≡ times_of (first_of ps) (last_of ps)
ends_are [] = refl
ends_are (p ∷ ps) = refl

-- what a key shows is ascending
shows_ascending : (d : Record) → IsAscending d.plain → (r : Option Rule) → IsAscending (shown_by r d)
shows_ascending d rises None = rises
shows_ascending d rises (Some r) = ascending-times _ _ (ascending-put_all (closed_rows r d.born) d.plain rises)

pub asked_ascending : (limits : Limits) (m : State) (with_open : Bool) (k : Key) → IsValid limits m → IsAscending (asked m with_open k)
asked_ascending limits m true k valid = go (get k m) refl (rule_into m k)
  where
    go : (o : Option Record) → get k m ≡ o → (r : Option Rule) → IsAscending (latest_at o r)
    go None is r = tt
    go (Some d) is None = (valid.sound k d is).ascending
    go (Some d) is (Some r) = ascending-put_all (opened r (edge d) d.born (open_of r)) (shown_by (Some r) d) (shows_ascending d (valid.sound k d is).ascending (Some r))
asked_ascending limits m false k valid = go (get k m) refl (rule_into m k)
  where
    go : (o : Option Record) → get k m ≡ o → (r : Option Rule) → IsAscending (shown_at o r)
    go None is r = tt
    go (Some d) is r = shows_ascending d (valid.sound k d is).ascending r

-- what is kept of a key shows ascending samples too
pub kept_ascending : (db_view : DbView) → RepresentsSome db_view (λ held. ⊤) → (latest : Bool) (k : Key) → IsAscending (stored_asked db_view.keys latest k)
kept_ascending db_view w latest k =
    let m = w.to.state in
    subst (λ (keys : StoredKeys). IsAscending (stored_asked keys latest k)) (sym w.stands.state.kept)
    (subst IsAscending (sym (asked-kept m latest k)) (asked_ascending db_view.limits m latest k w.stands.state.valid))

-- what is kept of a key shows what each state that is stood for shows
pub asked_stands : (db_view : DbView) (latest : Bool) (k : Key) (from : DbState) → Represents db_view from → stored_asked db_view.keys latest k ≡ asked from.state latest k
asked_stands db_view latest k from stands = ap (λ (keys : StoredKeys). stored_asked keys latest k) stands.state.kept ∙ asked-kept from.state latest k

-- a key that is not there
pub finds_none : {T : Type 0} (o : Option Record) (what : T → Type 0) → false ≡ is_some o → Finds o what (Err NoKey)
finds_none None what here = refl
finds_none (Some d) what here = absurd (false≢true here)

-- a key that is there is answered with its rows, or that they are too many
pub answer_here : (limits : Limits) (m : State) (key : Key) (with_open : Bool) (q : Query) (o : Option Record) (written : List ℕ) → true ≡ is_some o
    → IsReplyText (rows_response (answer limits.empty_rows q (asked m with_open key))) written → IsReplyText (range_response limits m key with_open q o) written
answer_here limits m key with_open q None written here told = absurd (false≢true (sym here))
answer_here limits m key with_open q (Some d) written here told = told
