-- Taking the requests of a journal one after another.
use Rattle.std.specs.Prelude.{Option, None, Some}
use Rattle.std.proofs.Common.{◌≡◌, Bool, true, false, ℕ, List, [], ◌++◌, refl, sym, ◌∙◌, ap, subst}
use Rattle.ts_resp.specs.Reading.{Reading, stream_of}
use Rattle.ts_spec.specs.State.{State}
use Rattle.ts_spec.specs.declared.limits.Limits.{Limits}
use Rattle.ts_db.specs.DbState.{DbState, DbView, Simulates}
use Rattle.ts_journal.specs.Loading.{BreaksAt}
use Rattle.ts_execution.specs.JournalReplay.{loads_by, loads, rest_of, LoadsOn, LoadsIf}
use Rattle.ts_execution.specs.Stages.{load_at, rest_at, IsNextChange}
use Rattle.ts_execution.specs.declared.next_change.NextChange.TheVariants as found
use Rattle.ts_execution.specs.declared.load_state.Loading.{Loading}
use Rattle.ts_execution.specs.declared.stage.Stage.{Stage}
use Rattle.ts_execution.proofs.Carried.{carries_none, carries_as, carries_then}

-- ---- all requests

-- the journal did not break, so its requests decide
pub loads-whole : (limits : Limits) (l : Loading) (m : State) (size : ℕ) (more : List ℕ) → l.broken ≡ None → loads limits l m size more ≡ load_at l.stage limits m l.end size (stream_of l.reader more)
loads-whole limits l m size more none = ap (λ (b : Option ℕ). loads_by b limits l m size more) none

-- what loads and what is left, of these parts
load-of : (limits : Limits) (m : State) (size : ℕ) (more : List ℕ) (l : Loading) (s : Stage) (end : ℕ) (r : Reading) → l.stage ≡ s → l.end ≡ end → l.reader ≡ r
    → load_at l.stage limits m l.end size (stream_of l.reader more) ≡ load_at s limits m end size (stream_of r more)
load-of limits m size more l s end r is_stage is_end is_reader =
    ap (λ (t : Stage). load_at t limits m l.end size (stream_of l.reader more)) is_stage
    ∙ ap (λ (e : ℕ). load_at s limits m e size (stream_of l.reader more)) is_end
    ∙ ap (λ (q : Reading). load_at s limits m end size (stream_of q more)) is_reader

rest-of : (more : List ℕ) (l : Loading) (s : Stage) (end : ℕ) (r : Reading) → l.stage ≡ s → l.end ≡ end → l.reader ≡ r → rest_of l more ≡ rest_at s end (stream_of r more)
rest-of more l s end r is_stage is_end is_reader =
    ap (λ (t : Stage). rest_at t l.end (stream_of l.reader more)) is_stage
    ∙ ap (λ (e : ℕ). rest_at s e (stream_of l.reader more)) is_end
    ∙ ap (λ (q : Reading). rest_at s end (stream_of q more)) is_reader

pub loads-none : (l : Loading) (db_view : DbView) → Simulates db_view db_view (λ from to. LoadsOn l l [] from to)
loads-none l db_view = carries_none db_view (λ from to. LoadsOn l l [] from to)
    (λ from stands. record { limits = refl; on = λ size more. refl; whole = λ none. none; rest = λ none more. refl })

module _ (first now : Loading) (begun : first.broken ≡ None) (none : now.broken ≡ None) (stage' : Stage) (reader' : Reading) (bytes : List ℕ) (a b c : DbView)
    (before : Simulates a b (λ from to. LoadsOn first now bytes from to)) where
  -- one more request was taken
  pub loads-more : (new : Loading) (end' : ℕ) → new.reader ≡ reader' → new.stage ≡ stage' → new.end ≡ end' → new.broken ≡ None
      → Simulates b c (λ from to. IsNextChange (found.Change end') now.stage stage' now.reader reader' now.end from to) → Simulates a c (λ from to. LoadsOn first new bytes from to)
  loads-more new end' reader staged end whole one =
      carries_then a b c (λ from to. LoadsOn first now bytes from to) (λ from to. IsNextChange (found.Change end') now.stage stage' now.reader reader' now.end from to)
      (λ from to. LoadsOn first new bytes from to)
      (λ from mid to was is. record {
        limits = is.limits ∙ was.limits;
        on = λ size more. was.on size more ∙ loads-whole from.limits now mid.state size more none
            ∙ subst (λ (l : Limits). load_at now.stage l mid.state now.end size (stream_of now.reader more) ≡ load_at stage' l to.state end' size (stream_of reader' more)) was.limits (is.on size more)
            ∙ sym (load-of from.limits to.state size more new stage' end' reader' staged end reader)
            ∙ sym (loads-whole from.limits new to.state size more whole);
        whole = λ _. begun;
        rest = λ _ more. was.rest none more ∙ is.rest more ∙ sym (rest-of more new stage' end' reader' staged end reader);
      }) before one

  -- no complete request is left
  pub loads-all : (new : Loading) → new.reader ≡ reader' → new.stage ≡ stage' → new.end ≡ now.end → new.broken ≡ None
      → Simulates b c (λ from to. IsNextChange found.Nothing now.stage stage' now.reader reader' now.end from to) → Simulates a c (λ from to. LoadsOn first new bytes from to)
  loads-all new reader staged end whole one =
      carries_then a b c (λ from to. LoadsOn first now bytes from to) (λ from to. IsNextChange found.Nothing now.stage stage' now.reader reader' now.end from to)
      (λ from to. LoadsOn first new bytes from to)
      (λ from mid to was is. record {
        limits = ap (λ (h : DbState). h.limits) is.0 ∙ was.limits;
        on = λ size more. was.on size more ∙ loads-whole from.limits now mid.state size more none
            ∙ ap (load_at now.stage from.limits mid.state now.end size) (sym (is.2 more))
            ∙ ap (λ (s : Stage). load_at s from.limits mid.state now.end size (stream_of reader' more)) (sym is.1)
            ∙ ap (λ (h : DbState). load_at stage' from.limits h.state now.end size (stream_of reader' more)) (sym is.0)
            ∙ sym (load-of from.limits to.state size more new stage' now.end reader' staged end reader)
            ∙ sym (loads-whole from.limits new to.state size more whole);
        whole = λ _. begun;
        rest = λ _ more. was.rest none more ∙ ap (rest_at now.stage now.end) (sym (is.2 more))
            ∙ ap (λ (s : Stage). rest_at s now.end (stream_of reader' more)) (sym is.1) ∙ sym (rest-of more new stage' now.end reader' staged end reader);
      }) before one

  -- the journal breaks
  pub loads-broken : (new : Loading) (place : ℕ) → new.broken ≡ Some place
      → Simulates b c (λ from to. IsNextChange (found.Broken place) now.stage stage' now.reader reader' now.end from to) → Simulates a c (λ from to. LoadsOn first new bytes from to)
  loads-broken new place broken one =
      carries_then a b c (λ from to. LoadsOn first now bytes from to) (λ from to. IsNextChange (found.Broken place) now.stage stage' now.reader reader' now.end from to)
      (λ from to. LoadsOn first new bytes from to)
      (λ from mid to was is. record {
        limits = is.0 ∙ was.limits;
        on = λ size more. was.on size more ∙ loads-whole from.limits now mid.state size more none
            ∙ subst (λ (l : Limits). load_at now.stage l mid.state now.end size (stream_of now.reader more) ≡ BreaksAt place) was.limits (is.1 size more)
            ∙ ap (λ (o : Option ℕ). loads_by o from.limits new to.state size more) (sym broken);
        whole = λ _. begun;
        rest = λ whole more. (let two : Some place ≡ None = sym broken ∙ whole in absurd cc);
      }) before one

-- ---- pieces

-- a piece was fed, and the requests that it completes were taken
pub loads-fed : (old fed new : Loading) (bytes : List ℕ) (a b : DbView) → old.broken ≡ None → fed.broken ≡ None → fed.end ≡ old.end → fed.stage ≡ old.stage
    → ((more : List ℕ) → stream_of fed.reader more ≡ stream_of old.reader (bytes ++ more)) → Simulates a b (λ from to. LoadsOn fed new [] from to) → Simulates a b (λ from to. LoadsOn old new bytes from to)
loads-fed old fed new bytes a b none whole end staged stream carries =
    carries_as a b (λ from to. LoadsOn fed new [] from to) (λ from to. LoadsOn old new bytes from to)
    (λ from to is. record {
      limits = is.limits;
      on = λ size more. loads-whole from.limits old from.state size (bytes ++ more) none
          ∙ ap (load_at old.stage from.limits from.state old.end size) (sym (stream more))
          ∙ sym (load-of from.limits from.state size more fed old.stage old.end fed.reader staged end refl)
          ∙ sym (loads-whole from.limits fed from.state size more whole) ∙ is.on size more;
      whole = λ _. none;
      rest = λ still more. ap (rest_at old.stage old.end) (sym (stream more)) ∙ sym (rest-of more fed old.stage old.end fed.reader staged end refl) ∙ is.rest still more;
    }) carries

-- by whether there was memory
pub loads-fed-if : (done : Bool) (old fed new : Loading) (bytes : List ℕ) (a b : DbView) → old.broken ≡ None → fed.broken ≡ None → fed.end ≡ old.end → fed.stage ≡ old.stage
    → ((more : List ℕ) → stream_of fed.reader more ≡ stream_of old.reader (bytes ++ more)) → Simulates a b (λ from to. LoadsIf done fed new [] from to) → Simulates a b (λ from to. LoadsIf done old new bytes from to)
loads-fed-if true old fed new bytes a b none whole end staged stream carries = loads-fed old fed new bytes a b none whole end staged stream carries
loads-fed-if false old fed new bytes a b none whole end staged stream carries =
    carries_as a b (λ from to. LoadsIf false fed new [] from to) (λ from to. LoadsIf false old new bytes from to) (λ from to lost. tt) carries

pub loads-done : (done : Bool) (old new : Loading) (bytes : List ℕ) (a b : DbView) → done ≡ true → Simulates a b (λ from to. LoadsIf done old new bytes from to) → Simulates a b (λ from to. LoadsOn old new bytes from to)
loads-done done old new bytes a b is carries = subst (λ (d : Bool). Simulates a b (λ from to. LoadsIf d old new bytes from to)) is carries

-- the journal broke before, so a piece changes nothing
pub loads-past : (l : Loading) (place : ℕ) (bytes : List ℕ) (db_view : DbView) → l.broken ≡ Some place → Simulates db_view db_view (λ from to. LoadsOn l l bytes from to)
loads-past l place bytes db_view broken = carries_none db_view (λ from to. LoadsOn l l bytes from to)
    (λ from stands. record {
      limits = refl;
      on = λ size more. ap (λ (o : Option ℕ). loads_by o from.limits l from.state size (bytes ++ more)) broken ∙ ap (λ (o : Option ℕ). loads_by o from.limits l from.state size more) (sym broken);
      whole = λ none. none;
      rest = λ none more. (let two : Some place ≡ None = sym broken ∙ none in absurd cc);
    })
