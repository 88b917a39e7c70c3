-- Loading a whole journal adds up.
use Rattle.std.specs.Prelude.{Option, None, Some, IfNone, Result, Ok, Err}
use Rattle.std.specs.Option.{unwrap_or}
use Rattle.std.specs.Io.KnownBytes.{Consumes, IsAtEnd}
use Rattle.std.proofs.KnownBytes.{Consumes-nil, Consumes-trans}
use Rattle.std.proofs.Common.{◌≡◌, ◌<◌, ◌≤◌, ◌⊎◌, inl, inr, ℕ, ◌+◌, ◌-◌, Bool, true, false, if◌then◌else◌, List, [], ◌++◌, length, drop, refl, sym, ◌∙◌, ap, subst, append_assoc, append-nil, length-append, arith}
use Rattle.std.proofs.lemmas.Bool.{le-leb, lt-leb}
use Rattle.ts_io.specs.Logs.{unread}
use Rattle.ts_resp.specs.Reading.{stream_of, ended_at, unfinished}
use Rattle.ts_spec.specs.State.{State}
use Rattle.ts_spec.specs.Wire.{Stream, Inside, ending_of, read_on, stream_at}
use Rattle.ts_spec.specs.declared.limits.Limits.{Limits}
use Rattle.ts_spec.specs.declared.wire.WireLimits.{WireLimits}
use Rattle.ts_db.specs.DbState.{DbState, DbView, Simulates}
use Rattle.ts_journal.specs.Limits.{journal_limits}
use Rattle.ts_journal.specs.Loading.{Loads, begins_as_record, unless_foreign, load_on}
use Rattle.ts_journal.proofs.Rests.{by-rest, loads-alone, rest-before, rest-among}
use Rattle.ts_journal.proofs.Unfinished.{begun-before}
use Rattle.ts_checkpoint.specs.Fronts.{front_size}
use Rattle.ts_checkpoint.specs.Loading.{load_start}
use Rattle.ts_execution.specs.JournalReplay.{loads_by, loads, rest_of, HasNoWholeRequest, IsCurrent, LoadsOn, ReplaysPiece, IsLoaded, still_record, verdict, verdict_at, verdict_in, verdict_by}
use Rattle.ts_execution.specs.Stages.{Rest, load_at, rest_at}
use Rattle.ts_execution.specs.declared.loading.LoadFault.{LoadFault}
use Rattle.ts_execution.specs.declared.loading.LoadFault.TheVariants as unloaded
use Rattle.ts_execution.specs.declared.loading.Extent.{Extent}
use Rattle.ts_execution.specs.declared.load_state.Loading.{Loading}
use Rattle.ts_execution.specs.declared.stage.Stage.{Stage}
use Rattle.ts_execution.specs.declared.stage.Stage.TheVariants as stage
use Rattle.ts_execution.proofs.Carried.{carries_none, carries_as, carries_then}
use Rattle.ts_execution.proofs.Loadings.{loads-whole}

-- the requests of these bytes, from the first one
abbrev pub stream_from_start : WireLimits → List ℕ → Stream
stream_from_start wire bytes = stream_at (journal_limits wire) 0 bytes

-- these bytes, a prefix of the journal, lead from one state to the other
pub record LoadsFrom (wire : WireLimits) (bytes : List ℕ) (now : Loading) (is_record : Bool) (from to : DbState) : Type 0 where
  pub limits : to.limits ≡ from.limits
  pub on : (size : ℕ) (more : List ℕ) → load_start from.limits from.state size (stream_from_start wire (bytes ++ more)) ≡ loads from.limits now to.state size more
  pub rest : now.broken ≡ None → (more : List ℕ) → rest_at stage.Start 0 (stream_from_start wire (bytes ++ more)) ≡ rest_of now more
  -- the flag tells how the request begins inside which they end
  pub begins : (at : ℕ) → now.broken ≡ None → ending_of (stream_from_start wire bytes) ≡ Inside at → is_record ≡ begins_as_record (drop at bytes)

-- this many bytes were read, and their requests taken
pub record ReadSoFar (wire : WireLimits) (left rest : Option (List ℕ)) (taken : ℕ) (a b : DbView) (now : Loading) (is_record : Bool) : Type 0 where
  pub bytes : List ℕ
  pub took : Consumes left rest bytes
  pub count : length bytes ≡ taken
  pub goes : Simulates a b (λ from to. LoadsFrom wire bytes now is_record from to)

stream-none : (wire : WireLimits) (at : ℕ) → ending_of (stream_from_start wire []) ≡ Inside at → ⊥
unfolding read_on
stream-none wire at e = cc

pub read-none : (wire : WireLimits) (left : Option (List ℕ)) (now : Loading) (is_record : Bool) (db_view : DbView) → ((more : List ℕ) → stream_of now.reader more ≡ stream_from_start wire more) → now.stage ≡ stage.Start
    → now.broken ≡ None → ReadSoFar wire left left 0 db_view db_view now is_record
read-none wire left now is_record db_view stream start whole = record {
  bytes = [];
  took = Consumes-nil left;
  count = refl;
  goes = carries_none db_view (λ from to. LoadsFrom wire [] now is_record from to)
      (λ from stands. record {
        limits = refl;
        on = λ size more. ap (load_start from.limits from.state size) (sym (stream more))
            ∙ ap (λ (s : Stage). load_at s from.limits from.state now.end size (stream_of now.reader more)) (sym start) ∙ sym (loads-whole from.limits now from.state size more whole);
        rest = λ none more. ap (rest_at stage.Start 0) (sym (stream more)) ∙ ap (λ (s : Stage). rest_at s now.end (stream_of now.reader more)) (sym start);
        begins = λ at none inside. absurd (stream-none wire at inside);
      });
}

-- ---- how the rest begins

-- where all complete requests were taken
current-at : (now : Loading) → now.broken ≡ None → IsCurrent now → stream_of now.reader [] ≡ ended_at (unfinished now.reader)
current-at now none current = (subst (λ (o : Option ℕ). IfNone o (HasNoWholeRequest now.reader)) none current).rest

ended-inside : (o : Option ℕ) (at : ℕ) → ending_of (ended_at o) ≡ Inside at → o ≡ Some at
ended-inside None at e = absurd cc
ended-inside (Some place) at e = cc

below-or-not : (n m : ℕ) → (n < m) ⊎ (m ≤ n)
below-or-not n m = grind arith

flag-is : (was now : Bool) (o : Option ℕ) (at before : ℕ) (piece : List ℕ) → now ≡ still_record was o before piece → o ≡ Some at → now ≡ still_record was (Some at) before piece
flag-is was now o at before piece is its = is ∙ ap (λ (o : Option ℕ). still_record was o before piece) its

-- after one more piece
more-begins : (wire : WireLimits) (bytes piece : List ℕ) (before : ℕ) (old new : Loading) (was now : Bool) (from mid to : DbState) → LoadsFrom wire bytes old was from mid → LoadsOn old new piece mid to
    → IsCurrent new → length bytes ≡ before → now ≡ still_record was (unfinished new.reader) before piece
    → (new.broken ≡ None → rest_at stage.Start 0 (stream_from_start wire (bytes ++ piece)) ≡ rest_of new [])
    → (at : ℕ) → new.broken ≡ None → ending_of (stream_from_start wire (bytes ++ piece)) ≡ Inside at → now ≡ begins_as_record (drop at (bytes ++ piece))
more-begins wire bytes piece before old new was now from mid to so is current count flag rest at none inside =
    let begun : unfinished new.reader ≡ Some at =
    ended-inside (unfinished new.reader) at (ap ending_of (sym (current-at new none current)) ∙ sym (ap (λ (r : Rest). r.ending) (rest none)) ∙ inside) in
    let known : now ≡ still_record was (Some at) before piece = flag-is was now (unfinished new.reader) at before piece flag begun in
    elim (below-or-not at before) [
      | inl less ↦
          (let few : at < length bytes = omega (arith, less, count) in
          known ∙ ap (λ (b : Bool). if b then begins_as_record (drop (at - before) piece) else was) (lt-leb before at less)
          ∙ so.begins at (is.whole none) (begun-before (journal_limits wire) bytes piece at inside few)
          ∙ sym (rest-before bytes piece at few))
      | inr past ↦
          (let there : length bytes ≤ at = omega (arith, past, count) in
          known ∙ ap (λ (b : Bool). if b then begins_as_record (drop (at - before) piece) else was) (le-leb before at past)
          ∙ ap (λ (n : ℕ). begins_as_record (drop (at - n) piece)) (sym count)
          ∙ sym (rest-among bytes piece at there))
    ]

-- one more piece
pub read-more : (wire : WireLimits) (left between rest : Option (List ℕ)) (taken count : ℕ) (old new : Loading) (was now : Bool) (a b c : DbView) → ReadSoFar wire left between taken a b old was
    → ReplaysPiece taken count was now between rest old new b c → ReadSoFar wire left rest (taken + count) a c new now
read-more wire left between rest taken count old new was now a b c so takes = record {
  bytes = so.bytes ++ takes.bytes;
  took = Consumes-trans left between rest so.bytes takes.bytes so.took takes.took;
  count = length-append so.bytes takes.bytes ∙ ap (λ (n : ℕ). n + length takes.bytes) so.count ∙ ap (λ (n : ℕ). taken + n) takes.count;
  goes = carries_then a b c (λ from to. LoadsFrom wire so.bytes old was from to) (λ from to. LoadsOn old new takes.bytes from to) (λ from to. LoadsFrom wire (so.bytes ++ takes.bytes) new now from to)
      (λ from mid to had is. record {
        limits = is.limits ∙ had.limits;
        on = more-loads from mid to had is;
        rest = more-rest from mid to had is;
        begins = more-begins wire so.bytes takes.bytes taken old new was now from mid to had is takes.current so.count takes.starts
            (λ none. ap (λ (l : List ℕ). rest_at stage.Start 0 (stream_from_start wire l)) (sym (append-nil (so.bytes ++ takes.bytes))) ∙ more-rest from mid to had is none []);
      }) so.goes takes.goes;
}
  where
    more-loads : (from mid to : DbState) → LoadsFrom wire so.bytes old was from mid → LoadsOn old new takes.bytes mid to → (size : ℕ) (more : List ℕ)
        → load_start from.limits from.state size (stream_from_start wire ((so.bytes ++ takes.bytes) ++ more)) ≡ loads from.limits new to.state size more
    more-loads from mid to had is size more =
        ap (λ (l : List ℕ). load_start from.limits from.state size (stream_from_start wire l)) (append_assoc so.bytes takes.bytes more) ∙ had.on size (takes.bytes ++ more)
        ∙ subst (λ (l : Limits). loads l old mid.state size (takes.bytes ++ more) ≡ loads l new to.state size more) had.limits (is.on size more)

    more-rest : (from mid to : DbState) → LoadsFrom wire so.bytes old was from mid → LoadsOn old new takes.bytes mid to → new.broken ≡ None → (more : List ℕ)
        → rest_at stage.Start 0 (stream_from_start wire ((so.bytes ++ takes.bytes) ++ more)) ≡ rest_of new more
    more-rest from mid to had is none more =
        ap (λ (l : List ℕ). rest_at stage.Start 0 (stream_from_start wire l)) (append_assoc so.bytes takes.bytes more) ∙ had.rest (is.whole none) (takes.bytes ++ more) ∙ is.rest none more

-- a piece without bytes
read-last : (wire : WireLimits) (left between rest : Option (List ℕ)) (taken count : ℕ) (old new : Loading) (was now : Bool) (a b c : DbView) → count ≡ 0 → ReadSoFar wire left between taken a b old was
    → ReplaysPiece taken count was now between rest old new b c → ReadSoFar wire left rest taken a c new now
read-last wire left between rest taken count old new was now a b c none so takes =
    subst (λ (n : ℕ). ReadSoFar wire left rest n a c new now) (omega (arith, none)) (read-more wire left between rest taken count old new was now a b c so takes)

-- ---- at the end of the journal

-- all bytes were read
all-read : (content rest : Option (List ℕ)) (bytes all : List ℕ) → content ≡ Some all → Consumes content rest bytes → IsAtEnd rest → all ≡ bytes ++ []
all-read content None bytes all told took at_end = absurd (subst (λ (o : Option (List ℕ)). Consumes o None bytes) told took)
all-read content (Some rest) bytes all told took at_end =
    subst (λ (o : Option (List ℕ)). Consumes o (Some rest) bytes) told took ∙ ap (λ (l : List ℕ). bytes ++ l) at_end

module _ (wire : WireLimits) (from to : DbState) (bytes : List ℕ) (flag : Bool) (limits : to.limits ≡ from.limits)
    (begins : (at : ℕ) → ending_of (stream_from_start wire bytes) ≡ Inside at → flag ≡ begins_as_record (drop at bytes)) where
  abbrev Loading_gives : (ℕ → State → ℕ → Type 0)
  Loading_gives size m place = load_start from.limits from.state size (stream_from_start wire bytes) ≡ Loads m place

  -- the flag tells how the unfinished request begins
  found-inside : (at checkpoint : ℕ) (b : Bool) → Loading_gives (length bytes) to.state at → b ≡ begins_as_record (drop at bytes) → checkpoint ≡ front_size (stream_from_start wire bytes)
      → IsLoaded (if b then Ok (record { end = at; checkpoint = checkpoint }) else Err (unloaded.Broken at)) wire from to bytes
  found-inside at checkpoint true loads rest size =
      (by-rest bytes (load_start from.limits from.state (length bytes) (stream_from_start wire bytes)) to.state at true loads (sym rest), limits, size)
  found-inside at checkpoint false loads rest size =
      by-rest bytes (load_start from.limits from.state (length bytes) (stream_from_start wire bytes)) to.state at false loads (sym rest)

  found-end : (o : Option ℕ) (checkpoint taken : ℕ) → length bytes ≡ taken → ((size : ℕ) → Loading_gives size to.state (unwrap_or o size))
      → ending_of (stream_from_start wire bytes) ≡ ending_of (ended_at o) → checkpoint ≡ front_size (stream_from_start wire bytes)
      → IsLoaded (verdict_at o checkpoint flag taken) wire from to bytes
  found-end None checkpoint taken count loads ending size = (
    loads-alone bytes (load_start from.limits from.state (length bytes) (stream_from_start wire bytes)) to.state taken (omega (arith, count))
        (loads (length bytes) ∙ ap (λ (n : ℕ). Loads to.state n) count),
    limits,
    size,
  )
  found-end (Some at) checkpoint taken count loads ending size = found-inside at checkpoint flag (loads (length bytes)) (begins at ending) size

  starts-end : (m : State) (size : ℕ) (o : Option ℕ) → load_start from.limits m size (ended_at o) ≡ Loads m (unwrap_or o size)
  starts-end m size None = refl
  starts-end m size (Some place) = refl

  changes-end : (m : State) (end size : ℕ) (o : Option ℕ) → load_on from.limits m end size (ended_at o) ≡ Loads m (unwrap_or o size)
  changes-end m end size None = refl
  changes-end m end size (Some place) = refl

  no-front : (o : Option ℕ) → front_size (ended_at o) ≡ 0
  no-front None = refl
  no-front (Some place) = refl

  -- by the stage at the end
  found-in : (s : Stage) (end : ℕ) (o : Option ℕ) (taken : ℕ) → length bytes ≡ taken
      → ((size : ℕ) → load_start from.limits from.state size (stream_from_start wire bytes) ≡ load_at s from.limits to.state end size (ended_at o))
      → rest_at stage.Start 0 (stream_from_start wire bytes) ≡ rest_at s end (ended_at o)
      → IsLoaded (verdict_in s end o flag taken) wire from to bytes
  found-in stage.Start end o taken count loads rest =
      found-end o 0 taken count (λ size. loads size ∙ starts-end to.state size o) (ap (λ (r : Rest). r.ending) rest)
      (sym (ap (λ (r : Rest). r.checkpoint) rest ∙ no-front o))
  found-in (stage.Parts more current) end None taken count loads rest = ap (unless_foreign bytes) (loads (length bytes))
  found-in (stage.Parts more current) end (Some place) taken count loads rest = ap (unless_foreign bytes) (loads (length bytes))
  found-in (stage.Changes checkpoint) end o taken count loads rest =
      found-end o checkpoint taken count (λ size. loads size ∙ changes-end to.state end size o) (ap (λ (r : Rest). r.ending) rest)
      (sym (ap (λ (r : Rest). r.checkpoint) rest))

-- by whether it broke
found-at : (broken : Option ℕ) (wire : WireLimits) (now : Loading) (flag : Bool) (from to : DbState) (bytes : List ℕ) (taken : ℕ) → to.limits ≡ from.limits → length bytes ≡ taken
    → IfNone broken (HasNoWholeRequest now.reader)
    → ((size : ℕ) → load_start from.limits from.state size (stream_from_start wire bytes) ≡ loads_by broken from.limits now to.state size [])
    → (broken ≡ None → rest_at stage.Start 0 (stream_from_start wire bytes) ≡ rest_of now [])
    → (broken ≡ None → (at : ℕ) → ending_of (stream_from_start wire bytes) ≡ Inside at → flag ≡ begins_as_record (drop at bytes))
    → IsLoaded (verdict_by broken now flag taken) wire from to bytes
found-at (Some place) wire now flag from to bytes taken limits count current loads rest begins = ap (unless_foreign bytes) (loads (length bytes))
found-at None wire now flag from to bytes taken limits count current loads rest begins =
    found-in wire from to bytes flag limits (begins refl) now.stage now.end (unfinished now.reader) taken count
    (λ size. loads size ∙ ap (load_at now.stage from.limits to.state now.end size) current.rest)
    (rest refl ∙ ap (rest_at now.stage now.end) current.rest)

read-all : (wire : WireLimits) (left rest : Option (List ℕ)) (taken : ℕ) (now : Loading) (flag : Bool) (a b : DbView) (answer : Result Extent LoadFault) → answer ≡ verdict now flag taken → ReadSoFar wire left rest taken a b now flag
    → IsAtEnd rest → IsCurrent now → Simulates a b (λ from to. (bytes : List ℕ) → left ≡ Some bytes → IsLoaded answer wire from to bytes)
read-all wire left rest taken now flag a b answer answered so at_end current =
    carries_as a b (λ from to. LoadsFrom wire so.bytes now flag from to) (λ from to. (bytes : List ℕ) → left ≡ Some bytes → IsLoaded answer wire from to bytes)
    (λ from to is bytes told.
    let all : bytes ≡ so.bytes = all-read left rest so.bytes bytes told so.took at_end ∙ append-nil so.bytes in
    subst (λ (r : Result Extent LoadFault). IsLoaded r wire from to bytes) (sym answered)
    (subst (λ (l : List ℕ). IsLoaded (verdict now flag taken) wire from to l) (sym all)
    (found-at now.broken wire now flag from to so.bytes taken is.limits so.count current
    (λ size. ap (λ (l : List ℕ). load_start from.limits from.state size (stream_from_start wire l)) (sym (append-nil so.bytes)) ∙ is.on size [])
    (λ none. ap (λ (l : List ℕ). rest_at stage.Start 0 (stream_from_start wire l)) (sym (append-nil so.bytes)) ∙ is.rest none [])
    (λ none at. is.begins at none)))) so.goes

unread-start : (content : Option (List ℕ)) (place : ℕ) (bytes : List ℕ) → place ≡ 0 → content ≡ Some bytes → unread content place ≡ Some bytes
unread-start content place bytes start told = ap (unread content) start ∙ ap (λ (o : Option (List ℕ)). unread o 0) told

module _ (wire : WireLimits) (content rest : Option (List ℕ)) (place taken : ℕ) (start : place ≡ 0) (now : Loading) (flag : Bool) (a b : DbView) (so : ReadSoFar wire (unread content place) rest taken a b now flag) where
  -- the result is final if the journal was read from start to end
  read-from-start : (answer : Result Extent LoadFault) → answer ≡ verdict now flag taken → IsAtEnd rest → IsCurrent now
      → Simulates a b (λ from to. (bytes : List ℕ) → content ≡ Some bytes → IsLoaded answer wire from to bytes)
  read-from-start answer answered at_end current =
      carries_as a b (λ from to. (bytes : List ℕ) → unread content place ≡ Some bytes → IsLoaded answer wire from to bytes) (λ from to. (bytes : List ℕ) → content ≡ Some bytes → IsLoaded answer wire from to bytes)
      (λ from to all bytes told. all bytes (unread-start content place bytes start told)) (read-all wire (unread content place) rest taken now flag a b answer answered so at_end current)

  -- no more was read than the journal has
  pub read-at-most : (bytes : List ℕ) → content ≡ Some bytes → taken ≤ length bytes
  read-at-most bytes told = most rest (subst (λ (o : Option (List ℕ)). Consumes o rest so.bytes) (unread-start content place bytes start told) so.took)
    where
      most : (left : Option (List ℕ)) → Consumes (Some bytes) left so.bytes → taken ≤ length bytes
      most None took = absurd took
      most (Some ys) took = omega (arith, so.count, ap length took, length-append so.bytes ys)

-- a read without bytes ends it
pub read-to-end : (wire : WireLimits) (content between rest : Option (List ℕ)) (place taken count : ℕ) → place ≡ 0 → (old new : Loading) (was now : Bool) (a b c : DbView) → ReadSoFar wire (unread content place) between taken a b old was
    → ReplaysPiece taken count was now between rest old new b c → count ≡ 0 → IsAtEnd rest → (answer : Result Extent LoadFault) → answer ≡ verdict new now taken
    → Simulates a c (λ from to. (bytes : List ℕ) → content ≡ Some bytes → IsLoaded answer wire from to bytes)
read-to-end wire content between rest place taken count start old new was now a b c so takes none at_end answer answered =
    read-from-start wire content rest place taken start new now a c (read-last wire (unread content place) between rest taken count old new was now a b c none so takes) answer answered at_end takes.current

-- the size of a journal that was read to its end
sizes : (bytes first second : List ℕ) (between rest : Option (List ℕ)) → Consumes (Some bytes) between first → Consumes between rest second → length second ≡ 0 → IsAtEnd rest → length bytes ≡ length first
sizes bytes first second None rest one two none at_end = absurd one
sizes bytes first second (Some ys) None one two none at_end = absurd two
sizes bytes first second (Some ys) (Some zs) one two none at_end =
    omega (arith, ap length one, length-append first ys, ap length two, length-append second zs, none, ap length at_end)

pub whole-size : (wire : WireLimits) (content between rest : Option (List ℕ)) (place taken count : ℕ) → place ≡ 0 → (old new : Loading) (was now : Bool) (a b c : DbView) → ReadSoFar wire (unread content place) between taken a b old was
    → ReplaysPiece taken count was now between rest old new b c → count ≡ 0 → IsAtEnd rest → (bytes : List ℕ) → content ≡ Some bytes → length bytes ≡ taken
whole-size wire content between rest place taken count start old new was now a b c so takes none at_end bytes told =
    sizes bytes so.bytes takes.bytes between rest (subst (λ (o : Option (List ℕ)). Consumes o between so.bytes) (unread-start content place bytes start told) so.took)
    takes.took (takes.count ∙ none) at_end ∙ so.count
