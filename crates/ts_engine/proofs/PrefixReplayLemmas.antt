-- Each prefix of a journal loads to the database after its first changes.
use Rattle.std.proofs.Common.{◌≡◌, ◌≢◌, ◌⊎◌, inl, inr, ⊎_elim, ◌≤◌, ◌<◌, ◌+◌, ◌-◌, ℕ, List, [], ◌∷◌, ◌++◌, length, take, refl, sym, ◌∙◌, ap, subst, arith, append_assoc, append-nil, length-append}
use Rattle.std.proofs.lemmas.List.{take_all, take-append-le}
use Rattle.std.proofs.lemmas.List.Elements.{All-head, All-tail}
use Rattle.std.proofs.Math.Seq.{take-append-add, take-append_seam}
use Rattle.std.specs.Prelude.{All, Option, Some, Result, Ok, Err}
use Rattle.std.specs.Io.KnownBytes.{append_known}
use Rattle.ts_spec.specs.Command.{Command}
use Rattle.ts_spec.specs.StreamPrefixes.{IsWithin}
use Rattle.ts_spec.specs.Grammar.{command}
use Rattle.ts_spec.specs.Refusal.{Fault}
use Rattle.ts_spec.specs.Run.{Runs}
use Rattle.ts_spec.specs.State.{State}
use Rattle.ts_spec.specs.Text.{Reply}
use Rattle.ts_spec.specs.Wire.{Request}
use Rattle.ts_spec.specs.declared.limits.Limits.{Limits}
use Rattle.ts_db.specs.DbState.{DbState}
use Rattle.ts_journal.specs.Limits.{IsBounded}
use Rattle.ts_journal.specs.Loading.{Loads}
use Rattle.ts_checkpoint.specs.Loading.{load, LoadsTo}
use Rattle.ts_journal.specs.Record.{record_of}
use Rattle.ts_journal.specs.RecordReplay.{IsDone}
use Rattle.ts_checkpoint.proofs.JournalGrown.{Grows, record-grown}
use Rattle.ts_journal.proofs.Unrecorded.{unrecorded-stays}
use Rattle.ts_execution.specs.Journaling.{Snapshot, served, IsUnrecorded, IsRecorded, RecordedBy, Recorded, IsJournaled}
use Rattle.ts_execution.specs.Handling.{World, IsAnswered, RunsOutOfMemory, IsOutOfMemory}
use Rattle.ts_engine.specs.JournalPrefixes.{HandledRun, PrefixReplays}
use Rattle.ts_engine.proofs.Executions.{is-done, limits-stay}

-- ---- one request

is-some-or-none : (l : List ℕ) → (l ≡ []) ⊎ (l ≢ [])
is-some-or-none [] = inl refl
is-some-or-none (x ∷ xs) = inr (λ is. (cc))

-- the limits stay, and the journal grows by what was appended
abbrev pub GrowsOn : (limits : Limits) (journal : List ℕ) (from to : DbState) (added : List ℕ) → Type 0
GrowsOn limits journal from to added = (to.limits ≡ limits) × Grows limits journal from.state to.state added

module _ (limits : Limits) (bounded : IsBounded limits.wire) (journal : List ℕ) where
  grows_by_none : (from to : State) → to ≡ from → LoadsTo limits journal from → Grows limits journal from to []
  grows_by_none from to same loads = record {
    whole = subst (λ (m : State). LoadsTo limits (journal ++ []) m) (sym same) (subst (λ (l : List ℕ). LoadsTo limits l from) (sym (append-nil journal)) loads);
    torn = λ n below. absurd (omega (arith, below));
  }

  -- nothing was appended, and nothing changed
  grows_on_none : (from to : DbState) (added : List ℕ) → from.limits ≡ limits → LoadsTo limits journal from.state → to ≡ from → added ≡ [] → GrowsOn limits journal from to added
  grows_on_none from to added same loads is none = (
    ap (λ (h : DbState). h.limits) is ∙ same,
    subst (λ (l : List ℕ). Grows limits journal from.state to.state l) (sym none) (grows_by_none from.state to.state (ap (λ (h : DbState). h.state) is) loads),
  )

  -- the record of an answered command
  grows_by_record : (request : Request) (c : Command) (reading : ℕ) (m n : State) (reply : Reply) → command request ≡ Ok c → IsWithin limits.wire request
      → LoadsTo limits journal m → IsDone limits reading c m reply n → (record_of c reading reply ≡ []) ⊎ (record_of c reading reply ≢ []) → Grows limits journal m n (record_of c reading reply)
  grows_by_record request c reading m n reply says within loads done (inl none) =
      subst (λ (l : List ℕ). Grows limits journal m n l) (sym none) (grows_by_none m n (unrecorded-stays limits reading c m n reply done none) loads)
  grows_by_record request c reading m n reply says within loads done (inr some) =
      record-grown limits journal reading c m n reply bounded loads (record { words = request; says = says; done = done; some = some }) within

  grows_by_answer : (request : Request) (c : Command) (reading : ℕ) (from to : DbState) (reply : Reply) (added : List ℕ) → command request ≡ Ok c → IsWithin limits.wire request
      → from.limits ≡ limits → LoadsTo limits journal from.state → IsAnswered reading c from reply to → added ≡ record_of c reading reply → GrowsOn limits journal from to added
  grows_by_answer request c reading from to reply added says within same loads answered is = (
    limits-stay c reading from to reply answered ∙ same,
    subst (λ (l : List ℕ). Grows limits journal from.state to.state l) (sym is)
        (grows_by_record request c reading from.state to.state reply says within loads
        (subst (λ (l : Limits). IsDone l reading c from.state reply to.state) same (is-done c reading from to reply answered))
        (is-some-or-none (record_of c reading reply))),
  )

  -- out of memory, which is an error
  grows_by_memory : (c : Command) (reading : ℕ) (from to : DbState) (reply : Reply) (added : List ℕ) → from.limits ≡ limits → LoadsTo limits journal from.state
      → IsOutOfMemory from reply to → added ≡ record_of c reading reply → GrowsOn limits journal from to added
  grows_by_memory c reading from to reply added same loads out is =
      grows_on_none from to added same loads out.same (is ∙ ap (record_of c reading) out.says)

  grows_by_command : (request : Request) (c : Command) (from to : World) (written added : List ℕ) → command request ≡ Ok c → IsWithin limits.wire request
      → from.held.limits ≡ limits → LoadsTo limits journal from.held.state → IsRecorded c from written added to → GrowsOn limits journal from.held to.held added
  grows_by_command request c from to written added says within same loads r =
      ⊎_elim (λ answered. grows_by_answer request c r.reading from.held to.held r.reply added says within same loads answered r.its_record)
      (⊎_elim (λ (lost : RunsOutOfMemory r.reading c from.held r.reply to.held). grows_by_memory c r.reading from.held to.held r.reply added same loads lost.out_of_memory r.its_record)
      (λ (lost : IsUnrecorded c from.held r.reply to.held). grows_by_memory c r.reading from.held to.held r.reply added same loads lost.out_of_memory r.its_record))
      r.done

  grows_by_words : (request : Request) (words : Result Command Fault) (from to : World) (written added : List ℕ) → command request ≡ words → IsWithin limits.wire request
      → from.held.limits ≡ limits → LoadsTo limits journal from.held.state → RecordedBy words from written added to → GrowsOn limits journal from.held to.held added
  grows_by_words request (Ok c) from to written added says within same loads r = grows_by_command request c from to written added says within same loads r
  grows_by_words request (Err fault) from to written added says within same loads r =
      grows_on_none from.held to.held added same loads (ap (λ (w : World). w.held) r.0.same) r.1

  pub grows_by_turn : (request : Request) (from to : World) (written added : List ℕ) → IsWithin limits.wire request
      → from.held.limits ≡ limits → LoadsTo limits journal from.held.state → Recorded request from written added to → GrowsOn limits journal from.held to.held added
  grows_by_turn request from to written added within same loads (inl r) =
      grows_by_words request (command request) from to written added refl within same loads r
  grows_by_turn request from to written added within same loads (inr r) =
      grows_on_none from.held to.held added same loads (ap (λ (w : World). w.held) r.0.same) r.1

-- ---- a run of requests

-- the run of these requests
abbrev pub a_run : List Request → (text : List ℕ) → Snapshot → HandledRun
a_run asked text to = record { asked = asked; text = text; to = to }

-- the journal after a run, and what it and its prefixes load to
pub record Restores (limits : Limits) (journal : List ℕ) (from : Snapshot) (asked : List Request) (text : List ℕ) (to : Snapshot) : Type 0 where
  pub more : List ℕ
  pub content : to.content ≡ Some (journal ++ more)
  pub limits_stay : to.held.limits ≡ limits
  pub loads : LoadsTo limits (journal ++ more) to.held.state
  pub fronts : (n : ℕ) → length journal ≤ n → PrefixReplays limits from (a_run asked text to) (take n (journal ++ more))

-- no request has its record in it
none-done : (limits : Limits) (from : Snapshot) (asked : List Request) (text : List ℕ) (to : Snapshot) (journal front : List ℕ) → Runs IsJournaled from asked text to
    → from.content ≡ Some journal → take (length journal) front ≡ journal → load limits front ≡ Loads from.held.state (length journal) → PrefixReplays limits from (a_run asked text to) front
none-done limits from asked text to journal front run told is loads = record {
  done = [];
  more = asked;
  asked = refl;
  text = [];
  rest = text;
  replies = refl;
  mid = from;
  before = (refl, refl);
  after = run;
  place = length journal;
  content = told ∙ ap Some (sym is);
  loads = loads;
}

-- each request has its record in it
pub all-done : (limits : Limits) (from : Snapshot) (asked : List Request) (text : List ℕ) (to : Snapshot) (journal front : List ℕ) → Runs IsJournaled from asked text to
    → to.content ≡ Some journal → take (length journal) front ≡ journal → load limits front ≡ Loads to.held.state (length journal) → PrefixReplays limits from (a_run asked text to) front
all-done limits from asked text to journal front run told is loads = record {
  done = asked;
  more = [];
  asked = sym (append-nil asked);
  text = text;
  rest = [];
  replies = sym (append-nil text);
  mid = to;
  before = run;
  after = (refl, refl);
  place = length journal;
  content = told ∙ ap Some (sym is);
  loads = loads;
}

-- one request before others
one-more : (limits : Limits) (from mid : Snapshot) (request : Request) (asked : List Request) (written rest text : List ℕ) (to : Snapshot) (front : List ℕ) → text ≡ written ++ rest
    → IsJournaled from request written mid → PrefixReplays limits mid (a_run asked rest to) front → PrefixReplays limits from (a_run (request ∷ asked) text to) front
one-more limits from mid request asked written rest text to front split turned part = record {
  done = request ∷ part.done;
  more = part.more;
  asked = ap (λ (l : List Request). request ∷ l) part.asked;
  text = written ++ part.text;
  rest = part.rest;
  replies = split ∙ ap (λ (l : List ℕ). written ++ l) part.replies ∙ sym (append_assoc written part.text part.rest);
  mid = part.mid;
  before = record { first = written; rest = part.text; mid = mid; split = refl; here = turned; after = part.before };
  after = part.after;
  place = part.place;
  content = part.content;
  loads = part.loads;
}

-- what was appended, if the content is known
pub added-to : (content content' : Option (List ℕ)) (journal added : List ℕ) → content ≡ Some journal → content' ≡ append_known content added → content' ≡ Some (journal ++ added)
added-to content content' journal added told is = is ∙ ap (λ (o : Option (List ℕ)). append_known o added) told

module _ (limits : Limits) (bounded : IsBounded limits.wire) where
  -- a prefix that ends within the first record or past it
  fronts-by : (journal added more : List ℕ) (from mid : Snapshot) (request : Request) (asked : List Request) (written rest text : List ℕ) (to : Snapshot) → text ≡ written ++ rest
      → IsJournaled from request written mid → Runs IsJournaled from (request ∷ asked) text to → from.content ≡ Some journal → Grows limits journal from.held.state mid.held.state added
      → ((n : ℕ) → length (journal ++ added) ≤ n → PrefixReplays limits mid (a_run asked rest to) (take n ((journal ++ added) ++ more)))
      → (n : ℕ) → length journal ≤ n → (n < length (journal ++ added)) ⊎ (length (journal ++ added) ≤ n) → PrefixReplays limits from (a_run (request ∷ asked) text to) (take n ((journal ++ added) ++ more))
  fronts-by journal added more from mid request asked written rest text to split turned run told grows fronts n past (inl within) =
      let k : ℕ = n - length journal in
      let is : length journal + k ≡ n = omega (arith, past) in
      let shorter : take n ((journal ++ added) ++ more) ≡ journal ++ take k added =
      take-append-le n (journal ++ added) more (omega (arith, within)) ∙ ap (λ (i : ℕ). take i (journal ++ added)) (sym is) ∙ take-append-add journal added k in
      none-done limits from (request ∷ asked) text to journal (take n ((journal ++ added) ++ more)) run told (ap (take (length journal)) shorter ∙ take-append_seam journal (take k added))
      (ap (load limits) shorter ∙ grows.torn k (omega (arith, within, past, length-append journal added)))
  fronts-by journal added more from mid request asked written rest text to split turned run told grows fronts n past (inr beyond) =
      one-more limits from mid request asked written rest text to (take n ((journal ++ added) ++ more)) split turned (fronts n beyond)

  pub run-replay_matches : (asked : List Request) (journal : List ℕ) (from to : Snapshot) (text : List ℕ) → All (IsWithin limits.wire) asked → from.held.limits ≡ limits → from.content ≡ Some journal
      → LoadsTo limits journal from.held.state → Runs IsJournaled from asked text to → Restores limits journal from asked text to
  run-replay_matches [] journal from to text within same told loads run = record {
    more = [];
    content = ap (λ (k : Snapshot). k.content) run.1 ∙ told ∙ ap Some (sym (append-nil journal));
    limits_stay = ap (λ (k : Snapshot). k.held.limits) run.1 ∙ same;
    loads = subst (λ (k : Snapshot). LoadsTo limits (journal ++ []) k.held.state) (sym run.1) (subst (λ (l : List ℕ). LoadsTo limits l from.held.state) (sym (append-nil journal)) loads);
    fronts = λ n past.
        let is : take n (journal ++ []) ≡ journal = ap (take n) (append-nil journal) ∙ take_all n journal past in
        none-done limits from [] text to journal (take n (journal ++ [])) run told (ap (take (length journal)) is ∙ take_all (length journal) journal (omega arith)) (ap (load limits) is ∙ loads);
  }
  run-replay_matches (request ∷ asked) journal from to text within same told loads run =
      let grown = grows_by_turn limits bounded journal request (served from) (served run.mid) run.first run.here.record_ (All-head (IsWithin limits.wire) request asked within) same loads run.here.recorded in
      let added : List ℕ = run.here.record_ in
      let rest = run-replay_matches asked (journal ++ added) run.mid to run.rest (All-tail (IsWithin limits.wire) request asked within) grown.0
      (added-to from.content run.mid.content journal added told run.here.content) grown.1.whole run.after in
      let all : journal ++ (added ++ rest.more) ≡ (journal ++ added) ++ rest.more = sym (append_assoc journal added rest.more) in
      record {
        more = added ++ rest.more;
        content = rest.content ∙ ap Some (sym all);
        limits_stay = rest.limits_stay;
        loads = subst (λ (l : List ℕ). LoadsTo limits l to.held.state) (sym all) rest.loads;
        fronts = λ n past. subst (λ (l : List ℕ). PrefixReplays limits from (a_run (request ∷ asked) text to) (take n l)) (sym all)
            (fronts-by journal added rest.more from run.mid request asked run.first run.rest text to run.split run.here run told grown.1 rest.fronts n past (below-or-not n (length (journal ++ added))));
      }
    where
      below-or-not : (n m : ℕ) → (n < m) ⊎ (m ≤ n)
      below-or-not n m = grind arith
