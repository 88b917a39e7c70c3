-- Executing a record leads from the same state to the same state.
use Rattle.std.proofs.Common.{◌≡◌, ◌≢◌, ℕ, Bool, true, false, if◌then◌else◌, List, [], ◌∷◌, ◌++◌, map, refl, sym, ◌∙◌, ap, subst, append_assoc, append-nil}
use Rattle.std.proofs.lemmas.Result.{IfOk-at_ok}
use Rattle.std.specs.Prelude.{Ok}
use Rattle.ts_spec.specs.declared.limits.Limits.{Limits}
use Rattle.ts_spec.specs.Command.{Triple, Command, Create, Alter, Add, Madd, Incr, DelRange, CreateRule, DeleteRule, Range, MRange, Get, MGet, QueryIndex, InfoOf, Ping, Echo, Quit, Drop, Exists}
use Rattle.ts_spec.specs.Grammar.{command}
use Rattle.ts_spec.specs.Replies.{reply_list, item_reply, reply_to}
use Rattle.ts_spec.specs.ResolvedCommands.{resolved, is_written}
use Rattle.ts_spec.specs.Response.{Item, Wrote, IsWrong, IsRefused, Items}
use Rattle.ts_spec.specs.State.{State}
use Rattle.ts_spec.specs.Step.{Outcome, step, triple_step, item_of, madd}
use Rattle.ts_spec.specs.Text.{Reply}
use Rattle.ts_spec.proofs.ResolvedTimes.{step-resolved}
use Rattle.ts_spec.proofs.Untaken.{triple-told}
use Rattle.ts_journal.specs.Fixed.{is_fixed}
use Rattle.ts_journal.specs.Record.{is_error, is_number, items_of, accepted, bytes_of, record_words, record_of}
use Rattle.ts_journal.specs.RecordReplay.{ExecutesTriple, ExecutesTriples, IsStep, IsDone, IsRecorded, IsAccepted}
use Rattle.ts_journal.proofs.ReadableChanges.{IsReadable}
use Rattle.ts_journal.proofs.ReadableCommands.{command-readable}
use Rattle.ts_journal.proofs.ReadBack.{IsWhole, reads-back}
use Rattle.ts_journal.proofs.ShortAnswers.{short}
use Rattle.ts_journal.proofs.TakenTriples.{samples-accepted_part, readable-accepted_part, do-accepted_part, times-accepted}

-- ---- all changes

-- what the record of a command does
pub record Replays (limits : Limits) (m : State) (other : ℕ) (c : Command) (n : State) : Type 0 where
  pub state : (step limits m other c).state ≡ n
  pub reply : IsAccepted (reply_to (step limits m other c).response)

pub not-refused : (c : Command) (reading : ℕ) (reply : Reply) → record_of c reading reply ≢ [] → is_error reply ≡ false
not-refused c reading reply some = go (is_error reply) some
  where
    go : (b : Bool) → (if b then [] else bytes_of (record_words reading (accepted c reply))) ≢ [] → b ≡ false
    go true some = absurd (some refl)
    go false some = refl

pub some-words : (c : Command) (reading : ℕ) (reply : Reply) → record_of c reading reply ≢ [] → record_words reading (accepted c reply) ≢ []
some-words c reading reply some = λ none. go (is_error reply) none some
  where
    go : (b : Bool) → record_words reading (accepted c reply) ≡ [] → (if b then [] else bytes_of (record_words reading (accepted c reply))) ≢ [] → ⊥
    go true none some = some refl
    go false none some = some (ap bytes_of none)

step-replays : (limits : Limits) (reading other : ℕ) (c : Command) (m n : State) (reply : Reply) → is_fixed c ≡ true → IsStep (step limits m reading c) reply n → is_error reply ≡ false
    → Replays limits m other (resolved reading c) n
step-replays limits reading other c m n reply fixed done right =
    let same = step-resolved limits m reading other c in record {
      state = ap (λ (o : Outcome). o.state) same ∙ sym done.state;
      reply = subst (λ (o : Outcome). IsAccepted (reply_to o.response)) (sym same) (ap is_error (sym done.says) ∙ right, (short limits m reading c fixed).none);
    }

pub replays : (limits : Limits) (reading other : ℕ) (c : Command) (m n : State) (reply : Reply) → IsDone limits reading c m reply n → record_of c reading reply ≢ []
    → Replays limits m other (resolved reading (accepted c reply)) n
replays limits reading other (Madd ts) m n reply done some =
    let all = do-accepted_part limits reading other ts m n (items_of reply) [] done in record {
      state = ap (λ (o : Outcome). o.state) all.done;
      reply = subst (λ (o : Outcome). IsAccepted (reply_to o.response)) (sym all.done) (refl, times-accepted all.times);
    }
replays limits reading other (Create key s) m n reply done some = step-replays limits reading other (Create key s) m n reply refl done (not-refused (Create key s) reading reply some)
replays limits reading other (Alter key c) m n reply done some = step-replays limits reading other (Alter key c) m n reply refl done (not-refused (Alter key c) reading reply some)
replays limits reading other (Add key at v on s) m n reply done some =
    step-replays limits reading other (Add key at v on s) m n reply refl done (not-refused (Add key at v on s) reading reply some)
replays limits reading other (Incr key v at s) m n reply done some = step-replays limits reading other (Incr key v at s) m n reply refl done (not-refused (Incr key v at s) reading reply some)
replays limits reading other (DelRange key from to) m n reply done some =
    step-replays limits reading other (DelRange key from to) m n reply refl done (not-refused (DelRange key from to) reading reply some)
replays limits reading other (CreateRule source dest agg grid) m n reply done some =
    step-replays limits reading other (CreateRule source dest agg grid) m n reply refl done (not-refused (CreateRule source dest agg grid) reading reply some)
replays limits reading other (DeleteRule source dest) m n reply done some =
    step-replays limits reading other (DeleteRule source dest) m n reply refl done (not-refused (DeleteRule source dest) reading reply some)
replays limits reading other (Range key latest q) m n reply done some = absurd (some-words (Range key latest q) reading reply some refl)
replays limits reading other (MRange latest show filters q group) m n reply done some = absurd (some-words (MRange latest show filters q group) reading reply some refl)
replays limits reading other (Get key latest) m n reply done some = absurd (some-words (Get key latest) reading reply some refl)
replays limits reading other (MGet latest show filters) m n reply done some = absurd (some-words (MGet latest show filters) reading reply some refl)
replays limits reading other (QueryIndex filters) m n reply done some = absurd (some-words (QueryIndex filters) reading reply some refl)
replays limits reading other (InfoOf key) m n reply done some = absurd (some-words (InfoOf key) reading reply some refl)
replays limits reading other (Ping word) m n reply done some = absurd (some-words (Ping word) reading reply some refl)
replays limits reading other (Echo word) m n reply done some = absurd (some-words (Echo word) reading reply some refl)
replays limits reading other Quit m n reply done some = absurd (some-words Quit reading reply some refl)
replays limits reading other (Drop keys) m n reply done some = step-replays limits reading other (Drop keys) m n reply refl done (not-refused (Drop keys) reading reply some)
replays limits reading other (Exists keys) m n reply done some = absurd (some-words (Exists keys) reading reply some refl)

-- ---- its words

accepted-readable : (c : Command) (reply : Reply) → IsReadable c → IsReadable (accepted c reply)
accepted-readable (Madd ts) reply h = readable-accepted_part ts (items_of reply) h
accepted-readable (Create key s) reply h = h
accepted-readable (Alter key c) reply h = h
accepted-readable (Add key at v on s) reply h = h
accepted-readable (Incr key v at s) reply h = h
accepted-readable (DelRange key from to) reply h = h
accepted-readable (CreateRule source dest agg grid) reply h = h
accepted-readable (DeleteRule source dest) reply h = h
accepted-readable (Range key latest q) reply h = h
accepted-readable (MRange latest show filters q group) reply h = h
accepted-readable (Get key latest) reply h = h
accepted-readable (MGet latest show filters) reply h = h
accepted-readable (QueryIndex filters) reply h = h
accepted-readable (InfoOf key) reply h = h
accepted-readable (Ping word) reply h = h
accepted-readable (Echo word) reply h = h
accepted-readable Quit reply h = h
accepted-readable (Drop keys) reply h = h
accepted-readable (Exists keys) reply h = h

accepted-whole : (limits : Limits) (reading : ℕ) (c : Command) (m n : State) (reply : Reply) → IsDone limits reading c m reply n → IsWhole (accepted c reply)
accepted-whole limits reading (Madd ts) m n reply done = samples-accepted_part limits reading ts m n (items_of reply) done
accepted-whole limits reading (Create key s) m n reply done = tt
accepted-whole limits reading (Alter key c) m n reply done = tt
accepted-whole limits reading (Add key at v on s) m n reply done = tt
accepted-whole limits reading (Incr key v at s) m n reply done = tt
accepted-whole limits reading (DelRange key from to) m n reply done = tt
accepted-whole limits reading (CreateRule source dest agg grid) m n reply done = tt
accepted-whole limits reading (DeleteRule source dest) m n reply done = tt
accepted-whole limits reading (Range key latest q) m n reply done = tt
accepted-whole limits reading (MRange latest show filters q group) m n reply done = tt
accepted-whole limits reading (Get key latest) m n reply done = tt
accepted-whole limits reading (MGet latest show filters) m n reply done = tt
accepted-whole limits reading (QueryIndex filters) m n reply done = tt
accepted-whole limits reading (InfoOf key) m n reply done = tt
accepted-whole limits reading (Ping word) m n reply done = tt
accepted-whole limits reading (Echo word) m n reply done = tt
accepted-whole limits reading Quit m n reply done = tt
accepted-whole limits reading (Drop keys) m n reply done = tt
accepted-whole limits reading (Exists keys) m n reply done = tt

pub words-read : (limits : Limits) (reading : ℕ) (c : Command) (m n : State) (reply : Reply) → IsRecorded limits reading c m reply n
    → command (record_words reading (accepted c reply)) ≡ Ok (resolved reading (accepted c reply))
words-read limits reading c m n reply r =
    reads-back reading (accepted c reply) (accepted-readable c reply (IfOk-at_ok IsReadable r.says (command-readable r.words)))
    (accepted-whole limits reading c m n reply r.done) (some-words c reading reply r.some)

-- ---- a step of TS.MADD is what its triples do

steps-do : (limits : Limits) (reading : ℕ) (ts : List Triple) (m : State) (so_far : List Item)
    → (items : List Item) × ((madd limits m reading so_far ts).response ≡ Items (so_far ++ items)) × ExecutesTriples limits reading ts m (reply_list (map item_reply items)) (madd limits m reading so_far ts).state
steps-do limits reading [] m so_far = ([], ap Items (sym (append-nil so_far)), refl)
steps-do limits reading (t ∷ ts) m so_far =
    let done : Outcome = triple_step limits m reading t.key t.at t.value in
    let one = triple-told limits m reading t.key t.at t.value in
    let rest = steps-do limits reading ts done.state (so_far ++ item_of done.response) in
    let items = rest.0 in (
      one.item ∷ items,
      rest.1 ∙ ap (λ first. Items ((so_far ++ first) ++ items)) one.told ∙ ap Items (append_assoc so_far (one.item ∷ []) items),
      (done.state, does one.item one.told one.stays, rest.2),
    )
  where
    does : (item : Item) → item_of (triple_step limits m reading t.key t.at t.value).response ≡ item ∷ []
        → (is_written item ≡ false → (triple_step limits m reading t.key t.at t.value).state ≡ m)
        → ExecutesTriple (is_number (item_reply item)) limits reading t m (triple_step limits m reading t.key t.at t.value).state
    does (Wrote time) wrote stays = record { time = time; wrote = wrote; state = refl }
    does (IsWrong fault) told stays = stays refl
    does (IsRefused refusal) told stays = stays refl

pub madd-does : (limits : Limits) (reading : ℕ) (ts : List Triple) (m : State)
    → ExecutesTriples limits reading ts m (items_of (reply_to (step limits m reading (Madd ts)).response)) (step limits m reading (Madd ts)).state
madd-does limits reading ts m =
    let all = steps-do limits reading ts m [] in
    subst (λ response. ExecutesTriples limits reading ts m (items_of (reply_to response)) (madd limits m reading [] ts).state) (sym all.1) all.2

pub step-done : (limits : Limits) (reading : ℕ) (c : Command) (m : State) → IsDone limits reading c m (reply_to (step limits m reading c).response) (step limits m reading c).state
step-done limits reading (Madd ts) m = madd-does limits reading ts m
step-done limits reading (Create key s) m = record { says = refl; state = refl }
step-done limits reading (Alter key c) m = record { says = refl; state = refl }
step-done limits reading (Add key at v on s) m = record { says = refl; state = refl }
step-done limits reading (Incr key v at s) m = record { says = refl; state = refl }
step-done limits reading (DelRange key from to) m = record { says = refl; state = refl }
step-done limits reading (CreateRule source dest agg grid) m = record { says = refl; state = refl }
step-done limits reading (DeleteRule source dest) m = record { says = refl; state = refl }
step-done limits reading (Range key latest q) m = record { says = refl; state = refl }
step-done limits reading (MRange latest show filters q group) m = record { says = refl; state = refl }
step-done limits reading (Get key latest) m = record { says = refl; state = refl }
step-done limits reading (MGet latest show filters) m = record { says = refl; state = refl }
step-done limits reading (QueryIndex filters) m = record { says = refl; state = refl }
step-done limits reading (InfoOf key) m = record { says = refl; state = refl }
step-done limits reading (Ping word) m = record { says = refl; state = refl }
step-done limits reading (Echo word) m = record { says = refl; state = refl }
step-done limits reading Quit m = record { says = refl; state = refl }
step-done limits reading (Drop keys) m = record { says = refl; state = refl }
step-done limits reading (Exists keys) m = record { says = refl; state = refl }
