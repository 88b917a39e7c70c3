-- The record of a command is replayed, and is one request.
use Rattle.std.proofs.Common.{◌≡◌, ◌≢◌, ℕ, ◌^◌, ◌<◌, true, false, ◌&&◌, ◌||◌, not, if◌then◌else◌, List, [], ◌∷◌, refl, sym, ap, ◌∙◌, append-nil}
use Rattle.std.specs.Prelude.{Some, None}
use Rattle.std.proofs.lemmas.List.Elements.{All-nil, All-cons}
use Rattle.ts_spec.specs.declared.limits.Limits.{Limits}
use Rattle.ts_spec.specs.declared.wire.WireLimits.{WireLimits}
use Rattle.ts_spec.specs.Command.{Command, Create, Alter, Add, Madd, Incr, DelRange, CreateRule, DeleteRule, Range, MRange, Get, MGet, QueryIndex, InfoOf, Ping, Echo, Quit, Drop, Exists}
use Rattle.ts_spec.specs.Encoded.{encoded_request, Fits}
use Rattle.ts_spec.specs.Grammar.{command, needs_clock}
use Rattle.ts_spec.specs.Replies.{reply_to}
use Rattle.ts_spec.specs.ResolvedCommands.{resolved}
use Rattle.ts_spec.specs.State.{State}
use Rattle.ts_spec.specs.Step.{Outcome, step}
use Rattle.ts_spec.specs.Text.{Reply}
use Rattle.ts_spec.specs.Wire.{Request, Stream, Then, Ended, Inside, Broken, stream_at, requests_of, ending_of}
use Rattle.ts_spec.proofs.ReadBack.{requests-encoded}
use Rattle.ts_spec.proofs.ResolvedTimes.{no-clock}
use Rattle.ts_journal.specs.Loading.{accepted_state, apply_recorded, apply_recorded_request, begins_as_record}
use Rattle.ts_journal.specs.Record.{is_change, items_of, accepted, bytes_of, record_words, record_of}
use Rattle.ts_journal.specs.RecordReplay.{IsRecorded, IsAccepted, has_error}
use Rattle.ts_journal.proofs.Replays.{not-refused, some-words, words-read, replays}

-- ---- the record of a command is replayed

changes : (reading : ℕ) (c : Command) → record_words reading c ≢ [] → is_change (resolved reading c) ≡ true
changes reading (Create key s) some = refl
changes reading (Alter key c) some = refl
changes reading (Add key at v on s) some = refl
changes reading (Madd ts) some = refl
changes reading (Incr key v at s) some = refl
changes reading (DelRange key from to) some = refl
changes reading (CreateRule source dest agg grid) some = refl
changes reading (DeleteRule source dest) some = refl
changes reading (Range key latest q) some = absurd (some refl)
changes reading (MRange latest show filters q group) some = absurd (some refl)
changes reading (Get key latest) some = absurd (some refl)
changes reading (MGet latest show filters) some = absurd (some refl)
changes reading (QueryIndex filters) some = absurd (some refl)
changes reading (InfoOf key) some = absurd (some refl)
changes reading (Ping word) some = absurd (some refl)
changes reading (Echo word) some = absurd (some refl)
changes reading Quit some = absurd (some refl)
changes reading (Drop keys) some = refl
changes reading (Exists keys) some = absurd (some refl)

state-accepted : (done : Outcome) → IsAccepted (reply_to done.response) → accepted_state done ≡ Some done.state
state-accepted done h =
    ap (λ b. if not (b || has_error (items_of (reply_to done.response))) then Some done.state else None) h.0
    ∙ ap (λ b. if not b then Some done.state else None) h.1

apply_recorded-so : (limits : Limits) (m n : State) (c : Command) → is_change c ≡ true → needs_clock c ≡ false
    → IsAccepted (reply_to (step limits m 0 c).response) → (step limits m 0 c).state ≡ n → apply_recorded limits m c ≡ Some n
apply_recorded-so limits m n c change clock right state =
    ap (λ b. if b && not (needs_clock c) then accepted_state (step limits m 0 c) else None) change
    ∙ ap (λ b. if not b then accepted_state (step limits m 0 c) else None) clock
    ∙ state-accepted (step limits m 0 c) right
    ∙ ap Some state

pub record-apply_recorded : (limits : Limits) (reading : ℕ) (c : Command) (m n : State) (reply : Reply) → IsRecorded limits reading c m reply n
    → apply_recorded_request limits m (command (record_words reading (accepted c reply))) ≡ Some n
record-apply_recorded limits reading c m n reply r =
    let change : Command = resolved reading (accepted c reply) in
    let all = replays limits reading 0 c m n reply r.done r.some in
    ap (apply_recorded_request limits m) (words-read limits reading c m n reply r)
    ∙ apply_recorded-so limits m n change (changes reading (accepted c reply) (some-words c reading reply r.some)) (no-clock reading (accepted c reply)) all.reply all.state

-- ---- its bytes

words-encoded : (words : Request) → words ≢ [] → bytes_of words ≡ encoded_request words
words-encoded [] some = absurd (some refl)
words-encoded (word ∷ words) some = refl

pub record-encoded : (c : Command) (reading : ℕ) (reply : Reply) → record_of c reading reply ≢ [] → record_of c reading reply ≡ encoded_request (record_words reading (accepted c reply))
record-encoded c reading reply some =
    ap (λ b. if b then [] else bytes_of (record_words reading (accepted c reply))) (not-refused c reading reply some)
    ∙ words-encoded (record_words reading (accepted c reply)) (some-words c reading reply some)

pub record-begins : (c : Command) (reading : ℕ) (reply : Reply) → record_of c reading reply ≢ [] → begins_as_record (record_of c reading reply) ≡ true
record-begins c reading reply some = ap begins_as_record (record-encoded c reading reply some)

none-more : (stream : Stream) → requests_of stream ≡ [] → ending_of stream ≡ Ended → stream ≡ Ended
none-more (Then request after rest) e ended = absurd cc
none-more Ended e ended = refl
none-more (Inside begin) e ended = ended
none-more (Broken kind at) e ended = ended

one-request : (stream : Stream) (request : Request) → requests_of stream ≡ request ∷ [] → ending_of stream ≡ Ended → (after : ℕ) × (stream ≡ Then request after Ended)
one-request (Then first after rest) request e ended =
    let its : first ≡ request = cc in
    let none = none-more rest (cc) ended in
    (after, ap (λ first. Then first after rest) its ∙ ap (λ rest. Then request after rest) none)
one-request Ended request e ended = absurd cc
one-request (Inside begin) request e ended = absurd cc
one-request (Broken kind at) request e ended = absurd cc

pub request-alone : (limits : WireLimits) (request : Request) (place : ℕ) → limits.words < 2 ^ 64 → limits.word_bytes < 2 ^ 64 → Fits limits request
    → (after : ℕ) × (stream_at limits place (encoded_request request) ≡ Then request after Ended)
request-alone limits request place few short fits =
    let read = requests-encoded limits (request ∷ []) place few short (All-cons (Fits limits) request [] fits (All-nil (Fits limits))) in
    let bytes = append-nil (encoded_request request) in
    one-request (stream_at limits place (encoded_request request)) request
    (ap (λ (bytes : List ℕ). requests_of (stream_at limits place bytes)) (sym bytes) ∙ read.0)
    (ap (λ (bytes : List ℕ). ending_of (stream_at limits place bytes)) (sym bytes) ∙ read.1)
