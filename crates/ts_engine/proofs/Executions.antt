-- An executed command, in the terms of a journal's laws.
use Rattle.std.proofs.Common.{◌≡◌, inl, inr, ℕ, false, List, [], ◌∷◌, map, refl, sym, ◌∙◌, subst}
use Rattle.ts_spec.specs.Command.{Triple, Command, Create, Alter, Add, Madd, Incr, DelRange, CreateRule, DeleteRule, Range, MRange, Get, MGet, QueryIndex, InfoOf, Ping, Echo, Quit, Drop, Exists}
use Rattle.ts_spec.specs.Replies.{reply_list, item_reply}
use Rattle.ts_spec.specs.ResolvedCommands.{is_written, AnswersOneItem}
use Rattle.ts_spec.specs.Response.{Item as Answer, Wrote, IsWrong, IsRefused as Refuses}
use Rattle.ts_spec.specs.State.{State}
use Rattle.ts_spec.specs.Step.{Outcome, triple_step, item_of}
use Rattle.ts_spec.specs.Text.{Reply}
use Rattle.ts_spec.specs.declared.limits.Limits.{Limits}
use Rattle.ts_spec.proofs.Untaken.{triple-told}
use Rattle.ts_db.specs.DbState.{DbState}
use Rattle.ts_journal.specs.Record.{is_number, items_of}
use Rattle.ts_journal.specs.RecordReplay.{ExecutesTriple, ExecutesTriples, IsDone}
use Rattle.ts_journal.specs.RecordReplay as journal
use Rattle.ts_execution.specs.Handling.{IsStep, HasItem, HaveItems, IsAnswered}

-- the only item has the only reply
only-reply : (items : List Answer) (item : Answer) (reply : Reply) → items ≡ item ∷ [] → map item_reply items ≡ reply ∷ [] → item_reply item ≡ reply
only-reply items item reply is says = (cc)

-- if the item is a number a sample was written, otherwise the state stays
does-item : (limits : Limits) (reading : ℕ) (t : Triple) (old new : State) (item : Answer)
    → item_of (triple_step limits old reading t.key t.at t.value).response ≡ item ∷ []
    → (is_written item ≡ false → (triple_step limits old reading t.key t.at t.value).state ≡ old)
    → new ≡ (triple_step limits old reading t.key t.at t.value).state → ExecutesTriple (is_number (item_reply item)) limits reading t old new
does-item limits reading t old new (Wrote time) wrote stays is = record { time = time; wrote = wrote; state = is }
does-item limits reading t old new (IsWrong fault) told stays is = is ∙ stays refl
does-item limits reading t old new (Refuses refusal) told stays is = is ∙ stays refl

does-one : (limits : Limits) (reading : ℕ) (t : Triple) (old new : State) (reply : Reply) → HasItem limits reading t old reply new → ExecutesTriple (is_number reply) limits reading t old new
does-one limits reading t old new reply (inl is) =
    let one : AnswersOneItem old (triple_step limits old reading t.key t.at t.value) = triple-told limits old reading t.key t.at t.value in
    subst (λ (r : Reply). ExecutesTriple (is_number r) limits reading t old new)
    (only-reply (item_of (triple_step limits old reading t.key t.at t.value).response) one.item reply one.told is.reply)
    (does-item limits reading t old new one.item one.told one.stays is.state)
does-one limits reading t old new reply (inr lost) =
    subst (λ (r : Reply). ExecutesTriple (is_number r) limits reading t old new) (sym lost.reply) lost.same

do-all : (limits : Limits) (reading : ℕ) (ts : List Triple) (old new : State) (items : List Reply) → HaveItems limits reading ts old items new → ExecutesTriples limits reading ts old (reply_list items) new
do-all limits reading [] old new items have = subst (λ (l : List Reply). ExecutesTriples limits reading [] old (reply_list l) new) (sym have.0) have.1
do-all limits reading (t ∷ ts) old new items have =
    subst (λ (l : List Reply). ExecutesTriples limits reading (t ∷ ts) old (reply_list l) new) (sym have.split)
    (have.mid, does-one limits reading t old have.mid have.first have.here, do-all limits reading ts have.mid new have.others have.after)

as-step : (o : Outcome) (old new : DbState) (reply : Reply) → IsStep o old reply new → journal.IsStep o reply new.state
as-step o old new reply is = record { says = is.says; state = is.state }

-- the laws of a journal cover how the command was answered
pub is-done : (c : Command) (reading : ℕ) (old new : DbState) (reply : Reply) → IsAnswered reading c old reply new → IsDone old.limits reading c old.state reply new.state
is-done (Madd triples) reading old new reply is =
    subst (λ (r : Reply). ExecutesTriples old.limits reading triples old.state (items_of r) new.state) (sym is.says) (do-all old.limits reading triples old.state new.state is.items is.each)
is-done (Create key s) reading old new reply is = as-step _ old new reply is
is-done (Alter key d) reading old new reply is = as-step _ old new reply is
is-done (Add key at v on s) reading old new reply is = as-step _ old new reply is
is-done (Incr key v at s) reading old new reply is = as-step _ old new reply is
is-done (DelRange key from to) reading old new reply is = as-step _ old new reply is
is-done (CreateRule source dest agg grid) reading old new reply is = as-step _ old new reply is
is-done (DeleteRule source dest) reading old new reply is = as-step _ old new reply is
is-done (Drop keys) reading old new reply is = as-step _ old new reply is
is-done (Range key latest q) reading old new reply is = as-step _ old new reply is
is-done (MRange latest show filters q group) reading old new reply is = as-step _ old new reply is
is-done (Get key latest) reading old new reply is = as-step _ old new reply is
is-done (MGet latest show filters) reading old new reply is = as-step _ old new reply is
is-done (QueryIndex filters) reading old new reply is = as-step _ old new reply is
is-done (InfoOf key) reading old new reply is = as-step _ old new reply is
is-done (Ping word) reading old new reply is = as-step _ old new reply is
is-done (Echo word) reading old new reply is = as-step _ old new reply is
is-done Quit reading old new reply is = as-step _ old new reply is
is-done (Exists keys) reading old new reply is = as-step _ old new reply is

-- the limits stay
pub limits-stay : (c : Command) (reading : ℕ) (old new : DbState) (reply : Reply) → IsAnswered reading c old reply new → new.limits ≡ old.limits
limits-stay (Madd triples) reading old new reply is = is.limits
limits-stay (Create key s) reading old new reply is = is.limits
limits-stay (Alter key d) reading old new reply is = is.limits
limits-stay (Add key at v on s) reading old new reply is = is.limits
limits-stay (Incr key v at s) reading old new reply is = is.limits
limits-stay (DelRange key from to) reading old new reply is = is.limits
limits-stay (CreateRule source dest agg grid) reading old new reply is = is.limits
limits-stay (DeleteRule source dest) reading old new reply is = is.limits
limits-stay (Drop keys) reading old new reply is = is.limits
limits-stay (Range key latest q) reading old new reply is = is.limits
limits-stay (MRange latest show filters q group) reading old new reply is = is.limits
limits-stay (Get key latest) reading old new reply is = is.limits
limits-stay (MGet latest show filters) reading old new reply is = is.limits
limits-stay (QueryIndex filters) reading old new reply is = is.limits
limits-stay (InfoOf key) reading old new reply is = is.limits
limits-stay (Ping word) reading old new reply is = is.limits
limits-stay (Echo word) reading old new reply is = is.limits
limits-stay Quit reading old new reply is = is.limits
limits-stay (Exists keys) reading old new reply is = is.limits
