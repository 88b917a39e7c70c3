-- A command without a record changed nothing.
use Rattle.std.proofs.Common.{◌≡◌, ◌≢◌, ℕ, ◌*◌, Bool, true, false, if◌then◌else◌, List, [], ◌∷◌, length, refl, sym, ap, ◌∙◌, arith}
use Rattle.std.proofs.lemmas.Bool.{false≢true}
use Rattle.std.specs.Prelude.{flat_map, codes}
use Rattle.ts_spec.specs.declared.limits.Limits.{Limits}
use Rattle.ts_spec.specs.Command.{Triple, Command, Create, Alter, Add, Madd, Incr, DelRange, CreateRule, DeleteRule, Range, MRange, Get, MGet, QueryIndex, InfoOf, Ping, Echo, Quit, Drop, Exists}
use Rattle.ts_spec.specs.Settings.{Word}
use Rattle.ts_spec.specs.State.{State}
use Rattle.ts_spec.specs.Step.{step}
use Rattle.ts_spec.specs.Text.{Reply, Simple, Error, Int, Value, Bulk, Nil, Array, Replies, Empty, Item}
use Rattle.ts_spec.specs.Wire.{Request}
use Rattle.ts_journal.specs.Fixed.{is_fixed}
use Rattle.ts_journal.specs.Record.{is_error, is_number, items_of, accepted_part, triple_words, with_name, record_words, bytes_of, record_of}
use Rattle.ts_journal.specs.RecordReplay.{ExecutesTriple, ExecutesTriples, IsStep, IsDone}
use Rattle.ts_journal.proofs.ReadBack.{samples-count}
use Rattle.ts_journal.proofs.ShortAnswers.{short}
use Rattle.ts_journal.proofs.TakenTriples.{samples-accepted_part}

no-words : (words : Request) → bytes_of words ≡ [] → words ≡ []
no-words [] e = refl
no-words (word ∷ words) e = absurd cc

-- ---- a change but TS.MADD: it was refused

refused : (b : Bool) (words : Request) → words ≢ [] → (if b then [] else bytes_of words) ≡ [] → b ≡ true
refused true words some e = refl
refused false words some e = absurd (some (no-words words e))

step-stays : (limits : Limits) (reading : ℕ) (c : Command) (m n : State) (reply : Reply) (words : Request) → is_fixed c ≡ true → words ≢ []
    → IsStep (step limits m reading c) reply n → (if is_error reply then [] else bytes_of words) ≡ [] → n ≡ m
step-stays limits reading c m n reply words fixed some done none =
    done.state ∙ (short limits m reading c fixed).stays (sym (ap is_error done.says) ∙ refused (is_error reply) words some none)

-- ---- TS.MADD: no triple was taken

no-named : (name : Word) (words : List Word) → with_name name words ≡ [] → words ≡ []
no-named name [] e = refl
no-named name (word ∷ words) e = absurd cc

error-items : (reply : Reply) → is_error reply ≡ true → items_of reply ≡ Empty
error-items (Error words) e = refl
error-items (Simple words) e = absurd (false≢true e)
error-items (Int n) e = absurd (false≢true e)
error-items (Value cell) e = absurd (false≢true e)
error-items (Bulk bytes) e = absurd (false≢true e)
error-items Nil e = absurd (false≢true e)
error-items (Array items) e = absurd (false≢true e)

accepted_part-none : (ts : List Triple) → accepted_part ts Empty ≡ []
accepted_part-none [] = refl
accepted_part-none (t ∷ ts) = refl

no-triples : (limits : Limits) (reading : ℕ) (ts : List Triple) (m n : State) (replies : Replies) → ExecutesTriples limits reading ts m replies n
    → flat_map (triple_words reading) (accepted_part ts replies) ≡ [] → accepted_part ts replies ≡ []
no-triples limits reading ts m n replies done e = go (accepted_part ts replies) (samples-count reading (accepted_part ts replies) (samples-accepted_part limits reading ts m n replies done)) e
  where
    go : (those : List Triple) → length (flat_map (triple_words reading) those) ≡ 3 * length those → flat_map (triple_words reading) those ≡ [] → those ≡ []
    go [] count e = refl
    go (t ∷ those) count e = absurd (let none : length (flat_map (triple_words reading) (t ∷ those)) ≡ 0 = ap length e in omega arith)

triples-stay : (limits : Limits) (reading : ℕ) (ts : List Triple) (m n : State) (replies : Replies) → ExecutesTriples limits reading ts m replies n → accepted_part ts replies ≡ [] → n ≡ m
triples-stay limits reading [] m n Empty h e = h
triples-stay limits reading [] m n (Item reply replies) h e = absurd h
triples-stay limits reading (t ∷ ts) m n Empty h e = absurd h
triples-stay limits reading (t ∷ ts) m n (Item reply replies) (mid, here, after) e = go (is_number reply) here e (triples-stay limits reading ts mid n replies after)
  where
    go : (b : Bool) → ExecutesTriple b limits reading t m mid → (if b then t ∷ accepted_part ts replies else accepted_part ts replies) ≡ [] → (accepted_part ts replies ≡ [] → n ≡ mid) → n ≡ m
    go true here e others = absurd cc
    go false here e others = others e ∙ here

madd-stays : (limits : Limits) (reading : ℕ) (ts : List Triple) (m n : State) (reply : Reply) → ExecutesTriples limits reading ts m (items_of reply) n → record_of (Madd ts) reading reply ≡ [] → n ≡ m
madd-stays limits reading ts m n reply done none = triples-stay limits reading ts m n (items_of reply) done (go (is_error reply) refl none)
  where
    those : List Triple
    those = accepted_part ts (items_of reply)

    go : (b : Bool) → is_error reply ≡ b → (if b then [] else bytes_of (with_name (codes "TS.MADD") (flat_map (triple_words reading) those))) ≡ [] → those ≡ []
    go true wrong e = ap (accepted_part ts) (error-items reply wrong) ∙ accepted_part-none ts
    go false right e =
        no-triples limits reading ts m n (items_of reply) done
        (no-named (codes "TS.MADD") (flat_map (triple_words reading) those) (no-words (with_name (codes "TS.MADD") (flat_map (triple_words reading) those)) e))

-- ---- any command

pub unrecorded-stays : (limits : Limits) (reading : ℕ) (c : Command) (m n : State) (reply : Reply) → IsDone limits reading c m reply n → record_of c reading reply ≡ [] → n ≡ m
unrecorded-stays limits reading (Create key s) m n reply done none = step-stays limits reading (Create key s) m n reply (record_words reading (Create key s)) refl (λ e. cc) done none
unrecorded-stays limits reading (Alter key c) m n reply done none = step-stays limits reading (Alter key c) m n reply (record_words reading (Alter key c)) refl (λ e. cc) done none
unrecorded-stays limits reading (Add key at v on s) m n reply done none =
    step-stays limits reading (Add key at v on s) m n reply (record_words reading (Add key at v on s)) refl (λ e. cc) done none
unrecorded-stays limits reading (Madd ts) m n reply done none = madd-stays limits reading ts m n reply done none
unrecorded-stays limits reading (Incr key v at s) m n reply done none = step-stays limits reading (Incr key v at s) m n reply (record_words reading (Incr key v at s)) refl (λ e. cc) done none
unrecorded-stays limits reading (DelRange key from to) m n reply done none =
    step-stays limits reading (DelRange key from to) m n reply (record_words reading (DelRange key from to)) refl (λ e. cc) done none
unrecorded-stays limits reading (CreateRule source dest agg grid) m n reply done none =
    step-stays limits reading (CreateRule source dest agg grid) m n reply (record_words reading (CreateRule source dest agg grid)) refl (λ e. cc) done none
unrecorded-stays limits reading (DeleteRule source dest) m n reply done none =
    step-stays limits reading (DeleteRule source dest) m n reply (record_words reading (DeleteRule source dest)) refl (λ e. cc) done none
unrecorded-stays limits reading (Range key latest q) m n reply done none = done.state
unrecorded-stays limits reading (MRange latest show filters q group) m n reply done none = done.state
unrecorded-stays limits reading (Get key latest) m n reply done none = done.state
unrecorded-stays limits reading (MGet latest show filters) m n reply done none = done.state
unrecorded-stays limits reading (QueryIndex filters) m n reply done none = done.state
unrecorded-stays limits reading (InfoOf key) m n reply done none = done.state
unrecorded-stays limits reading (Ping word) m n reply done none = done.state
unrecorded-stays limits reading (Echo word) m n reply done none = done.state
unrecorded-stays limits reading Quit m n reply done none = done.state
unrecorded-stays limits reading (Drop keys) m n reply done none = step-stays limits reading (Drop keys) m n reply (record_words reading (Drop keys)) refl (λ e. cc) done none
unrecorded-stays limits reading (Exists keys) m n reply done none = done.state
