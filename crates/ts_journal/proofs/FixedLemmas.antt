-- The record of a change that succeeds or fails as one.
use Rattle.std.proofs.Common.{◌≡◌, ℕ, true, if◌then◌else◌, List, [], refl, ◌∙◌, ap}
use Rattle.std.proofs.lemmas.Bool.{false≢true}
use Rattle.ts_spec.specs.Command.{Command, Create, Alter, Add, Madd, Incr, DelRange, CreateRule, DeleteRule, Range, MRange, Get, MGet, QueryIndex, InfoOf, Ping, Echo, Quit, Drop, Exists}
use Rattle.ts_spec.specs.Encoded.{encoded_request}
use Rattle.ts_spec.specs.Text.{Reply, text}
use Rattle.ts_journal.specs.Fixed.{is_fixed, fixed_words}
use Rattle.ts_journal.specs.Lines.{begins_error}
use Rattle.ts_journal.specs.Record.{is_error, record_of}
use Rattle.ts_journal.proofs.Accepted.{is-error}

whole : (c : Command) (reading : ℕ) (reply : Reply) → is_fixed c ≡ true → (if is_error reply then [] else encoded_request (fixed_words reading c)) ≡ record_of c reading reply
whole (Create key s) reading reply h = refl
whole (Alter key s) reading reply h = refl
whole (Add key at v on s) reading reply h = refl
whole (Madd ts) reading reply h = absurd (false≢true h)
whole (Incr key v at s) reading reply h = refl
whole (DelRange key from to) reading reply h = refl
whole (CreateRule source dest agg grid) reading reply h = refl
whole (DeleteRule source dest) reading reply h = refl
whole (Range key latest q) reading reply h = absurd (false≢true h)
whole (MRange latest show filters q group) reading reply h = absurd (false≢true h)
whole (Get key latest) reading reply h = absurd (false≢true h)
whole (MGet latest show filters) reading reply h = absurd (false≢true h)
whole (QueryIndex filters) reading reply h = absurd (false≢true h)
whole (InfoOf key) reading reply h = absurd (false≢true h)
whole (Ping word) reading reply h = absurd (false≢true h)
whole (Echo word) reading reply h = absurd (false≢true h)
whole Quit reading reply h = absurd (false≢true h)
whole (Drop keys) reading reply h = refl
whole (Exists keys) reading reply h = absurd (false≢true h)

-- its bytes are there before the reply is
pub record-of-fixed : (c : Command) (reading : ℕ) (bytes : List ℕ) (reply : Reply) → is_fixed c ≡ true → bytes ≡ encoded_request (fixed_words reading c)
    → (if begins_error (text reply) then [] else bytes) ≡ record_of c reading reply
record-of-fixed c reading bytes reply h e =
    ap (λ b. if b then [] else bytes) (is-error reply) ∙ ap (λ l. if is_error reply then [] else l) e ∙ whole c reading reply h
