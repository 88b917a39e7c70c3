-- A reader without unread bytes yields no event before more bytes come.
use Rattle.std.proofs.Common.{◌≡◌, ℕ, ◌==◌, Bool, true, false, not, List, [], ◌∷◌, ◌++◌, length, refl, ap, ◌∙◌, arith}
use Rattle.std.proofs.lemmas.Bool.{eqb-true, eqb-false}
use Rattle.ts_spec.specs.Wire.{Mode, Start, at_end, read_on}
use Rattle.ts_spec.proofs.Streams.{read_on-nil}
use Rattle.ts_resp.specs.Reading.{Reading, mode_of, stream_of}
use Rattle.ts_mux.specs.Order.{events_of}

-- no event comes with the end of the bytes
ends : (mode : Mode) (begin : ℕ) → events_of (at_end mode begin) ≡ []
ends Start begin = refl
ends (Mode.Text line) begin = refl
ends (Mode.Count line) begin = refl
ends (Mode.CountFeed n) begin = refl
ends (Mode.Mark so_far) begin = refl
ends (Mode.Length so_far line) begin = refl
ends (Mode.LengthFeed so_far n) begin = refl
ends (Mode.Body so_far n bytes) begin = refl
ends (Mode.WordReturn so_far bytes) begin = refl
ends (Mode.WordFeed so_far bytes) begin = refl

is_true : (b : Bool) → not b ≡ false → b ≡ true
is_true true h = refl
is_true false h = absurd (eqb-false 0 0 h refl)

none : (bytes : List ℕ) → length bytes ≡ 0 → bytes ≡ []
none [] h = refl
none (byte ∷ bytes) h = absurd (omega (arith, h))

pub none_unread : (reader : Reading) → not (length reader.unread == 0) ≡ false → events_of (stream_of reader []) ≡ []
none_unread reader h =
    ap (λ (unread : List ℕ). events_of (read_on reader.limits reader.place reader.begin (mode_of reader.so_far) (unread ++ [])))
    (none reader.unread (eqb-true (length reader.unread) 0 (is_true (length reader.unread == 0) h)))
    ∙ ap events_of (read_on-nil reader.limits reader.place reader.begin (mode_of reader.so_far))
    ∙ ends (mode_of reader.so_far) reader.begin
