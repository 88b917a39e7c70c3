use Rattle.std.proofs.Common.{◌+◌, ◌-◌, ℕ, sym, subst}
use Rattle.ts_spec.specs.declared.wire.Kind.TheVariants.{Bulk, Dollar, TooLarge}
use Rattle.ts_spec.specs.Wire.{Request, Partial, Mark, Length, LengthFeed, DOLLAR, Goto, Blank, Move, after_length}
use Rattle.ts_resp.specs.declared.header.Header.TheVariants as header
use Rattle.ts_resp.specs.Headers.{IsHeader}
use Rattle.ts_spec.proofs.Lines.{expect_byte-other, length_fed, length_ends-room, length_ends-goes}
use Rattle.ts_resp.proofs.HeaderLemmas.{of_slice, length_led, IsHeader-none, IsHeader-first, IsHeader-open, IsHeader-wrong, IsHeader-room, IsHeader-feed}
use Rattle.ts_resp.proofs.header.length_header.Goals as goal

-- a request so far, and the same after n bytes more
abbrev at : Request → (later room : ℕ) → Partial
at words later room = record { words = words; later = later; room = room }

abbrev next : Request → (later room n : ℕ) → Move
next words later room n = Goto (after_length (at words later (room - n)) n)

pub returns-in_default-clause-meaning : goal.returns-in_default-clause-meaning
returns-in_default-clause-meaning c = λ words later.
    IsHeader-none c.args.limits.now (Mark (at words later c.args.room)) (next words later c.args.room) c.args.bytes.now c.in_default.len_below

pub returns-then-first-ne36-clause-meaning : goal.returns-then-first-ne36-clause-meaning
returns-then-first-ne36-clause-meaning c = λ words later.
    of_slice (λ bytes. IsHeader c.args.limits.now (Mark (at words later c.args.room)) (next words later c.args.room) bytes (header.Broken Dollar 0)) c.args.bytes.now c.in-len1-up.len_at_least
    (IsHeader-first _ _ (next words later c.args.room) _ _ _ (expect_byte-other _ DOLLAR Dollar (Goto (Length (at words later c.args.room) Blank)) c.if-first-ne36.true))

pub returns-in-Open-clause-meaning : goal.returns-in-Open-clause-meaning
returns-in-Open-clause-meaning c = λ words later.
    of_slice (λ bytes. IsHeader c.args.limits.now (Mark (at words later c.args.room)) (next words later c.args.room) bytes header.Open) c.args.bytes.now c.in-len1-up.len_at_least
    (IsHeader-open (length_led c.args.limits.now (at words later c.args.room) _ c.if-first-ne36.false) (next words later c.args.room) _ c.in-Open.ensures.line)

pub returns-then-number-room-clause-meaning : goal.returns-then-number-room-clause-meaning
returns-then-number-room-clause-meaning c = λ words later.
    subst (IsHeader c.args.limits.now (Mark (at words later c.args.room)) (next words later c.args.room) c.args.bytes.now) (sym c.too_large.ensures)
    (of_slice (λ bytes. IsHeader c.args.limits.now (Mark (at words later c.args.room)) (next words later c.args.room) bytes (header.Broken TooLarge (c.in-Some.len + 1))) c.args.bytes.now c.in-len1-up.len_at_least
    (IsHeader-room (length_led c.args.limits.now (at words later c.args.room) _ c.if-first-ne36.false) (next words later c.args.room) _ c.in-Some.number _ _ c.in-Some.ensures.line
    (length_ends-room (at words later c.args.room) c.in-Some.number c.if-number-room.true)))

pub returns-in-Some-clause-meaning : goal.returns-in-Some-clause-meaning
returns-in-Some-clause-meaning c = λ words later.
    of_slice (λ bytes. IsHeader c.args.limits.now (Mark (at words later c.args.room)) (next words later c.args.room) bytes (header.Whole c.in-Some.number (c.in-Some.len + 2))) c.args.bytes.now c.in-len1-up.len_at_least
    (IsHeader-feed (length_led c.args.limits.now (at words later c.args.room) _ c.if-first-ne36.false) (next words later c.args.room)
    (LengthFeed (at words later (c.args.room - c.in-Some.number)) c.in-Some.number) _ _ _ _ c.in-Some.ensures.line
    (length_ends-goes (at words later c.args.room) c.in-Some.number c.if-number-room.false)
    (length_fed c.args.limits.now (at words later (c.args.room - c.in-Some.number)) c.in-Some.number) c.in-Some.ensures.feed)

pub returns-then-number-room-2-clause-meaning : goal.returns-then-number-room-2-clause-meaning
returns-then-number-room-2-clause-meaning c = λ words later.
    subst (IsHeader c.args.limits.now (Mark (at words later c.args.room)) (next words later c.args.room) c.args.bytes.now) (sym c.too_large-then-number-room-2.ensures)
    (of_slice (λ bytes. IsHeader c.args.limits.now (Mark (at words later c.args.room)) (next words later c.args.room) bytes (header.Broken TooLarge (c.in-Whole.len + 1))) c.args.bytes.now c.in-len1-up.len_at_least
    (IsHeader-room (length_led c.args.limits.now (at words later c.args.room) _ c.if-first-ne36.false) (next words later c.args.room) _ c.in-Whole.number _ _ c.in-Whole.ensures.line
    (length_ends-room (at words later c.args.room) c.in-Whole.number c.if-number-room-2.true)))

pub returns-else-number-room-2-clause-meaning : goal.returns-else-number-room-2-clause-meaning
returns-else-number-room-2-clause-meaning c = λ words later.
    of_slice (λ bytes. IsHeader c.args.limits.now (Mark (at words later c.args.room)) (next words later c.args.room) bytes c.line_feed.result) c.args.bytes.now c.in-len1-up.len_at_least
    (IsHeader-feed (length_led c.args.limits.now (at words later c.args.room) _ c.if-first-ne36.false) (next words later c.args.room)
    (LengthFeed (at words later (c.args.room - c.in-Whole.number)) c.in-Whole.number) _ _ _ _ c.in-Whole.ensures.line
    (length_ends-goes (at words later c.args.room) c.in-Whole.number c.if-number-room-2.false)
    (length_fed c.args.limits.now (at words later (c.args.room - c.in-Whole.number)) c.in-Whole.number) c.line_feed.ensures.line)

pub returns-in-Wrong-clause-meaning : goal.returns-in-Wrong-clause-meaning
returns-in-Wrong-clause-meaning c = λ words later.
    of_slice (λ bytes. IsHeader c.args.limits.now (Mark (at words later c.args.room)) (next words later c.args.room) bytes (header.Broken Bulk (c.in-Wrong.at + 1))) c.args.bytes.now c.in-len1-up.len_at_least
    (IsHeader-wrong (length_led c.args.limits.now (at words later c.args.room) _ c.if-first-ne36.false) (next words later c.args.room) _ _ c.in-Wrong.ensures.line)
