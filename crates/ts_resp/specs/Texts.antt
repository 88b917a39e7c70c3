-- Inline requests at the front of the unread bytes.
use Rattle.std.specs.Prelude.{◌≡◌, ℕ, ◌+◌, ◌<◌, ◌≤◌, Bool, ◌==◌, nat_lt, if◌then◌else◌, List, ◌++◌, length, take, drop, Some}
use Rattle.std.specs.List.{position_or_len}
use Rattle.ts_spec.specs.declared.wire.Kind.TheVariants.{TooLarge}
use Rattle.ts_spec.specs.declared.wire.WireLimits.{WireLimits}
use Rattle.ts_spec.specs.Wire.{Start, Inside, Broken, Whole, FEED, then_request, words_of_line, read_on, stream_at}
use Rattle.ts_resp.specs.declared.text.Text.{Text}
use Rattle.ts_resp.specs.declared.text.Text.TheVariants as text
use Rattle.ts_resp.specs.Reading.{begun_after, begun_on}

-- whether a byte is an LF
abbrev pub is_feed : ℕ → Bool
is_feed byte = byte == FEED

-- how many bytes come before the first LF; all if there is none
abbrev pub before_feed : List ℕ → ℕ
before_feed bytes = position_or_len is_feed bytes

-- where the line ends, if it has at most this many bytes
abbrev pub text_at : ℕ → List ℕ → Text
text_at limit bytes =
    if nat_lt limit (before_feed bytes) then text.TooLong else (if nat_lt (before_feed bytes) (length bytes) then text.Whole (before_feed bytes) else text.Open)

-- The end of the line agrees with the stream.
abbrev pub IsText : WireLimits → List ℕ → Text → Type 0
IsText limits bytes text.Open = (place begin : ℕ) → read_on limits place begin Start bytes ≡ Inside begin
IsText limits bytes (text.Whole feed) =
    (place begin : ℕ) (more : List ℕ) → read_on limits place begin Start (bytes ++ more)
    ≡ then_request (words_of_line (take feed bytes)) (place + feed + 1) (stream_at limits (place + feed + 1) (drop (feed + 1) bytes ++ more))
IsText limits bytes text.TooLong =
    (place begin : ℕ) (more : List ℕ) → read_on limits place begin Start (bytes ++ more) ≡ Broken TooLarge (place + limits.line_bytes)

-- The end of the line agrees on where the current request begins.
abbrev pub IsTextBegun : WireLimits → List ℕ → Text → Type 0
IsTextBegun limits bytes text.Open = (place begin : ℕ) → begun_on limits place begin Start bytes ≡ Some begin
IsTextBegun limits bytes (text.Whole feed) =
    (place begin : ℕ) → begun_on limits place begin Start bytes
    ≡ begun_after (Whole (words_of_line (take feed bytes))) (place + feed) begin (λ from on. begun_on limits (place + feed + 1) from on (drop (feed + 1) bytes))
IsTextBegun limits bytes text.TooLong = (place begin : ℕ) → begun_on limits place begin Start bytes ≡ Some begin

-- the end of the line is correct for n bytes: no LF among them, an LF at this index, or more than the limit
abbrev pub IsTextWithin : WireLimits → List ℕ → Text → Type 0
IsTextWithin limits bytes text.Open = length bytes ≤ before_feed bytes
IsTextWithin limits bytes (text.Whole feed) = feed < length bytes
IsTextWithin limits bytes text.TooLong = limits.line_bytes < length bytes
