-- Written frames parse back to the same frames.
use Rattle.std.proofs.Common.{◌≡◌, ℕ, suc, ◌+◌, ◌*◌, ◌/◌, ◌%◌, ◌^◌, ◌<◌, ◌≤◌, ◌&&◌, nat_le, if◌then◌else◌, List, [], ◌∷◌, ◌++◌, length, Option, Some, None, All, refl, ap, ◌∙◌, append_assoc, length-append, arith}
use Rattle.std.proofs.lemmas.Bool.{ne_eqb, le-leb}
use Rattle.std.proofs.lemmas.Fmt.{decimal_by_steps}
use Rattle.std.specs.Fmt.{decimal}
use Rattle.ts_spec.specs.Wire.{FEED, SPACE, digit_of}
use Rattle.ts_mux.specs.declared.frame.Frame.{Frame}
use Rattle.ts_mux.specs.Capture.{Capture, Then, Ended, Mode, Link, Length, MOST_LINKS, MOST_BYTES, within, with_digit, with_byte, goes, after_bytes, transition, after_transition, read_on, capture_at, capture, frames_of, ending_of, header, framed, all_framed}
use Rattle.ts_mux.specs.Framing.{IsFrame}
use Rattle.ts_mux.specs.Headers.{IsNumberMode}
use Rattle.ts_mux.proofs.CaptureLemmas.{read_on-nil, read_on-byte, body_is_read}
use Rattle.ts_mux.proofs.HeaderLemmas.{link_mode, length_mode}

within-is : (least most number : ℕ) → least ≤ number → number ≤ most → within least most number ≡ Some number
within-is least most number low high =
    ap (λ test. if test && nat_le number most then Some number else None) (le-leb least number low)
    ∙ ap (λ test. if test then Some number else None) (le-leb number most high)

with_byte-is : (least most : ℕ) (so_far : Option ℕ) (digit : ℕ) → digit < 10 → with_byte least most so_far (48 + digit) ≡ with_digit least most so_far digit
with_byte-is least most so_far digit small =
    let d : digit_of (48 + digit) ≡ digit = omega arith in
    ap (λ test. if test && nat_le (48 + digit) 57 then with_digit least most so_far (digit_of (48 + digit)) else None) (le-leb 48 (48 + digit) (omega arith))
    ∙ ap (λ test. if test then with_digit least most so_far (digit_of (48 + digit)) else None) (le-leb (48 + digit) 57 (omega arith))
    ∙ ap (with_digit least most so_far) d

with_digit-more : (least most number digit : ℕ) → 1 ≤ number → least ≤ 1 → 10 * number + digit ≤ most → with_digit least most (Some number) digit ≡ Some (10 * number + digit)
with_digit-more least most number digit some small fits =
    ap (λ test. if test then None else within least most (10 * number + digit)) (ne_eqb number 0 (λ e. omega arith))
    ∙ within-is least most (10 * number + digit) (omega arith) fits

-- the digits of a number parse to that number
abbrev AreRead : (least most : ℕ) (mode : Option ℕ → Mode) (number : ℕ) → List ℕ → Type 0
AreRead least most mode number digits =
    least ≤ number → number ≤ most → (place begin : ℕ) (more : List ℕ)
    → read_on place begin (mode None) (digits ++ more) ≡ read_on (place + length digits) begin (mode (Some number)) more

number_is_read : (least most last : ℕ) (mode : Option ℕ → Mode) → IsNumberMode least most last mode → least ≤ 1 → last < 48 → (number : ℕ) → number < 2 ^ 64
    → AreRead least most mode number (decimal number)
number_is_read least most last mode m small below number fits = decimal_by_steps (AreRead least most mode) one more number fits
  where
    moves : (so_far : Option ℕ) (byte : ℕ) → 48 ≤ byte → transition (mode so_far) byte ≡ goes mode (with_byte least most so_far byte)
    moves so_far byte h = m.digit so_far byte (λ e. omega (arith, h, e, below))

    one : (n : ℕ) → n < 10 → AreRead least most mode n ((48 + n) ∷ [])
    one n h = λ low high place begin rest.
        read_on-byte place begin (mode None) (48 + n) rest _
        (moves None (48 + n) (omega arith) ∙ ap (goes mode) (with_byte-is least most None n h ∙ within-is least most n low high))

    more : (n : ℕ) (digits : List ℕ) → 10 ≤ n → AreRead least most mode (n / 10) digits → AreRead least most mode n (digits ++ ((48 + n % 10) ∷ []))
    more n digits h before = λ low high place begin rest.
        let some : 1 ≤ n / 10 = omega arith in
        let whole : 10 * (n / 10) + n % 10 ≡ n = omega arith in
        let there : place + length digits + 1 ≡ place + length (digits ++ (48 + n % 10) ∷ []) = omega (arith, length-append digits ((48 + n % 10) ∷ [])) in
        ap (read_on place begin (mode None)) (append_assoc digits ((48 + n % 10) ∷ []) rest)
        ∙ before (omega (arith, some, small)) (omega arith) place begin ((48 + n % 10) ∷ rest)
        ∙ read_on-byte (place + length digits) begin (mode (Some (n / 10))) (48 + n % 10) rest _
        (moves (Some (n / 10)) (48 + n % 10) (omega arith)
        ∙ ap (goes mode) (with_byte-is least most (Some (n / 10)) (n % 10) (omega arith) ∙ with_digit-more least most (n / 10) (n % 10) some small (omega (arith, whole, high)) ∙ ap Some whole))
        ∙ ap (λ place. read_on place begin (mode (Some n)) rest) there

-- these bytes lead to some offset, from which the capture continues
abbrev Leads : Capture → (ℕ → Capture) → Type 0
Leads capture rest = (place : ℕ) × (capture ≡ rest place)

-- the body of a frame after its header
bytes_are_read : (link : ℕ) (bytes : List ℕ) (place begin : ℕ) (more : List ℕ)
    → Leads (after_transition (after_bytes link (length bytes) []) place begin (λ from next. read_on (place + 1) from next (bytes ++ more)))
    (λ after. Then (record { link = link; bytes = bytes }) (capture_at after more))
bytes_are_read link [] place begin more = (place + 1, refl)
bytes_are_read link (byte ∷ bytes) place begin more = (place + 1 + suc (length bytes), body_is_read link byte bytes (place + 1) begin [] more)

framed-append : (frame : Frame) (more : List ℕ)
    → framed frame ++ more ≡ decimal frame.link ++ SPACE ∷ (decimal (length frame.bytes) ++ FEED ∷ (frame.bytes ++ more))
framed-append frame more =
    let first = decimal frame.link in
    let second = SPACE ∷ decimal (length frame.bytes) in
    append_assoc (header frame.link (length frame.bytes)) frame.bytes more
    ∙ append_assoc (first ++ second) (FEED ∷ []) (frame.bytes ++ more)
    ∙ append_assoc first second (FEED ∷ (frame.bytes ++ more))

frame_is_read : (frame : Frame) → IsFrame frame → (place : ℕ) (more : List ℕ) → Leads (capture_at place (framed frame ++ more)) (λ after. Then frame (capture_at after more))
frame_is_read frame is place more =
    let link = frame.link in
    let size = length frame.bytes in
    let low = is.link.least in
    let high = is.link.most in
    let fits = is.length in
    let space = place + length (decimal link) in
    let feed = space + 1 + length (decimal size) in
    let body = bytes_are_read link frame.bytes feed place more in (
      body.0,
      ap (capture_at place) (framed-append frame more)
          ∙ number_is_read 1 MOST_LINKS SPACE Link link_mode (omega arith) (omega arith) link (omega (arith, high)) low high place place (SPACE ∷ (decimal size ++ FEED ∷ (frame.bytes ++ more)))
          ∙ read_on-byte space place (Link (Some link)) SPACE (decimal size ++ FEED ∷ (frame.bytes ++ more)) _ refl
          ∙ number_is_read 0 MOST_BYTES FEED (Length link) (length_mode link) (omega arith) (omega arith) size (omega (arith, fits)) (omega arith) fits (space + 1) place (FEED ∷ (frame.bytes ++ more))
          ∙ read_on-byte feed place (Length link (Some size)) FEED (frame.bytes ++ more) _ refl
          ∙ body.1,
    )

pub frames-framed : (frames : List Frame) (place : ℕ) → All IsFrame frames
    → (frames_of (capture_at place (all_framed frames)) ≡ frames) × (ending_of (capture_at place (all_framed frames)) ≡ Ended)
frames-framed [] place all = (ap frames_of (read_on-nil place place (Link None)), ap ending_of (read_on-nil place place (Link None)))
frames-framed (frame ∷ frames) place all =
    let first = frame_is_read frame (all 0 frame (omega arith)) place (all_framed frames) in
    let others = frames-framed frames first.0 (λ k d h. all (suc k) d (omega arith)) in (
      ap frames_of first.1 ∙ ap (λ rest. frame ∷ rest) others.0,
      ap ending_of first.1 ∙ others.1,
    )
