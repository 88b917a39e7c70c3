-- Lemmas about parsing the header of a frame.
use Rattle.std.proofs.Common.{◌≡◌, ◌≢◌, ℕ, zero, suc, ◌+◌, ◌<◌, ◌≤◌, if◌then◌else◌, List, [], ◌∷◌, ◌++◌, length, take, drop, Option, Some, None, refl, sym, ap, ◌∙◌, subst, append-nil, drop-drop, length-drop, arith}
use Rattle.std.proofs.lemmas.Bool.{false≢true, ne_eqb}
use Rattle.std.proofs.lemmas.List.{drop_more, drop_all}
use Rattle.std.specs.Prelude.{IsSome, slice_index}
use Rattle.ts_spec.specs.Wire.{FEED, SPACE}
use Rattle.ts_mux.specs.declared.found_number.FoundNumber.TheVariants as number
use Rattle.ts_mux.specs.declared.found_header.FoundHeader.TheVariants as header
use Rattle.ts_mux.specs.Capture.{Then, Inside, Mode, Link, Length, Body, Transition, Goto, Wrong, MOST_LINKS, MOST_BYTES, transition, goes, with_byte, start, at_end, after_bytes, after_link, after_length, after_transition, read_on, capture_at}
use Rattle.ts_mux.specs.Framing.{IsLink}
use Rattle.ts_mux.specs.Headers.{LeadsTo, IsNumberMode, AreDigits, ended_number, IsNumber, IsHeader}
use Rattle.ts_mux.proofs.CaptureLemmas.{read_on-nil, read_on-byte, body_is_whole, body_is_open}

-- ---- the state after some bytes

leads_start : (bytes : List ℕ) → LeadsTo bytes 0 start
leads_start bytes = λ place more. let same : place ≡ place + 0 = omega arith in ap (λ p. read_on p place start (bytes ++ more)) same

-- the next byte
led : (bytes : List ℕ) (at : ℕ) (mode : Mode) (m : Transition) → LeadsTo bytes at mode → at < length bytes → transition mode (slice_index bytes at) ≡ m
    → (place : ℕ) (more : List ℕ)
    → capture_at place (bytes ++ more) ≡ after_transition m (place + at) place (λ from next. read_on (place + at + 1) from next (drop (at + 1) bytes ++ more))
led bytes at mode m leads h e = λ place more.
    leads place more
    ∙ ap (λ rest. read_on (place + at) place mode (rest ++ more)) (drop_more bytes at 0 h)
    ∙ read_on-byte (place + at) place mode (slice_index bytes at) (drop (at + 1) bytes ++ more) m e

leads_on : (bytes : List ℕ) (at : ℕ) (mode next : Mode) → LeadsTo bytes at mode → at < length bytes → transition mode (slice_index bytes at) ≡ Goto next
    → LeadsTo bytes (at + 1) next
leads_on bytes at mode next leads h e = λ place more.
    let there : place + at + 1 ≡ place + (at + 1) = omega arith in
    led bytes at mode (Goto next) leads h e place more ∙ ap (λ p. read_on p place next (drop (at + 1) bytes ++ more)) there

-- no byte follows
leads_all : (bytes : List ℕ) (at : ℕ) (mode : Mode) → LeadsTo bytes at mode → (place : ℕ) → capture_at place bytes ≡ read_on (place + at) place mode (drop at bytes)
leads_all bytes at mode leads place =
    ap (capture_at place) (sym (append-nil bytes)) ∙ leads place [] ∙ ap (read_on (place + at) place mode) (append-nil (drop at bytes))

leads_end : (bytes : List ℕ) (mode : Mode) → LeadsTo bytes (length bytes) mode → (place : ℕ) → capture_at place bytes ≡ at_end mode place
leads_end bytes mode leads place =
    leads_all bytes (length bytes) mode leads place
    ∙ ap (read_on (place + length bytes) place mode) (drop_all (length bytes) bytes (omega arith))
    ∙ read_on-nil (place + length bytes) place mode

-- ---- a number

module _ (least most last : ℕ) (bytes : List ℕ) (from : ℕ) where
  pub digits_none : from ≤ length bytes → AreDigits least most last bytes from from None
  digits_none within = record { within = within; begun = λ h. absurd (omega (arith, h)); range = tt; leads = λ mode is leads. leads }

  module _ (at : ℕ) (so_far : Option ℕ) (digits : AreDigits least most last bytes from at so_far) where
    -- one more digit
    pub digits_more : (value : ℕ) → at < length bytes → slice_index bytes at ≢ last → with_byte least most so_far (slice_index bytes at) ≡ Some value
        → (least ≤ value) × (value ≤ most) → AreDigits least most last bytes from (at + 1) (Some value)
    digits_more value h apart e range = record {
      within = omega (arith, h);
      begun = λ later. refl;
      range = range;
      leads = λ mode is leads. leads_on bytes at (mode so_far) (mode (Some value)) (digits.leads mode is leads) h (is.digit so_far (slice_index bytes at) apart ∙ ap (goes mode) e);
    }

    -- a byte that is no digit, or makes the number too great
    pub no_digit : at < length bytes → slice_index bytes at ≢ last → with_byte least most so_far (slice_index bytes at) ≡ None
        → IsNumber (number.Broken at) least most last bytes from
    no_digit h apart e = (so_far, digits, h, λ mode is. is.digit so_far (slice_index bytes at) apart ∙ ap (goes mode) e)

    -- no byte follows
    pub number_open : length bytes ≤ at → IsNumber number.NotYet least most last bytes from
    number_open all =
        let within = digits.within in
        let here : at ≡ length bytes = omega (arith, all, within) in
        (so_far, subst (λ n. AreDigits least most last bytes from n so_far) here digits)

  -- the byte that ends it
  pub number_ended : (at : ℕ) (so_far : Option ℕ) → AreDigits least most last bytes from at so_far → at < length bytes → slice_index bytes at ≡ last
      → IsNumber (ended_number so_far at) least most last bytes from
  number_ended at None digits h e = (None, digits, h, λ mode is. ap (transition (mode None)) e ∙ is.none)
  number_ended at (Some value) digits h e = (digits, h, e)

pub link_mode : IsNumberMode 1 MOST_LINKS SPACE Link
link_mode = record {
  digit = λ so_far byte apart. ap (λ test. if test then after_link so_far else goes Link (with_byte 1 MOST_LINKS so_far byte)) (ne_eqb byte SPACE apart);
  none = refl;
}

pub length_mode : (link : ℕ) → IsNumberMode 0 MOST_BYTES FEED (Length link)
length_mode link = record {
  digit = λ so_far byte apart. ap (λ test. if test then after_length link so_far else goes (Length link) (with_byte 0 MOST_BYTES so_far byte)) (ne_eqb byte FEED apart);
  none = refl;
}

-- ---- the header

broken : (least most last : ℕ) (mode : Option ℕ → Mode) → IsNumberMode least most last mode → (bytes : List ℕ) (from at : ℕ) → LeadsTo bytes from (mode None)
    → IsNumber (number.Broken at) least most last bytes from → IsHeader (header.Broken at) bytes
broken least most last mode is bytes from at leads found =
    (found.2, led bytes at (mode found.0) Wrong (found.1.leads mode is leads) found.2 (found.3 mode is))

pub link_whole : (bytes : List ℕ) (link at : ℕ) → IsNumber (number.Whole link at) 1 MOST_LINKS SPACE bytes 0 → LeadsTo bytes (at + 1) (Length link None)
link_whole bytes link at found =
    leads_on bytes at (Link (Some link)) (Length link None) (found.0.leads Link link_mode (leads_start bytes)) found.1 (ap (transition (Link (Some link))) found.2)

pub link_is : (bytes : List ℕ) (link at : ℕ) → IsNumber (number.Whole link at) 1 MOST_LINKS SPACE bytes 0 → IsLink link
link_is bytes link at found = record { least = found.0.range.0; most = found.0.range.1 }

pub link_open : (bytes : List ℕ) → IsNumber number.NotYet 1 MOST_LINKS SPACE bytes 0 → IsHeader header.NotYet bytes
link_open [] found = λ place. read_on-nil place place start
link_open (byte ∷ bytes) found = λ place.
    leads_end (byte ∷ bytes) (Link found.0) (found.1.leads Link link_mode (leads_start (byte ∷ bytes))) place ∙ go found.0 place (found.1.begun (omega arith))
  where
    go : (so_far : Option ℕ) (place : ℕ) → IsSome so_far → at_end (Link so_far) place ≡ Inside place
    go None place some = absurd (false≢true some)
    go (Some link) place some = refl

pub link_broken : (bytes : List ℕ) (at : ℕ) → IsNumber (number.Broken at) 1 MOST_LINKS SPACE bytes 0 → IsHeader (header.Broken at) bytes
link_broken bytes at found = broken 1 MOST_LINKS SPACE Link link_mode bytes 0 at (leads_start bytes) found

module _ (bytes : List ℕ) (from link : ℕ) (leads : LeadsTo bytes from (Length link None)) where
  -- the length is known, and the line feed follows
  fed : (len at : ℕ) → IsNumber (number.Whole len at) 0 MOST_BYTES FEED bytes from → (place : ℕ) (more : List ℕ)
      → capture_at place (bytes ++ more) ≡ after_transition (after_bytes link len []) (place + at) place (λ from next. read_on (place + at + 1) from next (drop (at + 1) bytes ++ more))
  fed len at found =
      led bytes at (Length link (Some len)) (after_bytes link len []) (found.0.leads (Length link) (length_mode link) leads) found.1 (ap (transition (Length link (Some len))) found.2)

  -- the frame has bytes
  leads_body : (len at : ℕ) → IsNumber (number.Whole (suc len) at) 0 MOST_BYTES FEED bytes from → LeadsTo bytes (at + 1) (Body link (suc len) [])
  leads_body len at found = λ place more.
      let there : place + at + 1 ≡ place + (at + 1) = omega arith in
      fed (suc len) at found place more ∙ ap (λ p. read_on p place (Body link (suc len) []) (drop (at + 1) bytes ++ more)) there

  complete : (len at : ℕ) → IsNumber (number.Whole len at) 0 MOST_BYTES FEED bytes from → at + 1 + len ≤ length bytes → (place : ℕ) (more : List ℕ)
      → capture_at place (bytes ++ more)
      ≡ Then (record { link = link; bytes = take len (drop (at + 1) bytes) }) (capture_at (place + (at + 1 + len)) (drop (at + 1 + len) bytes ++ more))
  complete zero at found fits = λ place more.
      let there : place + at + 1 ≡ place + (at + 1 + 0) = omega arith in
      let here : at + 1 ≡ at + 1 + 0 = omega arith in
      fed zero at found place more
      ∙ ap (λ p. Then (record { link = link; bytes = [] }) (capture_at p (drop (at + 1) bytes ++ more))) there
      ∙ ap (λ n. Then (record { link = link; bytes = [] }) (capture_at (place + (at + 1 + 0)) (drop n bytes ++ more))) here
  complete (suc len) at found fits = λ place more.
      let there : place + (at + 1) + suc len ≡ place + (at + 1 + suc len) = omega arith in
      leads_body len at found place more
      ∙ body_is_whole link (suc len) (drop (at + 1) bytes) (place + (at + 1)) place (omega arith) (omega (arith, fits, length-drop (at + 1) bytes)) more
      ∙ ap (λ p. Then (record { link = link; bytes = take (suc len) (drop (at + 1) bytes) }) (capture_at p (drop (suc len) (drop (at + 1) bytes) ++ more))) there
      ∙ ap (λ rest. Then (record { link = link; bytes = take (suc len) (drop (at + 1) bytes) }) (capture_at (place + (at + 1 + suc len)) (rest ++ more))) (drop-drop (suc len) (at + 1) bytes)

  incomplete : (len at : ℕ) → IsNumber (number.Whole len at) 0 MOST_BYTES FEED bytes from → length bytes < at + 1 + len → (place : ℕ) → capture_at place bytes ≡ Inside place
  incomplete zero at found short = absurd (omega (arith, short, found.1))
  incomplete (suc len) at found short = λ place.
      leads_all bytes (at + 1) (Body link (suc len) []) (leads_body len at found) place
      ∙ body_is_open link (suc len) (drop (at + 1) bytes) (place + (at + 1)) place [] (omega (arith, short, length-drop (at + 1) bytes))

  pub length_whole : (len at : ℕ) → IsLink link → IsNumber (number.Whole len at) 0 MOST_BYTES FEED bytes from → IsHeader (header.Whole link len (at + 1)) bytes
  length_whole len at is found = record {
    connection = is;
    most = found.0.range.1;
    some = omega arith;
    within = omega (arith, found.1);
    whole = complete len at found;
    inside = incomplete len at found;
  }

  pub length_broken : (at : ℕ) → IsNumber (number.Broken at) 0 MOST_BYTES FEED bytes from → IsHeader (header.Broken at) bytes
  length_broken at found = broken 0 MOST_BYTES FEED (Length link) (length_mode link) bytes from at leads found

pub length_open : (bytes : List ℕ) (from link : ℕ) → LeadsTo bytes from (Length link None) → 0 < from → from ≤ length bytes
    → IsNumber number.NotYet 0 MOST_BYTES FEED bytes from → IsHeader header.NotYet bytes
length_open [] from link leads some within found = absurd (omega (arith, some, within))
length_open (byte ∷ bytes) from link leads some within found =
    leads_end (byte ∷ bytes) (Length link found.0) (found.1.leads (Length link) (length_mode link) leads)
