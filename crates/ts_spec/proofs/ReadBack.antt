-- Encoding and then parsing gives the same requests.
use Rattle.std.proofs.Common.{◌≡◌, ℕ, suc, ◌+◌, ◌-◌, ◌^◌, ◌<◌, ◌≤◌, List, [], ◌∷◌, ◌++◌, length, sum_by, All, refl, ap, ◌∙◌, append_assoc, append-nil, arith}
use Rattle.std.proofs.lemmas.List.Sums.{sum_by-cons}
use Rattle.std.specs.Fmt.{decimal}
use Rattle.ts_spec.specs.declared.wire.WireLimits.{WireLimits}
use Rattle.ts_spec.specs.Text.{CRLF}
use Rattle.ts_spec.specs.Wire.{Request, Stream, Then, Ended, Partial, Start, CountFeed, Mark, LengthFeed, WordReturn, WordFeed, STAR, DOLLAR, RETURN, FEED, after_move, after_word, then_request, read_on, stream_at, requests_of, ending_of}
use Rattle.ts_spec.specs.Encoded.{encoded_word, encoded_words, encoded_request, encoded, Fits}
use Rattle.ts_spec.proofs.Streams.{read_on-nil, read_on-byte, read_on-word, after_length-body}
use Rattle.ts_spec.proofs.Lines.{count_line, length_line, length_ends-goes, line_is_read}

-- an offset after these bytes, from which the stream continues
abbrev Leads : Stream → (ℕ → Stream) → Type 0
Leads stream rest = (place : ℕ) × (stream ≡ rest place)

-- the word count
count_is_read : (limits : WireLimits) (later place begin : ℕ) (more : List ℕ) → suc later < 2 ^ 64 → suc later ≤ limits.words
    → Leads (read_on limits place begin Start (STAR ∷ (decimal (suc later) ++ RETURN ∷ FEED ∷ more)))
    (λ place. read_on limits place begin (Mark (record { words = []; later = later; room = limits.request_bytes })) more)
count_is_read limits later place begin more small fits = (
  place + 1 + length (decimal (suc later)) + 1 + 1,
  read_on-byte limits place begin Start STAR (decimal (suc later) ++ RETURN ∷ FEED ∷ more) _ refl
      ∙ line_is_read (count_line limits) (suc later) small fits (place + 1) begin (FEED ∷ more)
      ∙ read_on-byte limits (place + 1 + length (decimal (suc later)) + 1) begin (CountFeed (suc later)) FEED more _ refl,
)

-- a word
word_is_read : (limits : WireLimits) (so_far : Partial) (word : List ℕ) (place begin : ℕ) (more : List ℕ)
    → length word < 2 ^ 64 → length word ≤ limits.word_bytes → length word ≤ so_far.room
    → Leads (read_on limits place begin (Mark so_far) (DOLLAR ∷ (decimal (length word) ++ RETURN ∷ FEED ∷ (word ++ RETURN ∷ FEED ∷ more))))
    (λ place. after_move (after_word (so_far.words ++ word ∷ []) so_far.later (so_far.room - length word)) place begin (λ from on. read_on limits (place + 1) from on more))
word_is_read limits so_far word place begin more small fits room =
    let n = length word in
    let after : Partial = record { words = so_far.words; later = so_far.later; room = so_far.room - n } in
    let feed : ℕ = place + 1 + length (decimal n) + 1 in
    let rest = word ++ RETURN ∷ FEED ∷ more in (
      feed + 1 + n + 1,
      read_on-byte limits place begin (Mark so_far) DOLLAR (decimal n ++ RETURN ∷ FEED ∷ rest) _ refl
          ∙ line_is_read (length_line limits so_far) n small fits (place + 1) begin (FEED ∷ rest)
          ∙ ap (λ m. after_move m (place + 1 + length (decimal n)) begin (λ from on. read_on limits feed from on (FEED ∷ rest))) (length_ends-goes so_far n room)
          ∙ read_on-byte limits feed begin (LengthFeed after n) FEED rest _ refl
          ∙ ap (λ mode. read_on limits (feed + 1) begin mode rest) (after_length-body after n)
          ∙ read_on-word limits after word (feed + 1) begin [] (RETURN ∷ FEED ∷ more)
          ∙ read_on-byte limits (feed + 1 + n) begin (WordReturn after word) RETURN (FEED ∷ more) _ refl
          ∙ read_on-byte limits (feed + 1 + n + 1) begin (WordFeed after word) FEED more _ refl,
    )

encoded_word-append : (word more : List ℕ) → encoded_word word ++ more ≡ DOLLAR ∷ (decimal (length word) ++ RETURN ∷ FEED ∷ (word ++ RETURN ∷ FEED ∷ more))
encoded_word-append word more =
    let head = DOLLAR ∷ decimal (length word) in
    append_assoc (head ++ CRLF ++ word) CRLF more ∙ append_assoc (head ++ CRLF) word (CRLF ++ more) ∙ append_assoc head CRLF (word ++ (CRLF ++ more))

encoded_request-append : (words : Request) (more : List ℕ) → encoded_request words ++ more ≡ STAR ∷ (decimal (length words) ++ RETURN ∷ FEED ∷ (encoded_words words ++ more))
encoded_request-append words more =
    let head = STAR ∷ decimal (length words) in
    append_assoc (head ++ CRLF) (encoded_words words) more ∙ append_assoc head CRLF (encoded_words words ++ more)

then_request-last : (words : Request) (last : List ℕ) (place : ℕ) (rest : Stream) → then_request (words ++ last ∷ []) place rest ≡ Then (words ++ last ∷ []) place rest
then_request-last [] last place rest = refl
then_request-last (first ∷ words) last place rest = refl

-- the same from an equal stream, and one after another
leads_from : {stream other : Stream} {rest : ℕ → Stream} → other ≡ stream → Leads stream rest → Leads other rest
leads_from e leads = (leads.0, e ∙ leads.1)

leads_on : {stream : Stream} {rest last : ℕ → Stream} (leads : Leads stream rest) → Leads (rest leads.0) last → Leads stream last
leads_on leads others = (others.0, leads.1 ∙ others.1)

-- after the last word
after_last : (limits : WireLimits) (before : Request) (word : List ℕ) (room begin : ℕ) (more : List ℕ) {stream : Stream}
    → Leads stream (λ place. after_move (after_word (before ++ word ∷ []) 0 room) place begin (λ from on. read_on limits (place + 1) from on more))
    → Leads stream (λ place. Then (before ++ word ∷ []) place (read_on limits place place Start more))
after_last limits before word room begin more read =
    (read.0 + 1, read.1 ∙ then_request-last before word (read.0 + 1) (read_on limits (read.0 + 1) (read.0 + 1) Start more))

-- the words of a request, after those that were read
words_are_read : (limits : WireLimits) (before : Request) (word : List ℕ) (words : Request) (room place begin : ℕ) (more : List ℕ)
    → limits.word_bytes < 2 ^ 64 → All (λ word. length word ≤ limits.word_bytes) (word ∷ words) → sum_by length (word ∷ words) ≤ room
    → Leads (read_on limits place begin (Mark (record { words = before; later = length words; room = room })) (encoded_words (word ∷ words) ++ more))
    (λ place. Then (before ++ word ∷ words) place (read_on limits place place Start more))
words_are_read limits before word [] room place begin more small each together =
    let fits = each 0 word (omega arith) in
    let total = sum_by-cons length word [] in
    let so_far : Partial = record { words = before; later = 0; room = room } in
    leads_from
    (ap (λ bytes. read_on limits place begin (Mark so_far) (bytes ++ more)) (append-nil (encoded_word word)) ∙ ap (read_on limits place begin (Mark so_far)) (encoded_word-append word more))
    (after_last limits before word (room - length word) begin more (word_is_read limits so_far word place begin more (omega arith) fits (omega arith)))
words_are_read limits before word (next ∷ words) room place begin more small each together =
    let fits = each 0 word (omega arith) in
    let total = sum_by-cons length word (next ∷ words) in
    let rest = encoded_words (next ∷ words) ++ more in
    let so_far : Partial = record { words = before; later = suc (length words); room = room } in
    let read = word_is_read limits so_far word place begin rest (omega arith) fits (omega arith) in
    let others = words_are_read limits (before ++ word ∷ []) next words (room - length word) (read.0 + 1) begin more small (λ k d h. each (suc k) d (omega arith)) (omega arith) in
    let whole = ap (λ words. Then words others.0 (read_on limits others.0 others.0 Start more)) (append_assoc before (word ∷ []) (next ∷ words)) in
    leads_from (ap (read_on limits place begin (Mark so_far)) (append_assoc (encoded_word word) (encoded_words (next ∷ words)) more ∙ encoded_word-append word rest))
    (leads_on read (others.0, others.1 ∙ whole))

request_is_read : (limits : WireLimits) (request : Request) (place : ℕ) (more : List ℕ) → limits.words < 2 ^ 64 → limits.word_bytes < 2 ^ 64 → Fits limits request
    → Leads (read_on limits place place Start (encoded_request request ++ more)) (λ after. Then request after (read_on limits after after Start more))
request_is_read limits [] place more few short fits = absurd (fits.some refl)
request_is_read limits (word ∷ words) place more few short fits =
    let most : suc (length words) ≤ limits.words = fits.words in
    let count = count_is_read limits (length words) place place (encoded_words (word ∷ words) ++ more) (omega arith) most in
    let others = words_are_read limits [] word words limits.request_bytes count.0 place more short fits.each fits.together in (
      others.0,
      ap (read_on limits place place Start) (encoded_request-append (word ∷ words) more) ∙ count.1 ∙ others.1,
    )

-- the requests of the encoded form, and its end
pub requests-encoded : (limits : WireLimits) (requests : List Request) (place : ℕ) → limits.words < 2 ^ 64 → limits.word_bytes < 2 ^ 64 → All (Fits limits) requests
    → (requests_of (stream_at limits place (encoded requests)) ≡ requests) × (ending_of (stream_at limits place (encoded requests)) ≡ Ended)
requests-encoded limits [] place few short fits = (ap requests_of (read_on-nil limits place place Start), ap ending_of (read_on-nil limits place place Start))
requests-encoded limits (request ∷ requests) place few short fits =
    let first = request_is_read limits request place (encoded requests) few short (fits 0 request (omega arith)) in
    let others = requests-encoded limits requests first.0 few short (λ k d h. fits (suc k) d (omega arith)) in (
      ap requests_of first.1 ∙ ap (λ rest. request ∷ rest) others.0,
      ap ending_of first.1 ∙ others.1,
    )
