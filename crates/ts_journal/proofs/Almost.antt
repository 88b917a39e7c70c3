-- All bytes of an encoded request but the last: a stream that ends with them ends inside that request.
use Rattle.std.proofs.Common.{◌≡◌, ℕ, suc, ◌+◌, ◌-◌, ◌^◌, ◌<◌, ◌≤◌, Bool, List, [], ◌∷◌, ◌++◌, length, sum_by, All, refl, sym, ap, ◌∙◌, subst, append_assoc, append-nil, length-append, take, drop, take-append-drop, arith}
use Rattle.std.proofs.lemmas.List.Sums.{sum_by-cons}
use Rattle.std.proofs.lemmas.List.{take-append-le, length-take-le}
use Rattle.std.specs.Fmt.{decimal}
use Rattle.ts_spec.specs.declared.wire.Kind.{Kind}
use Rattle.ts_spec.specs.declared.wire.WireLimits.{WireLimits}
use Rattle.ts_spec.specs.Encoded.{encoded_word, encoded_words, encoded_request, Fits}
use Rattle.ts_spec.specs.Text.{CRLF}
use Rattle.ts_spec.specs.Wire.{Request, Inside, Partial, Mode, Start, CountFeed, Mark, LengthFeed, WordReturn, WordFeed, Move, Goto, Line, Blank, STAR, DOLLAR, RETURN, FEED, move, after_length, after_move, read_on, stream_at}
use Rattle.ts_spec.proofs.Lines.{IsLineMode, count_line, length_line, length_ends-goes, line_is_read}
use Rattle.ts_spec.proofs.Streams.{read_on-nil, read_on-byte, read_on-word, after_length-body}
use Rattle.ts_journal.proofs.Unfinished.{front-inside}

-- these bytes lead from one mode to another, in the same request
record Reads (limits : WireLimits) (mode : Mode) (front : List ℕ) (next : Mode) : Type 0 where
  reads : (place begin : ℕ) (more : List ℕ) → read_on limits place begin mode (front ++ more) ≡ read_on limits (place + length front) begin next more

byte-reads : (limits : WireLimits) (mode next : Mode) (byte : ℕ) → move limits mode byte ≡ Goto next → Reads limits mode (byte ∷ []) next
byte-reads limits mode next byte e = record { reads = λ place begin more. read_on-byte limits place begin mode byte more (Goto next) e }

then-reads : {limits : WireLimits} {mode mid next : Mode} {front back : List ℕ} → Reads limits mode front mid → Reads limits mid back next → Reads limits mode (front ++ back) next
then-reads {limits} {mode} {mid} {next} {front} {back} r s = record {
  reads = λ place begin more.
      let there : place + length front + length back ≡ place + length (front ++ back) = omega (arith, length-append front back) in
      ap (read_on limits place begin mode) (append_assoc front back more)
      ∙ r.reads place begin (back ++ more)
      ∙ s.reads (place + length front) begin more
      ∙ ap (λ place. read_on limits place begin next more) there;
}

-- a number and its CR
line-reads : {limits : WireLimits} {limit : ℕ} {negative : Bool} {mode : Line → Mode} {ends : ℕ → Move} {kind : Kind} → IsLineMode limits limit negative mode ends kind
    → (number : ℕ) (next : Mode) → number < 2 ^ 64 → number ≤ limit → ends number ≡ Goto next → Reads limits (mode Blank) (decimal number ++ RETURN ∷ []) next
line-reads {limits} {limit} {negative} {mode} {ends} {kind} m number next small fits e = record {
  reads = λ place begin more.
      let digits = length (decimal number) in
      let there : place + digits + 1 ≡ place + length (decimal number ++ RETURN ∷ []) = omega (arith, length-append (decimal number) (RETURN ∷ [])) in
      ap (read_on limits place begin (mode Blank)) (append_assoc (decimal number) (RETURN ∷ []) more)
      ∙ line_is_read m number small fits place begin more
      ∙ ap (λ m. after_move m (place + digits) begin (λ from on. read_on limits (place + digits + 1) from on more)) e
      ∙ ap (λ place. read_on limits place begin next more) there;
}

body-reads : (limits : WireLimits) (so_far : Partial) (word : List ℕ) → Reads limits (after_length so_far (length word)) word (WordReturn so_far word)
body-reads limits so_far word = record {
  reads = λ place begin more. ap (λ mode. read_on limits place begin mode (word ++ more)) (after_length-body so_far (length word)) ∙ read_on-word limits so_far word place begin [] more;
}

-- ---- a word

abbrev almost_word : List ℕ → List ℕ
almost_word word = DOLLAR ∷ (((decimal (length word) ++ CRLF) ++ word) ++ RETURN ∷ [])

word-almost : (word : List ℕ) → encoded_word word ≡ almost_word word ++ FEED ∷ []
word-almost word = sym (append_assoc (DOLLAR ∷ ((decimal (length word) ++ CRLF) ++ word)) (RETURN ∷ []) (FEED ∷ []))

-- what may come after so many bytes of a word
abbrev less : Partial → ℕ → Partial
less so_far n = record { words = so_far.words; later = so_far.later; room = so_far.room - n }

word-reads : (limits : WireLimits) (so_far : Partial) (word : List ℕ) → length word < 2 ^ 64 → length word ≤ limits.word_bytes → length word ≤ so_far.room
    → Reads limits (Mark so_far) (almost_word word) (WordFeed (less so_far (length word)) word)
word-reads limits so_far word small fits room =
    let n = length word in
    let after : Partial = less so_far n in
    let mark = byte-reads limits (Mark so_far) (Mode.Length so_far Blank) DOLLAR refl in
    let line = line-reads (length_line limits so_far) n (LengthFeed after n) small fits (length_ends-goes so_far n room) in
    let feed = byte-reads limits (LengthFeed after n) (after_length after n) FEED refl in
    let last = byte-reads limits (WordReturn after word) (WordFeed after word) RETURN refl in
    subst (λ (head : List ℕ). Reads limits (Mark so_far) (DOLLAR ∷ ((head ++ word) ++ RETURN ∷ [])) (WordFeed after word)) (append_assoc (decimal n) (RETURN ∷ []) (FEED ∷ []))
    (then-reads (then-reads (then-reads (then-reads mark line) feed) (body-reads limits after word)) last)

-- ---- a request

-- all of these bytes but the last lead to the end of a word
record IsAlmost (limits : WireLimits) (mode : Mode) (bytes : List ℕ) : Type 0 where
  front : List ℕ
  its : bytes ≡ front ++ FEED ∷ []
  so_far : Partial
  word : List ℕ
  reads : Reads limits mode front (WordFeed so_far word)

-- the words of a request, after those that were read
words-almost : (limits : WireLimits) (before : Request) (word : List ℕ) (words : Request) (room : ℕ)
    → limits.word_bytes < 2 ^ 64 → All (λ word. length word ≤ limits.word_bytes) (word ∷ words) → sum_by length (word ∷ words) ≤ room
    → IsAlmost limits (Mark (record { words = before; later = length words; room = room })) (encoded_words (word ∷ words))
words-almost limits before word [] room small each together =
    let fits = each 0 word (omega arith) in
    let total = sum_by-cons length word [] in
    let so_far : Partial = record { words = before; later = 0; room = room } in record {
      front = almost_word word;
      its = append-nil (encoded_word word) ∙ word-almost word;
      so_far = less so_far (length word);
      word = word;
      reads = word-reads limits so_far word (omega arith) fits (omega arith);
    }
words-almost limits before word (next ∷ words) room small each together =
    let fits = each 0 word (omega arith) in
    let total = sum_by-cons length word (next ∷ words) in
    let so_far : Partial = record { words = before; later = suc (length words); room = room } in
    let after : Partial = record { words = before ++ word ∷ []; later = length words; room = room - length word } in
    let one = word-reads limits so_far word (omega arith) fits (omega arith) in
    let feed = byte-reads limits (WordFeed (less so_far (length word)) word) (Mark after) FEED refl in
    let others = words-almost limits (before ++ word ∷ []) next words (room - length word) small (λ k d h. each (suc k) d (omega arith)) (omega arith) in record {
      front = (almost_word word ++ FEED ∷ []) ++ others.front;
      its = ap (λ (head : List ℕ). head ++ encoded_words (next ∷ words)) (word-almost word)
          ∙ ap (λ (tail : List ℕ). (almost_word word ++ FEED ∷ []) ++ tail) others.its
          ∙ sym (append_assoc (almost_word word ++ FEED ∷ []) others.front (FEED ∷ []));
      so_far = others.so_far;
      word = others.word;
      reads = then-reads (then-reads one feed) others.reads;
    }

request-almost : (limits : WireLimits) (request : Request) → limits.words < 2 ^ 64 → limits.word_bytes < 2 ^ 64 → Fits limits request → IsAlmost limits Start (encoded_request request)
request-almost limits [] few short fits = absurd (fits.some refl)
request-almost limits (word ∷ words) few short fits =
    let n = suc (length words) in
    let most : n ≤ limits.words = fits.words in
    let after : Partial = record { words = []; later = length words; room = limits.request_bytes } in
    let star = byte-reads limits Start (Mode.Count Blank) STAR refl in
    let line = line-reads (count_line limits) n (CountFeed n) (omega arith) most refl in
    let feed = byte-reads limits (CountFeed n) (Mark after) FEED refl in
    let others = words-almost limits [] word words limits.request_bytes short fits.each fits.together in record {
      front = STAR ∷ ((decimal n ++ CRLF) ++ others.front);
      its = ap (λ (tail : List ℕ). STAR ∷ ((decimal n ++ CRLF) ++ tail)) others.its ∙ sym (append_assoc (STAR ∷ (decimal n ++ CRLF)) others.front (FEED ∷ []));
      so_far = others.so_far;
      word = others.word;
      reads = subst (λ (head : List ℕ). Reads limits Start (STAR ∷ (head ++ others.front)) (WordFeed others.so_far others.word)) (append_assoc (decimal n) (RETURN ∷ []) (FEED ∷ []))
          (then-reads (then-reads (then-reads star line) feed) others.reads);
    }

-- ---- a request that has not all come

almost-inside : (limits : WireLimits) (place : ℕ) (bytes : List ℕ) (almost : IsAlmost limits Start bytes) → stream_at limits place almost.front ≡ Inside place
almost-inside limits place bytes almost =
    ap (read_on limits place place Start) (sym (append-nil almost.front))
    ∙ almost.reads.reads place place []
    ∙ read_on-nil limits (place + length almost.front) place (WordFeed almost.so_far almost.word)

-- with some of its bytes, but not all, a stream is inside it
pub torn-inside : (limits : WireLimits) (place : ℕ) (request : Request) (n : ℕ) → limits.words < 2 ^ 64 → limits.word_bytes < 2 ^ 64 → Fits limits request
    → 0 < n → n < length (encoded_request request) → stream_at limits place (take n (encoded_request request)) ≡ Inside place
torn-inside limits place request n few short fits some less =
    let almost = request-almost limits request few short fits in
    let total : length (encoded_request request) ≡ length almost.front + 1 = ap length almost.its ∙ length-append almost.front (FEED ∷ []) in
    let within : n ≤ length almost.front = omega arith in
    let same : take n (encoded_request request) ≡ take n almost.front = ap (take n) almost.its ∙ take-append-le n almost.front (FEED ∷ []) within in
    let whole : stream_at limits place (take n almost.front ++ drop n almost.front) ≡ Inside place =
    ap (stream_at limits place) (take-append-drop n almost.front) ∙ almost-inside limits place (encoded_request request) almost in
    ap (stream_at limits place) same
    ∙ front-inside limits place (take n almost.front) (drop n almost.front) whole (omega (arith, length-take-le n almost.front within))
