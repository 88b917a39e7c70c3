-- How requests are written: argument after argument, and request after request.
use Rattle.std.proofs.Common.{◌≡◌, ℕ, ◌+◌, List, [], ◌∷◌, ◌++◌, length, map, refl, sym, ◌∙◌, ap, append_assoc, append-nil}
use Rattle.std.proofs.lemmas.List.FromFn.{map-range_with_len_more}
use Rattle.std.specs.Fmt.{decimal}
use Rattle.std.specs.List.{range_with_len}
use Rattle.ts_spec.specs.Encoded.{encoded_word, encoded_words, encoded_request, encoded}
use Rattle.ts_spec.specs.Text.{CRLF}
use Rattle.ts_spec.specs.Wire.{Request, STAR}

-- the header of a request with this many arguments
abbrev head : ℕ → List ℕ
head n = STAR ∷ decimal n ++ CRLF

-- a request of n arguments was begun, and these of them were written
pub record Put (n : ℕ) (old new : List ℕ) (words : Request) : Type 0 where
  pub bytes : new ≡ old ++ (head n ++ encoded_words words)

pub begun : {n : ℕ} {old new : List ℕ} → new ≡ old ++ head n → Put n old new []
begun {n} {old} {new} h = record { bytes = h ∙ ap (λ (l : List ℕ). old ++ l) (sym (append-nil (head n))) }

words_append : (xs : Request) (word : List ℕ) → encoded_words (xs ++ word ∷ []) ≡ encoded_words xs ++ encoded_word word
words_append [] word = append-nil (encoded_word word)
words_append (x ∷ xs) word =
    ap (λ (l : List ℕ). encoded_word x ++ l) (words_append xs word) ∙ sym (append_assoc (encoded_word x) (encoded_words xs) (encoded_word word))

-- one more argument was written
pub then_word : {n : ℕ} {old mid new : List ℕ} {words : Request} (word : List ℕ) → Put n old mid words → new ≡ mid ++ encoded_word word → Put n old new (words ++ word ∷ [])
then_word {n} {old} {mid} {new} {words} word p h = record {
  bytes = h
      ∙ ap (λ (l : List ℕ). l ++ encoded_word word) p.bytes
      ∙ append_assoc old (head n ++ encoded_words words) (encoded_word word)
      ∙ ap (λ (l : List ℕ). old ++ l) (append_assoc (head n) (encoded_words words) (encoded_word word) ∙ ap (λ (l : List ℕ). head n ++ l) (sym (words_append words word)));
}

-- one more argument was written, which is this one
pub then_this : {n : ℕ} {old mid new : List ℕ} {words : Request} (word told : List ℕ) → told ≡ word → Put n old mid words → new ≡ mid ++ encoded_word told → Put n old new (words ++ word ∷ [])
then_this {n} {old} {mid} {new} {words} word told same p h = then_word word p (h ∙ ap (λ (w : List ℕ). mid ++ encoded_word w) same)

-- all arguments were written
pub whole : {n : ℕ} {old new : List ℕ} {words : Request} → Put n old new words → length words ≡ n → new ≡ old ++ encoded_request words
whole {n} {old} {new} {words} p len =
    p.bytes ∙ ap (λ (m : ℕ). old ++ (head m ++ encoded_words words)) (sym len)

pub encoded_append : (xs ys : List Request) → encoded (xs ++ ys) ≡ encoded xs ++ encoded ys
encoded_append [] ys = refl
encoded_append (x ∷ xs) ys =
    ap (λ (l : List ℕ). encoded_request x ++ l) (encoded_append xs ys) ∙ sym (append_assoc (encoded_request x) (encoded xs) (encoded ys))

-- some requests were written, then others
pub then_all : (old mid new : List ℕ) (xs ys : List Request) → mid ≡ old ++ encoded xs → new ≡ mid ++ encoded ys → new ≡ old ++ encoded (xs ++ ys)
then_all old mid new xs ys before now =
    now ∙ ap (λ (l : List ℕ). l ++ encoded ys) before ∙ append_assoc old (encoded xs) (encoded ys) ∙ ap (λ (l : List ℕ). old ++ l) (sym (encoded_append xs ys))

-- one more request of a list was written
pub one_more : (f : ℕ → Request) (old mid new : List ℕ) (from n next : ℕ) → from + n ≡ next → mid ≡ old ++ encoded (map f (range_with_len from n)) → new ≡ mid ++ encoded_request (f next)
    → new ≡ old ++ encoded (map f (range_with_len from (n + 1)))
one_more f old mid new from n next is_next before now =
    let row : List Request = map f (range_with_len from n) in
    now
    ∙ ap (λ (l : List ℕ). l ++ encoded_request (f next)) before
    ∙ append_assoc old (encoded row) (encoded_request (f next))
    ∙ ap (λ (l : List ℕ). old ++ l)
    (ap (λ (l : List ℕ). encoded row ++ l) (sym (append-nil (encoded_request (f next))))
    ∙ sym (encoded_append row (f next ∷ []))
    ∙ ap encoded (sym (map-range_with_len_more f from n next is_next)))
