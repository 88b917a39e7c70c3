-- What a reply accepts, found from its text.
use Rattle.std.proofs.Common.{◌≡◌, ℕ, suc, ◌+◌, ◌==◌, min, if◌then◌else◌, List, [], ◌∷◌, ◌++◌, length, map, codes, refl, sym, ◌∙◌, ap, append_assoc, length-append, arith}
use Rattle.std.proofs.lemmas.Bool.{ne_eqb}
use Rattle.std.specs.Prelude.{flat_map, Result, Ok, Err, ℤ}
use Rattle.std.specs.Fmt.{decimal, signed_decimal}
use Rattle.ts_spec.specs.declared.command.At.{At}
use Rattle.ts_spec.specs.Command.{Triple, Madd}
use Rattle.ts_spec.specs.Encoded.{encoded_word, encoded_words}
use Rattle.ts_spec.specs.Refusal.{Fault}
use Rattle.ts_spec.specs.Settings.{Word}
use Rattle.ts_spec.specs.Text.{Reply, Simple, Error, Int, Value, Bulk, Nil, Array, Replies, Empty, Item, CRLF, count_of, line_text, text, texts, IsOneLine}
use Rattle.ts_spec.proofs.OneLine.{AreDigits-decimal, IsOneLine-digits, IsOneLine-signed}
use Rattle.ts_journal.specs.Fixed.{triple_text}
use Rattle.ts_journal.specs.Lines.{after_line, items_text, begins_error, accepted_pieces, accepted_text, joined, words_in}
use Rattle.ts_journal.specs.Record.{AreMaddItems, items_of, is_error, accepted_part, triple_words, sample_words, with_name, bytes_of, record_of}

-- ---- lines

after-cr : (line more : List ℕ) → IsOneLine line → after_line (line ++ CRLF ++ more) ≡ more
after-cr [] more h = refl
after-cr (byte ∷ line) more h = rw (ne_eqb byte 13 h.0) (after-cr line more h.1)

pub is-error : (reply : Reply) → begins_error (text reply) ≡ is_error reply
is-error (Simple words) = refl
is-error (Error words) = refl
is-error (Int n) = refl
is-error (Value cell) = refl
is-error (Bulk bytes) = refl
is-error Nil = refl
is-error (Array items) = refl

items-of : (reply : Reply) → items_text (text reply) ≡ texts (items_of reply)
items-of (Simple words) = refl
items-of (Error words) = refl
items-of (Int n) = refl
items-of (Value cell) = refl
items-of (Bulk bytes) = refl
items-of Nil = refl
items-of (Array items) = after-cr (decimal (count_of items)) (texts items) (IsOneLine-digits (decimal (count_of items)) (AreDigits-decimal (count_of items)))

-- ---- the pieces that are taken

none-accepted_part : (pieces : List (List ℕ)) → accepted_pieces [] pieces ≡ []
none-accepted_part [] = refl
none-accepted_part (piece ∷ pieces) = none-accepted_part pieces

pub accepted_part-triples : (f : Triple → List ℕ) (ts : List Triple) (items : Replies) → AreMaddItems items → accepted_pieces (texts items) (map f ts) ≡ map f (accepted_part ts items)
accepted_part-triples f [] items h = refl
accepted_part-triples f (t ∷ ts) Empty h = none-accepted_part (map f ts)
accepted_part-triples f (t ∷ ts) (Item (Int n) items) h =
    ap (λ ps. f t ∷ ps) (ap (λ l. accepted_pieces l (map f ts)) (after-cr (signed_decimal n) (texts items) (IsOneLine-signed n)) ∙ accepted_part-triples f ts items h)
accepted_part-triples f (t ∷ ts) (Item (Error words) items) h =
    ap (λ l. accepted_pieces l (map f ts)) (after-cr words (texts items) h.0) ∙ accepted_part-triples f ts items h.1
accepted_part-triples f (t ∷ ts) (Item (Simple words) items) h = absurd h
accepted_part-triples f (t ∷ ts) (Item (Value cell) items) h = absurd h
accepted_part-triples f (t ∷ ts) (Item (Bulk bytes) items) h = absurd h
accepted_part-triples f (t ∷ ts) (Item Nil items) h = absurd h
accepted_part-triples f (t ∷ ts) (Item (Array others) items) h = absurd h

-- ---- their words

pub encoded-append : (xs ys : List Word) → encoded_words (xs ++ ys) ≡ encoded_words xs ++ encoded_words ys
encoded-append [] ys = refl
encoded-append (x ∷ xs) ys =
    ap (λ (l : List ℕ). encoded_word x ++ l) (encoded-append xs ys) ∙ sym (append_assoc (encoded_word x) (encoded_words xs) (encoded_words ys))

pub joined-triples : (reading : ℕ) (ts : List Triple) → joined (map (triple_text reading) ts) ≡ encoded_words (flat_map (triple_words reading) ts)
joined-triples reading [] = refl
joined-triples reading (t ∷ ts) =
    ap (λ (l : List ℕ). triple_text reading t ++ l) (joined-triples reading ts) ∙ sym (encoded-append (triple_words reading t) (flat_map (triple_words reading) ts))

three-words : (a b c : Word) → min 3 (length (encoded_words (a ∷ b ∷ c ∷ []))) ≡ 3
three-words a b c =
    let first = length-append (encoded_word a) (encoded_words (b ∷ c ∷ [])) in
    let second = length-append (encoded_word b) (encoded_words (c ∷ [])) in
    let third = length-append (encoded_word c) [] in
    omega (arith, first, second, third)

its-words : (reading : ℕ) (key : Word) (at : Result At Fault) (v : Result ℤ Fault)
    → min 3 (length (encoded_words (sample_words reading key at v))) ≡ length (sample_words reading key at v)
its-words reading key (Ok at) (Ok v) = three-words key _ _
its-words reading key (Ok at) (Err fault) = refl
its-words reading key (Err fault) v = refl

words-triples : (reading : ℕ) (ts : List Triple) → words_in (map (triple_text reading) ts) ≡ length (flat_map (triple_words reading) ts)
words-triples reading [] = refl
words-triples reading (t ∷ ts) =
    let own = its-words reading t.key t.at t.value in
    let all = length-append (triple_words reading t) (flat_map (triple_words reading) ts) in
    let others = words-triples reading ts in
    omega (arith, own, all, others)

named : (words : List Word) → bytes_of (with_name (codes "TS.MADD") words)
    ≡ (if length words == 0 then [] else line_text 42 (decimal (length words + 1)) ++ (encoded_word (codes "TS.MADD") ++ encoded_words words))
named [] = refl
named (word ∷ words) =
    let n : suc (suc (length words)) ≡ suc (length words) + 1 = omega arith in
    rw (ne_eqb (suc (length words)) 0 (λ e. omega arith)) (ap (λ m. line_text 42 (decimal m) ++ (encoded_word (codes "TS.MADD") ++ encoded_words (word ∷ words))) n)

text-triples : (reading : ℕ) (ts : List Triple) → accepted_text (map (triple_text reading) ts) ≡ bytes_of (with_name (codes "TS.MADD") (flat_map (triple_words reading) ts))
text-triples reading ts =
    ap (λ n. if n == 0 then [] else line_text 42 (decimal (n + 1)) ++ (encoded_word (codes "TS.MADD") ++ joined (map (triple_text reading) ts))) (words-triples reading ts)
    ∙ ap (λ l. if length (flat_map (triple_words reading) ts) == 0 then [] else line_text 42 (decimal (length (flat_map (triple_words reading) ts) + 1)) ++ (encoded_word (codes "TS.MADD") ++ l)) (joined-triples reading ts)
    ∙ sym (named (flat_map (triple_words reading) ts))

-- the record of TS.MADD from the texts of its triples
pub record-of-triples : (reading : ℕ) (ts : List Triple) (reply : Reply) → AreMaddItems (items_of reply)
    → (if begins_error (text reply) then [] else accepted_text (accepted_pieces (items_text (text reply)) (map (triple_text reading) ts))) ≡ record_of (Madd ts) reading reply
record-of-triples reading ts reply h =
    let items = items_of reply in
    let those : accepted_pieces (items_text (text reply)) (map (triple_text reading) ts) ≡ map (triple_text reading) (accepted_part ts items) =
    ap (λ l. accepted_pieces l (map (triple_text reading) ts)) (items-of reply) ∙ accepted_part-triples (triple_text reading) ts items h in
    ap (λ b. if b then [] else accepted_text (accepted_pieces (items_text (text reply)) (map (triple_text reading) ts))) (is-error reply)
    ∙ ap (λ ps. if is_error reply then [] else accepted_text ps) those
    ∙ ap (λ l. if is_error reply then [] else l) (text-triples reading (accepted_part ts items))
