-- The text of a reply is self-delimiting.
use Rattle.std.proofs.Common.{◌≡◌, ◌≢◌, ℕ, ◌^◌, ◌<◌, List, [], ◌∷◌, ◌++◌, map, length, codes, refl, sym, ap, ◌∙◌, append_assoc, append-nil, arith}
use Rattle.std.specs.Fmt.{decimal, signed_decimal}
use Rattle.std.proofs.lemmas.Bool.{eqb-false}
use Rattle.std.proofs.lemmas.Fmt.{decimal_injective}
use Rattle.ts_spec.specs.Text.{shown_cell, Reply, Simple, Error, Int, Value, Bulk, Nil, Array, Replies, Empty, Item, CRLF, IsOneLine, IsPlain, ArePlain, count_of, line_text, text, texts}
use Rattle.ts_spec.specs.Replies.{reply_list, array}
use Rattle.ts_spec.proofs.OneLine.{AreDigits, AreDigits-decimal, IsOneLine-digits, IsOneLine-signed, IsOneLine-shown_cell}

-- no digits are -1
digits-minus : (digits rest : List ℕ) → AreDigits digits → digits ≡ 45 ∷ rest → ⊥
digits-minus [] rest h e = cc
digits-minus (digit ∷ digits) rest h e = let first : digit ≡ 45 = cc in omega (arith, h.0)

-- a line ends at its CR
line_ends : (a b x y : List ℕ) → IsOneLine a → IsOneLine b → a ++ 13 ∷ x ≡ b ++ 13 ∷ y → (a ≡ b) × (x ≡ y)
line_ends [] [] x y ha hb e = (refl, cc)
line_ends [] (byte ∷ b) x y ha hb e = absurd (hb.0 (cc))
line_ends (byte ∷ a) [] x y ha hb e = absurd (ha.0 (cc))
line_ends (byte ∷ a) (next ∷ b) x y ha hb e =
    let same : byte ≡ next = cc in
    let rest : a ++ 13 ∷ x ≡ b ++ 13 ∷ y = cc in
    let ends = line_ends a b x y ha.1 hb.1 rest in
    (ap (λ a. byte ∷ a) ends.0 ∙ ap (λ first. first ∷ b) same, ends.1)

-- bytes end where their number says
bytes_end : (a b x y : List ℕ) → length a ≡ length b → a ++ x ≡ b ++ y → (a ≡ b) × (x ≡ y)
bytes_end [] [] x y n e = (refl, e)
bytes_end [] (byte ∷ b) x y n e = absurd (omega arith)
bytes_end (byte ∷ a) [] x y n e = absurd (omega arith)
bytes_end (byte ∷ a) (next ∷ b) x y n e =
    let same : byte ≡ next = cc in
    let rest : a ++ x ≡ b ++ y = cc in
    let ends = bytes_end a b x y (omega arith) rest in
    (ap (λ a. byte ∷ a) ends.0 ∙ ap (λ first. first ∷ b) same, ends.1)

-- a text is a line and what follows it
abbrev first_of : Reply → ℕ
first_of (Simple words) = 43
first_of (Error words) = 45
first_of (Int number) = 58
first_of (Value cell) = 43
first_of (Bulk bytes) = 36
first_of Nil = 36
first_of (Array replies) = 42

abbrev line_of : Reply → List ℕ
line_of (Simple words) = words
line_of (Error words) = words
line_of (Int number) = signed_decimal number
line_of (Value cell) = shown_cell cell
line_of (Bulk bytes) = decimal (length bytes)
line_of Nil = codes "-1"
line_of (Array replies) = decimal (count_of replies)

abbrev body_of : Reply → List ℕ
body_of (Bulk bytes) = bytes ++ CRLF
body_of (Array replies) = texts replies
body_of _ = []

split : (first : ℕ) (words body more : List ℕ) → line_text first words ++ body ++ more ≡ first ∷ (words ++ 13 ∷ 10 ∷ (body ++ more))
split first words body more = append_assoc (line_text first words) body more ∙ append_assoc (first ∷ words) CRLF (body ++ more)

bare : (first : ℕ) (words more : List ℕ) → line_text first words ++ more ≡ first ∷ (words ++ 13 ∷ 10 ∷ more)
bare first words more = append_assoc (first ∷ words) CRLF more

text-split : (reply : Reply) (more : List ℕ) → text reply ++ more ≡ first_of reply ∷ (line_of reply ++ 13 ∷ 10 ∷ (body_of reply ++ more))
text-split (Simple words) more = bare 43 words more
text-split (Error words) more = bare 45 words more
text-split (Int number) more = bare 58 (signed_decimal number) more
text-split (Value cell) more = bare 43 (shown_cell cell) more
text-split (Bulk bytes) more = ap (λ text. text ++ more) (append_assoc (line_text 36 (decimal (length bytes))) bytes CRLF) ∙ split 36 (decimal (length bytes)) (bytes ++ CRLF) more
text-split Nil more = bare 36 (codes "-1") more
text-split (Array replies) more = split 42 (decimal (count_of replies)) (texts replies) more

IsOneLine-line_of : (reply : Reply) → IsPlain reply → IsOneLine (line_of reply)
IsOneLine-line_of (Simple words) h = h
IsOneLine-line_of (Error words) h = h
IsOneLine-line_of (Int number) h = IsOneLine-signed number
IsOneLine-line_of (Value cell) h = IsOneLine-shown_cell cell
IsOneLine-line_of (Bulk bytes) h = IsOneLine-digits (decimal (length bytes)) (AreDigits-decimal (length bytes))
IsOneLine-line_of Nil h = (eqb-false 45 13 refl, (eqb-false 49 13 refl, tt))
IsOneLine-line_of (Array replies) h = IsOneLine-digits (decimal (count_of replies)) (AreDigits-decimal (count_of replies))

-- what follows a line of bytes
bulk_ends : (bytes : List ℕ) (b : Reply) (x y : List ℕ) → length bytes < 2 ^ 64 → IsPlain b → 36 ≡ first_of b → decimal (length bytes) ≡ line_of b
    → bytes ++ CRLF ++ x ≡ body_of b ++ y → (bytes ++ CRLF ≡ body_of b) × (x ≡ y)
bulk_ends bytes (Simple words) x y small plain f l e = absurd (eqb-false 36 43 refl f)
bulk_ends bytes (Error words) x y small plain f l e = absurd (eqb-false 36 45 refl f)
bulk_ends bytes (Int number) x y small plain f l e = absurd (eqb-false 36 58 refl f)
bulk_ends bytes (Value cell) x y small plain f l e = absurd (eqb-false 36 43 refl f)
bulk_ends bytes (Bulk others) x y small plain f l e =
    let same = decimal_injective (length bytes) (length others) small plain l in
    let ends = bytes_end bytes others (CRLF ++ x) (CRLF ++ y) same (sym (append_assoc bytes CRLF x) ∙ e ∙ append_assoc others CRLF y) in
    (ap (λ bytes. bytes ++ CRLF) ends.0, (bytes_end CRLF CRLF x y refl ends.1).1)
bulk_ends bytes Nil x y small plain f l e = absurd (digits-minus (decimal (length bytes)) _ (AreDigits-decimal (length bytes)) l)
bulk_ends bytes (Array replies) x y small plain f l e = absurd (eqb-false 36 42 refl f)

nil_ends : (b : Reply) (x y : List ℕ) → IsPlain b → 36 ≡ first_of b → codes "-1" ≡ line_of b → x ≡ body_of b ++ y → ([] ≡ body_of b) × (x ≡ y)
nil_ends (Simple words) x y plain f l e = absurd (eqb-false 36 43 refl f)
nil_ends (Error words) x y plain f l e = absurd (eqb-false 36 45 refl f)
nil_ends (Int number) x y plain f l e = absurd (eqb-false 36 58 refl f)
nil_ends (Value cell) x y plain f l e = absurd (eqb-false 36 43 refl f)
nil_ends (Bulk bytes) x y plain f l e = absurd (digits-minus (decimal (length bytes)) _ (AreDigits-decimal (length bytes)) (sym l))
nil_ends Nil x y plain f l e = (refl, e)
nil_ends (Array replies) x y plain f l e = absurd (eqb-false 36 42 refl f)

-- nothing follows any other line
bare_ends : (b : Reply) (first : ℕ) (x y : List ℕ) → first ≢ 36 → first ≢ 42 → first ≡ first_of b → x ≡ body_of b ++ y → ([] ≡ body_of b) × (x ≡ y)
bare_ends (Simple words) first x y no_bulk no_array f e = (refl, e)
bare_ends (Error words) first x y no_bulk no_array f e = (refl, e)
bare_ends (Int number) first x y no_bulk no_array f e = (refl, e)
bare_ends (Value cell) first x y no_bulk no_array f e = (refl, e)
bare_ends (Bulk bytes) first x y no_bulk no_array f e = absurd (no_bulk f)
bare_ends Nil first x y no_bulk no_array f e = absurd (no_bulk f)
bare_ends (Array replies) first x y no_bulk no_array f e = absurd (no_array f)

-- texts that begin alike are the same
abbrev Ends : Reply → Type 0
Ends a = (b : Reply) (x y : List ℕ) → IsPlain a → IsPlain b → text a ++ x ≡ text b ++ y → (text a ≡ text b) × (x ≡ y)

-- it is enough that what follows the line ends
text_ends : (a : Reply)
    → ((b : Reply) (x y : List ℕ) → IsPlain b → first_of a ≡ first_of b → line_of a ≡ line_of b → body_of a ++ x ≡ body_of b ++ y → (body_of a ≡ body_of b) × (x ≡ y))
    → Ends a
text_ends a bodies b x y ha hb e =
    let both : first_of a ∷ (line_of a ++ 13 ∷ 10 ∷ (body_of a ++ x)) ≡ first_of b ∷ (line_of b ++ 13 ∷ 10 ∷ (body_of b ++ y)) = sym (text-split a x) ∙ e ∙ text-split b y in
    let first : first_of a ≡ first_of b = cc in
    let rest : line_of a ++ 13 ∷ 10 ∷ (body_of a ++ x) ≡ line_of b ++ 13 ∷ 10 ∷ (body_of b ++ y) = cc in
    let lines = line_ends (line_of a) (line_of b) (10 ∷ (body_of a ++ x)) (10 ∷ (body_of b ++ y)) (IsOneLine-line_of a ha) (IsOneLine-line_of b hb) rest in
    let behind : body_of a ++ x ≡ body_of b ++ y = cc (lines.1) in
    let ends = bodies b x y hb first lines.0 behind in
    let whole = sym (append-nil (text a)) ∙ text-split a [] in (
      whole ∙ ap (λ body. first_of a ∷ (line_of a ++ 13 ∷ 10 ∷ (body ++ []))) ends.0
          ∙ ap (λ words. first_of a ∷ (words ++ 13 ∷ 10 ∷ (body_of b ++ []))) lines.0
          ∙ ap (λ first. first ∷ (line_of b ++ 13 ∷ 10 ∷ (body_of b ++ []))) first
          ∙ sym (sym (append-nil (text b)) ∙ text-split b []),
      ends.1,
    )

-- the texts of as many replies
abbrev AllEnd : Replies → Type 0
AllEnd a = (b : Replies) (x y : List ℕ) → count_of a ≡ count_of b → ArePlain a → ArePlain b → texts a ++ x ≡ texts b ++ y → (texts a ≡ texts b) × (x ≡ y)

none_end : AllEnd Empty
none_end Empty x y n ha hb e = (refl, e)
none_end (Item reply replies) x y n ha hb e = absurd (omega arith)

item_ends : (reply : Reply) (replies : Replies) → Ends reply → AllEnd replies → AllEnd (Item reply replies)
item_ends reply replies one others Empty x y n ha hb e = absurd (omega arith)
item_ends reply replies one others (Item next more) x y n ha hb e =
    let first = one next (texts replies ++ x) (texts more ++ y) ha.0 hb.0 (sym (append_assoc (text reply) (texts replies) x) ∙ e ∙ append_assoc (text next) (texts more) y) in
    let rest = others more x y (omega arith) ha.1 hb.1 first.1 in
    (ap (λ text. text ++ texts replies) first.0 ∙ ap (λ rest. text next ++ rest) rest.0, rest.1)

-- what follows a line of replies
array_ends : (replies : Replies) → AllEnd replies → (b : Reply) (x y : List ℕ) → IsPlain (Array replies) → IsPlain b → 42 ≡ first_of b → decimal (count_of replies) ≡ line_of b
    → texts replies ++ x ≡ body_of b ++ y → (texts replies ≡ body_of b) × (x ≡ y)
array_ends replies all (Simple words) x y ha hb f l e = absurd (eqb-false 42 43 refl f)
array_ends replies all (Error words) x y ha hb f l e = absurd (eqb-false 42 45 refl f)
array_ends replies all (Int number) x y ha hb f l e = absurd (eqb-false 42 58 refl f)
array_ends replies all (Value cell) x y ha hb f l e = absurd (eqb-false 42 43 refl f)
array_ends replies all (Bulk bytes) x y ha hb f l e = absurd (eqb-false 42 36 refl f)
array_ends replies all Nil x y ha hb f l e = absurd (eqb-false 42 36 refl f)
array_ends replies all (Array others) x y ha hb f l e = all others x y (decimal_injective (count_of replies) (count_of others) ha.0 hb.0 l) ha.1 hb.1 e

mutual
  pub ends : (a : Reply) → Ends a
  ends (Simple words) = text_ends (Simple words) (λ b x y h f l e. bare_ends b 43 x y (eqb-false 43 36 refl) (eqb-false 43 42 refl) f e)
  ends (Error words) = text_ends (Error words) (λ b x y h f l e. bare_ends b 45 x y (eqb-false 45 36 refl) (eqb-false 45 42 refl) f e)
  ends (Int number) = text_ends (Int number) (λ b x y h f l e. bare_ends b 58 x y (eqb-false 58 36 refl) (eqb-false 58 42 refl) f e)
  ends (Value cell) = text_ends (Value cell) (λ b x y h f l e. bare_ends b 43 x y (eqb-false 43 36 refl) (eqb-false 43 42 refl) f e)
  ends (Bulk bytes) = λ b x y ha. text_ends (Bulk bytes) (λ b x y h f l e. bulk_ends bytes b x y ha h f l e) b x y ha
  ends Nil = text_ends Nil (λ b x y h f l e. nil_ends b x y h f l e)
  ends (Array replies) = λ b x y ha. text_ends (Array replies) (λ b x y h f l e. array_ends replies (all_end replies) b x y ha h f l e) b x y ha

  all_end : (a : Replies) → AllEnd a
  all_end Empty = none_end
  all_end (Item reply replies) = item_ends reply replies (ends reply) (all_end replies)

-- two arrays with the same text have as many replies, whose texts make the same
arrays_alike : (rs qs : Replies) → IsPlain (Array rs) → IsPlain (Array qs) → text (Array rs) ≡ text (Array qs) → (count_of rs ≡ count_of qs) × (texts rs ≡ texts qs)
arrays_alike rs qs hr hq e =
    let both : 42 ∷ (decimal (count_of rs) ++ 13 ∷ 10 ∷ (texts rs ++ [])) ≡ 42 ∷ (decimal (count_of qs) ++ 13 ∷ 10 ∷ (texts qs ++ [])) =
    sym (text-split (Array rs) []) ∙ append-nil (text (Array rs)) ∙ e ∙ sym (append-nil (text (Array qs))) ∙ text-split (Array qs) [] in
    let rest : decimal (count_of rs) ++ 13 ∷ 10 ∷ (texts rs ++ []) ≡ decimal (count_of qs) ++ 13 ∷ 10 ∷ (texts qs ++ []) = cc in
    let lines = line_ends (decimal (count_of rs)) (decimal (count_of qs)) (10 ∷ (texts rs ++ [])) (10 ∷ (texts qs ++ [])) (IsOneLine-line_of (Array rs) hr) (IsOneLine-line_of (Array qs) hq) rest in
    let behind : texts rs ++ [] ≡ texts qs ++ [] = cc (lines.1) in
    (decimal_injective (count_of rs) (count_of qs) hr.0 hq.0 lines.0, sym (append-nil (texts rs)) ∙ behind ∙ append-nil (texts qs))

texts_alike : (xs ys : List Reply) → ArePlain (reply_list xs) → ArePlain (reply_list ys) → count_of (reply_list xs) ≡ count_of (reply_list ys) → texts (reply_list xs) ≡ texts (reply_list ys) → map text xs ≡ map text ys
texts_alike [] [] hx hy n e = refl
texts_alike [] (y ∷ ys) hx hy n e = absurd (omega arith)
texts_alike (x ∷ xs) [] hx hy n e = absurd (omega arith)
texts_alike (x ∷ xs) (y ∷ ys) hx hy n e =
    let first = ends x y (texts (reply_list xs)) (texts (reply_list ys)) hx.0 hy.0 e in
    let others : map text xs ≡ map text ys = texts_alike xs ys hx.1 hy.1 (omega arith) first.1 in
    ap (λ (w : List ℕ). w ∷ map text xs) first.0 ∙ ap (λ (ws : List (List ℕ)). text y ∷ ws) others

-- The text of an array determines the texts of its items.
pub array_shows : (xs ys : List Reply) → IsPlain (array xs) → IsPlain (array ys) → text (array xs) ≡ text (array ys) → map text xs ≡ map text ys
array_shows xs ys hx hy e = let alike = arrays_alike (reply_list xs) (reply_list ys) hx hy e in texts_alike xs ys hx.1 hy.1 alike.0 alike.1
