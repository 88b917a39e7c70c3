-- The check number of a list of words and one more, and of words that differ in one byte.
use Rattle.std.proofs.Common.{◌≡◌, ◌≢◌, ℕ, ◌+◌, ◌*◌, ◌/◌, ◌%◌, ◌<◌, inl, inr, List, [], ◌∷◌, ◌++◌, fold, length, ap, refl, sym, ◌∙◌, arith, mod-lt}
use Rattle.std.proofs.lemmas.Bool.{cases_order}
use Rattle.std.proofs.lemmas.Nat.{div-add-mod', mul-mod_second}
use Rattle.std.proofs.Math.Nat.{mod-add-mod, add-mul-mod_self_left}
use Rattle.std.proofs.lemmas.Grind.{fold-append}
use Rattle.ts_restore.specs.CheckNumber.{MODULUS, WORD_END, check_symbol, check_word, check_number, number}

-- adding a word to the check number of a list gives that of the list with the word
pub one_more : (old new : ℕ) (word : List ℕ) → new ≡ check_word old word → (words : List (List ℕ)) → old ≡ check_number words → new ≡ check_number (words ++ word ∷ [])
one_more old new word is words e = is ∙ ap (λ (n : ℕ). check_word n word) e ∙ sym (fold-append check_word 0 words (word ∷ []))

-- ---- several symbols at once

-- k times a number and some more have the remainder that k times its remainder and some more have
same-left : (k x more : ℕ) → (k * (x % MODULUS) + more) % MODULUS ≡ (k * x + more) % MODULUS
same-left k x more =
    sym (mod-add-mod (k * (x % MODULUS)) MODULUS more)
    ∙ ap (λ (n : ℕ). (n + more) % MODULUS) (mul-mod_second k x MODULUS)
    ∙ mod-add-mod (k * x) MODULUS more

-- one more symbol, where k is a power of 257 and `so_far` the number of the symbols so far
next-symbol : (k x so_far symbol : ℕ) → check_symbol ((k * x + so_far) % MODULUS) symbol ≡ (257 * k * x + (257 * so_far + symbol + 1)) % MODULUS
next-symbol k x so_far symbol =
    ap (λ (n : ℕ). n % MODULUS) one ∙ same-left 257 (k * x + so_far) (symbol + 1) ∙ ap (λ (n : ℕ). n % MODULUS) two
  where
    one : 257 * ((k * x + so_far) % MODULUS) + symbol + 1 ≡ 257 * ((k * x + so_far) % MODULUS) + (symbol + 1)
    one = omega arith

    two : 257 * (k * x + so_far) + (symbol + 1) ≡ 257 * k * x + (257 * so_far + symbol + 1)
    two = grind arith

four-symbols : (x a b c d : ℕ) → fold check_symbol x (a ∷ b ∷ c ∷ d ∷ []) ≡ (4362470401 * x + number (a ∷ b ∷ c ∷ d ∷ [])) % MODULUS
four-symbols x a b c d =
    ap (λ (n : ℕ). check_symbol (check_symbol (check_symbol n b) c) d) (ap (λ (n : ℕ). n % MODULUS) first)
    ∙ ap (λ (n : ℕ). check_symbol (check_symbol n c) d) (next-symbol 257 x (a + 1) b)
    ∙ ap (λ (n : ℕ). check_symbol n d) (next-symbol 66049 x (257 * (a + 1) + b + 1) c)
    ∙ next-symbol 16974593 x (257 * (257 * (a + 1) + b + 1) + c + 1) d
    ∙ ap (λ (n : ℕ). n % MODULUS) last
  where
    first : 257 * x + a + 1 ≡ 257 * x + (a + 1)
    first = omega arith

    last : 257 * 16974593 * x + (257 * (257 * (257 * (a + 1) + b + 1) + c + 1) + d + 1) ≡ 4362470401 * x + number (a ∷ b ∷ c ∷ d ∷ [])
    last = omega arith

-- eight symbols by two numbers of four
eight-symbols : (x a b c d e f g h : ℕ) →
    (1621696888 * x + (67503110 * number (a ∷ b ∷ c ∷ d ∷ []) + number (e ∷ f ∷ g ∷ h ∷ []))) % MODULUS
    ≡ fold check_symbol x (a ∷ b ∷ c ∷ d ∷ e ∷ f ∷ g ∷ h ∷ [])
eight-symbols x a b c d e f g h = by (number (a ∷ b ∷ c ∷ d ∷ [])) (number (e ∷ f ∷ g ∷ h ∷ [])) refl refl
  where
    by : (high low : ℕ) → high ≡ number (a ∷ b ∷ c ∷ d ∷ []) → low ≡ number (e ∷ f ∷ g ∷ h ∷ []) →
        (1621696888 * x + (67503110 * high + low)) % MODULUS ≡ fold check_symbol x (a ∷ b ∷ c ∷ d ∷ e ∷ f ∷ g ∷ h ∷ [])
    by high low p q =
        sym (add-mul-mod_self_left (1621696888 * x + (67503110 * high + low)) MODULUS (4431034443 * x + high))
        ∙ ap (λ (n : ℕ). n % MODULUS) same
        ∙ sym (same-left 4362470401 (4362470401 * x + high) low)
        ∙ ap (λ (n : ℕ). (4362470401 * ((4362470401 * x + n) % MODULUS) + low) % MODULUS) p
        ∙ ap (λ (n : ℕ). (4362470401 * n + low) % MODULUS) (sym (four-symbols x a b c d))
        ∙ ap (λ (n : ℕ). (4362470401 * fold check_symbol x (a ∷ b ∷ c ∷ d ∷ []) + n) % MODULUS) q
        ∙ sym (four-symbols (fold check_symbol x (a ∷ b ∷ c ∷ d ∷ [])) e f g h)
      where
        same : 1621696888 * x + (67503110 * high + low) + MODULUS * (4431034443 * x + high) ≡ 4362470401 * (4362470401 * x + high) + low
        same = omega arith

-- what holds of each four items holds of a list of four
by-four : (xs : List ℕ) → length xs ≡ 4 → (P : List ℕ → Type 0) → ((a b c d : ℕ) → P (a ∷ b ∷ c ∷ d ∷ [])) → P xs
by-four [] e P all = absurd (omega arith)
by-four (_ ∷ []) e P all = absurd (omega arith)
by-four (_ ∷ _ ∷ []) e P all = absurd (omega arith)
by-four (_ ∷ _ ∷ _ ∷ []) e P all = absurd (omega arith)
by-four (a ∷ b ∷ c ∷ d ∷ []) e P all = all a b c d
by-four (_ ∷ _ ∷ _ ∷ _ ∷ _ ∷ _) e P all = absurd (omega arith)

-- The check number after eight bytes, by the numbers of the first four and of the last four.
pub after_eight : (check x high' low' : ℕ) (high low : List ℕ) → x ≡ check → high' ≡ number high → low' ≡ number low → length high ≡ 4 → length low ≡ 4 →
    (1621696888 * x + (67503110 * high' + low')) % MODULUS ≡ fold check_symbol check (high ++ low)
after_eight check x high' low' high low d e f p q =
    ap (λ (n : ℕ). (1621696888 * n + (67503110 * high' + low')) % MODULUS) d
    ∙ ap (λ (n : ℕ). (1621696888 * check + (67503110 * n + low')) % MODULUS) e
    ∙ ap (λ (n : ℕ). (1621696888 * check + (67503110 * number high + n)) % MODULUS) f
    ∙ by-four high p (λ xs. (1621696888 * check + (67503110 * number xs + number low)) % MODULUS ≡ fold check_symbol check (xs ++ low))
    (λ a b c d. by-four low q (λ ys. (1621696888 * check + (67503110 * number (a ∷ b ∷ c ∷ d ∷ []) + number ys)) % MODULUS ≡ fold check_symbol check (a ∷ b ∷ c ∷ d ∷ ys))
    (eight-symbols check a b c d))

-- ---- what follows tells two check numbers apart

-- two numbers below the modulus that differ by a multiple of it are equal
same-rest : (x y a b : ℕ) → x < MODULUS → y < MODULUS → x + MODULUS * a ≡ y + MODULUS * b → x ≡ y
same-rest x y a b h k e = elim (cases_order a b) [
  | inl same ↦ (let f : MODULUS * a ≡ MODULUS * b = ap (λ (n : ℕ). MODULUS * n) same in omega arith)
  | inr (inl less) ↦ absurd (omega arith)
  | inr (inr more) ↦ absurd (omega arith)
]

-- 257 times 3225403452 is one more than a multiple of the modulus
same-check : (x y c : ℕ) → x < MODULUS → y < MODULUS → check_symbol x c ≡ check_symbol y c → x ≡ y
same-check x y c h k e =
    let one : (257 * x + c + 1) / MODULUS * MODULUS + check_symbol x c ≡ 257 * x + c + 1 = div-add-mod' (257 * x + c + 1) MODULUS in
    let two : (257 * y + c + 1) / MODULUS * MODULUS + check_symbol y c ≡ 257 * y + c + 1 = div-add-mod' (257 * y + c + 1) MODULUS in
    apart ((257 * x + c + 1) / MODULUS) ((257 * y + c + 1) / MODULUS) (check_symbol x c) (check_symbol y c) one two e
  where
    apart : (a b r s : ℕ) → a * MODULUS + r ≡ 257 * x + c + 1 → b * MODULUS + s ≡ 257 * y + c + 1 → r ≡ s → x ≡ y
    apart a b r s one two same = same-rest x y (193 * x + 3225403452 * b) (193 * y + 3225403452 * a) h k (omega arith)

same-symbol : (x a b : ℕ) → a < 257 → b < 257 → check_symbol x a ≡ check_symbol x b → a ≡ b
same-symbol x a b h k e =
    let one : (257 * x + a + 1) / MODULUS * MODULUS + check_symbol x a ≡ 257 * x + a + 1 = div-add-mod' (257 * x + a + 1) MODULUS in
    let two : (257 * x + b + 1) / MODULUS * MODULUS + check_symbol x b ≡ 257 * x + b + 1 = div-add-mod' (257 * x + b + 1) MODULUS in
    apart ((257 * x + a + 1) / MODULUS) ((257 * x + b + 1) / MODULUS) (check_symbol x a) (check_symbol x b) one two e
  where
    apart : (q p r s : ℕ) → q * MODULUS + r ≡ 257 * x + a + 1 → p * MODULUS + s ≡ 257 * x + b + 1 → r ≡ s → a ≡ b
    apart q p r s one two same = same-rest a b p q (omega arith) (omega arith) (omega arith)

symbol-below : (x c : ℕ) → check_symbol x c < MODULUS
symbol-below x c = mod-lt (257 * x + c + 1) (omega arith)

same-fold : (cs : List ℕ) (x y : ℕ) → x < MODULUS → y < MODULUS → fold check_symbol x cs ≡ fold check_symbol y cs → x ≡ y
same-fold [] x y h k e = e
same-fold (c ∷ cs) x y h k e =
    same-check x y c h k (same-fold cs (check_symbol x c) (check_symbol y c) (symbol-below x c) (symbol-below y c) e)

fold-below : (cs : List ℕ) (x : ℕ) → x < MODULUS → fold check_symbol x cs < MODULUS
fold-below [] x h = h
fold-below (c ∷ cs) x h = fold-below cs (check_symbol x c) (symbol-below x c)

word-below : (x : ℕ) (word : List ℕ) → check_word x word < MODULUS
word-below x word = symbol-below (fold check_symbol x word) WORD_END

same-words : (words : List (List ℕ)) (x y : ℕ) → x < MODULUS → y < MODULUS → fold check_word x words ≡ fold check_word y words → x ≡ y
same-words [] x y h k e = e
same-words (w ∷ ws) x y h k e =
    let after : check_word x w ≡ check_word y w = same-words ws (check_word x w) (check_word y w) (word-below x w) (word-below y w) e in
    same-fold w x y h k (same-check (fold check_symbol x w) (fold check_symbol y w) WORD_END (fold-below w x h) (fold-below w y k) after)

all-below : (words : List (List ℕ)) (x : ℕ) → x < MODULUS → fold check_word x words < MODULUS
all-below [] x h = h
all-below (w ∷ ws) x h = all-below ws (check_word x w) (word-below x w)

-- Words that differ in one byte have different check numbers.
pub changed_byte : (before after : List (List ℕ)) (front back : List ℕ) (a b : ℕ) → a < 256 → b < 256 → a ≢ b →
    check_number (before ++ (front ++ a ∷ back) ∷ after) ≢ check_number (before ++ (front ++ b ∷ back) ∷ after)
changed_byte before after front back a b h k other e =
    let words : fold check_word (check_number before) ((front ++ a ∷ back) ∷ after) ≡ fold check_word (check_number before) ((front ++ b ∷ back) ∷ after) =
    sym (fold-append check_word 0 before ((front ++ a ∷ back) ∷ after)) ∙ e ∙ fold-append check_word 0 before ((front ++ b ∷ back) ∷ after) in
    let word : check_word (check_number before) (front ++ a ∷ back) ≡ check_word (check_number before) (front ++ b ∷ back) =
    same-words after (check_word (check_number before) (front ++ a ∷ back)) (check_word (check_number before) (front ++ b ∷ back))
    (word-below (check_number before) (front ++ a ∷ back)) (word-below (check_number before) (front ++ b ∷ back)) words in
    let start : check_number before < MODULUS = all-below before 0 (omega arith) in
    let bytes : fold check_symbol (check_number before) (front ++ a ∷ back) ≡ fold check_symbol (check_number before) (front ++ b ∷ back) =
    same-check (fold check_symbol (check_number before) (front ++ a ∷ back)) (fold check_symbol (check_number before) (front ++ b ∷ back)) WORD_END
    (fold-below (front ++ a ∷ back) (check_number before) start) (fold-below (front ++ b ∷ back) (check_number before) start) word in
    let rest : fold check_symbol (check_symbol (fold check_symbol (check_number before) front) a) back ≡ fold check_symbol (check_symbol (fold check_symbol (check_number before) front) b) back =
    sym (fold-append check_symbol (check_number before) front (a ∷ back)) ∙ bytes ∙ fold-append check_symbol (check_number before) front (b ∷ back) in
    other (same-symbol (fold check_symbol (check_number before) front) a b (omega arith) (omega arith)
    (same-fold back (check_symbol (fold check_symbol (check_number before) front) a) (check_symbol (fold check_symbol (check_number before) front) b)
    (symbol-below (fold check_symbol (check_number before) front) a) (symbol-below (fold check_symbol (check_number before) front) b) rest))
