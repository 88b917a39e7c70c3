-- The text of the record of TS.ADD, part by part.
use Rattle.std.proofs.Common.{◌≡◌, ◌+◌, ◌-◌, ◌^◌, ◌<◌, ◌≤◌, ℕ, suc, List, [], ◌∷◌, ◌++◌, length, length-append, take, drop, codes, if◌then◌else◌, Option, None, Some, refl, sym, ◌∙◌, ap, append_assoc, pos, arith}
use Rattle.std.proofs.Math.Seq.{take-append-add}
use Rattle.std.proofs.lemmas.List.{drop-take, drop-append-le, length-take}
use Rattle.std.proofs.lemmas.Fmt.{length-decimal-le}
use Rattle.std.specs.Fmt.{decimal, digits}
use Rattle.std.specs.Prelude.{is_some}
use Rattle.ts_spec.specs.declared.series.Policy.{Policy}
use Rattle.ts_spec.specs.Encoded.{encoded_word, encoded_words, encoded_request}
use Rattle.ts_spec.specs.SeriesOptions.{spec}
use Rattle.ts_spec.specs.Settings.{nothing}
use Rattle.ts_spec.specs.Text.{CRLF, line_text}
use Rattle.ts_spec.specs.Value.{shown_value, shown_whole}
use Rattle.ts_spec.specs.Wire.{Request}
use Rattle.ts_journal.specs.declared.addition.TheConstants.{DEFAULT_OPTIONS}
use Rattle.ts_journal.specs.Record.{given, on_duplicate_words, spec_words}
use Rattle.ts_journal.proofs.Accepted.{encoded-append}

pub twenty_digits : (n : ℕ) → n < 2 ^ 64 → length (decimal n) ≤ 20
twenty_digits n h = length-decimal-le 20 n (omega arith) (omega arith) h

-- the numbers in the options of a new series, and before them
digits-of-0 : decimal 0 ≡ 48 ∷ []
unfolding digits
digits-of-0 = refl

digits-of-1 : decimal 1 ≡ 49 ∷ []
unfolding digits
digits-of-1 = refl

digits-of-4096 : decimal 4096 ≡ 52 ∷ 48 ∷ 57 ∷ 54 ∷ []
unfolding digits
digits-of-4096 = refl

digits-of-4 : decimal 4 ≡ 52 ∷ []
unfolding digits
digits-of-4 = refl

digits-of-5 : decimal 5 ≡ 53 ∷ []
unfolding digits
digits-of-5 = refl

digits-of-6 : decimal 6 ≡ 54 ∷ []
unfolding digits
digits-of-6 = refl

digits-of-8 : decimal 8 ≡ 56 ∷ []
unfolding digits
digits-of-8 = refl

digits-of-9 : decimal 9 ≡ 57 ∷ []
unfolding digits
digits-of-9 = refl

digits-of-10 : decimal 10 ≡ 49 ∷ 48 ∷ []
unfolding digits
digits-of-10 = refl

digits-of-16 : decimal 16 ≡ 49 ∷ 54 ∷ []
unfolding digits
digits-of-16 = refl

zero-value : shown_value (pos 0) ≡ 48 ∷ []
unfolding shown_value shown_whole
zero-value = refl

-- the options of a new series
default-options : DEFAULT_OPTIONS.now ≡ encoded_words (spec_words (spec nothing))
default-options = simp (digits-of-0, digits-of-4096, zero-value, digits-of-1, digits-of-4, digits-of-5, digits-of-6, digits-of-8, digits-of-9, digits-of-10, digits-of-16) refl

-- how many arguments there are
arguments-of : (on : Option Policy) → (if is_some on then 18 else 16) ≡ suc (suc (suc (suc (length (given on_duplicate_words on ++ spec_words (spec nothing))))))
arguments-of None = refl
arguments-of (Some policy) = refl

-- what stands behind a part of a list, and its end
pub text_with_end : (before after text : List ℕ) (from to : ℕ) → from ≤ to → to ≤ length before
    → take (to - from) (drop from before) ≡ text → take (to + 2) after ≡ take to before ++ CRLF
    → take (to + 2 - from) (drop from after) ≡ text ++ CRLF
text_with_end before after text from to order within e f =
    let sum : from + (to + 2 - from) ≡ to + 2 = omega arith in
    let part : from + (to - from) ≡ to = omega arith in
    sym (drop-take from (to + 2 - from) after)
    ∙ ap (λ n. drop from (take n after)) sum
    ∙ ap (drop from) f
    ∙ drop-append-le from (take to before) CRLF (simp length-take (omega arith))
    ∙ ap (λ t. t ++ CRLF) (ap (λ n. drop from (take n before)) (sym part) ∙ drop-take from (to - from) before ∙ e)

behind : (t e time n rest : List ℕ) → e ++ ((t ++ e) ++ (time ++ (e ++ ((n ++ e) ++ rest)))) ≡ (e ++ (t ++ e) ++ time ++ e ++ (n ++ e)) ++ rest
behind t e time n rest = simp append_assoc

regroup : (t e time n value : List ℕ) → (e ++ (t ++ e) ++ time ++ e ++ (n ++ e)) ++ (value ++ e) ≡ e ++ (t ++ e ++ time ++ e) ++ (n ++ e ++ value ++ e)
regroup t e time n value = simp append_assoc

-- What stands between the key and the options of the series. It was written from its end on, in a block; each offset is
-- that of the part written last.
pub sample-text : (time value : List ℕ) (at_value size at_size behind_time at_time at_time_size start end : ℕ) (b0 b1 b2 b3 b4 b5 : List ℕ)
    → at_value ≤ end → take (end - at_value) b0 ≡ value ++ CRLF → size ≡ length value
    → b1 ≡ line_text 36 (decimal size) ++ b0 → at_size + (length (decimal size) + 3) ≡ at_value
    → b2 ≡ CRLF ++ b1 → behind_time + 2 ≡ at_size
    → b3 ≡ time ++ b2 → at_time + length time ≡ behind_time
    → b4 ≡ line_text 36 (decimal (behind_time - at_time)) ++ b3 → at_time_size + (length (decimal (behind_time - at_time)) + 3) ≡ at_time
    → b5 ≡ CRLF ++ b4 → start + 2 ≡ at_time_size
    → take (end - start) b5 ≡ CRLF ++ encoded_word time ++ encoded_word value
sample-text time value at_value size at_size behind_time at_time at_time_size start end b0 b1 b2 b3 b4 b5 order e0 sized e1 p1 e2 p2 e3 p3 e4 p4 e5 p5 =
    let timed : behind_time - at_time ≡ length time = omega arith in
    let t : List ℕ = 36 ∷ decimal (behind_time - at_time) in
    let n : List ℕ = 36 ∷ decimal size in
    let before : List ℕ = CRLF ++ (t ++ CRLF) ++ time ++ CRLF ++ (n ++ CRLF) in
    let all : b5 ≡ before ++ b0 = e5 ∙ ap (λ (l : List ℕ). CRLF ++ l) (e4 ∙ ap (λ (l : List ℕ). (t ++ CRLF) ++ l) (e3 ∙ ap (λ (l : List ℕ). time ++ l) (e2 ∙ ap (λ (l : List ℕ). CRLF ++ l) e1)))
    ∙ behind t CRLF time n b0 in
    let count : end - start ≡ length before + (end - at_value) = omega (arith, length-append (CRLF ++ (t ++ CRLF) ++ time ++ CRLF) (n ++ CRLF), length-append (CRLF ++ (t ++ CRLF) ++ time) CRLF, length-append (CRLF ++ (t ++ CRLF)) time, length-append (t ++ CRLF) [], length-append t CRLF, length-append n CRLF) in
    rw (all, count) (take-append-add before b0 (end - at_value)
    ∙ ap (λ (l : List ℕ). before ++ l) e0
    ∙ regroup t CRLF time n value
    ∙ ap (λ (k : ℕ). CRLF ++ ((36 ∷ decimal k) ++ CRLF ++ time ++ CRLF) ++ ((36 ∷ decimal size) ++ CRLF ++ value ++ CRLF)) timed
    ∙ ap (λ (k : ℕ). CRLF ++ encoded_word time ++ ((36 ∷ decimal k) ++ CRLF ++ value ++ CRLF)) sized)

parts : (n name k e key t m on rest : List ℕ)
    → (n ++ name ++ (k ++ e)) ++ key ++ (e ++ t ++ m) ++ on ++ rest
    ≡ n ++ (name ++ ((k ++ e ++ key ++ e) ++ (t ++ (m ++ (on ++ rest)))))
parts n name k e key t m on rest = simp append_assoc

assembled : (name key time value on rest : List ℕ) (n : ℕ)
    → (line_text 42 (decimal n) ++ encoded_word name ++ line_text 36 (decimal (length key))) ++ key
    ++ (CRLF ++ encoded_word time ++ encoded_word value) ++ on ++ rest
    ≡ line_text 42 (decimal n) ++ (encoded_word name ++ (encoded_word key ++ (encoded_word time ++ (encoded_word value ++ (on ++ rest)))))
assembled name key time value on rest n =
    parts (line_text 42 (decimal n)) (encoded_word name) (36 ∷ decimal (length key)) CRLF key (encoded_word time) (encoded_word value) on rest

-- the whole record
whole-text : (key time value : List ℕ) (on : Option Policy)
    → (line_text 42 (decimal (if is_some on then 18 else 16)) ++ encoded_word (codes "TS.ADD") ++ line_text 36 (decimal (length key))) ++ key
    ++ (CRLF ++ encoded_word time ++ encoded_word value) ++ encoded_words (given on_duplicate_words on) ++ encoded_words (spec_words (spec nothing))
    ≡ encoded_request (codes "TS.ADD" ∷ key ∷ time ∷ value ∷ (given on_duplicate_words on ++ spec_words (spec nothing)))
whole-text key time value on =
    let words : Request = given on_duplicate_words on ++ spec_words (spec nothing) in
    let name : List ℕ = codes "TS.ADD" in
    assembled name key time value (encoded_words (given on_duplicate_words on)) (encoded_words (spec_words (spec nothing))) (if is_some on then 18 else 16)
    ∙ ap (λ (l : List ℕ). line_text 42 (decimal (if is_some on then 18 else 16)) ++ (encoded_word name ++ (encoded_word key ++ (encoded_word time ++ (encoded_word value ++ l)))))
    (sym (encoded-append (given on_duplicate_words on) (spec_words (spec nothing))))
    ∙ ap (λ (n : ℕ). line_text 42 (decimal n) ++ (encoded_word name ++ (encoded_word key ++ (encoded_word time ++ (encoded_word value ++ encoded_words words))))) (arguments-of on)

-- the same, appended part by part
pub record-text : (key time value : List ℕ) (on : Option Policy) (head sample b0 b1 b2 b3 b4 b5 : List ℕ)
    → head ≡ line_text 42 (decimal (if is_some on then 18 else 16)) ++ encoded_word (codes "TS.ADD") ++ line_text 36 (decimal (length key))
    → sample ≡ CRLF ++ encoded_word time ++ encoded_word value
    → b0 ≡ [] → b1 ≡ b0 ++ head → b2 ≡ b1 ++ key → b3 ≡ b2 ++ sample → b4 ≡ b3 ++ encoded_words (given on_duplicate_words on) → b5 ≡ b4 ++ DEFAULT_OPTIONS.now
    → b5 ≡ encoded_request (codes "TS.ADD" ∷ key ∷ time ∷ value ∷ (given on_duplicate_words on ++ spec_words (spec nothing)))
record-text key time value on head sample b0 b1 b2 b3 b4 b5 begins goes_on e0 e1 e2 e3 e4 e5 =
    let options = encoded_words (given on_duplicate_words on) in
    e5
    ∙ ap (λ (l : List ℕ). l ++ DEFAULT_OPTIONS.now) (e4 ∙ ap (λ (l : List ℕ). l ++ options) (e3 ∙ ap (λ (l : List ℕ). l ++ sample) (e2 ∙ ap (λ (l : List ℕ). l ++ key) (e1 ∙ ap (λ (l : List ℕ). l ++ head) e0))))
    ∙ ap (λ (l : List ℕ). head ++ key ++ sample ++ options ++ l) default-options
    ∙ rw (begins, goes_on) (whole-text key time value on)
