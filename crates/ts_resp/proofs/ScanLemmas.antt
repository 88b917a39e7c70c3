-- Searching for the first LF from a later byte, and bytes that are extended.
use Rattle.std.proofs.Common.{◌≡◌, ℕ, zero, suc, ◌+◌, ◌-◌, ◌<◌, ◌≤◌, Bool, true, false, cond, not, nat_lt, if◌then◌else◌, List, [], ◌∷◌, ◌++◌, length, take, drop, position, Option, Some, None, MatchOption, refl, sym, ap, ◌∙◌, subst, arith}
use Rattle.std.proofs.lemmas.Bool.{lt-ltb, le-ltb, ltb-true, ltb-false}
use Rattle.std.proofs.lemmas.List.Sums.{prefix_len-le-length}
use Rattle.std.proofs.lemmas.List.{length-drop}
use Rattle.std.proofs.Math.Seq.{take-length}
use Rattle.std.specs.List.{position_or_len}
use Rattle.ts_resp.specs.declared.text.Text.TheVariants as text
use Rattle.ts_resp.specs.Texts.{is_feed, before_feed, text_at}
use Rattle.ts_resp.proofs.TextLemmas.{before_feed-within}

-- what a position says of the number of elements before it
pub placed : {X : Type 0} (p : X → Bool) (xs : List X) (r : Option ℕ) → r ≡ position p xs
    → MatchOption r (position_or_len p xs ≡ length xs) (λ i. (position_or_len p xs ≡ i) × (i < length xs))
placed p xs r e =
    subst (λ r. MatchOption r (position_or_len p xs ≡ length xs) (λ i. (position_or_len p xs ≡ i) × (i < length xs))) (sym e)
    (by_test (position_or_len p xs) (length xs) (nat_lt (position_or_len p xs) (length xs)) refl (prefix_len-le-length (λ x. not (p x)) xs))
  where
    by_test : (n len : ℕ) (test : Bool) → nat_lt n len ≡ test → n ≤ len → MatchOption (cond test (Some n) None) (n ≡ len) (λ i. (n ≡ i) × (i < len))
    by_test n len true e h = (refl, ltb-true n len e)
    by_test n len false e h = let past = ltb-false n len e in omega arith

-- the first bytes hold no LF
pub before_feed-drop : (n : ℕ) (bytes : List ℕ) → n ≤ before_feed bytes → before_feed bytes ≡ n + before_feed (drop n bytes)
before_feed-drop zero bytes h = omega arith
before_feed-drop (suc n) [] h = let none : suc n ≤ 0 = h in absurd (omega arith)
before_feed-drop (suc n) (byte ∷ bytes) h = by_test (is_feed byte) h (λ h. before_feed-drop n bytes h)
  where
    by_test : (test : Bool) → suc n ≤ cond (not test) (1 + before_feed bytes) 0 → (n ≤ before_feed bytes → before_feed bytes ≡ n + before_feed (drop n bytes))
        → cond (not test) (1 + before_feed bytes) 0 ≡ suc n + before_feed (drop n bytes)
    by_test true h next = absurd (omega arith)
    by_test false h next = let rest = next (omega arith) in omega arith

-- more bytes may come
pub before_feed-more : (n : ℕ) (bytes more : List ℕ) → n ≤ before_feed bytes → n ≤ before_feed (bytes ++ more)
before_feed-more zero bytes more h = omega arith
before_feed-more (suc n) [] more h = let none : suc n ≤ 0 = h in absurd (omega arith)
before_feed-more (suc n) (byte ∷ bytes) more h = by_test (is_feed byte) h (λ h. before_feed-more n bytes more h)
  where
    by_test : (test : Bool) → suc n ≤ cond (not test) (1 + before_feed bytes) 0 → (n ≤ before_feed bytes → n ≤ before_feed (bytes ++ more))
        → suc n ≤ cond (not test) (1 + before_feed (bytes ++ more)) 0
    by_test true h next = absurd (omega arith)
    by_test false h next = let rest = next (omega arith) in omega arith

pub text_at-long : (limit : ℕ) (bytes : List ℕ) → limit < before_feed bytes → text.TooLong ≡ text_at limit bytes
text_at-long limit bytes h =
    sym (ap (λ test. if test then text.TooLong else (if nat_lt (before_feed bytes) (length bytes) then text.Whole (before_feed bytes) else text.Open)) (lt-ltb limit (before_feed bytes) h))

text_at-fits : (limit : ℕ) (bytes : List ℕ) → before_feed bytes ≤ limit
    → text_at limit bytes ≡ (if nat_lt (before_feed bytes) (length bytes) then text.Whole (before_feed bytes) else text.Open)
text_at-fits limit bytes h =
    ap (λ test. if test then text.TooLong else (if nat_lt (before_feed bytes) (length bytes) then text.Whole (before_feed bytes) else text.Open)) (le-ltb limit (before_feed bytes) h)

pub text_at-whole : (limit : ℕ) (bytes : List ℕ) (feed : ℕ) → before_feed bytes ≡ feed → feed ≤ limit → feed < length bytes → text.Whole feed ≡ text_at limit bytes
text_at-whole limit bytes feed e h within =
    ap (λ n. text.Whole n) (sym e)
    ∙ sym (text_at-fits limit bytes (omega arith) ∙ ap (λ test. if test then text.Whole (before_feed bytes) else text.Open) (lt-ltb (before_feed bytes) (length bytes) (omega arith)))

pub text_at-open : (limit : ℕ) (bytes : List ℕ) → before_feed bytes ≡ length bytes → length bytes ≤ limit → text.Open ≡ text_at limit bytes
text_at-open limit bytes e h =
    sym (text_at-fits limit bytes (omega arith) ∙ ap (λ test. if test then text.Whole (before_feed bytes) else text.Open) (le-ltb (before_feed bytes) (length bytes) (omega arith)))

-- what a search from a later byte on finds
abbrev pub rest_from : ℕ → List ℕ → List ℕ
rest_from n bytes = take (length bytes - n) (drop n bytes)

pub rest_is : (n : ℕ) (bytes : List ℕ) → rest_from n bytes ≡ drop n bytes
rest_is n bytes = ap (λ k. take k (drop n bytes)) (sym (length-drop n bytes)) ∙ take-length (drop n bytes)

pub found_at : (scanned at : ℕ) (bytes : List ℕ) → scanned ≤ before_feed bytes → Some at ≡ position is_feed (rest_from scanned bytes)
    → (before_feed bytes ≡ scanned + at) × (scanned + at < length bytes)
found_at scanned at bytes known e =
    let most = before_feed-within bytes in
    let place = placed is_feed (drop scanned bytes) (Some at) (e ∙ ap (position is_feed) (rest_is scanned bytes)) in
    let there : before_feed (drop scanned bytes) ≡ at = place.0 in
    let long = length-drop scanned bytes in
    let whole = before_feed-drop scanned bytes known in
    let within = place.1 in (omega arith, omega arith)

pub found_none : (scanned : ℕ) (bytes : List ℕ) → scanned ≤ before_feed bytes → None ≡ position is_feed (rest_from scanned bytes)
    → before_feed bytes ≡ length bytes
found_none scanned bytes known e =
    let most = before_feed-within bytes in
    let place : before_feed (drop scanned bytes) ≡ length (drop scanned bytes) = placed is_feed (drop scanned bytes) None (e ∙ ap (position is_feed) (rest_is scanned bytes)) in
    let long = length-drop scanned bytes in
    let whole = before_feed-drop scanned bytes known in
    omega arith
