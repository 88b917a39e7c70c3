-- How many arguments are written for those that were parsed, and how long they are.
use Rattle.std.proofs.Common.{◌≡◌, ℕ, ◌+◌, ◌*◌, ◌≤◌, nat_le, Bool, true, false, if◌then◌else◌, List, [], ◌∷◌, ◌++◌, length, sum_by, refl, ap, length-append, arith}
use Rattle.std.proofs.lemmas.Bool.{le-leb, leb-true}
use Rattle.std.proofs.lemmas.List.Sums.{sum_by-append, sum_by-cons}
use Rattle.ts_spec.specs.Settings.{Word}
use Rattle.ts_journal.proofs.Among.{IsAmong}

-- each word has at most so many bytes
abbrev pub AreShort : ℕ → List Word → Type 0
AreShort most [] = Unit {0}
AreShort most (word ∷ words) = (length word ≤ most) × AreShort most words

-- What is put for some words: so many words more, each of at most 32 bytes more than the longest, and of so many
-- bytes more than 24 for each.
pub record Costs (put words : List Word) (more bytes : ℕ) : Type 0 where
  pub count : length put ≤ length words + more
  pub each : (most : ℕ) → AreShort most words → AreShort (most + 32) put
  pub together : sum_by length put ≤ 24 * sum_by length words + bytes

short-append : (most : ℕ) (xs ys : List Word) → AreShort most xs → AreShort most ys → AreShort most (xs ++ ys)
short-append most [] ys h k = k
short-append most (x ∷ xs) ys h k = (h.0, short-append most xs ys h.1 k)

short-front : (most : ℕ) (xs ys : List Word) → AreShort most (xs ++ ys) → AreShort most xs × AreShort most ys
short-front most [] ys h = (tt, h)
short-front most (x ∷ xs) ys h = let rest = short-front most xs ys h.1 in ((h.0, rest.0), rest.1)

pub costs-then : {xs vs ys ws : List Word} {a b c d : ℕ} → Costs xs vs a b → Costs ys ws c d → Costs (xs ++ ys) (vs ++ ws) (a + c) (b + d)
costs-then {xs} {vs} {ys} {ws} {a} {b} {c} {d} p q = record {
  count = omega (arith, p.count, q.count, length-append xs ys, length-append vs ws);
  each = λ most h. let parts = short-front most vs ws h in short-append (most + 32) xs ys (p.each most parts.0) (q.each most parts.1);
  together = omega (arith, p.together, q.together, sum_by-append length xs ys, sum_by-append length vs ws);
}

-- no words are put
pub costs-none : (words : List Word) → Costs [] words 0 0
costs-none words = record { count = omega arith; each = λ most h. tt; together = omega arith }

-- a word of its own
pub costs-own : (word : Word) (n : ℕ) → length word ≤ n → n ≤ 32 → Costs (word ∷ []) [] 1 n
costs-own word n h few = record {
  count = omega arith;
  each = λ most k. (omega arith, tt);
  together = omega (arith, sum_by-cons length word []);
}

-- two words for two others
pub costs-two : (one two first second : Word) → length one ≤ 32 → length two ≤ 32 → length one + length two ≤ 24 * (length first + length second)
    → Costs (one ∷ two ∷ []) (first ∷ second ∷ []) 0 0
costs-two one two first second few some h = record {
  count = omega arith;
  each = λ most k. (omega arith, (omega arith, tt));
  together = omega (
    arith,
    h,
    sum_by-cons length one (two ∷ []),
    sum_by-cons length two [],
    sum_by-cons length first (second ∷ []),
    sum_by-cons length second [],
  );
}

-- a word again
pub costs-same : (word : Word) → Costs (word ∷ []) (word ∷ []) 0 0
costs-same word = record {
  count = omega arith;
  each = λ most k. (omega (arith, k.0), tt);
  together = omega (arith, sum_by-cons length word []);
}

pub costs-more : {put words : List Word} {a b : ℕ} (c d : ℕ) → Costs put words a b → a ≤ c → b ≤ d → Costs put words c d
costs-more {put} {words} {a} {b} c d p h k = record { count = omega (arith, p.count); each = p.each; together = omega (arith, p.together) }

-- one word more was read
pub costs-first : {put words : List Word} {a b : ℕ} (word : Word) → Costs put words a b → Costs put (word ∷ words) a b
costs-first {put} {words} {a} {b} word p = record {
  count = omega (arith, p.count);
  each = λ most h. p.each most h.1;
  together = omega (arith, p.together, sum_by-cons length word words);
}

-- ---- words that are among others

-- one for each word that is longer
abbrev longer : ℕ → Word → ℕ
longer most word = if nat_le (length word) most then 0 else 1

none-longer : (most : ℕ) (words : List Word) → AreShort most words → sum_by (longer most) words ≡ 0
none-longer most [] h = refl
none-longer most (word ∷ words) h =
    let one : longer most word ≡ 0 = ap (λ b. if b then 0 else 1) (le-leb (length word) most h.0) in
    omega (arith, one, sum_by-cons (longer most) word words, none-longer most words h.1)

all-short : (most : ℕ) (words : List Word) → sum_by (longer most) words ≤ 0 → AreShort most words
all-short most [] h = tt
all-short most (word ∷ words) h =
    let split = sum_by-cons (longer most) word words in
    (go (nat_le (length word) most) refl (omega (arith, split, h)), all-short most words (omega (arith, split, h)))
  where
    go : (b : Bool) → nat_le (length word) most ≡ b → (if b then 0 else 1) ≤ 0 → length word ≤ most
    go true e k = leb-true (length word) most e
    go false e k = absurd (omega (arith, k))

short-more : (most : ℕ) (words : List Word) → AreShort most words → AreShort (most + 32) words
short-more most [] h = tt
short-more most (word ∷ words) h = (omega (arith, h.0), short-more most words h.1)

counted : (words : List Word) → sum_by (λ word. 1) words ≡ length words
counted [] = refl
counted (word ∷ words) = omega (arith, sum_by-cons (λ word. 1) word words, counted words)

pub costs-among : {put words : List Word} → IsAmong put words → Costs put words 0 0
costs-among {put} {words} h = record {
  count = omega (arith, h (λ word. 1), counted put, counted words);
  each = λ most k. short-more most put (all-short most put (omega (arith, h (longer most), none-longer most words k)));
  together = omega (arith, h length);
}
