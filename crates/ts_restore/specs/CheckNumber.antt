-- The check number of a list of words. It tells whether the words were damaged: any one changed byte changes it.
use Rattle.std.specs.Prelude.{ℕ, ◌+◌, ◌*◌, ◌%◌, List, fold}

-- the greatest prime number below 2^32
abbrev pub MODULUS : ℕ
MODULUS = 4294967291

-- what stands for the end of a word: one more than the greatest byte
abbrev pub WORD_END : ℕ
WORD_END = 256

-- the check number after a byte or the end of a word
abbrev pub check_symbol : ℕ → ℕ → ℕ
check_symbol check symbol = (257 * check + symbol + 1) % MODULUS

-- the check number after a word
abbrev pub check_word : ℕ → List ℕ → ℕ
check_word check word = check_symbol (fold check_symbol check word) WORD_END

-- the check number of a list of words
abbrev pub check_number : List (List ℕ) → ℕ
check_number words = fold check_word 0 words

-- bytes as a number to the base of 257, with one added to each
abbrev pub number : List ℕ → ℕ
number bytes = fold (λ n byte. 257 * n + byte + 1) 0 bytes
