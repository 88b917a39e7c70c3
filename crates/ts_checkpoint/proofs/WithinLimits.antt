-- What the test on the bytes of words means.
use Rattle.std.proofs.Common.{◌≡◌, ◌≢◌, ℕ, ◌-◌, ◌≤◌, ◌==◌, suc, ◌&&◌, nat_le, Bool, true, false, if◌then◌else◌, [], ◌∷◌, length, refl, ◌∙◌, ap, arith}
use Rattle.std.proofs.lemmas.Bool.{le-leb, leb-true, and_parts}
use Rattle.std.proofs.lemmas.List.Elements.{All-nil, All-cons}
use Rattle.std.proofs.lemmas.List.Sums.{sum_by-cons}
use Rattle.std.specs.Prelude.{◌↔◌, sum_by, All}
use Rattle.ts_spec.specs.declared.wire.WireLimits.{WireLimits}
use Rattle.ts_spec.specs.Encoded.{Fits}
use Rattle.ts_spec.specs.Wire.{Request}
use Rattle.ts_checkpoint.specs.WithinLimits.{fit_within}

-- each word and all words together are within their limits
pub record AreWithin (word_bytes left : ℕ) (words : Request) : Type 0 where
  pub each : All (λ word. length word ≤ word_bytes) words
  pub together : sum_by length words ≤ left

pub fit-means : (word_bytes left : ℕ) (words : Request) → fit_within word_bytes left words ≡ true → AreWithin word_bytes left words
fit-means word_bytes left [] = λ h. record { each = All-nil (λ word. length word ≤ word_bytes); together = omega arith }
fit-means word_bytes left (word ∷ words) =
    go (nat_le (length word) word_bytes && nat_le (length word) left) refl (λ h. fit-means word_bytes (left - length word) words h)
  where
    go : (b : Bool) → (nat_le (length word) word_bytes && nat_le (length word) left) ≡ b
        → (fit_within word_bytes (left - length word) words ≡ true → AreWithin word_bytes (left - length word) words)
        → (if b then fit_within word_bytes (left - length word) words else false) ≡ true → AreWithin word_bytes left (word ∷ words)
    go true e more h =
        let both = and_parts (nat_le (length word) word_bytes) (nat_le (length word) left) e in
        let short : length word ≤ word_bytes = leb-true (length word) word_bytes both.0 in
        let room : length word ≤ left = leb-true (length word) left both.1 in
        let rest = more h in
        record {
          each = All-cons (λ w. length w ≤ word_bytes) word words short rest.each;
          together = omega (arith, rest.together, sum_by-cons length word words);
        }
    go false e more h = cc

pub means-fit : (word_bytes left : ℕ) (words : Request) → AreWithin word_bytes left words → fit_within word_bytes left words ≡ true
means-fit word_bytes left [] h = refl
means-fit word_bytes left (word ∷ words) h =
    let first : length word ≤ word_bytes = h.each 0 word (omega arith) in
    let rest : All (λ w. length w ≤ word_bytes) words = λ k d within. h.each (suc k) d (omega (arith, within)) in
    let short = le-leb (length word) word_bytes first in
    let room = le-leb (length word) left (omega (arith, h.together, sum_by-cons length word words)) in
    ap (λ b. if b && nat_le (length word) left then fit_within word_bytes (left - length word) words else false) short
    ∙ ap (λ b. if b then fit_within word_bytes (left - length word) words else false) room
    ∙ means-fit word_bytes (left - length word) words (record { each = rest; together = omega (arith, h.together, sum_by-cons length word words) })

pub fits-both : (limits : WireLimits) (words : Request) → words ≢ [] → length words ≤ limits.words
    → (fit_within limits.word_bytes limits.request_bytes words ≡ true) ↔ Fits limits words
fits-both limits words some few = (
  λ h. (let within = fit-means limits.word_bytes limits.request_bytes words h in
      record { some = some; words = few; each = within.each; together = within.together }),
  λ f. means-fit limits.word_bytes limits.request_bytes words (record { each = f.each; together = f.together }),
)

pub some-words : (words : Request) (b : Bool) → b ≡ false → b ≡ (length words == 0) → words ≢ []
some-words [] b is e k = cc
some-words (word ∷ words) b is e k = cc
