-- How arguments are appended, one after another.
use Rattle.std.proofs.Common.{◌≡◌, ℕ, zero, suc, ◌≤◌, List, [], ◌∷◌, ◌++◌, length, take, drop, replicate, slice_get, option_map, Some, refl, sym, ◌∙◌, ap, append_assoc, append-nil, length-append, arith}
use Rattle.std.specs.Fmt.{decimal}
use Rattle.ts_spec.specs.Encoded.{encoded_words, encoded_request}
use Rattle.ts_spec.specs.State.{Label}
use Rattle.ts_spec.specs.Text.{line_text}
use Rattle.ts_spec.specs.Wire.{Request}
use Rattle.ts_journal.specs.declared.draft.Draft.{Draft}
use Rattle.ts_journal.specs.Draft.{AppendsWords, HasWords}
use Rattle.ts_journal.specs.Record.{label_pairs}
use Rattle.ts_journal.proofs.Accepted.{encoded-append}

-- nothing was put
pub puts-none : (d : Draft) → AppendsWords d d []
puts-none d = record { bytes = sym (append-nil d.out.bytes); count = omega arith }

-- some words were put, and then others
pub puts-then : {a b c : Draft} {xs ys : Request} → AppendsWords a b xs → AppendsWords b c ys → AppendsWords a c (xs ++ ys)
puts-then {a} {b} {c} {xs} {ys} p q = record {
  bytes = q.bytes
      ∙ ap (λ (l : List ℕ). l ++ encoded_words ys) p.bytes
      ∙ append_assoc a.out.bytes (encoded_words xs) (encoded_words ys)
      ∙ ap (λ (l : List ℕ). a.out.bytes ++ l) (sym (encoded-append xs ys));
  count = omega (arith, p.count, q.count, length-append xs ys);
}

-- more words were put
pub has-more : {a b : Draft} {xs ys : Request} → HasWords xs a → AppendsWords a b ys → HasWords (xs ++ ys) b
has-more {a} {b} {xs} {ys} h p = record {
  bytes = p.bytes
      ∙ ap (λ (l : List ℕ). l ++ encoded_words ys) h.bytes
      ∙ append_assoc (replicate 24 0) (encoded_words xs) (encoded_words ys)
      ∙ ap (λ (l : List ℕ). replicate 24 0 ++ l) (sym (encoded-append xs ys));
  count = omega (arith, p.count, h.count, length-append xs ys);
}

pub has-gap : {words : Request} {d : Draft} → HasWords words d → 24 ≤ length d.out.bytes
has-gap {words} {d} h = omega (arith, ap length h.bytes, length-append (replicate 24 0) (encoded_words words))

-- what stands behind the gap
pub behind-gap : {words : Request} {d : Draft} → HasWords words d → drop 24 d.out.bytes ≡ encoded_words words
behind-gap {words} {d} h = ap (drop 24) h.bytes

-- the whole request
pub closed : {words : Request} {d : Draft} → HasWords words d → line_text 42 (decimal d.words) ++ drop 24 d.out.bytes ≡ encoded_request words
closed {words} {d} h = ap (λ (l : List ℕ). line_text 42 (decimal d.words) ++ l) (behind-gap h) ∙ ap (λ n. line_text 42 (decimal n) ++ encoded_words words) h.count

-- one label more
pub pairs-next : (ls : List Label) (i : ℕ) (name value : List ℕ) → option_map (λ l. l.name) (slice_get ls i) ≡ Some name → option_map (λ l. l.value) (slice_get ls i) ≡ Some value
    → label_pairs (take (suc i) ls) ≡ label_pairs (take i ls) ++ name ∷ value ∷ []
pairs-next [] i name value n v = cc
pairs-next (l ∷ ls) zero name value n v =
    let named : name ≡ l.name = cc in
    let valued : value ≡ l.value = cc in
    rw (named, valued) refl
pairs-next (l ∷ ls) (suc i) name value n v = ap (λ ws. l.name ∷ l.value ∷ ws) (pairs-next ls i name value n v)

-- one item more
pub items-next : {X : Type 0} (xs : List X) (i : ℕ) (x : X) → slice_get xs i ≡ Some x → take (suc i) xs ≡ take i xs ++ x ∷ []
items-next [] i x h = cc
items-next (y ∷ ys) zero x h =
    let same : x ≡ y = cc in
    rw same refl
items-next (y ∷ ys) (suc i) x h = ap (λ l. y ∷ l) (items-next ys i x h)
