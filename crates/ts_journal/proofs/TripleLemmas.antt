-- The arguments of several triples, and their lengths.
use Rattle.std.proofs.Common.{◌≡◌, ℕ, ◌+◌, ◌==◌, false, if◌then◌else◌, replicate, codes, List, [], ◌∷◌, ◌++◌, length, map, take, drop, refl, sym, ◌∙◌, ap, append_assoc, append-nil, length-append, arith}
use Rattle.std.specs.Prelude.{flat_map, sum}
use Rattle.std.proofs.lemmas.List.Sums.{sum_by-cons}
use Rattle.std.proofs.Math.Seq.{take-append_seam, drop-append_seam}
use Rattle.ts_spec.specs.Command.{Triple}
use Rattle.std.specs.Fmt.{decimal}
use Rattle.ts_spec.specs.Encoded.{encoded_word, encoded_words}
use Rattle.ts_spec.specs.Text.{line_text}
use Rattle.ts_journal.specs.Fixed.{triple_text}
use Rattle.ts_journal.specs.Lines.{pieces, joined, words_in, accepted_text}
use Rattle.ts_journal.specs.Record.{triple_words}
use Rattle.ts_journal.proofs.Accepted.{joined-triples}

-- one item more
pub map-next : {X Y : Type 0} (f : X → Y) (xs : List X) (x : X) → map f (xs ++ x ∷ []) ≡ map f xs ++ f x ∷ []
map-next f [] x = refl
map-next f (y ∷ ys) x = ap (λ l. f y ∷ l) (map-next f ys x)

pub flat-next : {X Y : Type 0} (f : X → List Y) (xs : List X) (x : X) → flat_map f (xs ++ x ∷ []) ≡ flat_map f xs ++ f x
flat-next f [] x = append-nil (f x)
flat-next f (y ∷ ys) x = ap (λ l. f y ++ l) (flat-next f ys x) ∙ sym (append_assoc (f y) (flat_map f ys) (f x))

-- pieces of these lengths are these
pub pieces-joined : (ps : List (List ℕ)) → pieces (map length ps) (joined ps) ≡ ps
pieces-joined [] = refl
pieces-joined (p ∷ ps) =
    ap (λ l. l ∷ pieces (map length ps) (drop (length p) (p ++ joined ps))) (take-append_seam p (joined ps))
    ∙ ap (λ l. p ∷ pieces (map length ps) l) (drop-append_seam p (joined ps))
    ∙ ap (λ l. p ∷ l) (pieces-joined ps)

pub sum-joined : (ps : List (List ℕ)) → sum (map length ps) ≡ length (joined ps)
sum-joined [] = refl
sum-joined (p ∷ ps) = omega (arith, sum_by-cons (λ n. n) (length p) (map length ps), sum-joined ps, length-append p (joined ps))

-- the words of triples in pieces of their lengths are those of each
pub pieces-of-triples : (reading : ℕ) (ts : List Triple) (lens bytes : List ℕ) → lens ≡ map length (map (triple_text reading) ts) → bytes ≡ encoded_words (flat_map (triple_words reading) ts)
    → pieces lens bytes ≡ map (triple_text reading) ts
pieces-of-triples reading ts lens bytes l b =
    ap (λ n. pieces n bytes) l ∙ ap (pieces (map length (map (triple_text reading) ts))) (b ∙ sym (joined-triples reading ts)) ∙ pieces-joined (map (triple_text reading) ts)

pub sum-of-triples : (reading : ℕ) (ts : List Triple) (lens bytes : List ℕ) → lens ≡ map length (map (triple_text reading) ts) → bytes ≡ encoded_words (flat_map (triple_words reading) ts)
    → sum lens ≡ length bytes
sum-of-triples reading ts lens bytes l b =
    ap sum l ∙ sum-joined (map (triple_text reading) ts) ∙ ap length (joined-triples reading ts ∙ sym b)

-- what is put together around the gap is the request
pub filled : (ps : List (List ℕ)) (items room : List ℕ) (start count : ℕ) → (count == 0) ≡ false → count ≡ words_in ps
    → items ≡ replicate 24 0 ++ encoded_word (codes "TS.MADD") ++ joined ps → length room ≡ length items
    → drop start room ≡ line_text 42 (decimal (count + 1)) ++ drop 24 items
    → drop start (take (length items) (room ++ drop (length room) items)) ≡ accepted_text ps
filled ps items room start count some words its same text =
    let front : take (length items) (room ++ drop (length room) items) ≡ room =
    ap (λ n. take n (room ++ drop (length room) items)) (sym same) ∙ take-append_seam room (drop (length room) items) in
    let not_none : (words_in ps == 0) ≡ false = ap (λ n. n == 0) (sym words) ∙ some in
    ap (drop start) front
    ∙ text
    ∙ ap (λ l. line_text 42 (decimal (count + 1)) ++ drop 24 l) its
    ∙ ap (λ n. line_text 42 (decimal (n + 1)) ++ (encoded_word (codes "TS.MADD") ++ joined ps)) words
    ∙ sym (ap (λ b. if b then [] else line_text 42 (decimal (words_in ps + 1)) ++ (encoded_word (codes "TS.MADD") ++ joined ps)) not_none)
