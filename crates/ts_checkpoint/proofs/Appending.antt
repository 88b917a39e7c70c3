-- How words are appended, one after another.
use Rattle.std.proofs.Common.{◌≡◌, [], ◌++◌, sym, ◌∙◌, ap, append_assoc, append-nil}
use Rattle.ts_spec.specs.Wire.{Request}
use Rattle.ts_checkpoint.specs.Records.{Appends}

-- nothing was appended
pub puts-none : (d : Request) → Appends d d []
puts-none d = record { all = sym (append-nil d) }

-- some words were appended, and then others
pub puts-then : {a b c xs ys : Request} → Appends a b xs → Appends b c ys → Appends a c (xs ++ ys)
puts-then {a} {b} {c} {xs} {ys} p q = record { all = q.all ∙ ap (λ (l : Request). l ++ ys) p.all ∙ append_assoc a xs ys }

-- these words are all
pub puts-all : {a b xs : Request} → a ≡ [] → Appends a b xs → b ≡ xs
puts-all {a} {b} {xs} none p = p.all ∙ ap (λ (l : Request). l ++ xs) none
