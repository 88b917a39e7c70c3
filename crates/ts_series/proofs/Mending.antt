-- Rows that replace the samples of an interval.
use Rattle.std.proofs.Common.{◌≡◌, ℕ, ◌+◌, ◌<◌, ◌≤◌, Bool, false, List, [], ◌∷◌, length, sym, ◌∙◌, ap, subst, arith}
use Rattle.std.specs.Prelude.{max, not, if◌then◌else◌, Option, None, Some}
use Rattle.std.specs.Option.{option_or}
use Rattle.std.proofs.lemmas.Bool.Decides.{nat_tests}
use Rattle.ts_spec.specs.Sample.{Point, IsAscending, IsAfter, is_within, at, at_times, outside, put_all, last_of}
use Rattle.ts_spec.specs.Rules.{raised}
use Rattle.ts_spec.specs.StoredUpdates.{high_after_rows}
use Rattle.ts_spec.proofs.Samples.{at-put_all, at-after, at-times}
use Rattle.ts_series.specs.Plan.{AreWithin}
use Rattle.ts_series.proofs.Counting.{length-put, length-cons_if}

-- ---- how many there are

none-within : (from to : ℕ) (p : Point) (rows ps : List Point) → from ≤ p.time → p.time ≤ to → IsAfter p.time rows → at p.time (put_all rows (outside from to ps)) ≡ None
none-within from to p rows ps above below after =
    at-put_all p.time rows (outside from to ps)
    ∙ ap (λ (o : Option Point). option_or o (at p.time (outside from to ps))) (at-after p.time p.time rows after (omega arith))
    ∙ at-times p.time (λ t. not (is_within from to t)) ps
    ∙ ap (λ b. if b then at p.time ps else None) (let no : not (is_within from to p.time) ≡ false = grind (arith, nat_tests) in no)

-- rows that take the place of an interval are counted with what is outside of it
pub count-updated_list : (test : ℕ → Bool) (from to : ℕ) (rows ps : List Point) → IsAscending rows → AreWithin from to rows
    → length (at_times test (put_all rows (outside from to ps))) ≡ length (at_times test rows) + length (at_times test (outside from to ps))
count-updated_list test from to [] ps rises within = omega arith
count-updated_list test from to (p ∷ rows) ps rises within =
    let above : from ≤ p.time = within.0 in
    let below : p.time ≤ to = within.1.0 in
    let none : at p.time (put_all rows (outside from to ps)) ≡ None = none-within from to p rows ps above below rises.0 in
    omega (arith, length-put test p (put_all rows (outside from to ps)) none, count-updated_list test from to rows ps rises.1 within.1.1, length-cons_if (test p.time) p (at_times test rows))

-- the highest time is raised by the last of ascending rows
pub high-last : (rows : List Point) (last : Point) (high : Option ℕ) → IsAscending rows → last_of rows ≡ Some last → raised last.time high ≡ high_after_rows rows high
high-last [] last high rises is = absurd (cc is)
high-last (p ∷ []) last high rises is = let same : p ≡ last = cc is in ap (λ (q : Point). raised q.time high) (sym same)
high-last (p ∷ q ∷ rows) last high rises is =
    raised-twice p.time last.time high (up p.time (q ∷ rows) last rises.0 is) ∙ high-last (q ∷ rows) last (raised p.time high) rises.1 is
  where
    up : (t : ℕ) (ps : List Point) (last : Point) → IsAfter t ps → last_of ps ≡ Some last → t < last.time
    up t [] last h is = absurd (cc is)
    up t (p ∷ []) last h is = let same : p ≡ last = cc is in subst (λ (q : Point). t < q.time) same h.0
    up t (p ∷ q ∷ ps) last h is = up t (q ∷ ps) last h.1 is

    raised-twice : (t u : ℕ) (high : Option ℕ) → t < u → raised u high ≡ raised u (raised t high)
    raised-twice t u None less = ap (λ n. Some n) (let same : u ≡ max t u = omega arith in same)
    raised-twice t u (Some h) less = ap (λ n. Some n) (let same : max h u ≡ max (max h t) u = omega arith in same)
