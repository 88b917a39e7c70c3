-- Replacing an interval's samples with rows, in chunks.
use Rattle.std.proofs.Common.{◌≡◌, ℕ, ◌+◌, ◌-◌, ◌<◌, ◌≤◌, Bool, true, false, not, ◌&&◌, cond, List, [], ◌∷◌, ◌++◌, length, get_or, take, drop, refl, sym, ◌∙◌, ap, subst, arith, append_assoc, append-nil}
use Rattle.std.specs.Prelude.{nat_lt, nat_le, min, slice_range}
use Rattle.std.proofs.Math.Seq.{drop-length}
use Rattle.std.proofs.lemmas.List.{drop-drop}
use Rattle.std.proofs.lemmas.Bool.Decides.{nat_tests}
use Rattle.ts_spec.specs.Sample.{Point, IsAfter, IsAscending, is_within, at_times, outside, put, put_all, last_of}
use Rattle.ts_spec.proofs.Samples.{IsBefore, ascending-times, ascending-put_all}
use Rattle.ts_sample.specs.Chunk.{IsPast, joined}
use Rattle.ts_sample.proofs.Between.{filter-filter}
use Rattle.ts_sample.proofs.Lists.{past-before, ascending-left, ascending-right}
use Rattle.ts_series.specs.Stored.{IsOverlapping, replaced}
use Rattle.ts_series.specs.Plan.{AreWithin}
use Rattle.ts_series.proofs.Joined.{joined-parts}
use Rattle.ts_series.proofs.EarlyLate.{after-less, none-right}
use Rattle.ts_series.proofs.PieceCounts.{joined-replaced, three-parts}
use Rattle.ts_series.proofs.PutBetween.{put-inside, put-past, none-from, none-upto}
use Rattle.ts_series.proofs.TakenOut.{joined-without}

-- ---- samples before a time, and past one

each-after : (t : ℕ) (test : ℕ → Bool) → ((u : ℕ) → test u ≡ true → t < u) → (ps : List Point) → IsAfter t (at_times test ps)
each-after t test h [] = tt
each-after t test h (p ∷ ps) = go (test p.time) refl (each-after t test h ps)
  where
    go : (b : Bool) → test p.time ≡ b → IsAfter t (at_times test ps) → IsAfter t (cond b (p ∷ at_times test ps) (at_times test ps))
    go true e ih = (h p.time e, ih)
    go false e ih = ih

each-before : (t : ℕ) (test : ℕ → Bool) → ((u : ℕ) → test u ≡ true → u < t) → (ps : List Point) → IsBefore t (at_times test ps)
each-before t test h [] = tt
each-before t test h (p ∷ ps) = go (test p.time) refl (each-before t test h ps)
  where
    go : (b : Bool) → test p.time ≡ b → IsBefore t (at_times test ps) → IsBefore t (cond b (p ∷ at_times test ps) (at_times test ps))
    go true e ih = (h p.time e, ih)
    go false e ih = ih

pub earlier-before : (t : ℕ) (ps : List Point) → IsBefore t (at_times (λ u. nat_lt u t) ps)
earlier-before t ps = each-before t (λ u. nat_lt u t) (λ u e. grind (arith, nat_tests)) ps

-- of the samples that are not in an interval, those from its first time on are past it
pub left-past : (from to : ℕ) (ps : List Point) → IsAfter to (at_times (nat_le from) (outside from to ps))
left-past from to ps =
    subst (IsAfter to) (sym (filter-filter (λ (p : Point). nat_le from p.time) (λ (p : Point). not (is_within from to p.time)) ps))
    (each-after to (λ t. not (is_within from to t) && nat_le from t) (λ u e. grind (arith, nat_tests)) ps)

-- ---- rows among samples

before-less : (t u : ℕ) (ps : List Point) → IsBefore t ps → t ≤ u → IsBefore u ps
before-less t u [] h le = tt
before-less t u (p ∷ ps) h le = (let first : p.time < t = h.0 in omega arith, before-less t u ps h.1 le)

-- rows of an interval stand between what is before it and what is after it
rows-inside : (from to : ℕ) (rows ps qs rs : List Point) → AreWithin from to rows → IsBefore from ps → IsAfter to rs → put_all rows (ps ++ (qs ++ rs)) ≡ ps ++ (put_all rows qs ++ rs)
rows-inside from to [] ps qs rs within before after = refl
rows-inside from to (p ∷ rows) ps qs rs within before after =
    ap (put p) (rows-inside from to rows ps qs rs within.1.1 before after)
    ∙ put-inside p ps (put_all rows qs) rs (before-less from p.time ps before within.0) (after-less p.time to rs after within.1.0)

put-alone : (rows : List Point) → IsAscending rows → put_all rows [] ≡ rows
put-alone [] h = refl
put-alone (p ∷ rows) h = ap (put p) (put-alone rows h.1) ∙ put-inside p [] [] rows tt h.0

pub rows-among : (from to place : ℕ) (rows samples new : List Point) → take place samples ≡ at_times (λ t. nat_lt t from) samples → drop place samples ≡ at_times (nat_le from) samples
    → IsAfter to (at_times (nat_le from) samples) → AreWithin from to rows → IsAscending rows → samples ≡ take place samples ++ drop place samples
    → new ≡ (take place samples ++ rows) ++ drop place samples → new ≡ put_all rows samples
rows-among from to place rows samples new early late past within rises all is =
    let front : List Point = take place samples in
    let rest : List Point = drop place samples in
    is ∙ append_assoc front rows rest
    ∙ ap (λ (l : List Point). front ++ (l ++ rest)) (sym (put-alone rows rises))
    ∙ sym (rows-inside from to rows front [] rest within (subst (IsBefore from) (sym early) (earlier-before from samples)) (subst (IsAfter to) (sym late) past))
    ∙ ap (put_all rows) (sym all)

-- ---- among chunks

behind : (end next : ℕ) (pss : List (List Point)) → end ≤ next → joined (drop end pss) ≡ joined (slice_range pss end next) ++ joined (drop next pss)
behind end next pss le =
    joined-parts (next - end) (drop end pss)
    ∙ ap (λ (l : List (List Point)). joined (take (next - end) (drop end pss)) ++ joined l)
    (drop-drop (next - end) end pss ∙ ap (λ n. drop n pss) (let all : end + (next - end) ≡ next = omega arith in all))

-- where no chunk meets an interval, the next one may be taken in
pub overlapping-wider : (from to start end : ℕ) (pss : List (List Point)) → IsOverlapping from to pss start end → start ≡ end → (next : ℕ) → next ≡ min (end + 1) (length pss) → IsOverlapping from to pss start next
overlapping-wider from to start end pss meets none next is =
    let within : end ≤ length pss = meets.within in
    let le : end ≤ next = omega arith in
    let few : next ≤ start + 1 = omega arith in
    record {
      ordered = omega arith;
      within = omega arith;
      before = meets.before;
      past = none-right (λ t. nat_le t to) (joined (slice_range pss end next)) (joined (drop next pss)) (subst (λ (l : List Point). at_times (λ t. nat_le t to) l ≡ []) (behind end next pss le) meets.past);
      inner = λ k low high. absurd (omega (arith, few, low, high));
    }

module _ (from to start end : ℕ) (pss : List (List Point)) (meets : IsOverlapping from to pss start end) where
  -- the samples that are left of the chunks which the interval meets
  abbrev pub left : List Point
  left = outside from to (joined (slice_range pss start end))

  pub left-rises : IsAscending (joined pss) → IsAscending left
  left-rises h =
      ascending-times (λ t. not (is_within from to t)) (joined (slice_range pss start end))
      (ascending-left (joined (slice_range pss start end)) (joined (drop end pss))
      (ascending-right (joined (take start pss)) (joined (slice_range pss start end) ++ joined (drop end pss)) (subst IsAscending (three-parts start end pss meets.ordered) h)))

  module _ (rows samples : List Point) (within : AreWithin from to rows) (is : samples ≡ put_all rows left) where
    -- with the rows, in the place of these chunks
    pub rows-placed : joined (replaced start end (samples ∷ []) pss) ≡ put_all rows (outside from to (joined pss))
    rows-placed =
        let front : List Point = joined (take start pss) in
        let rest : List Point = joined (drop end pss) in
        joined-replaced start end (samples ∷ []) pss
        ∙ ap (λ (l : List Point). front ++ (l ++ rest)) (append-nil samples ∙ is)
        ∙ sym (rows-inside from to rows front left rest within (none-from from front meets.before) (none-upto to rest meets.past))
        ∙ ap (put_all rows)
        (ap (λ (l : List Point). front ++ (l ++ rest)) (sym (append-nil left))
        ∙ sym (joined-replaced start end (left ∷ []) pss)
        ∙ joined-without from to start end pss meets (left ∷ []) (append-nil left))

    pub placed-rises : IsAscending (joined pss) → IsAscending (joined (replaced start end (samples ∷ []) pss))
    placed-rises h =
        subst IsAscending (sym rows-placed)
        (ascending-put_all rows (outside from to (joined pss)) (ascending-times (λ t. not (is_within from to t)) (joined pss) h))

-- ---- samples in the place of chunks

-- the chunks are made of the samples
pub same-samples : (start end : ℕ) (pss new : List (List Point)) (samples : List Point) → joined new ≡ samples → joined (replaced start end new pss) ≡ joined (replaced start end (samples ∷ []) pss)
same-samples start end pss new samples is =
    joined-replaced start end new pss
    ∙ ap (λ (l : List Point). joined (take start pss) ++ (l ++ joined (drop end pss))) (is ∙ sym (append-nil samples))
    ∙ sym (joined-replaced start end (samples ∷ []) pss)

pub samples-rise : (start end : ℕ) (pss : List (List Point)) (samples : List Point) → IsAscending (joined (replaced start end (samples ∷ []) pss)) → IsAscending samples
samples-rise start end pss samples rises =
    let front : List Point = joined (take start pss) in
    let rest : List Point = joined (drop end pss) in
    subst IsAscending (append-nil samples)
    (ascending-left (samples ++ []) rest (ascending-right front ((samples ++ []) ++ rest) (subst IsAscending (joined-replaced start end (samples ∷ []) pss) rises)))

pub alone-is : {X : Type 0} (xs : List X) (x : X) → 1 ≤ length xs → length xs < 2 → x ≡ get_or xs 0 x → xs ≡ x ∷ []
alone-is [] x some few is = absurd (omega arith)
alone-is {X} (y ∷ []) x some few is = ap (λ (z : X). z ∷ []) (sym is)
alone-is (y ∷ z ∷ xs) x some few is = absurd (omega arith)

-- one sample after all that are left
module _ (start end : ℕ) (pss : List (List Point)) (samples : List Point) (p : Point) (at_end : end ≡ length pss) (one : samples ≡ p ∷ [])
    (rises : IsAscending (joined (replaced start end (samples ∷ []) pss))) where
  one-last : joined (replaced start end (samples ∷ []) pss) ≡ joined (take start pss) ++ p ∷ []
  one-last =
      joined-replaced start end (samples ∷ []) pss
      ∙ ap (λ (l : List Point). joined (take start pss) ++ ((l ++ []) ++ joined (drop end pss))) one
      ∙ ap (λ (l : List (List Point)). joined (take start pss) ++ (p ∷ joined l)) (ap (λ n. drop n pss) at_end ∙ drop-length pss)

  pub one-past : IsPast (last_of (joined (take start pss))) p.time
  one-past = past-before (joined (take start pss)) p [] (subst IsAscending one-last rises)

  pub one-put : put p (joined (take start pss)) ≡ joined (replaced start end (samples ∷ []) pss)
  one-put = put-past p (joined (take start pss)) (ascending-left (joined (take start pss)) (p ∷ []) (subst IsAscending one-last rises)) one-past ∙ sym one-last
