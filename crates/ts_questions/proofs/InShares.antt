-- Scanning an interval in batches.
use Rattle.std.proofs.Common.{◌≡◌, ℕ, ◌+◌, ◌-◌, ◌^◌, ◌≤◌, Bool, true, false, not, ◌&&◌, ◌||◌, cond, List, [], ◌∷◌, ◌++◌, length, sym, ◌∙◌, ap, subst, append-nil, append_assoc, arith}
use Rattle.std.specs.Prelude.{nat_le, filter}
use Rattle.std.proofs.lemmas.Bool.Decides.{nat_tests}
use Rattle.std.proofs.lemmas.List.{length-append}
use Rattle.std.proofs.lemmas.List.Elements.{filter-append}
use Rattle.ts_spec.specs.Answer.{Row}
use Rattle.ts_spec.specs.Sample.{Point, IsAfter, IsAscending, at_times, is_within, between}
use Rattle.ts_spec.proofs.Samples.{ascending-filter}
use Rattle.ts_sample.specs.Visit.{visited}
use Rattle.ts_sample.proofs.Between.{filter-filter}
use Rattle.ts_sample.proofs.Lists.{ascending-left}
use Rattle.ts_sample.proofs.Parted.{filter_alike}
use Rattle.ts_range.specs.RowScanState.{RowScanState, lets, with_seen, rows_passing, rows_of_scan}
use Rattle.ts_range.proofs.Filtered.{length-filter}
use Rattle.ts_range.proofs.Shown.{seen-visited}
use Rattle.ts_questions.proofs.Reaching.{parts}

-- of what was seen and the rest, which ascend and are few, the same is let through as of the whole
pub record IsSoFar (lets : Point → Bool) (seen rest whole : List Point) : Type 0 where
  pub rises : IsAscending (seen ++ rest)
  pub few : length (seen ++ rest) ≤ 2 ^ 32
  pub same : filter lets (seen ++ rest) ≡ filter lets whole

pub at-start : (lets : Point → Bool) (seen rest : List Point) → seen ≡ [] → IsAscending rest → length rest ≤ 2 ^ 32 → IsSoFar lets seen rest rest
at-start lets seen rest none rises few =
    let all : seen ++ rest ≡ rest = ap (λ (ps : List Point). ps ++ rest) none in
    record { rises = subst IsAscending (sym all) rises; few = subst (λ (ps : List Point). length ps ≤ 2 ^ 32) (sym all) few; same = ap (filter lets) all }

-- ---- some of the rest is left out

after-kept : (t : ℕ) (test : Point → Bool) (seen rest : List Point) → IsAfter t (seen ++ rest) → IsAfter t (seen ++ filter test rest)
after-kept t test [] [] h = tt
after-kept t test [] (p ∷ ps) h = go (test p) (after-kept t test [] ps h.1)
  where
    go : (b : Bool) → IsAfter t (filter test ps) → IsAfter t (cond b (p ∷ filter test ps) (filter test ps))
    go true others = (h.0, others)
    go false others = others
after-kept t test (q ∷ qs) rest h = (h.0, after-kept t test qs rest h.1)

rises-kept : (test : Point → Bool) (seen rest : List Point) → IsAscending (seen ++ rest) → IsAscending (seen ++ filter test rest)
rises-kept test [] rest h = ascending-filter test rest h
rises-kept test (q ∷ qs) rest h = (after-kept q.time test qs rest h.0, rises-kept test qs rest h.1)

fewer-left : (lets test : Point → Bool) (seen rest whole : List Point) → filter lets (filter test rest) ≡ filter lets rest → IsSoFar lets seen rest whole → IsSoFar lets seen (filter test rest) whole
fewer-left lets test seen rest whole same is = record {
  rises = rises-kept test seen rest is.rises;
  few = omega (arith, is.few, length-append seen rest, length-append seen (filter test rest), length-filter test rest);
  same = filter-append lets seen (filter test rest) ∙ ap (λ (ps : List Point). filter lets seen ++ ps) same ∙ sym (filter-append lets seen rest) ∙ is.same;
}

inside : (from to first last t : ℕ) → from ≤ first → last ≤ to → (is_within from to t && is_within first last t) ≡ is_within first last t
inside from to first last t low high = grind (arith, nat_tests)

inner : (from to first last : ℕ) (l : List Point) → from ≤ first → last ≤ to → at_times (is_within first last) (between from to l) ≡ between first last l
inner from to first last l low high =
    filter-filter (λ (p : Point). is_within first last p.time) (λ (p : Point). is_within from to p.time) l
    ∙ filter_alike (λ (p : Point). is_within from to p.time && is_within first last p.time) (λ (p : Point). is_within first last p.time) (λ p. inside from to first last p.time low high) l

past : (from to t u : ℕ) → from ≤ t → (is_within from to u && not (nat_le u t)) ≡ is_within (t + 1) to u
past from to t u le = grind (arith, nat_tests)

-- the samples of an interval are those up to a time in it, and then those past it
split : (from to t : ℕ) (l : List Point) → IsAscending l → from ≤ t → t ≤ to → between from to l ≡ between from t l ++ between (t + 1) to l
split from to t l rises le upto =
    parts from to t l rises upto
    ∙ ap (λ (ps : List Point). between from t l ++ ps)
    (filter-filter (λ (p : Point). not (nat_le p.time t)) (λ (p : Point). is_within from to p.time) l
    ∙ filter_alike (λ (p : Point). is_within from to p.time && not (nat_le p.time t)) (λ (p : Point). is_within (t + 1) to p.time) (λ p. past from to t p.time le) l)

-- of a share a part is kept, and so is what comes after it
abbrev is_kept : (a z end t : ℕ) → Bool
is_kept a z end t = is_within a z t || not (nat_le t end)

is_kept-before : (a z end first t : ℕ) → first ≤ a → z ≤ end → (is_within first end t && is_kept a z end t) ≡ is_within a z t
is_kept-before a z end first t low high = grind (arith, nat_tests)

is_kept-after : (a z end last t : ℕ) → (is_within (end + 1) last t && is_kept a z end t) ≡ is_within (end + 1) last t
is_kept-after a z end last t = grind (arith, nat_tests)

kept-before : (a z end first : ℕ) (l : List Point) → first ≤ a → z ≤ end → filter (λ p. is_kept a z end p.time) (between first end l) ≡ between a z l
kept-before a z end first l low high =
    filter-filter (λ (p : Point). is_kept a z end p.time) (λ (p : Point). is_within first end p.time) l
    ∙ filter_alike (λ (p : Point). is_within first end p.time && is_kept a z end p.time) (λ (p : Point). is_within a z p.time) (λ p. is_kept-before a z end first p.time low high) l

kept-after : (a z end last : ℕ) (l : List Point) → filter (λ p. is_kept a z end p.time) (between (end + 1) last l) ≡ between (end + 1) last l
kept-after a z end last l =
    filter-filter (λ (p : Point). is_kept a z end p.time) (λ (p : Point). is_within (end + 1) last p.time) l
    ∙ filter_alike (λ (p : Point). is_within (end + 1) last p.time && is_kept a z end p.time) (λ (p : Point). is_within (end + 1) last p.time) (λ p. is_kept-after a z end last p.time) l

module _ (lets : Point → Bool) (seen l whole : List Point) where
  -- a part of the interval that is left is enough, where all that is let through is in it
  pub in-part : (from to first last : ℕ) → from ≤ first → last ≤ to → filter lets (between first last l) ≡ filter lets (between from to l)
      → IsSoFar lets seen (between from to l) whole → IsSoFar lets seen (between first last l) whole
  in-part from to first last low high same is =
      let part = inner from to first last l low high in
      subst (λ (ps : List Point). IsSoFar lets seen ps whole) part
      (fewer-left lets (λ (p : Point). is_within first last p.time) seen (between from to l) whole (ap (filter lets) part ∙ same) is)

  -- one share more was seen, of which a part has all that is let through
  pub scan_batch-more : (first last a z end : ℕ) → IsAscending l → first ≤ a → z ≤ end → first ≤ end → end ≤ last → filter lets (between a z l) ≡ filter lets (between first end l)
      → IsSoFar lets seen (between first last l) whole → IsSoFar lets (seen ++ between a z l) (between (end + 1) last l) whole
  scan_batch-more first last a z end rises low high le upto same is =
      let rest = between first last l in
      let scan_batch = between first end l in
      let part = between a z l in
      let after = between (end + 1) last l in
      let test : Point → Bool = λ p. is_kept a z end p.time in
      let both : rest ≡ scan_batch ++ after = split first last end l rises le upto in
      let left : filter test rest ≡ part ++ after =
      ap (filter test) both ∙ filter-append test scan_batch after
      ∙ ap (λ (ps : List Point). ps ++ filter test after) (kept-before a z end first l low high)
      ∙ ap (λ (ps : List Point). part ++ ps) (kept-after a z end last l) in
      let lets_pass : filter lets (filter test rest) ≡ filter lets rest =
      ap (filter lets) left ∙ filter-append lets part after ∙ ap (λ (ps : List Point). ps ++ filter lets after) same
      ∙ sym (filter-append lets scan_batch after) ∙ ap (filter lets) (sym both) in
      let fewer : IsSoFar lets seen (part ++ after) whole = subst (λ (ps : List Point). IsSoFar lets seen ps whole) left (fewer-left lets test seen rest whole lets_pass is) in
      let all : seen ++ (part ++ after) ≡ (seen ++ part) ++ after = sym (append_assoc seen part after) in
      record { rises = subst IsAscending all fewer.rises; few = subst (λ (ps : List Point). length ps ≤ 2 ^ 32) all fewer.few; same = ap (filter lets) (sym all) ∙ fewer.same }

  -- the last share was seen
  pub scan_batch-last : (first last a z : ℕ) → first ≤ a → z ≤ last → filter lets (between a z l) ≡ filter lets (between first last l) → IsSoFar lets seen (between first last l) whole
      → IsSoFar lets (seen ++ between a z l) [] whole
  scan_batch-last first last a z low high same is =
      let part = in-part first last a z low high same is in
      let all : seen ++ between a z l ≡ (seen ++ between a z l) ++ [] = sym (append-nil (seen ++ between a z l)) in
      record { rises = subst IsAscending all part.rises; few = subst (λ (ps : List Point). length ps ≤ 2 ^ 32) all part.few; same = ap (filter lets) (sym all) ∙ part.same }

-- nothing of the rest is let through
pub none-left : (lets : Point → Bool) (seen rest whole : List Point) → filter lets rest ≡ [] → IsSoFar lets seen rest whole → IsSoFar lets seen [] whole
none-left lets seen rest whole none is = record {
  rises = subst IsAscending (sym (append-nil seen)) (ascending-left seen rest is.rises);
  few = omega (arith, is.few, length-append seen rest, ap length (append-nil seen));
  same = filter-append lets seen [] ∙ ap (λ (ps : List Point). filter lets seen ++ ps) (sym none) ∙ sym (filter-append lets seen rest) ∙ is.same;
}

-- there is room for as many as a key shows
pub room-left : (lets : Point → Bool) (seen rest whole : List Point) → IsSoFar lets seen rest whole → 2 ^ 32 ≤ 10 ^ 14 - length seen
room-left lets seen rest whole is = omega (arith, is.few, length-append seen rest)

-- ---- what was handed on

-- a walk that has seen some samples sees more
pub seen-more : (walk old new : RowScanState) (ps : List Point) → old ≡ record walk { seen = old.seen } → new ≡ visited with_seen old ps → new ≡ record walk { seen = old.seen ++ ps }
seen-more walk old new ps same is = is ∙ seen-visited old ps ∙ ap (λ (w : RowScanState). record w { seen = old.seen ++ ps }) same

-- a walk that differs from another in what it has seen alone
pub seen-alone : (walk new : RowScanState) (seen : List Point) → new ≡ record walk { seen = seen } → new ≡ record walk { seen = new.seen }
seen-alone walk new seen is = is ∙ ap (λ (ps : List Point). record walk { seen = ps }) (sym (ap (λ (w : RowScanState). w.seen) is))

-- one share more of the part that is wanted
module _ (walk old : RowScanState) (l whole : List Point) (from to first last a z end : ℕ) (same : old ≡ record walk { seen = old.seen })
    (so_far : IsSoFar (lets walk) old.seen (between from to l) whole)
    (all : filter (lets old) (between first last l) ≡ filter (lets old) (between from to l)) (low : from ≤ first) (high : last ≤ to)
    (scan_batch : filter (lets old) (between a z l) ≡ filter (lets old) (between first end l)) (begins : first ≤ a) (ends : z ≤ end) where
  rest-wanted : IsSoFar (lets walk) old.seen (between first last l) whole
  rest-wanted =
      in-part (lets walk) old.seen l whole from to first last low high
      (subst (λ (w : RowScanState). filter (lets w) (between first last l) ≡ filter (lets w) (between from to l)) same all) so_far

  scan_batch-wanted : filter (lets walk) (between a z l) ≡ filter (lets walk) (between first end l)
  scan_batch-wanted = subst (λ (w : RowScanState). filter (lets w) (between a z l) ≡ filter (lets w) (between first end l)) same scan_batch

  pub with-scan_batch : IsAscending l → first ≤ end → end ≤ last → IsSoFar (lets walk) (old.seen ++ between a z l) (between (end + 1) last l) whole
  with-scan_batch rises le upto = scan_batch-more (lets walk) old.seen l whole first last a z end rises begins ends le upto scan_batch-wanted rest-wanted

  pub with-last : end ≡ last → IsSoFar (lets walk) (old.seen ++ between a z l) [] whole
  with-last at_end =
      scan_batch-last (lets walk) old.seen l whole first last a z begins (omega (arith, at_end, ends))
      (subst (λ (t : ℕ). filter (lets walk) (between a z l) ≡ filter (lets walk) (between first t l)) at_end scan_batch-wanted) rest-wanted

module _ (has : List Row → Type 0) (walk end : RowScanState) (seen whole asked : List Point) (is : end ≡ record walk { seen = seen }) where
  seen-is : end.seen ≡ seen
  seen-is = ap (λ (w : RowScanState). w.seen) is

  -- the rows of the whole were handed on by a walk that has seen all of it
  pub rows-of-all : (IsAscending end.seen → has (rows_of_scan end asked)) → IsSoFar (lets walk) seen [] whole → has (rows_passing walk.buckets asked (filter (lets walk) whole))
  rows-of-all told so_far =
      let all : seen ++ [] ≡ seen = append-nil seen in
      let rises : IsAscending end.seen = subst IsAscending (sym seen-is) (subst IsAscending all so_far.rises) in
      subst (λ (ps : List Point). has (rows_passing walk.buckets asked ps)) (ap (filter (lets walk)) (sym all) ∙ so_far.same)
      (subst (λ (w : RowScanState). has (rows_of_scan w asked)) is (told rises))

  -- and by one to which the rest is nothing
  pub rows-of-enough : (rest : List Point) → ((more : List Point) → IsAscending (end.seen ++ more) → has (rows_of_scan (record end { seen = end.seen ++ more }) asked))
      → IsSoFar (lets walk) seen rest whole → has (rows_passing walk.buckets asked (filter (lets walk) whole))
  rows-of-enough rest told so_far =
      subst (λ (ps : List Point). has (rows_passing walk.buckets asked ps)) so_far.same
      (subst (λ (w : RowScanState). has (rows_of_scan (record w { seen = w.seen ++ rest }) asked)) is
      (told rest (subst (λ (ps : List Point). IsAscending (ps ++ rest)) (sym seen-is) so_far.rises)))
