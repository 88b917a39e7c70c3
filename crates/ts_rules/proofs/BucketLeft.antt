-- Recounting a bucket after a deletion: the samples before the deleted interval and those after it.
use Rattle.std.proofs.Common.{◌≡◌, ◌≢◌, ℕ, ◌+◌, ◌*◌, ◌-◌, ◌^◌, ◌<◌, ◌≤◌, ◌⊎◌, inl, inr, not, nat_le, if◌then◌else◌, Bool, true, false, List, [], ◌∷◌, ◌++◌, length, length-append, None, Some, refl, sym, ap, ◌∙◌, subst, arith}
use Rattle.std.specs.Prelude.{filter}
use Rattle.std.proofs.lemmas.Bool.{cases_lt}
use Rattle.ts_spec.specs.Sample.{Point, MAX_TIME, IsAscending, at, between, outside, is_within}
use Rattle.ts_spec.specs.Bucket.{Grid, start, members}
use Rattle.ts_spec.specs.Valid.{Every}
use Rattle.ts_spec.specs.Aggregate.{Summary, nothing, summary}
use Rattle.ts_spec.proofs.Buckets.{start-le, start-order, start-start}
use Rattle.ts_spec.proofs.BucketSpan.{members-between}
use Rattle.ts_spec.proofs.BucketSize.{members-few}
use Rattle.ts_spec.proofs.Samples.{at-time, at-times, ascending-times}
use Rattle.ts_sample.specs.Visit.{visited}
use Rattle.ts_bucket.specs.Grid.{IsGrid, IsLastOf}
use Rattle.ts_agg.specs.Counted.{counted_one}
use Rattle.ts_rules.specs.CountedLeft.{CountingLeft, with_left}
use Rattle.ts_rules.specs.Spans.{from_until}
use Rattle.ts_rules.specs.SharedBucket.{IsShared, counted_between}
use Rattle.ts_rules.proofs.Around.{left-around}
use Rattle.ts_rules.proofs.Counts.{visited-append, room-after}

-- ---- the visitor

-- it counts as the visitor does that finds no least number
pub counting-left : (c : CountingLeft) (ps : List Point) → (visited with_left c ps).counting ≡ visited counted_one c.counting ps
counting-left c [] = refl
counting-left c (p ∷ ps) = counting-left (with_left c p) ps

-- what a rule counts of these, which was made at this number
abbrev counted_by : ℕ → List Point → Summary
counted_by made ps = summary (filter (λ q. nat_le made q.made) ps)

module _ (g : Grid) (from to time first last : ℕ) (ps : List Point) (grid : IsGrid g) (a : IsAscending ps) (times : Every (λ q. q.time ≤ MAX_TIME) ps) (since : from ≤ time) (until : time ≤ to)
    (bounded : to ≤ MAX_TIME) (begins : first ≡ start g time) (of : IsLastOf g time last) where
  -- those before the interval, those past it, and what the deletion leaves in all
  abbrev early : List Point
  early = from_until first from ps

  abbrev late : List Point
  late = from_until (to + 1) (last + 1) ps

  abbrev left : List Point
  left = outside from to ps

  ascends : IsAscending left
  ascends = ascending-times (λ t. not (is_within from to t)) ps a

  low : first ≤ time
  low = let x : start g time ≤ time = start-le g time grid.some in omega (arith, begins, x)

  up : time ≤ last
  up = of.latest time (omega (arith, until, bounded)) refl

  -- ---- what is left in the bucket

  bucket-is : members g (start g time) left ≡ between first last left
  bucket-is =
      members-between g time last left grid.some ascends of.same (λ u q x s. of.latest u (within-all u q x) s)
      ∙ ap (λ (b : ℕ). between b last left) (sym begins)
    where
      within-all : (u : ℕ) (q : Point) → at u left ≡ Some q → u ≤ MAX_TIME
      within-all u q x = subst (λ (t : ℕ). t ≤ MAX_TIME) (at-time u left q x) (times u q (passed (not (is_within from to u)) (sym (at-times u (λ t. not (is_within from to t)) ps) ∙ x)))
        where
          passed : (y : Bool) → (if y then at u ps else None) ≡ Some q → at u ps ≡ Some q
          passed true e = e
          passed false e = absurd (cc e)

  parts-are : members g (start g time) left ≡ early ++ late
  parts-are = bucket-is ∙ left-around first last from to ps a (omega (arith, low, until)) (omega (arith, up, since)) (omega (arith, since, until))

  -- ---- the capacity

  few : length early + length late ≤ 10 ^ 14
  few =
      let most : length (members g (start g time) left) ≤ g.duration = members-few g (start g time) left grid.some ascends in
      let same : length (members g (start g time) left) ≡ length (early ++ late) = ap length parts-are in
      let sum : length (early ++ late) ≡ length early + length late = length-append early late in
      let short : g.duration ≤ 10 ^ 14 = grid.short in
      omega (arith, most, same, sum, short)

  -- ---- the steps

  pub both-scanned : length early + length late ≡ length (members g (start g time) left)
  both-scanned = sym (length-append early late) ∙ sym (ap length parts-are)

  -- Where the interval meets several buckets, it covers an end of this one.
  one-side : start g from ≢ start g to → (from ≤ first) ⊎ (last ≤ to)
  one-side other = go (cases_lt first from) (cases_lt to last)
    where
      go : (first < from) ⊎ (from ≤ first) → (to < last) ⊎ (last ≤ to) → (from ≤ first) ⊎ (last ≤ to)
      go (inr x) y = inl x
      go (inl x) (inr y) = inr y
      go (inl x) (inl y) =
          let one : start g (start g time) ≤ start g from = start-order g (start g time) from (omega (arith, begins, x)) in
          let same : start g (start g time) ≡ start g time = start-start g time grid.some in
          let two : start g from ≤ start g time = start-order g from time since in
          let three : start g time ≤ start g to = start-order g time to until in
          let four : start g to ≤ start g last = start-order g to last (omega (arith, y)) in
          let end : start g last ≡ start g time = of.same in
          absurd (other (omega (arith, one, same, two, three, four, end)))

  -- So one of the two scans is passed over.
  pub one-scan : (reach : ℕ) {old mid new : ℕ} → start g from ≢ start g to → (from ≤ first → mid ≡ old) → mid ≤ old + (length early + 2 * reach) →
      (last + 1 ≤ to + 1 → new ≡ mid) → new ≤ mid + (length late + 2 * reach) → new ≤ old + length (members g (start g time) left) + 2 * reach
  one-scan reach {old} {mid} {new} other none one none-late two = go (one-side other)
    where
      go : (from ≤ first) ⊎ (last ≤ to) → new ≤ old + length (members g (start g time) left) + 2 * reach
      go (inl covers) = omega (arith, both-scanned, none covers, two)
      go (inr covers) = let over : last + 1 ≤ to + 1 = omega (arith, covers) in omega (arith, both-scanned, one, none-late over)

  -- ---- counted

  -- What another rule found in the bucket is what this rule counts in it.
  pub found-left : (made : ℕ) (running : Summary) → running ≡ counted_between made first last left → running ≡ counted_by made (members g (start g time) left)
  found-left made running e = e ∙ ap (counted_by made) (sym bucket-is)

  module _ (made : ℕ) (fresh : CountingLeft) (new : fresh.counting ≡ record { made = made; running = nothing }) where
    pub room-early : length early ≤ 10 ^ 14 - fresh.counting.running.count
    room-early = room-after fresh.counting fresh.counting made [] (length early) new refl (omega (arith, few))

    module _ (u : CountingLeft) (e : u ≡ visited with_left fresh early) where
      pub room-late : length late ≤ 10 ^ 14 - u.counting.running.count
      room-late = room-after fresh.counting u.counting made early (length late) new (ap (λ (c : CountingLeft). c.counting) e ∙ counting-left fresh early) few

      module _ (v : CountingLeft) (f : v ≡ visited with_left u late) where
        is : v ≡ visited with_left fresh (members g (start g time) left)
        is = f ∙ ap (λ (c : CountingLeft). visited with_left c late) e ∙ visited-append with_left fresh early late ∙ ap (visited with_left fresh) (sym parts-are)

        module _ (running : Summary) (h : running ≡ v.counting.running) (told : (qs : List Point) → (visited with_left fresh qs).counting.running ≡ counted_by made qs) where
          pub counts-left : running ≡ counted_by made (members g (start g time) left)
          counts-left = h ∙ ap (λ (c : CountingLeft). c.counting.running) is ∙ told (members g (start g time) left)

          -- Where it counts all of them, each rule that does so may reuse the count.
          pub tells-left : ((qs : List Point) (n : ℕ) → n ≤ (visited with_left fresh qs).least → filter (λ q. nat_le n q.made) qs ≡ qs) →
              (least : ℕ) → least ≡ v.least → made ≤ least → IsShared left (record { first = first; last = last; running = running; least = least })
          tells-left all least x counts_all n less =
              counts-left ∙ ap summary (each made counts_all) ∙ sym (ap summary (each n less)) ∙ ap (counted_by n) bucket-is
            where
              each : (n : ℕ) → n ≤ least → filter (λ q. nat_le n q.made) (members g (start g time) left) ≡ members g (start g time) left
              each n less = all (members g (start g time) left) n (subst (λ (k : ℕ). n ≤ k) (x ∙ ap (λ (c : CountingLeft). c.least) is) less)
