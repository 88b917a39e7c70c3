-- Recounting a bucket with a written sample.
use Rattle.std.proofs.Common.{◌≡◌, ℕ, ◌-◌, ◌^◌, ◌≤◌, ◌==◌, true, nat_le, List, length, Some, refl, sym, ap, ◌∙◌, subst, arith, eq-eqb}
use Rattle.std.specs.Prelude.{filter}
use Rattle.ts_spec.specs.Sample.{Point, MAX_TIME, IsAscending, between, is_within, put}
use Rattle.ts_spec.specs.Bucket.{Grid, start, members}
use Rattle.ts_spec.specs.Valid.{Every}
use Rattle.ts_spec.specs.Aggregate.{Summary, nothing, summary}
use Rattle.ts_spec.proofs.Buckets.{start-le}
use Rattle.ts_spec.proofs.BucketSpan.{members-between}
use Rattle.ts_spec.proofs.BucketSize.{members-few}
use Rattle.ts_spec.proofs.Samples.{at-time, ascending-times, ascending-put}
use Rattle.ts_sample.specs.Visit.{visited}
use Rattle.ts_bucket.specs.Grid.{IsGrid, IsLastOf}
use Rattle.ts_rules.specs.Rules.{one_of}
use Rattle.ts_rules.specs.CountedWith.{CountingWith, with_next, whole}
use Rattle.ts_rules.specs.SharedBucket.{IsShared, counted_between}
use Rattle.ts_rules.proofs.Times.{within}
use Rattle.ts_rules.proofs.Putting.{room-last, times-put}

-- what a rule counts of these, which was made at this number
abbrev counted_by : ℕ → List Point → Summary
counted_by made ps = summary (filter (λ q. nat_le made q.made) ps)

module _ (g : Grid) (p : Point) (time first last : ℕ) (ps : List Point) (grid : IsGrid g) (a : IsAscending ps) (times : Every (λ q. q.time ≤ MAX_TIME) ps)
    (bounded : time ≤ MAX_TIME) (at_time : time ≡ p.time) (begins : first ≡ start g time) (of : IsLastOf g time last) where
  -- its samples, as they were
  abbrev bucket : List Point
  bucket = members g (start g p.time) ps

  pub bucket-is : between first last ps ≡ bucket
  bucket-is =
      ap (λ (b : ℕ). between b last ps) begins
      ∙ sym (members-between g time last ps grid.some a of.same (λ u q x s. of.latest u (subst (λ (t : ℕ). t ≤ MAX_TIME) (at-time u ps q x) (times u q x)) s))
      ∙ ap (λ (t : ℕ). members g (start g t) ps) at_time

  few : (qs : List Point) → IsAscending qs → length (members g (start g p.time) qs) ≤ 10 ^ 14
  few qs x = let most : length (members g (start g p.time) qs) ≤ g.duration = members-few g (start g p.time) qs grid.some x in let short : g.duration ≤ 10 ^ 14 = grid.short in omega (arith, most, short)

  with-it : put p bucket ≡ members g (start g p.time) (put p ps)
  with-it = sym (times-put (λ t. start g t == start g p.time) p ps (eq-eqb (start g p.time) (start g p.time) refl))

  between-is : between first last (put p ps) ≡ put p bucket
  between-is = times-put (is_within first last) p ps (subst (λ (t : ℕ). is_within first last t ≡ true) at_time (within first last time low up)) ∙ ap (put p) bucket-is
    where
      low : first ≤ time
      low = subst (λ (b : ℕ). b ≤ time) (sym begins) (start-le g time grid.some)

      up : time ≤ last
      up = of.latest time bounded refl

  -- What was told of the bucket is what a rule counts in it.
  pub found-written : (made : ℕ) (running : Summary) → running ≡ counted_between made first last (put p ps) → running ≡ counted_by made (members g (start g p.time) (put p ps))
  found-written made running e = e ∙ ap (counted_by made) (between-is ∙ with-it)

  ascends : IsAscending bucket
  ascends = ascending-times (λ t. start g t == start g p.time) ps a

  module _ (made : ℕ) (fresh : CountingWith) (new : fresh ≡ record { counting = record { made = made; running = nothing }; held = Some p; least = p.made }) where
    pub room-bucket : length (between first last ps) ≤ 10 ^ 14 - fresh.counting.running.count
    room-bucket =
        let none : fresh.counting.running.count ≡ 0 = ap (λ (c : CountingWith). c.counting.running.count) new in
        let same : length (between first last ps) ≡ length bucket = ap length bucket-is in
        omega (arith, none, same, few ps a)

    module _ (v : CountingWith) (e : v ≡ visited with_next fresh (between first last ps)) where
      is : v ≡ visited with_next fresh bucket
      is = e ∙ ap (visited with_next fresh) bucket-is

      pub room-held : length (one_of v.held) ≤ 10 ^ 14 - v.counting.running.count
      room-held =
          let same : length (put p bucket) ≡ length (members g (start g p.time) (put p ps)) = ap length with-it in
          room-last made p fresh new v bucket ascends is (omega (arith, same, few (put p ps) (ascending-put p ps a)))

      module _ (running : Summary) (h : running ≡ whole v) (told : (qs : List Point) → IsAscending qs → whole (visited with_next fresh qs) ≡ counted_by made (put p qs)) where
        pub counts-written : running ≡ counted_by made (members g (start g p.time) (put p ps))
        counts-written = h ∙ ap whole is ∙ told bucket ascends ∙ ap (counted_by made) with-it

        -- Where it counts all of them, this is told to each rule that does so.
        pub tells-written : ((qs : List Point) (n : ℕ) → n ≤ (visited with_next fresh qs).least → filter (λ q. nat_le n q.made) (put p qs) ≡ put p qs) →
            (least : ℕ) → least ≡ v.least → made ≤ least → IsShared (put p ps) (record { first = first; last = last; running = running; least = least })
        tells-written all least x counts_all n less =
            h ∙ ap whole is ∙ told bucket ascends ∙ ap summary (each made counts_all) ∙ sym (ap summary (each n less)) ∙ ap (counted_by n) (sym between-is)
          where
            each : (n : ℕ) → n ≤ least → filter (λ q. nat_le n q.made) (put p bucket) ≡ put p bucket
            each n less = all bucket n (subst (λ (k : ℕ). n ≤ k) (x ∙ ap (λ (u : CountingWith). u.least) is) less)
