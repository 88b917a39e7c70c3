-- A series stays in order.
use Rattle.std.proofs.Common.{◌≡◌, ℕ, ◌+◌, ◌≤◌, Bool, true, false, cond, ◌==◌, length, List, [], ◌∷◌, refl, sym, ◌∙◌, ap, subst, arith}
use Rattle.std.specs.Prelude.{nat_le, Option, None, Some}
use Rattle.std.specs.Option.{option_or}
use Rattle.ts_spec.specs.declared.series.Options.{Options}
use Rattle.std.specs.Option.{unwrap_or}
use Rattle.ts_spec.specs.Sample.{Point, IsAscending, at, at_times, put_all}
use Rattle.ts_spec.specs.State.{edge_of}
use Rattle.ts_spec.specs.Rules.{raised}
use Rattle.ts_spec.specs.StoredUpdates.{high_after_rows}
use Rattle.ts_spec.specs.Valid.{IsUpTo, IsOwn}
use Rattle.ts_spec.proofs.Samples.{at-put_all, ascending-put_all, ascending-times}
use Rattle.ts_spec.proofs.Sound.{IsPart, part-times}
use Rattle.ts_spec.proofs.Settles.{times-within, upto-raised, upto-here}
use Rattle.ts_sample.specs.Chunk.{AreMade}
use Rattle.ts_series.specs.Stored.{Stored, points, AreStoredChunks, IsTrimmed}
use Rattle.ts_series.specs.History.{History, history_of, list_of, low, record_of, IsKeptIn}
use Rattle.ts_series.specs.Plan.{Plan, after, without_cut}
use Rattle.ts_series.proofs.Cutting.{part-cut}

-- one more rule was made on it
pub kept-born : {format : List Point → List ℕ} (h : History) → IsKeptIn format h → IsKeptIn format (record h { born = h.born + 1 })
kept-born h k = record {
  ascending = k.ascending;
  past_edge = k.past_edge;
  own = λ t p is. (let own : IsOwn (record_of [] h) p = k.own t p is in let made : p.made ≤ h.born = own.made in record { time = own.time; made = omega arith });
  chunks = k.chunks;
  trimmed = k.trimmed;
}

upto-high : (rows : List Point) (high : Option ℕ) (t : ℕ) → IsUpTo high t → IsUpTo (high_after_rows rows high) t
upto-high [] high t h = h
upto-high (p ∷ rows) high t h = upto-high rows (raised p.time high) t (upto-raised p.time t high h)

-- a written sample is no later than the highest time, and its own
row-own : (born : ℕ) (rows : List Point) (high : Option ℕ) → AreMade born rows → (t : ℕ) (p : Point) → at t rows ≡ Some p → IsUpTo (high_after_rows rows high) p.time × (p.made ≤ born)
row-own born [] high made t p is = absurd (cc is)
row-own born (q ∷ rows) high made t p is = go (q.time == t) is (row-own born rows (raised q.time high) made.1 t p)
  where
    go : (b : Bool) → cond b (Some q) (at t rows) ≡ Some p → (at t rows ≡ Some p → IsUpTo (high_after_rows rows (raised q.time high)) p.time × (p.made ≤ born))
        → IsUpTo (high_after_rows rows (raised q.time high)) p.time × (p.made ≤ born)
    go true here later =
        let same : q ≡ p = cc in
        subst (λ (r : Point). IsUpTo (high_after_rows rows (raised q.time high)) r.time × (r.made ≤ born)) same (upto-high rows (raised q.time high) q.time (upto-here q.time high), made.0)
    go false there later = later there

-- a sample of the list with what is written is a written one or an earlier one
own-written : (born : ℕ) (high : Option ℕ) (rows ps : List Point) → AreMade born rows
    → ((t : ℕ) (p : Point) → at t ps ≡ Some p → IsUpTo high p.time × (p.made ≤ born))
    → (t : ℕ) (p : Point) → at t (put_all rows ps) ≡ Some p → IsUpTo (high_after_rows rows high) p.time × (p.made ≤ born)
own-written born high rows ps made own t p is = go (at t rows) refl (sym (at-put_all t rows ps) ∙ is)
  where
    go : (o : Option Point) → at t rows ≡ o → option_or o (at t ps) ≡ Some p → IsUpTo (high_after_rows rows high) p.time × (p.made ≤ born)
    go (Some q) there is = row-own born rows high made t p (there ∙ is)
    go None there is = (upto-high rows high p.time (own t p is).0, (own t p is).1)

-- a series after a plan is in order
pub kept-after : {format : List Point → List ℕ} (plan : Plan) (h : History) (held : Stored) → IsKeptIn format h → AreMade h.born plan.wrote → AreStoredChunks format held.pieces held.limits (length (points held)) → IsTrimmed (low (after plan h)) held.pieces
    → IsKeptIn format (record (after plan h) { held = held })
kept-after plan h held k made chunks trimmed =
    let left : List Point = without_cut plan.cut h.samples in
    let old : IsPart left h.samples = part-cut plan.cut h.samples k.ascending in
    let rises : IsAscending (put_all plan.wrote left) = ascending-put_all plan.wrote left old.ascending in
    let low : ℕ = edge_of (unwrap_or plan.options h.options).retention (high_after_rows plan.wrote h.high) in
    let part : IsPart (at_times (nat_le low) (put_all plan.wrote left)) (put_all plan.wrote left) = part-times (nat_le low) (put_all plan.wrote left) rises in
    record {
      ascending = ascending-times (nat_le low) (put_all plan.wrote left) rises;
      past_edge = times-within (nat_le low) (nat_le low) (put_all plan.wrote left) (λ t x. x);
      own = λ t p is. (let o = own-written h.born h.high plan.wrote left made (λ u q e. (let own : IsOwn (record_of [] h) q = k.own u q (old.of u q e) in (own.time, own.made))) t p (part.of t p is) in record { time = o.0; made = o.1 });
      chunks = chunks;
      trimmed = trimmed;
    }

-- the parts of a series after a plan
pub after-is : (plan : Plan) (h : History) (o : Options) (high : Option ℕ) (held : Stored) → o ≡ unwrap_or plan.options h.options → high ≡ high_after_rows plan.wrote h.high
    → at_times (nat_le (low (after plan h))) (points held) ≡ list_of (after plan h) → history_of o high h.born held ≡ record (after plan h) { held = held }
after-is plan h o high held eo eh is =
    let samples : at_times (nat_le (edge_of o.retention high)) (points held) ≡ (after plan h).samples =
    ap (λ (r : Options). at_times (nat_le (edge_of r.retention high)) (points held)) eo
    ∙ ap (λ (t : Option ℕ). at_times (nat_le (edge_of (unwrap_or plan.options h.options).retention t)) (points held)) eh ∙ is in
    λ i. record { options = eo i; samples = samples i; high = eh i; born = h.born; held = held }
