-- An update at the times of a test is an update of an interval: samples in it that stay are inserted again with the
-- rows.
use Rattle.std.proofs.Common.{◌≡◌, ℕ, ◌≤◌, Bool, true, false, not, nat_le, if◌then◌else◌, List, Option, Some, None, is_some, refl, sym, ap, ◌∙◌}
use Rattle.std.specs.Option.{option_or}
use Rattle.std.proofs.lemmas.Bool.{false≢true}
use Rattle.ts_spec.specs.Sample.{Point, IsAscending, at, at_times, between, outside, is_within, put_all}
use Rattle.ts_spec.specs.Bucket.{start}
use Rattle.ts_spec.specs.State.{edge_of}
use Rattle.ts_spec.specs.Rules.{risen}
use Rattle.ts_spec.specs.Valid.{IsUpTo}
use Rattle.ts_spec.specs.StoredSeries.{StoredRule}
use Rattle.ts_spec.specs.StoredUpdates.{high_after_rows, updated_list, loses, deleted_rows}
use Rattle.ts_spec.proofs.Samples.{at-times, at-put_all, ascending-times, ascending-put_all, ascending-same}
use Rattle.ts_spec.proofs.Settles.{upto-risen, risen-covers}
use Rattle.ts_spec.proofs.Mends.{times_of, risen-alike, high_after_rows-risen, has-times}
use Rattle.ts_spec.proofs.TwoBuckets.{loses-within}
use Rattle.ts_spec.proofs.TwoRows.{end_rows, two-rows}

-- ---- in general

-- a list in an interval after an update by a test: the rows, and its samples that stay
abbrev pub span_rows : (gone : ℕ → Bool) → (rows : List Point) → (low up : ℕ) → List Point → List Point
span_rows gone rows low up ps = put_all rows (at_times (λ t. not (gone t)) (between low up ps))

pub at-span : (gone : ℕ → Bool) (rows : List Point) (low up : ℕ) (ps : List Point) (t : ℕ) →
    at t (span_rows gone rows low up ps) ≡ option_or (at t rows) (if not (gone t) then (if is_within low up t then at t ps else None) else None)
at-span gone rows low up ps t =
    at-put_all t rows (at_times (λ u. not (gone u)) (between low up ps))
    ∙ ap (option_or (at t rows))
    (at-times t (λ u. not (gone u)) (between low up ps) ∙ ap (λ (o : Option Point). if not (gone t) then o else None) (at-times t (is_within low up) ps))

-- inserting a sample again does not raise the highest time
pub high-span : (gone : ℕ → Bool) (rows : List Point) (low up : ℕ) (ps : List Point) (high : Option ℕ) → ((t : ℕ) (p : Point) → at t ps ≡ Some p → IsUpTo high t) →
    high_after_rows (span_rows gone rows low up ps) high ≡ high_after_rows rows high
high-span gone rows low up ps high below =
    high_after_rows-risen (span_rows gone rows low up ps) high
    ∙ risen-alike (times_of (span_rows gone rows low up ps)) (times_of rows) high
    (λ b x. covered b (at b rows) refl (not (gone b)) (is_within low up b) (at b ps) refl (ap is_some (sym (at-span gone rows low up ps b)) ∙ sym (has-times b (span_rows gone rows low up ps)) ∙ x))
    (λ b x. risen-covers (times_of (span_rows gone rows low up ps)) b high
    (has-times b (span_rows gone rows low up ps) ∙ ap is_some (at-span gone rows low up ps b)
    ∙ first (at b rows) (if not (gone b) then (if is_within low up b then at b ps else None) else None) (sym (has-times b rows) ∙ x)))
    ∙ sym (high_after_rows-risen rows high)
  where
    first : (o p : Option Point) → is_some o ≡ true → is_some (option_or o p) ≡ true
    first (Some q) p e = refl
    first None p e = absurd (false≢true e)

    covered : (b : ℕ) (o : Option Point) → at b rows ≡ o → (x y : Bool) (p : Option Point) → at b ps ≡ p →
        is_some (option_or o (if x then (if y then p else None) else None)) ≡ true → IsUpTo (risen high (times_of rows)) b
    covered b (Some q) e x y p f h = risen-covers (times_of rows) b high (has-times b rows ∙ ap is_some e)
    covered b None e true true (Some p) f h = upto-risen (times_of rows) b high (below b p f)
    covered b None e true true None f h = absurd (false≢true h)
    covered b None e true false p f h = absurd (false≢true h)
    covered b None e false y p f h = absurd (false≢true h)

-- An update by a test that holds only in an interval is an update of the interval, with the samples that stay and
-- the rows.
pub updated_list-span : (retention : ℕ) (high : Option ℕ) (gone : ℕ → Bool) (rows : List Point) (low up : ℕ) (ps : List Point) → IsAscending ps →
    ((t : ℕ) → gone t ≡ true → is_within low up t ≡ true) → ((t : ℕ) (p : Point) → at t ps ≡ Some p → IsUpTo high t) →
    updated_list retention high gone rows ps ≡ updated_list retention high (is_within low up) (span_rows gone rows low up ps) ps
updated_list-span retention high gone rows low up ps a inside below =
    ap (at_times (nat_le (edge_of retention (high_after_rows rows high))))
    (ascending-same (put_all rows (at_times (λ t. not (gone t)) ps)) (put_all (span_rows gone rows low up ps) (outside low up ps))
    (ascending-put_all rows (at_times (λ t. not (gone t)) ps) (ascending-times (λ t. not (gone t)) ps a))
    (ascending-put_all (span_rows gone rows low up ps) (outside low up ps) (ascending-times (λ t. not (is_within low up t)) ps a))
    (λ t. at-put_all t rows (at_times (λ u. not (gone u)) ps) ∙ ap (option_or (at t rows)) (at-times t (λ u. not (gone u)) ps)
    ∙ cases t (at t rows) (at t ps) (gone t) (is_within low up t) refl refl
    ∙ sym (at-put_all t (span_rows gone rows low up ps) (outside low up ps)
    ∙ ap (λ (o : Option Point). option_or o (at t (outside low up ps))) (at-span gone rows low up ps t)
    ∙ ap (option_or (option_or (at t rows) (if not (gone t) then (if is_within low up t then at t ps else None) else None))) (at-times t (λ u. not (is_within low up u)) ps))))
    ∙ ap (λ (h : Option ℕ). at_times (nat_le (edge_of retention h)) (put_all (span_rows gone rows low up ps) (outside low up ps))) (sym (high-span gone rows low up ps high below))
  where
    or_none : (o : Option Point) → o ≡ option_or o None
    or_none None = refl
    or_none (Some p) = refl

    cases : (t : ℕ) (o p : Option Point) (x y : Bool) → gone t ≡ x → is_within low up t ≡ y →
        option_or o (if not x then p else None) ≡ option_or (option_or o (if not x then (if y then p else None) else None)) (if not y then p else None)
    cases t (Some q) p x y e f = refl
    cases t None p true true e f = refl
    cases t None p true false e f = absurd (false≢true (sym f ∙ inside t e))
    cases t None p false true e f = or_none p
    cases t None p false false e f = refl

-- ---- for a deletion

-- A deletion updates a destination over the interval from the first start to the last: with the row of the first
-- bucket, that of the last,
-- and its own samples there that stay.
pub updated_list-deletion : (retention : ℕ) (high : Option ℕ) (from to : ℕ) (ps : List Point) (born : ℕ) (q : StoredRule) (list : List Point) → from ≤ to → IsAscending ps → IsAscending list →
    ((t : ℕ) (p : Point) → at t list ≡ Some p → IsUpTo high t) →
    updated_list retention high (loses (between from to ps) q) (deleted_rows (between from to ps) (outside from to ps) born q) list ≡
    updated_list retention high (is_within (start q.grid from) (start q.grid to))
    (span_rows (loses (between from to ps) q) (end_rows (between from to ps) (outside from to ps) born q (start q.grid from) (start q.grid to)) (start q.grid from) (start q.grid to) list) list
updated_list-deletion retention high from to ps born q list order a b below =
    ap (λ (rows : List Point). updated_list retention high (loses (between from to ps) q) rows list) (two-rows from to ps born q order a)
    ∙ updated_list-span retention high (loses (between from to ps) q) (end_rows (between from to ps) (outside from to ps) born q (start q.grid from) (start q.grid to))
    (start q.grid from) (start q.grid to) list b (λ t x. loses-within q from to t ps x) below
