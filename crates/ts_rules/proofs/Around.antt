-- The samples of a bucket after a deletion: those before the interval and those after it.
use Rattle.std.proofs.Common.{◌≡◌, ℕ, ◌+◌, ◌<◌, ◌≤◌, Bool, false, not, ◌&&◌, nat_lt, nat_le, List, ◌++◌, ◌⊎◌, inl, inr, sym, ap, ◌∙◌, arith, ltb-true, lt-ltb, leb-true, le-leb}
use Rattle.std.proofs.lemmas.Bool.{cases_lt, false≢true, and_parts, and_from}
use Rattle.std.proofs.lemmas.List.Elements.{filter-append}
use Rattle.ts_spec.specs.Sample.{Point, IsAscending, at_times, between, outside, is_within}
use Rattle.ts_sample.proofs.Between.{times-alike, times-both}
use Rattle.ts_rules.specs.Spans.{from_until}
use Rattle.ts_rules.proofs.Times.{same-test, not-true, within, within-from, within-to, without, in-span, span-from, span-end, parts}

-- What a deletion leaves of the samples between two times: those before the deleted interval and those after it.
pub left-around : (first last from to : ℕ) (ps : List Point) → IsAscending ps → first ≤ to → from ≤ last → from ≤ to →
    between first last (outside from to ps) ≡ from_until first from ps ++ from_until (to + 1) (last + 1) ps
left-around first last from to ps a since until order =
    times-both (is_within first last) (λ t. not (is_within from to t)) ps
    ∙ ap (at_times left) (sym (parts from ps a))
    ∙ filter-append (λ q. left q.time) (at_times (λ t. nat_lt t from) ps) (at_times (nat_le from) ps)
    ∙ ap (λ (qs : List Point). qs ++ at_times left (at_times (nat_le from) ps)) early
    ∙ ap (λ (qs : List Point). from_until first from ps ++ qs) late
  where
    left : ℕ → Bool
    left t = not (is_within from to t) && is_within first last t

    early : at_times left (at_times (λ t. nat_lt t from) ps) ≡ from_until first from ps
    early =
        times-both left (λ t. nat_lt t from) ps
        ∙ times-alike (λ t. nat_lt t from && left t) (λ t. nat_le first t && nat_lt t from) ps
        (λ t. same-test (nat_lt t from && left t) (nat_le first t && nat_lt t from)
        (λ e. (let x = and_parts (nat_lt t from) (left t) e in let y = and_parts (not (is_within from to t)) (is_within first last t) x.1 in
        in-span first from t (within-from first last t y.1) (ltb-true t from x.0)))
        (λ e. (let x : t < from = span-end first from t e in
        and_from (nat_lt t from) (left t) (lt-ltb t from x)
        (and_from (not (is_within from to t)) (is_within first last t) (ap not (without from to t (inl x))) (within first last t (span-from first from t e) (omega (arith, x, until)))))))

    late : at_times left (at_times (nat_le from) ps) ≡ from_until (to + 1) (last + 1) ps
    late =
        times-both left (nat_le from) ps
        ∙ times-alike (λ t. nat_le from t && left t) (λ t. nat_le (to + 1) t && nat_lt t (last + 1)) ps
        (λ t. same-test (nat_le from t && left t) (nat_le (to + 1) t && nat_lt t (last + 1))
        (λ e. (let x = and_parts (nat_le from t) (left t) e in let y = and_parts (not (is_within from to t)) (is_within first last t) x.1 in
        let past : to < t = beyond t (leb-true from t x.0) (not-true (is_within from to t) y.0) in let upto : t ≤ last = within-to first last t y.1 in
        in-span (to + 1) (last + 1) t (omega (arith, past)) (omega (arith, upto))))
        (λ e. (let low : to + 1 ≤ t = span-from (to + 1) (last + 1) t e in let up : t < last + 1 = span-end (to + 1) (last + 1) t e in
        and_from (nat_le from t) (left t) (le-leb from t (omega (arith, low, order)))
        (and_from (not (is_within from to t)) (is_within first last t) (ap not (without from to t (inr (omega (arith, low))))) (within first last t (omega (arith, low, since)) (omega (arith, up)))))))
      where
        beyond : (t : ℕ) → from ≤ t → is_within from to t ≡ false → to < t
        beyond t x e = go (cases_lt to t)
          where
            go : (to < t) ⊎ (t ≤ to) → to < t
            go (inl y) = y
            go (inr y) = absurd (false≢true (sym e ∙ within from to t x y))
