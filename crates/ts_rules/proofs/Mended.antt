-- One update of a destination in place of another.
use Rattle.std.proofs.Common.{◌≡◌, ℕ, ◌<◌, ◌≤◌, Bool, true, false, not, ◌==◌, nat_le, if◌then◌else◌, List, [], ◌∷◌, length, Option, Some, None, refl, sym, ap, ◌∙◌, subst, arith, eq-eqb}
use Rattle.std.specs.Prelude.{Result, Ok, Err}
use Rattle.std.proofs.lemmas.Bool.{false≢true}
use Rattle.ts_spec.specs.Sample.{Point, at, at_times, is_within, outside, put}
use Rattle.ts_spec.specs.State.{edge_of}
use Rattle.ts_spec.specs.Rules.{raised}
use Rattle.ts_spec.specs.StoredUpdates.{high_after_rows}
use Rattle.ts_spec.proofs.Samples.{at-times, at-put, ascending-times, ascending-put, ascending-same}
use Rattle.ts_series.specs.History.{History, IsKept, list_of}
use Rattle.ts_series.specs.Plan.{Plan}
use Rattle.ts_rules.specs.declared.plan.RuleFault.{RuleFault}
use Rattle.ts_rules.specs.declared.plan.RuleFault.TheVariants.{Full, Memory}
use Rattle.ts_rules.specs.Plans.{list_after_update, IsUpdatedBy, IsUnplanned, IsUpdate}
use Rattle.ts_rules.proofs.Times.{within-from, within-to}

-- The answer to a mending is one to another that comes to the same.
pub mending-same : (limit : ℕ) (gone other : ℕ → Bool) (rows others : List Point) (h : History) → list_after_update gone rows h ≡ list_after_update other others h → high_after_rows rows h.high ≡ high_after_rows others h.high →
    (result : Result (Option Plan) RuleFault) → IsUpdate limit gone rows h result → IsUpdate limit other others h result
mending-same limit gone other rows others h e f (Ok plan) x = record {
  made_for = x.made_for;
  list = x.list ∙ e;
  high = x.high ∙ f;
  options = x.options;
  fits = subst (λ (ps : List Point). length ps ≤ limit) e x.fits;
}
mending-same limit gone other rows others h e f (Err fault) x = unplanned fault x
  where
    unplanned : (fault : RuleFault) → IsUnplanned limit gone rows h fault → IsUnplanned limit other others h fault
    unplanned Full y = subst (λ (ps : List Point). limit < length ps) e y
    unplanned (Memory m) y = subst (λ (ps : List Point). length ps ≤ limit) e y

-- ---- without a row

every : (ps : List Point) → at_times (λ t. not false) ps ≡ ps
every [] = refl
every (p ∷ ps) = ap (λ (qs : List Point). p ∷ qs) (every ps)

pub unmended : (gone : ℕ → Bool) (h : History) → IsKept h → ((t : ℕ) → gone t ≡ false) → list_after_update gone [] h ≡ list_of h
unmended gone h kept none =
    ap (λ (ps : List Point). at_times (nat_le (edge_of h.options.retention h.high)) ps) ((λ i. at_times (λ t. not (none t i)) (list_of h)) ∙ every (list_of h))
    ∙ kept.past_edge

-- A destination that is not told of stays as it is.
pub stays : (limit : ℕ) (gone : ℕ → Bool) (rows : List Point) (h : History) → IsKept h → length (list_of h) ≤ limit → rows ≡ [] → ((t : ℕ) → gone t ≡ false) → IsUpdatedBy limit gone rows h None
stays limit gone rows h kept fits e none =
    let same : list_after_update gone rows h ≡ list_of h = ap (λ (ps : List Point). list_after_update gone ps h) e ∙ unmended gone h kept none in
    record {
      made_for = tt;
      list = sym same;
      high = sym (ap (λ (ps : List Point). high_after_rows ps h.high) e);
      options = refl;
      fits = subst (λ (ps : List Point). length ps ≤ limit) (sym same) fits;
    }

-- ---- with one row

-- A row takes the place of the sample at its time and of no other.
pub one-row : (t : ℕ) (p : Point) (h : History) → IsKept h → t ≡ p.time → list_after_update (is_within t t) (p ∷ []) h ≡ list_after_update (λ u. false) (p ∷ []) h
one-row t p h kept e =
    ap (λ (ps : List Point). at_times (nat_le (edge_of h.options.retention (raised p.time h.high))) ps)
    (ascending-same (put p (outside t t (list_of h))) (put p (at_times (λ u. not false) (list_of h)))
    (ascending-put p (outside t t (list_of h)) (ascending-times (λ u. not (is_within t t u)) (list_of h) kept.ascending))
    (ascending-put p (at_times (λ u. not false) (list_of h)) (ascending-times (λ u. not false) (list_of h) kept.ascending))
    (λ u. at-put u p (outside t t (list_of h))
    ∙ ap (λ (o : Option Point). if p.time == u then Some p else o) (at-times u (λ w. not (is_within t t w)) (list_of h))
    ∙ cases u (p.time == u) refl (is_within t t u) refl
    ∙ sym (at-put u p (at_times (λ w. not false) (list_of h)) ∙ ap (λ (o : Option Point). if p.time == u then Some p else o) (at-times u (λ w. not false) (list_of h)))))
  where
    here : (u : ℕ) → is_within t t u ≡ true → p.time ≡ u
    here u f =
        let low : t ≤ u = within-from t t u f in
        let up : u ≤ t = within-to t t u f in
        omega (arith, e)

    cases : (u : ℕ) (x : Bool) → (p.time == u) ≡ x → (y : Bool) → is_within t t u ≡ y →
        (if x then Some p else (if not y then at u (list_of h) else None)) ≡ (if x then Some p else at u (list_of h))
    cases u true f y g = refl
    cases u false f true g = absurd (false≢true (sym f ∙ eq-eqb p.time u (here u g)))
    cases u false f false g = refl

-- The answer for one row, or none.
pub mending-row : (limit : ℕ) (t : ℕ) (p : Point) (h : History) → IsKept h → t ≡ p.time → (result : Result (Option Plan) RuleFault) →
    IsUpdate limit (is_within t t) (p ∷ []) h result → IsUpdate limit (λ u. false) (p ∷ []) h result
mending-row limit t p h kept e result x = mending-same limit (is_within t t) (λ u. false) (p ∷ []) (p ∷ []) h (one-row t p h kept e) refl result x
