-- What the result of a write means.
use Rattle.std.proofs.Common.{◌≡◌, ℕ, zero, suc, ◌+◌, ◌-◌, ◌<◌, ◌≤◌, true, false, ◌&&◌, ℤ, List, [], ◌∷◌, ◌++◌, length, refl, sym, ◌∙◌, ap, subst, arith, le-ltb, ne_eqb, length-append}
use Rattle.std.specs.Prelude.{nat_lt, nat_le, if◌then◌else◌, option_map, Option, None, Some, Result, Ok}
use Rattle.std.proofs.lemmas.Bool.Decides.{nat_tests}
use Rattle.ts_spec.specs.Sample.{Point, IsAscending, IsAfter, at, at_times, put, last_of}
use Rattle.ts_spec.specs.Rules.{raised, Merged, Refuse, KeepOld, To, merge}
use Rattle.ts_spec.specs.Refusal.{TooOld}
use Rattle.ts_spec.specs.Step.{value_at}
use Rattle.ts_spec.specs.declared.series.Merge.{Merge}
use Rattle.ts_spec.specs.State.{edge_of}
use Rattle.ts_spec.proofs.Samples.{IsBefore}
use Rattle.ts_spec.proofs.ClientChanges.{edge-raised}
use Rattle.ts_sample.proofs.Parted.{filter_alike}
use Rattle.ts_sample.proofs.Between.{filter-filter}
use Rattle.ts_sample.specs.Chunk.{IsPast, joined}
use Rattle.ts_sample.proofs.Replacing.{none-before}
use Rattle.ts_series.specs.declared.plan.PutFault.{PutFault}
use Rattle.ts_series.specs.Stored.{points, longest, IsTrimmed, IsUpTo}
use Rattle.ts_series.specs.History.{History, list_of, low, IsKeptIn}
use Rattle.ts_series.specs.Plan.{Plan, IsForIn}
use Rattle.ts_series.specs.Put.{met, PutAnswers, IsMerged, IsWrite, nothing_in, sample_of, list_after}
use Rattle.ts_series.proofs.Counting.{one_if, times-append, times-length, length-put, not_full}
use Rattle.ts_series.proofs.PutBetween.{past-before}
use Rattle.ts_series.proofs.EdgeQuestions.{at-from, length-from}
use Rattle.ts_series.proofs.Ready.{Shows}
use Rattle.ts_series.proofs.EarlyLate.{rest-past}

-- from a later edge on there are no other samples than from an earlier one on
pub later-edge : (low edge : ℕ) (ps : List Point) → low ≤ edge → at_times (nat_le edge) (at_times (nat_le low) ps) ≡ at_times (nat_le edge) ps
later-edge low edge ps up =
    filter-filter (λ (p : Point). nat_le edge p.time) (λ (p : Point). nat_le low p.time) ps
    ∙ filter_alike (λ (p : Point). nat_le low p.time && nat_le edge p.time) (λ (p : Point). nat_le edge p.time) (λ p. both p.time) ps
  where
    both : (t : ℕ) → (nat_le low t && nat_le edge t) ≡ nat_le edge t
    both t = grind (arith, nat_tests)

-- a write at the edge or later is not before the edge that it raises
stays : (retention t : ℕ) (high : Option ℕ) → edge_of retention high ≤ t → edge_of retention (raised t high) ≤ t
stays retention t None le = edge-first retention t
  where
    edge-first : (retention t : ℕ) → edge_of retention (Some t) ≤ t
    edge-first zero t = omega arith
    edge-first (suc n) t = omega arith
stays zero t (Some h) le = omega arith
stays (suc n) t (Some h) le = omega arith

-- with fewer samples than the limit a series is not full
pub full-early : (limit : ℕ) (p : Point) (h : History) → Shows h → at p.time (list_of h) ≡ None → length (points h.held) < limit → false ≡ nat_lt limit (length (list_after p h))
full-early limit p h shows none below =
    not_full limit (nat_le (edge_of h.options.retention (raised p.time h.high))) p (list_of h) none (omega (arith, below, ap length shows, times-length (nat_le (low h)) (points h.held)))

-- a series is full where so many samples stay as the limit
pub full-late : (limit edge early : ℕ) (p : Point) (h : History) → Shows h → at p.time (list_of h) ≡ None → low h ≤ p.time → edge ≡ edge_of h.options.retention (raised p.time h.high)
    → early ≡ length (at_times (λ t. nat_lt t edge) (points h.held)) → nat_le limit (length (points h.held) - early) ≡ nat_lt limit (length (list_after p h))
full-late limit edge early p h shows none kept is counted =
    let old : low h ≤ edge = subst (λ e. low h ≤ e) (sym is) (edge-raised h.options.retention p.time h.high) in
    let new : edge ≤ p.time = subst (λ e. e ≤ p.time) (sym is) (stays h.options.retention p.time h.high kept) in
    let yes : nat_le edge p.time ≡ true = grind (arith, nat_tests) in
    let left = ap (at_times (nat_le edge)) shows ∙ later-edge (low h) edge (points h.held) old in
    let count : length (at_times (nat_le edge) (put p (list_of h))) ≡ length (points h.held) - early + 1 =
    omega (arith, length-put (nat_le edge) p (list_of h) none, ap one_if yes, ap length left, length-from edge (points h.held), counted) in
    compare limit (length (points h.held) - early) (length (at_times (nat_le edge) (put p (list_of h)))) count
    ∙ ap (λ e. nat_lt limit (length (at_times (nat_le e) (put p (list_of h))))) is
  where
    compare : (a b n : ℕ) → n ≡ b + 1 → nat_le a b ≡ nat_lt a n
    compare a b n e = grind (arith, nat_tests)

-- ---- by what a write comes to

-- a value that merges is written
pub answers-written : (m : Merged) (limit t : ℕ) (h : History) (v : ℤ) (result : Result Plan PutFault) → IsMerged m (Ok (Some v)) → IsWrite limit (sample_of t v h) h result
    → PutAnswers m limit t h result
answers-written (Refuse r) limit t h v result is write = absurd is
answers-written KeepOld limit t h v result is write = absurd (cc is)
answers-written (To w) limit t h v result is write = let same : v ≡ w = cc is in subst (λ (x : ℤ). IsWrite limit (sample_of t x h) h result) same write

-- a new sample at a time that has none
pub answers-new : (how : Merge) (limit : ℕ) (p : Point) (h : History) (result : Result Plan PutFault) → at p.time (list_of h) ≡ None → p.made ≡ h.born → IsWrite limit p h result
    → PutAnswers (merge how (value_at p.time (list_of h)) p.value) limit p.time h result
answers-new how limit p h result none made write =
    let same : p ≡ sample_of p.time p.value h = ap (λ n. record { time = p.time; value = p.value; made = n }) made in
    subst (λ (o : Option Point). PutAnswers (merge how (option_map (λ (q : Point). q.value) o) p.value) limit p.time h result) (sym none)
    (subst (λ (q : Point). IsWrite limit q h result) same write)

-- and a value at the time of a sample
pub answers-over : (how : Merge) (limit : ℕ) (p q : Point) (h : History) (result : Result Plan PutFault) → at p.time (list_of h) ≡ Some q
    → PutAnswers (merge how (Some q.value) p.value) limit p.time h result → PutAnswers (merge how (value_at p.time (list_of h)) p.value) limit p.time h result
answers-over how limit p q h result there answers =
    subst (λ (o : Option Point). PutAnswers (merge how (option_map (λ (r : Point). r.value) o) p.value) limit p.time h result) (sym there) answers

-- what a write comes to, at the edge or later
pub met-late : (how : Merge) (t : ℕ) (v : ℤ) (h : History) → low h ≤ t → merge how (value_at t (list_of h)) v ≡ met how t v h
met-late how t v h late = sym (ap (λ b. if b then Refuse TooOld else merge how (value_at t (list_of h)) v) (le-ltb t (low h) late))

-- a plan that changes nothing is for each series
pub nothing-for : {format : List Point → List ℕ} (h : History) → Shows h → IsKeptIn format h → IsForIn format (nothing_in h.options.encoding) h
nothing-for h shows kept = record {
  encoding = refl;
  stays = refl;
  made = tt;
  change = record { ordered = omega arith; within = omega arith; ascending = kept.chunks.ascending; appends = tt; enough = omega arith };
  holds_all = omega arith;
  limits = tt;
  list = sym shows ∙ sym kept.past_edge;
}

-- ---- late samples, and those before the edge

-- a series shows the sample of a time from its edge on that its chunks have
pub at-shown : (t : ℕ) (h : History) → Shows h → low h ≤ t → at t (list_of h) ≡ at t (points h.held)
at-shown t h shows late = ap (at t) shows ∙ sym (at-from (low h) (points h.held) t late)

-- a time past the last sample has none
pub at-past : (t : ℕ) (ps : List Point) → IsAscending ps → IsPast (last_of ps) t → at t ps ≡ None
at-past t ps rises past = before t ps (past-before t ps rises past)
  where
    before : (t : ℕ) (ps : List Point) → IsBefore t ps → at t ps ≡ None
    before t [] h = refl
    before t (p ∷ ps) h = (let less : p.time < t = h.0 in ap (λ b. if b then Some p else at t ps) (ne_eqb p.time t (λ same. absurd (omega arith)))) ∙ before t ps h.1

pub never-both : (t : ℕ) (o : Option Point) → IsUpTo t o → IsPast o t → ⊥
never-both t None upto past = upto
never-both t (Some p) upto past = absurd (omega (arith, upto, past))

-- only the first chunk has samples before the edge
pub few-hidden : (edge : ℕ) (pss : List (List Point)) → IsAscending (joined pss) → IsTrimmed edge pss → length (joined pss) ≤ length (at_times (nat_le edge) (joined pss)) + longest pss
few-hidden edge [] rises trimmed = omega arith
few-hidden edge (ps ∷ pss) rises trimmed =
    let rest : IsAfter edge (joined pss) = rest-past edge 0 (ps ∷ pss) rises trimmed in
    let early = ap length (times-append (λ t. nat_lt t edge) ps (joined pss)) in
    omega (
      arith,
      length-from edge (ps ++ joined pss),
      early,
      length-append (at_times (λ t. nat_lt t edge) ps) (at_times (λ t. nat_lt t edge) (joined pss)),
      ap length (none-before edge (joined pss) rest),
      times-length (λ t. nat_lt t edge) ps,
    )
