-- What each prefix of the journal that a host leaves loads to.
use Rattle.std.specs.Prelude.{All, Option, Some}
use Rattle.std.proofs.Common.{◌≡◌, ◌⊎◌, inl, inr, ◌≤◌, ◌<◌, ℕ, List, ◌++◌, length, take, sym, ◌∙◌, ap, subst, arith, append_assoc, length-append}
use Rattle.std.proofs.lemmas.List.{take_all, take-append-le}
use Rattle.std.proofs.lemmas.List.Elements.{All-append}
use Rattle.std.proofs.Math.Seq.{take-append_seam, take-length}
use Rattle.ts_spec.specs.Run.{Runs}
use Rattle.ts_spec.specs.StreamPrefixes.{IsWithin}
use Rattle.ts_spec.specs.Wire.{Request}
use Rattle.ts_spec.specs.declared.limits.Limits.{Limits}
use Rattle.ts_spec.proofs.Runs.{Runs-append}
use Rattle.ts_journal.specs.Limits.{IsBounded}
use Rattle.ts_checkpoint.specs.Loading.{load, LoadsTo}
use Rattle.ts_checkpoint.specs.Fronts.{FrontLoads}
use Rattle.ts_checkpoint.proofs.JournalFronts.{fronts-load}
use Rattle.ts_execution.specs.Journaling.{Snapshot, IsJournaled}
use Rattle.ts_host.specs.Steps.{Extends}
use Rattle.ts_engine.specs.JournalPrefixes.{HandledRun, PrefixReplays}
use Rattle.ts_engine.specs.HostPrefixes.{HostRun, whole_run, HostPrefixes}
use Rattle.ts_engine.proofs.PrefixReplayLemmas.{a_run, added-to, run-replay_matches}

-- ---- a journal that has the records of a run in part

below-or-not : (n m : ℕ) → (n < m) ⊎ (m ≤ n)
below-or-not n m = grind arith

same-list : (a b : List ℕ) → Some a ≡ Some b → a ≡ b
same-list a b is = (cc)

module _ (limits : Limits) (from : Snapshot) (run : HandledRun) (size : ℕ) (stored : List ℕ) (long : size ≤ length stored) where
  -- its prefixes are among those of the whole
  shorter-fronts : (rest : List ℕ) → ((n : ℕ) → size ≤ n → PrefixReplays limits from run (take n (stored ++ rest))) → (n : ℕ) → size ≤ n → PrefixReplays limits from run (take n stored)
  shorter-fronts rest fronts n past = go (below-or-not n (length stored))
    where
      go : (n < length stored) ⊎ (length stored ≤ n) → PrefixReplays limits from run (take n stored)
      go (inl below) = subst (λ (l : List ℕ). PrefixReplays limits from run l) (take-append-le n stored rest (omega (arith, below))) (fronts n past)
      go (inr beyond) = subst (λ (l : List ℕ). PrefixReplays limits from run l) (take-append_seam stored rest ∙ sym (take_all n stored beyond)) (fronts (length stored) long)

  fronts-of : ((n : ℕ) → size ≤ n → PrefixReplays limits from run (take n stored)) → (n : ℕ) → FrontLoads limits stored n
  fronts-of fronts =
      let all = fronts (length stored) long in
      fronts-load limits stored all.mid.held.state all.place (sym (ap (load limits) (take-length stored)) ∙ all.loads)

module _ (limits : Limits) (bounded : IsBounded limits.wire) where
  cut-fronts : (asked : List Request) (loaded : List ℕ) (from to : Snapshot) (text : List ℕ) → All (IsWithin limits.wire) asked → from.held.limits ≡ limits → from.content ≡ Some loaded
      → LoadsTo limits loaded from.held.state → Runs IsJournaled from asked text to → (stored rest : List ℕ) → to.content ≡ Some (stored ++ rest) → length loaded ≤ length stored
      → (n : ℕ) → length loaded ≤ n → PrefixReplays limits from (a_run asked text to) (take n stored)
  cut-fronts asked loaded from to text within same content loads run stored rest whole long =
      let done = run-replay_matches limits bounded asked loaded from to text within same content loads run in
      let is : loaded ++ done.more ≡ stored ++ rest = same-list (loaded ++ done.more) (stored ++ rest) (sym done.content ∙ whole) in
      shorter-fronts limits from (a_run asked text to) (length loaded) stored long rest
      (λ n past. subst (λ (l : List ℕ). PrefixReplays limits from (a_run asked text to) (take n l)) is (done.fronts n past))

  -- ---- a run whose first replies were let out

  module _ (loaded : List ℕ) (from : Snapshot) (same : from.held.limits ≡ limits) (content : from.content ≡ Some loaded) (loads : LoadsTo limits loaded from.held.state) where
    pub run-prefixes : (run : HostRun) (left : Option (List ℕ))
        → Runs IsJournaled from run.let_out.asked run.let_out.text run.let_out.to → All (IsWithin limits.wire) run.let_out.asked
        → Runs IsJournaled run.let_out.to run.later.asked run.later.text run.later.to → All (IsWithin limits.wire) run.later.asked
        → Extends run.let_out.to.content left → Extends left run.later.to.content → HostPrefixes limits loaded from run left
    run-prefixes run left first first_within second second_within extends within =
        let one : HandledRun = run.let_out in
        let two : HandledRun = run.later in
        let done = run-replay_matches limits bounded one.asked loaded from one.to one.text first_within same content loads first in
        let settled : List ℕ = loaded ++ done.more in
        let stored : List ℕ = settled ++ extends.0 in
        let is_stored : left ≡ Some stored = added-to one.to.content left settled extends.0 done.content extends.1 in
        let whole : two.to.content ≡ Some (stored ++ within.0) = added-to left two.to.content stored within.0 is_stored within.1 in
        let long : length settled ≤ length stored = omega (arith, length-append settled extends.0) in
        let longer : length loaded ≤ length stored = omega (arith, long, length-append loaded done.more) in
        let fronts = cut-fronts (one.asked ++ two.asked) loaded from two.to (one.text ++ two.text) (All-append (IsWithin limits.wire) one.asked two.asked first_within second_within)
        same content loads (Runs-append IsJournaled from one.to two.to one.asked two.asked one.text two.text first second) stored within.0 whole longer in
        record {
          stored = stored;
          content = is_stored;
          begins = ap (take (length loaded)) (append_assoc loaded done.more extends.0) ∙ take-append_seam loaded (done.more ++ extends.0);
          prefixes_load = fronts-of limits from (whole_run run) (length loaded) stored longer fronts;
          replay_matches = fronts;
          settled = settled;
          settles = done.content;
          has_settled = take-append_seam settled extends.0;
          nothing_lost = cut-fronts two.asked settled one.to two.to two.text second_within done.limits_stay done.content done.loads second stored within.0 whole long;
        }
