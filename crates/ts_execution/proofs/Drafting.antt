-- What is written to a draft, one stretch after another.
use Rattle.std.proofs.Common.{◌≡◌, ℕ, List, [], ◌∷◌, ◌++◌, map, refl, sym, ◌∙◌, ap, subst, append_assoc, append-nil}
use Rattle.std.proofs.lemmas.List.{map-append}
use Rattle.std.proofs.lemmas.List.Elements.{All-nil, All-append}
use Rattle.std.proofs.lemmas.Result.{on_ok_weaker}
use Rattle.std.specs.Prelude.{All, Option, None, Some, Result, Ok, Err, OnOk}
use Rattle.std.specs.Io.KnownBytes.{append_known}
use Rattle.ts_io.specs.Causes.{Rose}
use Rattle.ts_spec.specs.declared.wire.WireLimits.{WireLimits}
use Rattle.ts_spec.specs.Encoded.{Fits, encoded_request, encoded}
use Rattle.ts_spec.specs.Wire.{Request}
use Rattle.ts_checkpoint.specs.Parts.{Part}
use Rattle.ts_checkpoint.specs.PartWords.{part_words}
use Rattle.ts_checkpoint.specs.Restoring.{AreSayable}
use Rattle.ts_checkpoint.specs.Sayable.{IsSayable}
use Rattle.ts_execution.specs.declared.checkpoint.CheckpointFault.{CheckpointFault}
use Rattle.ts_execution.specs.declared.checkpoint.CheckpointFault.TheVariants.{Log}
use Rattle.ts_execution.specs.Checkpoints.{LogState, OnlyDrafts, Written}

-- ---- the bytes of the draft

known-none : (a : Option (List ℕ)) → a ≡ append_known a []
known-none None = refl
known-none (Some xs) = ap (λ (l : List ℕ). Some l) (sym (append-nil xs))

known-then : (a : Option (List ℕ)) (xs ys : List ℕ) → append_known (append_known a xs) ys ≡ append_known a (xs ++ ys)
known-then None xs ys = refl
known-then (Some zs) xs ys = ap (λ (l : List ℕ). Some l) (append_assoc zs xs ys)

encoded-then : (xs ys : List Request) → encoded (xs ++ ys) ≡ encoded xs ++ encoded ys
encoded-then [] ys = refl
encoded-then (x ∷ xs) ys =
    ap (λ (l : List ℕ). encoded_request x ++ l) (encoded-then xs ys) ∙ sym (append_assoc (encoded_request x) (encoded xs) (encoded ys))

sayable-then : (ps qs : List Part) → AreSayable ps → AreSayable qs → AreSayable (ps ++ qs)
sayable-then [] qs p q = q
sayable-then (r ∷ ps) qs p q = (p.0, sayable-then ps qs p.1 q)

-- nothing was written
pub written-none : (limits : WireLimits) (a : Option (List ℕ)) → Written limits a a []
written-none limits a = record { added = known-none a; fit = All-nil (Fits limits); sayable = tt }

-- some parts were written, and then others
pub written-then : {limits : WireLimits} {a b c : Option (List ℕ)} {ps qs : List Part} → Written limits a b ps → Written limits b c qs → Written limits a c (ps ++ qs)
written-then {limits} {a} {b} {c} {ps} {qs} p q =
    let xs : List Request = map part_words ps in
    let ys : List Request = map part_words qs in
    let all : map part_words (ps ++ qs) ≡ xs ++ ys = map-append part_words ps qs in
    record {
      added = q.added ∙ ap (λ (o : Option (List ℕ)). append_known o (encoded ys)) p.added ∙ known-then a (encoded xs) (encoded ys)
          ∙ ap (append_known a) (sym (encoded-then xs ys) ∙ ap encoded (sym all));
      fit = subst (All (Fits limits)) (sym all) (All-append (Fits limits) xs ys p.fit q.fit);
      sayable = sayable-then ps qs p.sayable q.sayable;
    }

-- the words of this part were written
pub this-written : {limits : WireLimits} {a b : Option (List ℕ)} (words items : Request) (p : Part) → ((q : Part) → words ≡ part_words q → IsSayable q → Written limits a b (q ∷ [])) → words ≡ items
    → items ≡ part_words p → IsSayable p → Written limits a b (p ∷ [])
this-written words items p written same is says = written p (same ∙ is) says

-- the same, if the call succeeded
pub one-written : (limits : WireLimits) (a b : Option (List ℕ)) (result : Result (Unit {0}) CheckpointFault) (words items : Request) (p : Part)
    → OnOk result ((q : Part) → words ≡ part_words q → IsSayable q → Written limits a b (q ∷ [])) → words ≡ items → items ≡ part_words p → IsSayable p
    → OnOk result (Written limits a b (p ∷ []))
one-written limits a b result words items p written same is says =
    let each : Type 0 = (q : Part) → words ≡ part_words q → IsSayable q → Written limits a b (q ∷ []) in
    on_ok_weaker result (λ (w : each). this-written words items p w same is says) written

-- ---- the rest of the log

-- without a call of the log, and for a result that is not its fault
pub drafts-none : (a : LogState) (result : Result (Unit {0}) CheckpointFault) → (result ≡ Err Log → ⊥) → OnlyDrafts a a result
drafts-none a result other = record { content = refl; place = refl; fault = λ e. absurd (other e); no_fault = λ e. refl }

-- no call failed, and then others were made
pub drafts-then : {a b c : LogState} {result : Result (Unit {0}) CheckpointFault} → OnlyDrafts a b (Ok tt) → OnlyDrafts b c result → OnlyDrafts a c result
drafts-then {a} {b} {c} {result} p q =
    let same : b.faults ≡ a.faults = p.no_fault (λ e. absurd cc) in
    record {
      content = q.content ∙ p.content;
      place = q.place ∙ p.place;
      fault = λ e. subst (λ (n : ℕ). Rose n c.faults) same (q.fault e);
      no_fault = λ e. q.no_fault e ∙ same;
    }
