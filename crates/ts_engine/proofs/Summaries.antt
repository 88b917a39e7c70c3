-- A workload that `pipe` answered to its end.
use Rattle.std.specs.Prelude.{Option, Some}
use Rattle.std.proofs.Common.{◌≡◌, inl, inr, ℕ, List, [], ◌∷◌, ◌++◌, length, refl, ◌∙◌, ap, subst, append-nil}
use Rattle.ts_io.specs.Counts.{Counts, counts_of}
use Rattle.ts_io.specs.Sinks.{Grows}
use Rattle.ts_spec.specs.Run.{Runs}
use Rattle.ts_spec.specs.Totals.{total_shown}
use Rattle.ts_spec.specs.Keyed.{count_keys}
use Rattle.ts_spec.specs.Limits.{usual}
use Rattle.ts_spec.specs.declared.limits.Limits.{Limits}
use Rattle.ts_spec.specs.declared.wire.WireLimits.{WireLimits}
use Rattle.ts_gen.specs.Workload.{script}
use Rattle.ts_db.specs.DbState.{DbState}
use Rattle.ts_execution.specs.Handling.{World, handles, plain}
use Rattle.ts_engine.specs.declared.piped.End.{End}
use Rattle.ts_engine.specs.declared.piped.End.TheVariants as end
use Rattle.ts_engine.specs.declared.piped.Outcome.{Outcome}
use Rattle.ts_engine.specs.Generated.{with_usual_wire, IsSummary}
use Rattle.ts_engine.specs.Headline.{requests, start, Exchange, AllAnswered, Writes, count_done}
use Rattle.ts_engine.specs.Piping.{Piped}
use Rattle.ts_engine.proofs.Taking.{writes_of, executed_of}
use Rattle.ts_engine.proofs.Sessions.{grows_as}

-- all requests were handled, as many as were executed, and the output has all their replies
pub record RanAll (limits : Limits) (readings : Option (List ℕ)) (bytes : List ℕ) (executed : ℕ) (to : World) (had has : List ℕ → Type 0) : Type 0 where
  pub text : List ℕ
  pub run : Runs handles (start limits readings) (requests limits.wire bytes) text to
  pub executed_is : executed ≡ length (requests limits.wire bytes)
  pub grown : Grows had has text

module _ (limits : Limits) (readings : Option (List ℕ)) (budget : ℕ) (outcome : Outcome) (to : World) (bytes : List ℕ) (left : Option (List ℕ)) (had has : List ℕ → Type 0)
    (piped : Piped limits.wire budget outcome (start limits readings) to (Some bytes) left had has) where
  abbrev exchange : Exchange plain
  exchange = record { limits = limits.wire; from = start limits readings; to = to; had = had; has = has }

  ran_with : AllAnswered exchange bytes [] → outcome.executed ≡ length (requests limits.wire bytes) → RanAll limits readings bytes outcome.executed to had has
  ran_with all executed = record {
    text = all.text;
    run = all.run;
    executed_is = executed;
    grown = grows_as had has (all.text ++ []) all.text (append-nil all.text) all.grown;
  }

  ran_by : (e : End) (written : Writes exchange budget bytes left e) → outcome.executed ≡ count_done exchange budget bytes left e written → e ≡ end.Ended → RanAll limits readings bytes outcome.executed to had has
  ran_by end.Ended (inl all) executed is = ran_with all.answered executed
  ran_by end.Ended (inr quitted) executed is = ran_with quitted.0 executed
  ran_by (end.Truncated place) written executed is = (cc)
  ran_by (end.Protocol fault) written executed is = (cc)
  ran_by end.ReadFault written executed is = (cc)
  ran_by end.WriteFault written executed is = (cc)
  ran_by end.Memory written executed is = (cc)
  ran_by end.Budget written executed is = (cc)

  pub ran_all : outcome.end ≡ end.Ended → RanAll limits readings bytes outcome.executed to had has
  ran_all is = ran_by outcome.end (writes_of exchange budget outcome bytes left piped) (executed_of exchange budget outcome bytes left piped) is

same_six : (a b c d e f a' b' c' d' e' f' : ℕ) → a ≡ a' → b ≡ b' → c ≡ c' → d ≡ d' → e ≡ e' → f ≡ f' → a ∷ b ∷ c ∷ d ∷ e ∷ f ∷ [] ≡ a' ∷ b' ∷ c' ∷ d' ∷ e' ∷ f' ∷ []
same_six a b c d e f a' b' c' d' e' f' p q r s t u = rw (p, q, r, s, t, u) refl

-- the workload was answered to its end, and the counters are the numbers of its summary
pub summed : (limits : Limits) (seed n : ℕ) (wire : WireLimits) (budget : ℕ) (outcome : Outcome) (held : DbState) (told left readings readings' : Option (List ℕ)) (before after : Counts)
    (size total errors keys samples : ℕ) → wire ≡ usual.wire → told ≡ Some (script seed n) → readings ≡ Some [] → before ≡ counts_of [] → outcome.end ≡ end.Ended
    → Piped wire budget outcome (start (record limits { wire = wire }) readings) (record { held = held; readings = readings' }) told left (λ w. before ≡ counts_of w) (λ w. after ≡ counts_of w)
    → size ≡ length (script seed n) → total ≡ after.total → errors ≡ after.errors → keys ≡ count_keys held.state → samples ≡ total_shown held.state
    → IsSummary limits seed n (outcome.executed ∷ size ∷ total ∷ errors ∷ keys ∷ samples ∷ [])
summed limits seed n wire budget outcome held told left readings readings' before after size total errors keys samples same tells none begun ended piped is_size is_total is_errors is_keys is_samples =
    let had : (List ℕ → Type 0) = λ w. before ≡ counts_of w in
    let has : (List ℕ → Type 0) = λ w. after ≡ counts_of w in
    let to : World = record { held = held; readings = readings' } in
    let one : Piped usual.wire budget outcome (start (with_usual_wire limits) readings) to told left had has =
    subst (λ (w : WireLimits). Piped w budget outcome (start (record limits { wire = w }) readings) to told left had has) same piped in
    let two : Piped usual.wire budget outcome (start (with_usual_wire limits) readings) to (Some (script seed n)) left had has =
    subst (λ (o : Option (List ℕ)). Piped usual.wire budget outcome (start (with_usual_wire limits) readings) to o left had has) tells one in
    let three : Piped usual.wire budget outcome (start (with_usual_wire limits) (Some [])) to (Some (script seed n)) left had has =
    subst (λ (q : Option (List ℕ)). Piped usual.wire budget outcome (start (with_usual_wire limits) q) to (Some (script seed n)) left had has) none two in
    let ran : RanAll (with_usual_wire limits) (Some []) (script seed n) outcome.executed to had has =
    ran_all (with_usual_wire limits) (Some []) budget outcome to (script seed n) left had has three ended in
    let counted : after ≡ counts_of ran.text = ran.grown.each [] begun in
    record {
      text = ran.text;
      to = to;
      run = ran.run;
      are = same_six outcome.executed size total errors keys samples _ _ _ _ _ _ ran.executed_is is_size (is_total ∙ ap (λ (c : Counts). c.total) counted) (is_errors ∙ ap (λ (c : Counts). c.errors) counted)
          is_keys is_samples;
    }
