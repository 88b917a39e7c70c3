-- The prefixes of a journal that loads.
use Rattle.std.proofs.Common.{◌≡◌, ℕ, ◌-◌, ◌<◌, ◌≤◌, ◌⊎◌, true, List, length, take, drop, inl, inr, refl, sym, ap, ◌∙◌, subst, take-append-drop, arith}
use Rattle.std.proofs.lemmas.List.{take_all, take-take, drop-take, length-take, length-take-le}
use Rattle.ts_spec.specs.declared.limits.Limits.{Limits}
use Rattle.ts_spec.specs.declared.wire.WireLimits.{WireLimits}
use Rattle.ts_spec.specs.State.{State, empty}
use Rattle.ts_spec.specs.Wire.{Start, stream_at}
use Rattle.ts_journal.specs.Limits.{journal_limits}
use Rattle.ts_journal.specs.Loading.{Loads, BreaksAt, begins_as_record, unless_foreign}
use Rattle.ts_journal.proofs.FrontsLoad.{front-begins}
use Rattle.ts_journal.proofs.Rests.{by-rest}
use Rattle.ts_checkpoint.specs.Loading.{load, HasOnlyRecords}
use Rattle.ts_checkpoint.specs.Fronts.{checkpoint_size, FrontLoadsTo, FrontLoads}
use Rattle.ts_checkpoint.proofs.Offsets.{IsFrontAt, offsets, front-at}
use Rattle.ts_checkpoint.proofs.LoadStart.{FrontStarts, front-starts}
use Rattle.ts_checkpoint.proofs.JournalLoads.{requests_load, requests-of, requests-within, whole-on}

below-or-not : (n m : ℕ) → (n < m) ⊎ (m ≤ n)
below-or-not n m = grind arith

module _ (limits : Limits) (bytes : List ℕ) (m : State) (place : ℕ) (e : load limits bytes ≡ Loads m place) (n : ℕ) where
  abbrev within : WireLimits
  within = journal_limits limits.wire

  abbrev part : List ℕ
  part = take n bytes

  -- the stream of the prefix
  front : (size : ℕ) → length part ≡ size → IsFrontAt size (stream_at within 0 part) (stream_at within 0 bytes)
  front size same =
      subst (λ (all : List ℕ). IsFrontAt size (stream_at within 0 part) (stream_at within 0 all)) (take-append-drop n bytes)
      (front-at within 0 0 size Start part (drop n bytes) (omega (arith, same)))

  pub front-outcome : FrontStarts limits empty (length part) (length part) (stream_at within 0 part) (stream_at within 0 bytes)
  front-outcome =
      front-starts limits empty (length part) (length bytes) (length part) (stream_at within 0 part) (stream_at within 0 bytes) m place (front (length part) refl)
      (offsets within 0 0 Start bytes) (requests-of limits bytes m place e)

  -- it loads
  pub front-loads_to : (mid : State) (at : ℕ) → requests_load limits part ≡ Loads mid at → FrontLoadsTo limits bytes n
  front-loads_to mid at its =
      let few : at ≤ n = omega (arith, requests-within limits part mid at its, length-take n bytes) in record {
        state = mid;
        place = at;
        within = few;
        whole = ap (load limits) (sym (take-take at n bytes few)) ∙ whole-on limits part mid at its;
        loads = ap (unless_foreign part) its;
      }

  -- it breaks, so it is less than the checkpoint
  breaks-within : (at : ℕ) → requests_load limits part ≡ BreaksAt at → length part < checkpoint_size limits bytes → n < checkpoint_size limits bytes
  breaks-within at its less = go (below-or-not n (length bytes))
    where
      go : (n < length bytes) ⊎ (length bytes ≤ n) → n < checkpoint_size limits bytes
      go (inl below) = omega (arith, less, length-take-le n bytes (omega (arith, below)))
      go (inr beyond) =
          let same : requests_load limits part ≡ requests_load limits bytes = ap (requests_load limits) (take_all n bytes beyond) in
          let broken : BreaksAt at ≡ Loads m place = sym its ∙ same ∙ requests-of limits bytes m place e in
          absurd cc

  pub fronts-load : FrontLoads limits bytes n
  fronts-load = elim front-outcome [
    | FrontStarts.loads mid at its ↦ inl (front-loads_to mid at its)
    | FrontStarts.breaks at its less ↦ inr (record { within = breaks-within at its less; place = at; breaks = ap (unless_foreign part) its })
  ]

  -- behind the checkpoint, each prefix of a journal that has only records loads
  pub records-load : HasOnlyRecords limits bytes → checkpoint_size limits bytes ≤ n → (state : State) × (at : ℕ) × (load limits (take n bytes) ≡ Loads state at)
  records-load only past = go fronts-load
    where
      loads : (front : FrontLoadsTo limits bytes n) → (state : State) × (at : ℕ) × (load limits (take n bytes) ≡ Loads state at)
      loads front =
          let at : ℕ = front.place in
          let shorter : drop at (take n bytes) ≡ take (n - at) (drop at bytes) =
          ap (λ (k : ℕ). drop at (take k bytes)) (omega (arith, front.within)) ∙ drop-take at (n - at) bytes in (
            front.state,
            at,
            front.loads
                ∙ by-rest (take n bytes) (Loads front.state at) front.state at true refl
                (ap begins_as_record shorter ∙ front-begins (n - at) (drop at bytes) (only at front.state front.whole)),
          )

      go : FrontLoads limits bytes n → (state : State) × (at : ℕ) × (load limits (take n bytes) ≡ Loads state at)
      go (inl front) = loads front
      go (inr broken) = absurd (omega (arith, broken.within, past))
