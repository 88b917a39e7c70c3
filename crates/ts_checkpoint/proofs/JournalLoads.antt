-- What a journal loads to, whatever its rest is, and what it loads to with more bytes.
use Rattle.std.proofs.Common.{◌≡◌, ℕ, ◌+◌, ◌≤◌, List, ◌++◌, length, take, inl, inr, refl, sym, ap, ◌∙◌, arith}
use Rattle.std.proofs.lemmas.List.{take_all, length-take, length-take-le}
use Rattle.ts_spec.specs.declared.limits.Limits.{Limits}
use Rattle.ts_spec.specs.declared.wire.WireLimits.{WireLimits}
use Rattle.ts_spec.specs.StreamPrefixes.{continued_by}
use Rattle.ts_spec.specs.State.{State, empty}
use Rattle.ts_spec.specs.Wire.{Stream, Ended, Start, stream_at, ending_of}
use Rattle.ts_spec.proofs.Concatenation.{concatenated}
use Rattle.ts_journal.specs.Limits.{journal_limits}
use Rattle.ts_journal.specs.Loading.{Load, Loads, load_on}
use Rattle.ts_journal.proofs.Rests.{rest-of, loads-alone}
use Rattle.ts_journal.proofs.Unfinished.{unfinished}
use Rattle.ts_checkpoint.specs.Loading.{load_start, load, LoadsTo}
use Rattle.ts_checkpoint.proofs.LoadStart.{BeginsWithout, starts-end, finished-starts, continued-starts}

-- its requests, whatever its rest is
abbrev pub requests_load : Limits → List ℕ → Load
requests_load limits bytes = load_start limits empty (length bytes) (stream_at (journal_limits limits.wire) 0 bytes)

pub requests-of : (limits : Limits) (bytes : List ℕ) (m : State) (place : ℕ) → load limits bytes ≡ Loads m place → requests_load limits bytes ≡ Loads m place
requests-of limits bytes m place e = (rest-of bytes (requests_load limits bytes) m place e).0

-- no more than all of its bytes are whole requests
pub requests-within : (limits : Limits) (bytes : List ℕ) (m : State) (place : ℕ) → requests_load limits bytes ≡ Loads m place → place ≤ length bytes
requests-within limits bytes m place e =
    let stream : Stream = stream_at (journal_limits limits.wire) 0 bytes in
    elim (starts-end limits empty (length bytes) stream m place e) [
      | inl ended ↦ omega (arith, ended.1)
      | inr inside ↦ (let u = unfinished (journal_limits limits.wire) 0 bytes place inside in omega (arith, u.its, u.fewer))
    ]

pub load-within : (limits : Limits) (bytes : List ℕ) (m : State) (place : ℕ) → load limits bytes ≡ Loads m place → place ≤ length bytes
load-within limits bytes m place e = requests-within limits bytes m place (requests-of limits bytes m place e)

-- the front of its whole requests
pub whole-on : (limits : Limits) (bytes : List ℕ) (m : State) (place : ℕ) → requests_load limits bytes ≡ Loads m place → load limits (take place bytes) ≡ Loads m place
whole-on limits bytes m place e =
    let within : WireLimits = journal_limits limits.wire in
    let stream : Stream = stream_at within 0 bytes in
    loads-alone (take place bytes) (requests_load limits (take place bytes)) m place (omega (arith, length-take place bytes))
    (elim (starts-end limits empty (length bytes) stream m place e) [
      | inl ended ↦ ap (requests_load limits) (take_all place bytes (omega (arith, ended.1))) ∙ e
      | inr inside ↦
          (let u = unfinished within 0 bytes place inside in
          let same : u.count ≡ place = omega (arith, u.its) in
          let few : place ≤ length bytes = omega (arith, u.its, u.fewer) in
          ap (λ size. load_start limits empty size (stream_at within 0 (take place bytes))) (length-take-le place bytes few)
          ∙ ap (load_start limits empty place) (ap (λ n. stream_at within 0 (take n bytes)) (sym same) ∙ u.front)
          ∙ finished-starts limits empty (length bytes) stream m place inside e)
    ])

pub whole-loads : (limits : Limits) (bytes : List ℕ) (m : State) (place : ℕ) → load limits bytes ≡ Loads m place → load limits (take place bytes) ≡ Loads m place
whole-loads limits bytes m place e = whole-on limits bytes m place (requests-of limits bytes m place e)

-- where all bytes are whole requests, it ends after the last one
pub loads-ended : (limits : Limits) (bytes : List ℕ) (m : State) → LoadsTo limits bytes m → ending_of (stream_at (journal_limits limits.wire) 0 bytes) ≡ Ended
loads-ended limits bytes m e =
    let stream : Stream = stream_at (journal_limits limits.wire) 0 bytes in
    elim (starts-end limits empty (length bytes) stream m (length bytes) (requests-of limits bytes m (length bytes) e)) [
      | inl ended ↦ ended.0
      | inr inside ↦ (let u = unfinished (journal_limits limits.wire) 0 bytes (length bytes) inside in absurd (omega (arith, u.its, u.fewer)))
    ]

-- a journal, and more after it
pub load-more : (limits : Limits) (bytes more : List ℕ) (m : State) → LoadsTo limits bytes m
    → BeginsWithout (stream_at (journal_limits limits.wire) (length bytes) more)
    → (last : ℕ) × (requests_load limits (bytes ++ more) ≡ load_on limits m last (length (bytes ++ more)) (stream_at (journal_limits limits.wire) (length bytes) more))
load-more limits bytes more m e without =
    let within : WireLimits = journal_limits limits.wire in
    let total = length (bytes ++ more) in
    let ended = loads-ended limits bytes m e in
    let there : 0 + length bytes ≡ length bytes = omega arith in
    let all = continued-starts limits empty (length bytes) total (stream_at within 0 bytes) (stream_at within (length bytes) more) m (length bytes) ended without (requests-of limits bytes m (length bytes) e) in (
      all.0,
      ap (load_start limits empty total)
          (concatenated within 0 0 Start bytes more refl ended ∙ ap (λ place. continued_by (stream_at within 0 bytes) (stream_at within place more)) there)
          ∙ all.1,
    )
