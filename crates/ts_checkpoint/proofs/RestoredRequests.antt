-- The requests of a checkpoint load.
use Rattle.std.proofs.Common.{◌≡◌, ℕ, zero, suc, ◌+◌, ◌-◌, ◌^◌, ◌<◌, ◌≤◌, ◌⊎◌, inl, inr, true, List, [], ◌∷◌, ◌++◌, length, take, drop, map, Option, Some, None, refl, sym, ap, ◌∙◌, subst, arith}
use Rattle.std.proofs.lemmas.List.{take-append-le, drop_all, length-take-le}
use Rattle.std.proofs.Math.Seq.{take-append-add, drop-append-add}
use Rattle.std.specs.Prelude.{⊤, All}
use Rattle.ts_spec.specs.declared.limits.Limits.{Limits}
use Rattle.ts_spec.specs.declared.wire.WireLimits.{WireLimits}
use Rattle.ts_spec.specs.Encoded.{encoded_request, encoded, Fits}
use Rattle.ts_spec.specs.State.{State, empty}
use Rattle.ts_spec.specs.StreamPrefixes.{continued_by}
use Rattle.ts_spec.specs.Wire.{Request, Stream, Then, Ended, Inside, Broken, Start, stream_at, requests_of, ending_of}
use Rattle.ts_spec.proofs.Concatenation.{concatenated}
use Rattle.ts_spec.proofs.ReadBack.{requests-encoded}
use Rattle.ts_journal.specs.Limits.{IsBounded, journal_limits}
use Rattle.ts_journal.specs.Loading.{Loads, begins_as_record}
use Rattle.ts_journal.proofs.Almost.{torn-inside}
use Rattle.ts_journal.proofs.Grown.{request-alone}
use Rattle.ts_journal.proofs.Rests.{loads-alone}
use Rattle.ts_checkpoint.specs.Loading.{Restoring, restoring, restore_part, restore_request, load_behind, restore_on, parts_said, load_first, load_start, load, LoadsTo, HasOnlyRecords}
use Rattle.ts_checkpoint.specs.Parts.{Part, Head}
use Rattle.ts_checkpoint.specs.PartOf.{part_of}
use Rattle.ts_checkpoint.specs.PartWords.{part_words}
use Rattle.ts_checkpoint.proofs.JournalLoads.{requests_load, loads-ended}
use Rattle.ts_checkpoint.proofs.RestoreOn.{next-parts}
use Rattle.ts_checkpoint.proofs.RestoredParts.{restore_next, restore_all}

-- ---- requests that restore

-- the words of these parts read back
abbrev pub AreRead : List Part → Type 0
AreRead [] = ⊤
AreRead (p ∷ ps) = (part_of (part_words p) ≡ Some p) × AreRead ps

pub parts-load : (limits : Limits) (r : Restoring) (ps : List Part) (place size : ℕ) (stream : Stream) (m : State) → AreRead ps
    → requests_of stream ≡ map part_words ps → ending_of stream ≡ Ended → restore_all limits r ps ≡ Some (restoring m)
    → restore_on limits r (length ps) place size stream ≡ Loads m size
parts-load limits r [] place size (Then request after rest) m read said ended e = absurd cc
parts-load limits r [] place size Ended m read said ended e =
    let same : r ≡ restoring m = cc in
    ap (λ (r : Restoring). load_behind limits r.current r.state place size Ended) same
parts-load limits r [] place size (Inside begin) m read said ended e = absurd cc
parts-load limits r [] place size (Broken kind at) m read said ended e = absurd cc
parts-load limits r (p ∷ ps) place size (Then request after rest) m read said ended e =
    let its : request ≡ part_words p = cc in
    let others : requests_of rest ≡ map part_words ps = cc in
    let taken : restore_request limits r (part_of request) ≡ restore_part limits r p = ap (λ q. restore_request limits r (part_of q)) its ∙ ap (restore_request limits r) read.0 in
    go taken (restore_part limits r p) refl (λ mid e. parts-load limits mid ps after size rest m read.1 others ended e) e
  where
    go : restore_request limits r (part_of request) ≡ restore_part limits r p → (o : Option Restoring) → restore_part limits r p ≡ o
        → ((mid : Restoring) → restore_all limits mid ps ≡ Some (restoring m) → restore_on limits mid (length ps) after size rest ≡ Loads m size)
        → restore_next o (λ n. restore_all limits n ps) ≡ Some (restoring m)
        → restore_on limits r (length (p ∷ ps)) place size (Then request after rest) ≡ Loads m size
    go taken None its more e = absurd cc
    go taken (Some mid) its more e = next-parts limits r (length ps) place size request after rest mid (taken ∙ its) ∙ more mid e
parts-load limits r (p ∷ ps) place size Ended m read said ended e = absurd cc
parts-load limits r (p ∷ ps) place size (Inside begin) m read said ended e = absurd cc
parts-load limits r (p ∷ ps) place size (Broken kind at) m read said ended e = absurd cc

-- behind a head
head-load : (limits : Limits) (ps : List Part) (size : ℕ) (stream : Stream) (m : State) → AreRead (Head (length ps) ∷ ps)
    → requests_of stream ≡ map part_words (Head (length ps) ∷ ps) → ending_of stream ≡ Ended → restore_all limits (restoring empty) ps ≡ Some (restoring m)
    → load_start limits empty size stream ≡ Loads m size
head-load limits ps size (Then request after rest) m read said ended e =
    let its : request ≡ part_words (Head (length ps)) = cc in
    let others : requests_of rest ≡ map part_words ps = cc in
    ap (λ o. load_first limits empty o size request after rest) (ap (λ q. parts_said (part_of q)) its ∙ ap parts_said read.0)
    ∙ parts-load limits (restoring empty) ps after size rest m read.1 others ended e
head-load limits ps size Ended m read said ended e = absurd cc
head-load limits ps size (Inside begin) m read said ended e = absurd cc
head-load limits ps size (Broken kind at) m read said ended e = absurd cc

module _ (limits : Limits) (b : IsBounded limits.wire) where
  abbrev within : WireLimits
  within = journal_limits limits.wire

  few : within.words < 2 ^ 64
  few = omega (arith, b.words, b.line_bytes)

  short : within.word_bytes < 2 ^ 64
  short = omega (arith, b.word_bytes, b.line_bytes)

  pub requests-restore : (ps : List Part) (m : State) → AreRead (Head (length ps) ∷ ps) → All (Fits within) (map part_words (Head (length ps) ∷ ps))
      → restore_all limits (restoring empty) ps ≡ Some (restoring m) → LoadsTo limits (encoded (map part_words (Head (length ps) ∷ ps))) m
  requests-restore ps m read fits e =
      let requests : List Request = map part_words (Head (length ps) ∷ ps) in
      let bytes : List ℕ = encoded requests in
      let stream = requests-encoded within requests 0 few short fits in
      loads-alone bytes (requests_load limits bytes) m (length bytes) (omega arith)
      (head-load limits ps (length bytes) (stream_at within 0 bytes) m read stream.0 stream.1 e)

  -- ---- wherever a request ends, the next one begins

  begins-encoded : (requests : List Request) → begins_as_record (encoded requests) ≡ true
  begins-encoded [] = refl
  begins-encoded (request ∷ requests) = refl

  below-or-not : (n m : ℕ) → (n < m) ⊎ (m ≤ n)
  below-or-not n m = grind arith

  module _ (request : Request) (fits : Fits within request) (requests : List Request) (place at : ℕ)
      (more : (at : ℕ) → ending_of (stream_at within at (take (place - length (encoded_request request)) (encoded requests))) ≡ Ended
      → begins_as_record (drop (place - length (encoded_request request)) (encoded requests)) ≡ true) where
    abbrev first : List ℕ
    first = encoded_request request

    -- inside the first request
    inside-first : (n : ℕ) → n ≡ place → place < length first → ending_of (stream_at within at (take place (first ++ encoded requests))) ≡ Ended
        → begins_as_record (drop place (first ++ encoded requests)) ≡ true
    inside-first zero same less e = ap (λ (n : ℕ). begins_as_record (drop n (first ++ encoded requests))) (sym same)
    inside-first (suc n) same less e =
        let front : take place (first ++ encoded requests) ≡ take place first = take-append-le place first (encoded requests) (omega (arith, less)) in
        let inside : stream_at within at (take place first) ≡ Inside at = torn-inside within at request place few short fits (omega (arith, same)) less in
        let ended : Inside at ≡ Ended = ap ending_of (sym inside ∙ ap (stream_at within at) (sym front)) ∙ e in
        absurd cc

    -- behind it
    behind-first : length first ≤ place → ending_of (stream_at within at (take place (first ++ encoded requests))) ≡ Ended
        → begins_as_record (drop place (first ++ encoded requests)) ≡ true
    behind-first past e =
        let k : ℕ = place - length first in
        let there : place ≡ length first + k = omega (arith, past) in
        let alone = request-alone within request at few short fits in
        let part : take place (first ++ encoded requests) ≡ first ++ take k (encoded requests) =
        ap (λ (n : ℕ). take n (first ++ encoded requests)) there ∙ take-append-add first (encoded requests) k in
        let rest : List ℕ = take k (encoded requests) in
        let on : ℕ = at + length first in
        let split : stream_at within at (first ++ rest) ≡ Then request alone.0 (stream_at within on rest) =
        concatenated within at at Start first rest refl (ap ending_of alone.1) ∙ ap (λ (s : Stream). continued_by s (stream_at within on rest)) alone.1 in
        let ended : ending_of (stream_at within on rest) ≡ Ended = ap ending_of (sym split ∙ ap (stream_at within at) (sym part)) ∙ e in
        ap (λ (n : ℕ). begins_as_record (drop n (first ++ encoded requests))) there
        ∙ ap begins_as_record (drop-append-add first (encoded requests) k)
        ∙ more on ended

    request-begins : ending_of (stream_at within at (take place (first ++ encoded requests))) ≡ Ended → begins_as_record (drop place (first ++ encoded requests)) ≡ true
    request-begins e = elim (below-or-not place (length first)) [ inl less ↦ inside-first place refl less e | inr past ↦ behind-first past e ]

  ended-begins : (requests : List Request) → All (Fits within) requests → (place at : ℕ) → ending_of (stream_at within at (take place (encoded requests))) ≡ Ended
      → begins_as_record (drop place (encoded requests)) ≡ true
  ended-begins [] fits place at e = ap begins_as_record (drop_all place [] (omega arith))
  ended-begins (request ∷ requests) fits place at e =
      request-begins request (fits 0 request (omega arith)) requests place at
      (λ at e. ended-begins requests (λ k d h. fits (suc k) d (omega (arith, h))) (place - length (encoded_request request)) at e) e

  pub requests-only : (requests : List Request) → All (Fits within) requests → HasOnlyRecords limits (encoded requests)
  requests-only requests fits place m e = go (below-or-not place (length (encoded requests)))
    where
      go : (place < length (encoded requests)) ⊎ (length (encoded requests) ≤ place) → begins_as_record (drop place (encoded requests)) ≡ true
      go (inl less) =
          let part : List ℕ = take place (encoded requests) in
          let whole : LoadsTo limits part m = subst (λ (n : ℕ). load limits part ≡ Loads m n) (sym (length-take-le place (encoded requests) (omega (arith, less)))) e in
          ended-begins requests fits place 0 (loads-ended limits part m whole)
      go (inr past) = ap begins_as_record (drop_all place (encoded requests) past)
