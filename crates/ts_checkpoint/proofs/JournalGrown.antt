-- A journal, followed by a record.
use Rattle.std.proofs.Common.{◌≡◌, ℕ, zero, suc, ◌+◌, ◌-◌, ◌^◌, ◌<◌, ◌≤◌, ◌⊎◌, inl, inr, true, List, [], ◌++◌, length, take, drop, refl, sym, ap, ◌∙◌, subst, append-nil, length-append, arith}
use Rattle.std.proofs.lemmas.List.{take-append-le}
use Rattle.std.proofs.Math.Seq.{drop-append_seam, take-append-add}
use Rattle.std.specs.Prelude.{Some, Ok, Err, Result, None}
use Rattle.ts_spec.specs.declared.limits.Limits.{Limits}
use Rattle.ts_spec.specs.declared.wire.WireLimits.{WireLimits}
use Rattle.ts_spec.specs.Command.{Command}
use Rattle.ts_spec.specs.Encoded.{encoded_request, Fits}
use Rattle.ts_spec.specs.Grammar.{command}
use Rattle.ts_spec.specs.Refusal.{Fault}
use Rattle.ts_spec.specs.StreamPrefixes.{IsWithin}
use Rattle.ts_spec.specs.State.{State}
use Rattle.ts_spec.specs.Text.{Reply}
use Rattle.ts_spec.specs.Wire.{Request, Inside, stream_at}
use Rattle.ts_journal.specs.Limits.{IsBounded, journal_limits}
use Rattle.ts_journal.specs.Loading.{Loads, apply_recorded_request, begins_as_record, continue_or_break, load_on}
use Rattle.ts_journal.specs.Record.{accepted, record_words, record_of}
use Rattle.ts_journal.specs.RecordReplay.{IsRecorded}
use Rattle.ts_journal.proofs.Almost.{torn-inside}
use Rattle.ts_journal.proofs.Fitting.{record-fits}
use Rattle.ts_journal.proofs.Grown.{record-apply_recorded, record-encoded, request-alone}
use Rattle.ts_journal.proofs.Replays.{some-words}
use Rattle.ts_journal.proofs.Rests.{by-rest, loads-alone, no-rest, rest-before, rest-among}
use Rattle.ts_checkpoint.specs.Loading.{parts_said, load, LoadsTo, HasOnlyRecords}
use Rattle.ts_checkpoint.specs.PartOf.{part_of}
use Rattle.ts_checkpoint.proofs.Heads.{command-no_head}
use Rattle.ts_checkpoint.proofs.JournalLoads.{requests_load, load-more}
use Rattle.ts_checkpoint.proofs.LoadStart.{BeginsWithout}

-- ---- a journal and its next record

pub record Grows (limits : Limits) (bytes : List ℕ) (old new : State) (more : List ℕ) : Type 0 where
  pub whole : LoadsTo limits (bytes ++ more) new
  pub torn : (n : ℕ) → n < length more → load limits (bytes ++ take n more) ≡ Loads old (length bytes)

-- a request that is applied is no head
applied-no_head : (limits : Limits) (m n : State) (request : Request) → apply_recorded_request limits m (command request) ≡ Some n → parts_said (part_of request) ≡ None
applied-no_head limits m n request e = go (command request) refl e
  where
    go : (said : Result Command Fault) → command request ≡ said → apply_recorded_request limits m said ≡ Some n → parts_said (part_of request) ≡ None
    go (Ok c) its e = command-no_head request c its
    go (Err fault) its e = absurd cc

pub grown : (limits : Limits) (bytes : List ℕ) (old new : State) (words : Request) → IsBounded limits.wire → LoadsTo limits bytes old → Fits (journal_limits limits.wire) words
    → apply_recorded_request limits old (command words) ≡ Some new → Grows limits bytes old new (encoded_request words)
grown limits bytes old new words b e fits does = record {
  whole =
      let request = request-alone within words (length bytes) few short fits in
      let without : BeginsWithout (stream_at within (length bytes) (encoded_request words)) = subst BeginsWithout (sym request.1) (applied-no_head limits old new words does) in
      let more = load-more limits bytes (encoded_request words) old e without in
      let all : List ℕ = bytes ++ encoded_request words in
      let total = length all in
      loads-alone all (requests_load limits all) new total (omega arith)
      (more.1
      ∙ ap (load_on limits old more.0 total) request.1
      ∙ ap (λ o. continue_or_break o more.0 (λ n. Loads n total)) does);
  torn = part;
}
  where
    within : WireLimits
    within = journal_limits limits.wire

    few : within.words < 2 ^ 64
    few = omega (arith, b.words, b.line_bytes)

    short : within.word_bytes < 2 ^ 64
    short = omega (arith, b.word_bytes, b.line_bytes)

    part : (n : ℕ) → n < length (encoded_request words) → load limits (bytes ++ take n (encoded_request words)) ≡ Loads old (length bytes)
    part zero less = ap (load limits) (append-nil bytes) ∙ e
    part (suc n) less =
        let front = take (suc n) (encoded_request words) in
        let inside : stream_at within (length bytes) front ≡ Inside (length bytes) = torn-inside within (length bytes) words (suc n) few short fits (omega arith) less in
        let more = load-more limits bytes front old e (subst BeginsWithout (sym inside) tt) in
        by-rest (bytes ++ front) (requests_load limits (bytes ++ front)) old (length bytes) true
        (more.1 ∙ ap (load_on limits old more.0 (length (bytes ++ front))) inside)
        (ap begins_as_record (drop-append_seam bytes front))

pub record-grown : (limits : Limits) (bytes : List ℕ) (reading : ℕ) (c : Command) (old new : State) (reply : Reply) → IsBounded limits.wire → LoadsTo limits bytes old
    → (r : IsRecorded limits reading c old reply new) → IsWithin limits.wire r.words → Grows limits bytes old new (record_of c reading reply)
record-grown limits bytes reading c old new reply b e r within =
    let words : Request = record_words reading (accepted c reply) in
    let fits : Fits (journal_limits limits.wire) words = record-fits limits.wire words (record {
      words = r.words;
      within = within;
      change = c;
      says = r.says;
      reading = reading;
      reply = reply;
      its = refl;
      some = some-words c reading reply r.some;
    }) in
    subst (Grows limits bytes old new) (sym (record-encoded c reading reply r.some))
    (grown limits bytes old new words b e fits (record-apply_recorded limits reading c old new reply r))

-- ---- a journal of records stays one

pub none-only : (limits : Limits) → HasOnlyRecords limits []
none-only limits place m e = no-rest [] place (omega arith)

below-or-not : (n m : ℕ) → (n < m) ⊎ (m ≤ n)
below-or-not n m = grind arith

module _ (limits : Limits) (bytes more : List ℕ) (old new : State) (grows : Grows limits bytes old new more) (begins : begins_as_record more ≡ true)
    (only : HasOnlyRecords limits bytes) (place : ℕ) (m : State) (e : load limits (take place (bytes ++ more)) ≡ Loads m place) where
  -- in the old journal
  before : place < length bytes → begins_as_record (drop place (bytes ++ more)) ≡ true
  before less =
      rest-before bytes more place less
      ∙ only place m (ap (load limits) (sym (take-append-le place bytes more (omega (arith, less)))) ∙ e)

  -- at its end, or inside the record, where no whole request ends
  at-end : length bytes ≤ place → place < length (bytes ++ more) → length bytes + length more ≡ length (bytes ++ more) → begins_as_record (drop place (bytes ++ more)) ≡ true
  at-end past less sum =
      let k : ℕ = place - length bytes in
      let there : place ≡ length bytes + k = omega (arith, past) in
      let part : take place (bytes ++ more) ≡ bytes ++ take k more = ap (λ (n : ℕ). take n (bytes ++ more)) there ∙ take-append-add bytes more k in
      let torn : Loads old (length bytes) ≡ Loads m place = sym (grows.torn k (omega (arith, past, less, sum))) ∙ ap (load limits) (sym part) ∙ e in
      let same : length bytes ≡ place = cc in
      let none : k ≡ 0 = omega (arith, same) in
      rest-among bytes more place past ∙ ap (λ (n : ℕ). begins_as_record (drop n more)) none ∙ begins

  grown-at : begins_as_record (drop place (bytes ++ more)) ≡ true
  grown-at = elim (below-or-not place (length bytes)) [
    | inl less ↦ before less
    | inr past ↦ elim (below-or-not place (length (bytes ++ more))) [
      | inl less ↦ at-end past less (sym (length-append bytes more))
      | inr all ↦ no-rest (bytes ++ more) place all
    ]
  ]

pub grown-only : (limits : Limits) (bytes more : List ℕ) (old new : State) → Grows limits bytes old new more → begins_as_record more ≡ true
    → HasOnlyRecords limits bytes → HasOnlyRecords limits (bytes ++ more)
grown-only limits bytes more old new grows begins only place m e = grown-at limits bytes more old new grows begins only place m e
