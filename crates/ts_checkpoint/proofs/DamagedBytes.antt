-- A journal with one changed byte in its checkpoint breaks there, or before.
use Rattle.std.proofs.Common.{◌≡◌, ◌≢◌, ℕ, suc, ◌+◌, ◌^◌, ◌<◌, ◌≤◌, List, [], ◌∷◌, ◌++◌, length, sum_by, refl, sym, ap, ◌∙◌, subst, append_assoc, arith}
use Rattle.std.proofs.lemmas.List.Elements.{All-nil, All-cons, All-head, All-tail}
use Rattle.std.proofs.lemmas.List.Sums.{sum_by-cons}
use Rattle.std.specs.Prelude.{⊤, All}
use Rattle.ts_spec.specs.declared.limits.Limits.{Limits}
use Rattle.ts_spec.specs.declared.wire.WireLimits.{WireLimits}
use Rattle.ts_spec.specs.Encoded.{encoded_request, encoded, Fits}
use Rattle.ts_spec.specs.State.{State, empty}
use Rattle.ts_spec.specs.StreamPrefixes.{continued_by}
use Rattle.ts_spec.specs.Wire.{Request, Stream, Then, Ended, Start, stream_at, ending_of}
use Rattle.ts_spec.proofs.Concatenation.{concatenated}
use Rattle.ts_spec.proofs.ReadBack.{requests-encoded}
use Rattle.ts_journal.specs.Limits.{IsBounded, journal_limits}
use Rattle.ts_journal.specs.Loading.{Loads, BreaksAt, unless_foreign}
use Rattle.ts_journal.proofs.Grown.{request-alone}
use Rattle.ts_checkpoint.specs.Damage.{DiffersInByte}
use Rattle.ts_checkpoint.specs.Fronts.{front_size, checkpoint_size}
use Rattle.ts_checkpoint.specs.Loading.{load_start, load}
use Rattle.ts_checkpoint.proofs.CheckpointSize.{behind}
use Rattle.ts_checkpoint.proofs.DamagedRecords.{same-size, start-breaks}
use Rattle.ts_checkpoint.proofs.JournalLoads.{requests-of}

-- each word is as long as the other
abbrev AreSameLengths : Request → Request → Type 0
AreSameLengths [] [] = ⊤
AreSameLengths (v ∷ vs) (w ∷ ws) = (length v ≡ length w) × AreSameLengths vs ws
AreSameLengths vs ws = ⊥

same-itself : (words : Request) → AreSameLengths words words
same-itself [] = tt
same-itself (word ∷ words) = (refl, same-itself words)

same-lengths : (before after : Request) (v w : List ℕ) → length v ≡ length w → AreSameLengths (before ++ v ∷ after) (before ++ w ∷ after)
same-lengths [] after v w same = (same, same-itself after)
same-lengths (word ∷ before) after v w same = (refl, same-lengths before after v w same)

-- what the limits say of words
record AreFine (most : ℕ) (words : Request) (many size : ℕ) : Type 0 where
  count : length words ≡ many
  total : sum_by length words ≡ size
  each : All (λ word. length word ≤ most) words

fine-both : (most : ℕ) (vs ws : Request) → AreSameLengths vs ws → All (λ word. length word ≤ most) vs → AreFine most ws (length vs) (sum_by length vs)
fine-both most [] [] h each = record { count = refl; total = refl; each = each }
fine-both most [] (w ∷ ws) h each = absurd h
fine-both most (v ∷ vs) [] h each = absurd h
fine-both most (v ∷ vs) (w ∷ ws) h each =
    let short : (List ℕ → Type 0) = λ word. length word ≤ most in
    let rest = fine-both most vs ws h.1 (All-tail short v vs each) in record {
      count = ap suc rest.count;
      total = omega (arith, h.0, rest.total, sum_by-cons length v vs, sum_by-cons length w ws);
      each = All-cons short w ws (omega (arith, h.0, All-head short v vs each)) rest.each;
    }

some-still : (vs ws : Request) → AreSameLengths vs ws → vs ≢ [] → ws ≢ []
some-still [] ws h some = absurd (some refl)
some-still (v ∷ vs) [] h some = absurd h
some-still (v ∷ vs) (w ∷ ws) h some = λ e. cc

fits-still : (limits : WireLimits) (one other : Request) → DiffersInByte one other → Fits limits one → Fits limits other
fits-still limits one other d fits =
    let same : AreSameLengths one other =
    subst (λ (q : Request). AreSameLengths q other) (sym d.one_is)
    (subst (AreSameLengths (d.before ++ (d.front ++ d.old ∷ d.back) ∷ d.after)) (sym d.other_is)
    (same-lengths d.before d.after (d.front ++ d.old ∷ d.back) (d.front ++ d.new ∷ d.back) (same-size d.front d.back d.old d.new))) in
    let fine = fine-both limits.word_bytes one other same fits.each in record {
      some = some-still one other same fits.some;
      words = omega (arith, fits.words, fine.count);
      each = fine.each;
      together = omega (arith, fits.together, fine.total);
    }

encoded-append : (before after : List Request) → encoded (before ++ after) ≡ encoded before ++ encoded after
encoded-append [] after = refl
encoded-append (request ∷ before) after = ap (λ (l : List ℕ). encoded_request request ++ l) (encoded-append before after) ∙ sym (append_assoc (encoded_request request) (encoded before) (encoded after))

module _ (limits : Limits) (b : IsBounded limits.wire) (before after : List Request) where
  abbrev within : WireLimits
  within = journal_limits limits.wire

  few : within.words < 2 ^ 64
  few = omega (arith, b.words, b.line_bytes)

  short : within.word_bytes < 2 ^ 64
  short = omega (arith, b.word_bytes, b.line_bytes)

  abbrev stream : Stream
  stream = stream_at within 0 (encoded before)

  abbrev size : ℕ
  size = length (encoded before)

  -- the stream of all requests, with this one among them
  pub record IsAmong (request : Request) : Type 0 where
    pub next : ℕ
    pub rest : Stream
    pub its : stream_at within 0 (encoded (before ++ request ∷ after)) ≡ continued_by stream (Then request next rest)

  among : (request : Request) → Fits within request → ending_of stream ≡ Ended → IsAmong request
  among request fits ended =
      let first : List ℕ = encoded_request request in
      let alone = request-alone within request size few short fits in
      let rest : Stream = stream_at within (size + length first) (encoded after) in
      let there : 0 + size ≡ size = omega arith in
      record {
        next = alone.0;
        rest = rest;
        its =
            ap (stream_at within 0) (encoded-append before (request ∷ after))
            ∙ concatenated within 0 0 Start (encoded before) (first ++ encoded after) refl ended
            ∙ ap (λ (n : ℕ). continued_by stream (stream_at within n (first ++ encoded after))) there
            ∙ ap (continued_by stream) (concatenated within size size Start first (encoded after) refl (ap ending_of alone.1) ∙ ap (λ (s : Stream). continued_by s rest) alone.1);
      }

  first-fits : (before : List Request) (request : Request) → All (Fits within) (before ++ request ∷ after) → All (Fits within) before
  first-fits [] request fits = All-nil (Fits within)
  first-fits (q ∷ before) request fits =
      All-cons (Fits within) q before (All-head (Fits within) q (before ++ request ∷ after) fits) (first-fits before request (All-tail (Fits within) q (before ++ request ∷ after) fits))

  its-fits : (before : List Request) (request : Request) → All (Fits within) (before ++ request ∷ after) → Fits within request
  its-fits [] request fits = All-head (Fits within) request after fits
  its-fits (q ∷ before) request fits = its-fits before request (All-tail (Fits within) q (before ++ request ∷ after) fits)

  pub damaged-breaks : (one other : Request) → DiffersInByte one other → All (Fits within) (before ++ one ∷ after) → (m : State) (place : ℕ)
      → load limits (encoded (before ++ one ∷ after)) ≡ Loads m place → size < checkpoint_size limits (encoded (before ++ one ∷ after))
      → (at : ℕ) × (at ≤ size) × (load limits (encoded (before ++ other ∷ after)) ≡ BreaksAt at)
  damaged-breaks one other d fits m place e less =
      let fine = its-fits before one fits in
      let ended : ending_of stream ≡ Ended = (requests-encoded within before 0 few short (first-fits before one fits)).1 in
      let was = among one fine ended in
      let is = among other (fits-still within one other d fine) ended in
      let total : ℕ = length (encoded (before ++ one ∷ after)) in
      let total' : ℕ = length (encoded (before ++ other ∷ after)) in
      let found = start-breaks limits one other d was.next is.next total total' size was.rest is.rest m place empty stream
      (behind within 0 0 size Start (encoded before) (omega arith) (omega arith)) ended (subst (λ (s : Stream). size < front_size s) was.its less)
      (ap (load_start limits empty total) (sym was.its) ∙ requests-of limits (encoded (before ++ one ∷ after)) m place e) in
      (found.0, found.1, ap (unless_foreign (encoded (before ++ other ∷ after))) (ap (load_start limits empty total') is.its ∙ found.2))
