-- A checkpoint with a record of which one byte was changed breaks there, or before.
use Rattle.std.proofs.Common.{◌≡◌, ℕ, zero, suc, ◌<◌, ◌≤◌, List, [], ◌∷◌, ◌++◌, length, refl, sym, ap, ◌∙◌, length-append, arith}
use Rattle.std.specs.Prelude.{Option, Some, None, Result, Ok, Err}
use Rattle.ts_spec.specs.declared.limits.Limits.{Limits}
use Rattle.ts_spec.specs.Command.{Command}
use Rattle.ts_spec.specs.Grammar.{command}
use Rattle.ts_spec.specs.Refusal.{Fault}
use Rattle.ts_spec.specs.State.{State}
use Rattle.ts_spec.specs.StreamPrefixes.{continued_by}
use Rattle.ts_spec.specs.Wire.{Request, Stream, Then, Ended, Inside, Broken, ending_of}
use Rattle.ts_journal.specs.Loading.{Loads, BreaksAt, apply_recorded_request, continue_or_break, load_on}
use Rattle.ts_checkpoint.specs.Damage.{DiffersInByte}
use Rattle.ts_checkpoint.specs.Fronts.{offset_behind, size_behind, front_size}
use Rattle.ts_checkpoint.specs.Loading.{Restoring, restoring, restore_request, restore_or_break, restore_on, parts_said, load_first, load_start}
use Rattle.ts_checkpoint.specs.Parts.{Part}
use Rattle.ts_checkpoint.specs.PartOf.{part_of}
use Rattle.ts_checkpoint.proofs.ChangedBytes.{changed-refused}
use Rattle.ts_checkpoint.proofs.CheckpointSize.{IsBehind}
use Rattle.ts_checkpoint.proofs.Heads.{head-named, unknown-command}
use Rattle.ts_checkpoint.proofs.RestoreOn.{parts-next, next-parts}

-- ---- the record

-- a part is no part with a changed byte
refused : (one other : Request) → DiffersInByte one other → (p : Part) → part_of one ≡ Some p → part_of other ≡ None
refused one other d p e =
    ap part_of d.other_is
    ∙ changed-refused d.before d.after d.front d.back d.old d.new p d.old_byte d.new_byte d.differ (ap part_of (sym d.one_is) ∙ e)

-- a head is no command with a changed byte
no-command : (one other : Request) (before after : Request) (word changed : List ℕ) (n : ℕ) → one ≡ before ++ word ∷ after → other ≡ before ++ changed ∷ after
    → length word ≡ length changed → parts_said (part_of one) ≡ Some n → (c : Command) → command other ≡ Ok c → ⊥
no-command one other [] after word changed n e f same head c said =
    let name = head-named word after n (ap (λ (q : Request). parts_said (part_of q)) (sym e) ∙ head) in
    let fault = unknown-command changed after (sym same ∙ ap length name) in
    let wrong = sym fault ∙ ap command (sym f) ∙ said in
    absurd cc
no-command one other (first ∷ before) after word changed n e f same head c said =
    let name = head-named first (before ++ word ∷ after) n (ap (λ (q : Request). parts_said (part_of q)) (sym e) ∙ head) in
    let fault = unknown-command first (before ++ changed ∷ after) (ap length name) in
    let wrong = sym fault ∙ ap command (sym f) ∙ said in
    absurd cc

pub same-size : (front back : List ℕ) (a b : ℕ) → length (front ++ a ∷ back) ≡ length (front ++ b ∷ back)
same-size front back a b = omega (arith, length-append front (a ∷ back), length-append front (b ∷ back))

differs-no_command : (one other : Request) → DiffersInByte one other → (n : ℕ) → parts_said (part_of one) ≡ Some n → (c : Command) → command other ≡ Ok c → ⊥
differs-no_command one other d n head c said =
    no-command one other d.before d.after (d.front ++ d.old ∷ d.back) (d.front ++ d.new ∷ d.back) n d.one_is d.other_is (same-size d.front d.back d.old d.new) head c said

-- ---- behind the requests before it

-- the first requests end up to this offset
behind-low : (low size : ℕ) (stream : Stream) → IsBehind low size stream → ending_of stream ≡ Ended → low ≤ size
behind-low low size (Then request after rest) h e = omega (arith, h.0, behind-low after size rest h.1 e)
behind-low low size Ended h e = h
behind-low low size (Inside begin) h e = absurd cc
behind-low low size (Broken kind at) h e = absurd cc

module _ (limits : Limits) (one other : Request) (d : DiffersInByte one other) (after after' total total' most : ℕ) (rest rest' : Stream) (n : State) (place : ℕ) where
  abbrev with_one : Stream → Stream
  with_one stream = continued_by stream (Then one after rest)

  abbrev with_other : Stream → Stream
  with_other stream = continued_by stream (Then other after' rest')

  restore-refused : (r mid : Restoring) → restore_request limits r (part_of one) ≡ Some mid → restore_request limits r (part_of other) ≡ None
  restore-refused r mid e = go (part_of one) refl e
    where
      go : (o : Option Part) → part_of one ≡ o → restore_request limits r o ≡ Some mid → restore_request limits r (part_of other) ≡ None
      go None its e = absurd cc
      go (Some p) its e = ap (restore_request limits r) (refused one other d p its)

  pub restore-breaks : (r : Restoring) (left before : ℕ) (stream : Stream) → IsBehind before most stream → ending_of stream ≡ Ended
      → most < offset_behind left before (with_one stream) → restore_on limits r left before total (with_one stream) ≡ Loads n place
      → (at : ℕ) × (at ≤ most) × (restore_on limits r left before total' (with_other stream) ≡ BreaksAt at)
  restore-breaks r zero before stream h ended less e = absurd (omega (arith, less, behind-low before most stream h ended))
  restore-breaks r (suc left) before (Then request next others) h ended less e =
      let step = parts-next limits r left before total request next (with_one others) n place e in
      let more = restore-breaks step.mid left next others h.1 ended less step.on in
      (more.0, more.1, next-parts limits r left before total' request next (with_other others) step.mid step.does ∙ more.2)
  restore-breaks r (suc left) before Ended h ended less e =
      let step = parts-next limits r left before total one after rest n place e in (
        before,
        h,
        ap (λ o. restore_or_break o before (λ n. restore_on limits n left after' total' rest')) (restore-refused r step.mid step.does),
      )
  restore-breaks r (suc left) before (Inside begin) h ended less e = absurd cc
  restore-breaks r (suc left) before (Broken kind at) h ended less e = absurd cc

  -- at the start of a journal
  first-breaks : (m : State) (left : Option ℕ) (request : Request) (next : ℕ) (others : Stream) → IsBehind next most others → ending_of others ≡ Ended
      → most < size_behind left next (with_one others) → load_first limits m left total request next (with_one others) ≡ Loads n place
      → (at : ℕ) × (at ≤ most) × (load_first limits m left total' request next (with_other others) ≡ BreaksAt at)
  first-breaks m None request next others h ended less e = absurd (omega (arith, less))
  first-breaks m (Some left) request next others h ended less e = restore-breaks (restoring m) left next others h ended less e

  applied-none : (k : ℕ) → parts_said (part_of one) ≡ Some k → (m : State) (said : Result Command Fault) → command other ≡ said → apply_recorded_request limits m said ≡ None
  applied-none k head m (Ok c) its = absurd (differs-no_command one other d k head c its)
  applied-none k head m (Err fault) its = refl

  head-breaks : (m : State) (o : Option ℕ) → parts_said (part_of one) ≡ o → most < size_behind o after rest
      → load_start limits m total' (Then other after' rest') ≡ BreaksAt 0
  head-breaks m None its less = absurd (omega (arith, less))
  head-breaks m (Some k) its less = go (part_of one) refl its
    where
      go : (o : Option Part) → part_of one ≡ o → parts_said o ≡ Some k → load_start limits m total' (Then other after' rest') ≡ BreaksAt 0
      go None is e = absurd cc
      go (Some p) is e =
          ap (λ o. load_first limits m (parts_said o) total' other after' rest') (refused one other d p is)
          ∙ ap (λ o. continue_or_break o 0 (λ n. load_on limits n after' total' rest')) (applied-none k its m (command other) refl)

  pub start-breaks : (m : State) (stream : Stream) → IsBehind 0 most stream → ending_of stream ≡ Ended → most < front_size (with_one stream)
      → load_start limits m total (with_one stream) ≡ Loads n place
      → (at : ℕ) × (at ≤ most) × (load_start limits m total' (with_other stream) ≡ BreaksAt at)
  start-breaks m (Then request next others) h ended less e = first-breaks m (parts_said (part_of request)) request next others h.1 ended less e
  start-breaks m Ended h ended less e = (0, omega arith, head-breaks m (parts_said (part_of one)) refl less)
  start-breaks m (Inside begin) h ended less e = absurd cc
  start-breaks m (Broken kind at) h ended less e = absurd cc
