-- A request under construction: its arguments so far, after a gap for its header.
use Rattle.std.specs.Prelude.{◌≡◌, ◌+◌, ◌++◌, length, replicate}
use Rattle.ts_spec.specs.Encoded.{encoded_words}
use Rattle.ts_spec.specs.Wire.{Request}
use Rattle.ts_journal.specs.declared.draft.Draft.{Draft}

-- these arguments were appended
pub record AppendsWords (old new : Draft) (words : Request) : Type 0 where
  pub bytes : new.out.bytes ≡ old.out.bytes ++ encoded_words words
  pub count : new.words ≡ old.words + length words

-- the draft is a gap followed by these arguments
pub record HasWords (words : Request) (draft : Draft) : Type 0 where
  pub bytes : draft.out.bytes ≡ replicate 24 0 ++ encoded_words words
  pub count : draft.words ≡ length words
