-- Samples of bytes that may be anything.
use Rattle.std.specs.Prelude.{◌≡◌, ℕ, pos, ◌+ℤ◌, List, length, Option}
use Rattle.ts_spec.specs.Sample.{Point, IsAscending, first_of}
use Rattle.ts_sample.specs.Chunk.{AreInBounds, AreMade}
use Rattle.ts_chunk_packed.specs.Packed.{State, begin, unzigzag, packed, state_from}

-- the three numbers code the sample after a context
pub record IsCodedBy (s : State) (time value made : ℕ) (p : Point) : Type 0 where
  pub time_is : pos p.time ≡ pos s.before.time +ℤ (s.step +ℤ unzigzag time)
  pub value_is : p.value ≡ s.before.value +ℤ unzigzag value
  pub made_is : pos p.made ≡ pos s.before.made +ℤ unzigzag made

-- the bytes are those of these samples, which are within their bounds and in ascending time
pub record AreCodedAs (bytes : List ℕ) (ps : List Point) : Type 0 where
  pub is : packed ps ≡ bytes
  pub fine : AreInBounds ps
  pub ascending : IsAscending ps

-- The bytes are those of some samples, of which these are the first one, the context after them and the count. They
-- were written when at most `made` rules had been created.
pub record HasRead (bytes : List ℕ) (first : Option Point) (s : State) (count made : ℕ) : Type 0 where
  pub list : List Point
  pub coded : AreCodedAs bytes list
  pub first_is : first ≡ first_of list
  pub state : s ≡ state_from begin list
  pub count_is : count ≡ length list
  pub made_to : AreMade made list
