-- The readers of the open connections: each has its own, at its own index.
use Rattle.std.specs.Prelude.{◌≡◌, ℕ, ◌≤◌, Option, None, Some}
use Rattle.std.specs.Option.{unwrap_or}
use Rattle.std.specs.Ordering.{nat_cmp}
use Rattle.std.specs.BTreeMap.{BTreeMap, get}
use Rattle.slab.specs.Slab as slab
use Rattle.slab.specs.Slab.{Slab}
use Rattle.ts_resp.specs.Reading.{Reading}

-- the index of a connection's reader, if it has one
abbrev pub index_in : BTreeMap ℕ (Option ℕ) → ℕ → Option ℕ
index_in entries link = unwrap_or (get nat_cmp entries link) None

-- the reader at an index, if there is one
abbrev pub reader_at : Slab Reading → Option ℕ → Option Reading
reader_at readers None = None
reader_at readers (Some index) = slab.get readers index

-- no connection from this number on is stored
abbrev pub AreBelow : ℕ → BTreeMap ℕ (Option ℕ) → Type 0
AreBelow reached entries = (link : ℕ) → reached ≤ link → get nat_cmp entries link ≡ None

-- each index has a reader, and different connections have different indexes
pub record HaveOwnReaders (indexes : ℕ → Option ℕ) (readers : Slab Reading) : Type 0 where
  pub stored : (link index : ℕ) → indexes link ≡ Some index → slab.ContainsKey readers index
  pub apart : (one other index : ℕ) → indexes one ≡ Some index → indexes other ≡ Some index → one ≡ other

-- the reader at this index is removed, if there is one, and all others stay
abbrev pub RemovesReader : (old new : Slab Reading) → Option ℕ → Type 0
RemovesReader old new None = new ≡ old
RemovesReader old new (Some index) = slab.Updates old new index None
