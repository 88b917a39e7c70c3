-- The connections that were found last: each stands in the slot of its number.
use Rattle.std.specs.Prelude.{◌≡◌, ◌⊎◌, ℕ, ◌%◌, false, ◌==◌, if◌then◌else◌, List, get_or, Option, None, Some}
use Rattle.ts_mux.specs.declared.current_connection.CurrentConnection.{CurrentConnection}

-- the index of a connection's reader, if the connection stands in this slot
abbrev pub index_if : ℕ → Option CurrentConnection → Option ℕ
index_if link None = None
index_if link (Some at) = if at.link == link then Some at.index else None

-- the index of a connection's reader, if the connection was found lately
abbrev pub recent_in : List (Option CurrentConnection) → ℕ → Option ℕ
recent_in slots link = index_if link (get_or slots (link % 256) None)

-- whatever is told afterwards was told before, or is this connection
abbrev pub Takes : CurrentConnection → (old new : ℕ → Option ℕ) → Type 0
Takes at old new = (link index : ℕ) → new link ≡ Some index → (old link ≡ Some index) ⊎ ((at.link ≡ link) × (at.index ≡ index))

-- whatever is told afterwards was told before, and is not this connection
abbrev pub Clears : ℕ → (old new : ℕ → Option ℕ) → Type 0
Clears gone old new = (link index : ℕ) → new link ≡ Some index → (old link ≡ Some index) × ((link == gone) ≡ false)

-- what is told of a connection is the index of its reader
abbrev pub AreRecent : (recent indexes : ℕ → Option ℕ) → Type 0
AreRecent recent indexes = (link index : ℕ) → recent link ≡ Some index → indexes link ≡ Some index
