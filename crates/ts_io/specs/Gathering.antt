-- A log whose appends are gathered into one write.
use Rattle.std.specs.Prelude.{ℕ, List, Option}
use Rattle.std.specs.Io.KnownBytes.{append_known}
use Rattle.ts_io.specs.declared.gathered.Gathered.{Gathered}

-- the log, the bytes that wait to be appended to it, and its content followed by these
abbrev pub log_of : {J : Type 0} → Gathered J → J
log_of g = g.log.now

-- the identity of the reference to the log
abbrev pub lent_to : {J : Type 0} → Gathered J → ℕ
lent_to g = g.log.ghost_name

abbrev pub pending_of : {J : Type 0} → Gathered J → List ℕ
pending_of g = g.pending.items

abbrev pub whole : {J : Type 0} → (J → Option (List ℕ)) → Gathered J → Option (List ℕ)
whole content g = append_known (content (log_of g)) (pending_of g)
