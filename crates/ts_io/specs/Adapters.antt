-- What the adapters over std's readers, writers, listeners and files hold.
use Rattle.std.specs.Prelude.{◌≡◌, ℕ, suc, ◌-◌, ◌^◌, min, Bool, List, [], ◌∷◌, Option, None, Some}
use Rattle.ts_io.specs.declared.failed.Cause.{Cause}
use Rattle.ts_io.specs.declared.file_log.FileLog.{FileLog}
use Rattle.ts_io.specs.declared.streams.StdSink.{StdSink}
use Rattle.ts_io.specs.declared.streams.StdSource.{StdSource}
use Rattle.ts_io.specs.declared.tcp_net.TcpNet.{TcpNet}

-- the reader of a source, and how many of its reads failed
abbrev pub reader_of : {R : Type 0} → StdSource R → R
reader_of s = s.inner

abbrev pub failed_reads_of : {R : Type 0} → StdSource R → ℕ
failed_reads_of s = s.faults

-- the writer of a sink, how many writes failed, and how many bytes it accepted and did not flush
abbrev pub writer_of : {W : Type 0} → StdSink W → W
writer_of s = s.inner

abbrev pub failed_writes_of : {W : Type 0} → StdSink W → ℕ
failed_writes_of s = s.faults

abbrev pub unacknowledged_of : {W : Type 0} → StdSink W → ℕ
unacknowledged_of s = s.unacknowledged

-- how many calls of a network's listener failed, and whether it has an open connection
abbrev pub failed_listens_of : {R : Type 0} → TcpNet R → ℕ
failed_listens_of s = s.faults

abbrev pub link_is_open : {R : Type 0} → TcpNet R → Bool
link_is_open s = s.has_open_link

-- the read position of a log over a file, how many of its calls failed, and the cause of the last failure
abbrev pub log_position_of : {R : Type 0} → FileLog R → ℕ
log_position_of l = l.place

abbrev pub failed_log_calls_of : {R : Type 0} → FileLog R → ℕ
failed_log_calls_of l = l.faults

abbrev pub last_log_cause_of : {R : Type 0} → FileLog R → Option Cause
last_log_cause_of l = l.last_cause

-- the first list is a subsequence of the second, which has this many more bytes
pub data IsSubsequenceBut : List ℕ → List ℕ → ℕ → Type 0 where
  none : IsSubsequenceBut [] [] 0
  ours : {b : ℕ} {w all : List ℕ} {more : ℕ} → IsSubsequenceBut w all more → IsSubsequenceBut (b ∷ w) (b ∷ all) more
  other : {b : ℕ} {w all : List ℕ} {more : ℕ} → IsSubsequenceBut w all more → IsSubsequenceBut w (b ∷ all) (suc more)

-- The writer's bytes, if they are known, are w with the unflushed bytes among them. The number of those is `missed`,
-- which stops at the greatest u64.
abbrev pub HoldsAcknowledged : Option (List ℕ) → ℕ → List ℕ → Type 0
HoldsAcknowledged None missed w = ⊥
HoldsAcknowledged (Some all) missed w = (more : ℕ) × IsSubsequenceBut w all more × (missed ≡ min more (2 ^ 64 - 1))
