-- How a run of the program ends: the exit status and the line on standard error.
use Rattle.std.specs.Prelude.{ℕ, List, [], ◌∷◌, ◌++◌, codes, Option, None, Some}
use Rattle.std.specs.Fmt.{decimal}
use Rattle.ts_words.specs.declared.mode.Mode.{Mode}
use Rattle.ts_words.specs.declared.mode.Mode.TheVariants as mode
use Rattle.ts_words.specs.FaultCauses.{cause_suffix}
use Rattle.ts_words.specs.declared.fault_causes.LastCauses.{LastCauses}
use Rattle.ts_words.specs.declared.status.Status.{Status}
use Rattle.ts_words.specs.declared.status.Status.TheVariants as status

-- the exit status of the process
abbrev pub code_of : Status → ℕ
code_of status.Ended = 0
code_of status.Usage = 1
code_of status.Truncated = 2
code_of status.Protocol = 3
code_of status.ReadFault = 4
code_of status.WriteFault = 5
code_of status.Memory = 6
code_of status.AcceptFault = 7
code_of status.Budget = 8
code_of status.JournalFault = 9
code_of status.JournalBroken = 10
code_of status.CaptureBroken = 11

-- a text as a line, which ends with a line feed
abbrev pub ended : List ℕ → List ℕ
ended text = text ++ 10 ∷ []

-- the line for a status, with the byte offset of a stream's fault; success has none
abbrev pub line_of_status : Status → (byte_offset : ℕ) → List ℕ
line_of_status status.Ended byte_offset = []
line_of_status status.Usage byte_offset = ended (codes "usage: tsd pipe | tsd serve <address> <connections> | tsd gen <seed> <n> | tsd keep <file> | tsd host <address> [<file> [sync]] | tsd fold <file> | tsd mux")
line_of_status status.Truncated byte_offset = ended (codes "tsd: input ends inside a request that begins at byte " ++ decimal byte_offset)
line_of_status status.Protocol byte_offset = ended (codes "tsd: protocol fault at byte " ++ decimal byte_offset)
line_of_status status.ReadFault byte_offset = ended (codes "tsd: read fault")
line_of_status status.WriteFault byte_offset = ended (codes "tsd: write fault")
line_of_status status.Memory byte_offset = ended (codes "tsd: out of memory")
line_of_status status.AcceptFault byte_offset = ended (codes "tsd: accept fault")
line_of_status status.Budget byte_offset = ended (codes "tsd: budget of bytes used up")
line_of_status status.JournalFault byte_offset = ended (codes "tsd: journal fault")
line_of_status status.JournalBroken byte_offset = ended (codes "tsd: journal broken at byte " ++ decimal byte_offset)
line_of_status status.CaptureBroken byte_offset = ended (codes "tsd: capture broken at byte " ++ decimal byte_offset)

-- the same for a capture, which ends inside a frame and not inside a request
abbrev pub capture_line_of_status : Status → (byte_offset : ℕ) → List ℕ
capture_line_of_status status.Truncated byte_offset = ended (codes "tsd: capture ends inside a frame that begins at byte " ++ decimal byte_offset)
capture_line_of_status other byte_offset = line_of_status other byte_offset

-- the line for a status in a mode, or in none
abbrev pub line_of_status_in : Option Mode → Status → (byte_offset : ℕ) → List ℕ
line_of_status_in (Some mode.Mux) ending byte_offset = capture_line_of_status ending byte_offset
line_of_status_in (Some mode.Pipe) ending byte_offset = line_of_status ending byte_offset
line_of_status_in (Some (mode.Serve connections)) ending byte_offset = line_of_status ending byte_offset
line_of_status_in (Some (mode.Gen seed n)) ending byte_offset = line_of_status ending byte_offset
line_of_status_in (Some (mode.Host storage)) ending byte_offset = line_of_status ending byte_offset
line_of_status_in (Some mode.Keep) ending byte_offset = line_of_status ending byte_offset
line_of_status_in (Some mode.Fold) ending byte_offset = line_of_status ending byte_offset
line_of_status_in None ending byte_offset = line_of_status ending byte_offset

-- the line for a status of the modes `host` and `fold`, where the cause follows a fault of the hub or of the log
abbrev pub host_line_of_status : Status → (byte_offset : ℕ) → LastCauses → List ℕ
host_line_of_status status.AcceptFault byte_offset causes = ended (codes "tsd: accept fault" ++ cause_suffix causes.hub)
host_line_of_status status.JournalFault byte_offset causes = ended (codes "tsd: journal fault" ++ cause_suffix causes.log)
host_line_of_status other byte_offset causes = line_of_status other byte_offset
