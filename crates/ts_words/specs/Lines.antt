-- The lines about served connections, and the summary of a generated workload.
use Rattle.std.specs.Prelude.{ℕ, List, ◌++◌, codes, slice_index}
use Rattle.std.specs.Fmt.{decimal}
use Rattle.ts_words.specs.declared.lines.LinkEnd.{LinkEnd}
use Rattle.ts_words.specs.declared.lines.LinkEnd.TheVariants as end
use Rattle.ts_words.specs.Endings.{ended}

-- the word for how a connection ended
abbrev pub link_end_word : LinkEnd → List ℕ
link_end_word end.Ended = codes "ended"
link_end_word end.Truncated = codes "truncated"
link_end_word end.Protocol = codes "protocol"
link_end_word end.ReadFault = codes "read-fault"
link_end_word end.WriteFault = codes "write-fault"
link_end_word end.Memory = codes "memory"
link_end_word end.Budget = codes "budget"
link_end_word end.Cut = codes "cut"
link_end_word end.Broken = codes "broken"

-- the line of a connection: its number, how many of its requests were executed, and how it ended
abbrev pub link_line_of : (link executed : ℕ) → LinkEnd → List ℕ
link_line_of link executed how = ended (codes "link " ++ decimal link ++ codes " executed " ++ decimal executed ++ codes " " ++ link_end_word how)

-- the line that tells that connections are accepted at this address
abbrev pub ready_line_of : (address : List ℕ) → List ℕ
ready_line_of address = ended (codes "ready " ++ address)

-- a line of a name and a number
abbrev pub summary_line : List ℕ → ℕ → List ℕ
summary_line word number = ended (word ++ codes " " ++ decimal number)

-- the summary of a workload: its six numbers in their order
abbrev pub summary_of : List ℕ → List ℕ
summary_of numbers =
    summary_line (codes "requests") (slice_index numbers 0)
    ++ summary_line (codes "in") (slice_index numbers 1)
    ++ summary_line (codes "out") (slice_index numbers 2)
    ++ summary_line (codes "errors") (slice_index numbers 3)
    ++ summary_line (codes "keys") (slice_index numbers 4)
    ++ summary_line (codes "samples") (slice_index numbers 5)
