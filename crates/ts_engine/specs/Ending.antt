-- How a stream ends.
use Rattle.std.specs.Prelude.{ℕ, Option, None, Some}
use Rattle.ts_engine.specs.declared.piped.End.{End}
use Rattle.ts_engine.specs.declared.piped.End.TheVariants as end
use Rattle.ts_engine.specs.declared.replying.Go.{Go}
use Rattle.ts_engine.specs.declared.replying.Go.TheVariants as go

-- the end of the input: between requests, or inside the one that begins at this offset
abbrev pub end_at : Option ℕ → End
end_at None = end.Ended
end_at (Some place) = end.Truncated place

-- the end that a session's result means, if it is one
abbrev pub end_by : Go → Option End
end_by go.More = None
end_by go.Quit = Some end.Ended
end_by (go.Broken fault) = Some (end.Protocol fault)
end_by go.WriteFault = Some end.WriteFault
end_by go.Memory = Some end.Memory
