-- Which results end a session.
use Rattle.std.specs.Prelude.{Option, None, Some}
use Rattle.ts_engine.specs.declared.replying.Go.{Go}
use Rattle.ts_engine.specs.declared.replying.Go.TheVariants as go

-- any result but `More`
abbrev pub end_of : Go → Option Go
end_of go.More = None
end_of go.Quit = Some go.Quit
end_of (go.Broken fault) = Some (go.Broken fault)
end_of go.WriteFault = Some go.WriteFault
end_of go.Memory = Some go.Memory
