-- How the outcome of a system call becomes that of a device call.
use Rattle.std.specs.Prelude.{◌≡◌, ◌<◌, ℕ, List, length, take, Option, None, Some, Result, Ok, Err, IsErr}
use Rattle.std.specs.Io.KnownBytes.{Keeps, Consumes, IsAtEnd}
use Rattle.std.specs.IoError.{error_kind}
use Rattle.std.specs.declared.io.Error.{Error}
use Rattle.std.specs.declared.io.ErrorKind.{ErrorKind}
use Rattle.std.specs.declared.io.ErrorKind.TheVariants as kind
use Rattle.ts_io.specs.Causes.{saturating_succ}
use Rattle.ts_io.specs.declared.failed.Cause.{Cause}
use Rattle.ts_io.specs.declared.failed.Cause.TheVariants as cause

-- an error exactly if the system call had one, else the same value
abbrev pub IsSameOutcome : {T E F : Type 0} → Result T E → Result T F → Type 0
IsSameOutcome (Ok value) result = result ≡ Ok value
IsSameOutcome (Err error) result = IsErr result

-- an error adds one to the count of failures, and a success leaves it
abbrev pub CountsFailure : {T E : Type 0} → Result T E → ℕ → ℕ → Type 0
CountsFailure (Ok value) before now = now ≡ before
CountsFailure (Err error) before now = now ≡ saturating_succ before

-- the cause that an error of this kind has; other kinds tell none
abbrev pub cause_of : ErrorKind → Option Cause
cause_of kind.AddrInUse = Some cause.AddressInUse
cause_of kind.AddrNotAvailable = Some cause.NoSuchAddress
cause_of kind.HostUnreachable = Some cause.UnknownHost
cause_of kind.InvalidInput = Some cause.Invalid
cause_of kind.NotFound = Some cause.NoSuchFolder
cause_of kind.NotADirectory = Some cause.NoSuchFolder
cause_of kind.PermissionDenied = Some cause.PermissionDenied
cause_of kind.WouldBlock = Some cause.Locked
cause_of kind.StaleNetworkFileHandle = Some cause.Replaced
cause_of kind.IsADirectory = Some cause.NotRegularFile
cause_of kind.NotSeekable = Some cause.NotRegularFile
cause_of kind.ReadOnlyFilesystem = Some cause.ReadOnly
cause_of kind.StorageFull = Some cause.NoSpace
cause_of kind.QuotaExceeded = Some cause.NoSpace
cause_of kind.FileTooLarge = Some cause.FileTooLarge
cause_of kind.InvalidFilename = Some cause.NameTooLong
cause_of kind.OutOfMemory = Some cause.OutOfMemory
cause_of _ = None

-- an error sets the last cause to its own, or to none, and a success leaves it
abbrev pub NotesCause : {T : Type 0} → Result T Error → (before now : Option Cause) → Type 0
NotesCause (Ok value) before now = now ≡ before
NotesCause (Err error) before now = now ≡ cause_of (error_kind error)

-- the same as a read, but nothing is consumed if nothing has arrived
abbrev pub ArrivedConsumes : {E : Type 0} → Option (List ℕ) → Option (List ℕ) → Result (Option ℕ) E → List ℕ → Type 0
ArrivedConsumes old new (Ok (Some n)) buf = Consumes old new (take n buf) × (n ≡ 0 → 0 < length buf → IsAtEnd new)
ArrivedConsumes old new (Ok None) buf = Keeps old new
ArrivedConsumes old new (Err error) buf = Keeps old new
