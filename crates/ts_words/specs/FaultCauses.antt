-- Why a call of a hub or a log failed, in the line of a status.
use Rattle.std.specs.Prelude.{ℕ, List, [], ◌++◌, codes, Option, None, Some}
use Rattle.ts_io.specs.declared.failed.Cause.{Cause}
use Rattle.ts_io.specs.declared.failed.Cause.TheVariants as cause

-- the text of a cause
abbrev pub cause_text : Cause → List ℕ
cause_text cause.AddressInUse = codes "address in use"
cause_text cause.NoSuchAddress = codes "no such address"
cause_text cause.UnknownHost = codes "unknown host"
cause_text cause.Invalid = codes "invalid argument"
cause_text cause.NoSuchFolder = codes "no such folder"
cause_text cause.PermissionDenied = codes "permission denied"
cause_text cause.Locked = codes "locked"
cause_text cause.Replaced = codes "replaced"
cause_text cause.NotRegularFile = codes "not a regular file"
cause_text cause.ReadOnly = codes "read-only file system"
cause_text cause.NoSpace = codes "no space"
cause_text cause.FileTooLarge = codes "file too large"
cause_text cause.NameTooLong = codes "name too long"
cause_text cause.OutOfMemory = codes "out of memory"

-- what follows the name of a fault: nothing if its cause is unknown
abbrev pub cause_suffix : Option Cause → List ℕ
cause_suffix None = []
cause_suffix (Some cause) = codes ": " ++ cause_text cause
