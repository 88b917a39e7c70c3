-- Parts of a list by the times of its samples.
use Rattle.std.specs.Prelude.{ℕ, ◌&&◌, nat_lt, nat_le, List}
use Rattle.ts_spec.specs.Sample.{Point, at_times}

-- the samples at or after `from` and before `end`
abbrev pub from_until : (from end : ℕ) → List Point → List Point
from_until from end ps = at_times (λ t. nat_le from t && nat_lt t end) ps
