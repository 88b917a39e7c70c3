-- The state of a visitor after a list of samples.
use Rattle.std.specs.Prelude.{List}
use Rattle.std.specs.List.{fold}
use Rattle.ts_spec.specs.Sample.{Point}

-- the visitor after these samples; `step` is its state after one sample
abbrev pub visited : {V : Type 0} → (V → Point → V) → V → List Point → V
visited step v ps = fold step v ps
