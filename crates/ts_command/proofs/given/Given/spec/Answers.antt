use Rattle.std.proofs.Common.{◌≡◌, ℕ, ◌≤◌, subst, sym, refl, arith, pos}
use Rattle.std.specs.Prelude.{Option, None, Some, unwrap_or}
use Rattle.std.specs.Option.{ForSome}
use Rattle.ts_spec.specs.declared.series.Ignore.{Ignore}
use Rattle.ts_spec.specs.Sample.{MAX_TIME}
use Rattle.ts_spec.specs.SeriesOptions.{IsChunkSize}
use Rattle.ts_command.proofs.given.Given.spec.Goals as goal

-- what holds of a number if it is given, and of the usual one, holds of either
given_or : (P : ℕ → Type 0) (o : Option ℕ) (usual n : ℕ) → n ≡ unwrap_or o usual → ForSome o P → P usual → P n
given_or P None usual n e h k = subst P (sym e) k
given_or P (Some x) usual n e h k = subst P (sym e) (h x refl)

pub invariant_of-result-clause-retention_fits : goal.invariant_of-result-clause-retention_fits
invariant_of-result-clause-retention_fits c =
    given_or (λ n. n ≤ MAX_TIME) c.args.self.retention 0 _ c.unwrap_or.ensures c.args.self.retention_fits (omega arith)

pub invariant_of-result-clause-chunk_size_fits : goal.invariant_of-result-clause-chunk_size_fits
invariant_of-result-clause-chunk_size_fits c =
    given_or IsChunkSize c.args.self.chunk_size 4096 _ c.unwrap_or-3.ensures c.args.self.chunk_size_fits (omega arith, omega arith, refl)

ignore_or : (o : Option Ignore) (usual i : Ignore) → i ≡ unwrap_or o usual → ForSome o (λ j. j.time ≤ MAX_TIME) → usual.time ≤ MAX_TIME → i.time ≤ MAX_TIME
ignore_or None usual i e h k = subst (λ (j : Ignore). j.time ≤ MAX_TIME) (sym e) k
ignore_or (Some x) usual i e h k = subst (λ (j : Ignore). j.time ≤ MAX_TIME) (sym e) (h x refl)

pub invariant_of-result-clause-ignore_fits : goal.invariant_of-result-clause-ignore_fits
invariant_of-result-clause-ignore_fits c =
    ignore_or c.args.self.ignore (record { time = 0; value = pos 0 }) _ c.unwrap_or-5.ensures c.args.self.ignore_fits (omega arith)
