use Rattle.std.proofs.Common.{◌≡◌, ◌+◌, ◌-◌, ◌^◌, min, ℕ, List, length, take, subst, sym, arith}
use Rattle.std.proofs.lemmas.List.{take_all}
use Rattle.ts_io.specs.Counts.{Counts, counts_of, error_marks_after}
use Rattle.ts_io.specs.Sinks.{Grows}
use Rattle.ts_io.proofs.Counting.{counts_grow}
use Rattle.ts_io.proofs.count_sink.CountSinkSink.write.Goals as goal

pub returns-clause-bytes : goal.returns-clause-bytes
returns-clause-bytes c =
    let old : Counts = record { total = c.self.inside.total; errors = c.self.inside.errors; last = c.self.inside.last } in
    let new : Counts = record {
      total = c.saturating_add-self-inside-2.result;
      errors = c.saturating_add-self-inside.result;
      last = c.last_of-self-inside.result;
    } in
    let bytes : List ℕ = c.args.bytes.now in
    let marked : new.errors ≡ min (old.errors + error_marks_after old.last bytes) (2 ^ 64 - 1) = omega (arith, c.saturating_add-self-inside.ensures, c.count_error_marks.ensures) in
    let grown : Grows (λ w. old ≡ counts_of w) (λ w. new ≡ counts_of w) bytes =
    counts_grow old new bytes c.saturating_add-self-inside-2.ensures marked c.last_of-self-inside.ensures in
    subst (λ (o : Counts). Grows (λ w. o ≡ counts_of w) (λ w. new ≡ counts_of w) (take (length bytes) bytes)) c.self.view_is
    (subst (λ (l : List ℕ). Grows (λ w. old ≡ counts_of w) (λ w. new ≡ counts_of w) l) (sym (take_all (length bytes) bytes (omega arith))) grown)
