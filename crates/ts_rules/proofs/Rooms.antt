-- The buffers that planning a deletion has for its destination, if the first bucket is closed.
use Rattle.std.proofs.Common.{◌≡◌, ℕ, Bool, true, if◌then◌else◌, length, sym, ap, ◌∙◌}
use Rattle.ts_spec.specs.Sample.{between}
use Rattle.ts_spec.specs.Bucket.{start}
use Rattle.ts_spec.specs.Rules.{is_past}
use Rattle.ts_series.specs.History.{History, list_of}
use Rattle.ts_rules.specs.declared.rule.Rule.{Rule}
use Rattle.ts_rules.specs.DeletionBuffers.{count_touched}

pub touched-closed : (r : Rule) (from to first last : ℕ) (dest : History) (closed : Bool) → first ≡ start r.grid from → last ≡ start r.grid to → closed ≡ is_past r.current first → closed ≡ true →
    count_touched r from to dest ≡ length (between first last (list_of dest))
touched-closed r from to first last dest closed begins ends is e =
    ap (λ (x : Bool). if x then length (between (start r.grid from) (start r.grid to) (list_of dest)) else 0) (sym (ap (is_past r.current) begins) ∙ sym is ∙ e)
    ∙ (λ i. length (between (sym begins i) (sym ends i) (list_of dest)))
