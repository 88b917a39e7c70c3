use Rattle.std.proofs.Common.{◌≡◌, false, [], refl, sym, ◌∙◌, ap, subst, eqb-true, eq-eqb}
use Rattle.std.specs.Prelude.{Option, None, Some, is_some}
use Rattle.ts_spec.specs.Aggregate.{Summary}
use Rattle.ts_restore.specs.Restorable.{IsBucket}
use Rattle.ts_db.specs.Restoring.{part_of_rule}
use Rattle.ts_db.specs.Store.{stored_series}
use Rattle.ts_db.proofs.WrittenSince.{unwritten-to, unwritten-none, unwritten-zero}
use Rattle.ts_db.proofs.restorable.has_bucket.Goals as goal

none-of : {X : Type 0} (o : Option X) → is_some o ≡ false → o ≡ None
none-of None e = refl
none-of (Some x) e = absurd (cc e)

pub returns-then-is_none-clause-bucket : goal.returns-then-is_none-clause-bucket
returns-then-is_none-clause-bucket g c =
    let h = c.args.series.now in
    let q = (part_of_rule [] [] c.args.rule.now).rule in
    let none = sym c.top_since-top.ensures.top ∙ none-of c.top_since-top.result c.if-is_none.ensures in
    let count : c.parts.result.count ≡ q.running.count = ap (λ (s : Summary). s.count) c.parts.ensures.value in (
      (λ t. subst (IsBucket (stored_series [] h) q) (sym c.in-None.is) (unwritten-to h q c.requires.summary none (sym count ∙ eqb-true c.parts.result.count 0 t))),
      (λ x. eq-eqb c.parts.result.count 0 (count ∙ unwritten-zero h q c.requires.summary (subst (IsBucket (stored_series [] h) q) c.in-None.is x))),
    )

pub returns-else-is_none-clause-bucket : goal.returns-else-is_none-clause-bucket
returns-else-is_none-clause-bucket g c =
    let h = c.args.series.now in
    let q = (part_of_rule [] [] c.args.rule.now).rule in (
      (λ t. absurd (cc (t, c.if-is_none.false))),
      (λ x.
          let none = unwritten-none h q c.requires.summary c.known.ensures.kept.ascending (subst (IsBucket (stored_series [] h) q) c.in-None.is x) in
          absurd (cc (ap is_some (c.top_since-top.ensures.top ∙ none), c.if-is_none.ensures))),
    )
