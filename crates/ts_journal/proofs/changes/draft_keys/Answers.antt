use Rattle.std.proofs.Common.{◌≡◌, ◌+◌, suc, ◌∷◌, [], ◌++◌, List, ℕ, take, Some, subst, sym, ◌∙◌, ap, arith}
use Rattle.std.proofs.lemmas.Option.{slice_get-get_or}
use Rattle.ts_journal.specs.Draft.{AppendsWords}
use Rattle.ts_journal.proofs.Putting.{puts-then, items-next}
use Rattle.ts_journal.proofs.changes.draft_keys.Goals as goal

pub loop-key-preserved : goal.loop-key-preserved
loop-key-preserved c =
    let keys : List (List ℕ) = c.args.keys.now in
    let key : List ℕ = c.key-item.result in
    let i = c.loop-key.key-index in
    let next : take (suc i) keys ≡ take i keys ++ key ∷ [] = items-next keys i key (slice_get-get_or keys i key (omega arith) ∙ ap Some (sym c.key-item.is)) in
    let same : suc i ≡ i + 1 = omega arith in
    subst (AppendsWords c.args.draft.now c.put_word.new.self) (sym next ∙ ap (λ (n : ℕ). take n keys) same) (puts-then c.loop-key.invariant c.in_ok-put_word.ensures)
