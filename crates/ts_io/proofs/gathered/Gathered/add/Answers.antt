use Rattle.std.proofs.Common.{List, ℕ, sym, ◌∙◌, ap}
use Rattle.std.specs.Io.KnownBytes.{append_known}
use Rattle.ts_io.proofs.Adding.{adds_none, adds_after, all_as_prefix}
use Rattle.ts_io.proofs.gathered.Gathered.add.Goals as goal

pub returns-in-Err-append_all_counted-clause-front : goal.returns-in-Err-append_all_counted-clause-front
returns-in-Err-append_all_counted-clause-front g c =
    let settled = c.in_ok-settle-in-Err.ensures in
    adds_after _ _ _ _ _
    (adds_none _
    ∙ ap (λ (l : List ℕ). append_known (g.J.Log.content c.settle.new.self.log.now) l) (sym settled.none)
    ∙ settled.whole
    ∙ ap (λ (l : List ℕ). append_known (g.J.Log.content c.args.self.now.log.now) l) c.in-Err.ensures.items)
    c.in-Err-append_all_counted.ensures.front

pub returns-in-Err-append_all_counted-clause-prefix : goal.returns-in-Err-append_all_counted-clause-prefix
unfolding returns-in-Err-append_all_counted-clause-front
returns-in-Err-append_all_counted-clause-prefix g c = returns-in-Err-append_all_counted-clause-front g c

pub returns-in-Ok-append_all_counted-clause-prefix : goal.returns-in-Ok-append_all_counted-clause-prefix
returns-in-Ok-append_all_counted-clause-prefix g c =
    let settled = c.in_ok-settle-in-Err.ensures in
    adds_after _ _ _ _ _
    (adds_none _
    ∙ ap (λ (l : List ℕ). append_known (g.J.Log.content c.settle.new.self.log.now) l) (sym settled.none)
    ∙ settled.whole
    ∙ ap (λ (l : List ℕ). append_known (g.J.Log.content c.args.self.now.log.now) l) c.in-Err.ensures.items)
    (all_as_prefix _ _ _ c.in-Ok-append_all_counted.ensures.all)
