use Rattle.std.proofs.Common.{◌≡◌, false, ◌+◌, ◌∙◌, ◌++◌, ◌∷◌, [], ℕ, sym, subst, List, take, option_map, ap, Bor, suc, arith}
use Rattle.std.proofs.Math.Seq.{take-suc}
use Rattle.std.proofs.lemmas.List.{take_all}
use Rattle.ts_spec.specs.Filter.{Filter, has_positive}
use Rattle.ts_index.specs.MostSelective.{IsBest}
use Rattle.ts_index.proofs.NarrowLemmas.{fewest-none, none-best}
use Rattle.ts_index.proofs.index.Index.most_selective.Goals as goal

pub loop-filter-preserved : goal.loop-filter-preserved
loop-filter-preserved c =
    let filters = c.args.filters.now in
    let i = c.loop-filter.filter-index in
    let more : take i filters ++ c.filter-item.result ∷ [] ≡ take (i + 1) filters =
    ap (λ (f : Filter). take i filters ++ f ∷ []) c.filter-item.is ∙ sym (take-suc filters i c.filter-item.result c.loop-filter-test.true)
    ∙ ap (λ (n : ℕ). take n filters) (let one : suc i ≡ i + 1 = omega arith in one) in
    subst (λ (fs : List Filter). IsBest c.args.self.now fs (option_map (λ (b : Bor Filter × ℕ). (b.0.now, b.1)) c.more_selective-best.result)) more (c.more_selective-best.ensures (take i filters) c.loop-filter.invariant)

pub returns-in-None-clause-none : goal.returns-in-None-clause-none
returns-in-None-clause-none c =
    let filters = c.args.filters.now in
    let i = c.loop-filter.filter-index in
    fewest-none c.args.self.now filters
    (subst (λ (fs : List Filter). has_positive fs ≡ false) (take_all i filters c.loop-filter-test.false)
    (none-best c.args.self.now (take i filters) (λ (b : Bor Filter × ℕ). (b.0.now, b.1)) c.loop-filter.best (λ x some. absurd (cc (sym c.in-None.is ∙ some))) c.loop-filter.invariant))
