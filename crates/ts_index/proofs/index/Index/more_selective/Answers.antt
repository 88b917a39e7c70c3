use Rattle.std.proofs.Common.{◌∙◌, ◌++◌, ◌∷◌, [], sym, ℕ, Bor, option_map, arith}
use Rattle.ts_spec.specs.Filter.{Filter}
use Rattle.ts_index.proofs.NarrowLemmas.{best-pass, best-stays, best-first, best-fewer, none-best, some-best, best-some}
use Rattle.ts_index.proofs.index.Index.more_selective.Goals as goal

-- a borrowed filter with its number of candidates
abbrev lent : Bor Filter × ℕ → Filter × ℕ
lent b = (b.0.now, b.1)

pub returns-then-not-is_positive : goal.returns-then-not-is_positive
returns-then-not-is_positive c = λ done is. best-pass c.args.self.now done c.args.filter.now (option_map lent c.args.best) (sym c.is_positive.ensures ∙ c.if-not-is_positive.true) is

pub returns-in_default : goal.returns-in_default
returns-in_default c = λ done is. best-first c.args.self.now done c.args.filter.now c.candidate_count-count.result (sym c.is_positive.ensures ∙ c.if-not-is_positive.false) c.candidate_count-count.ensures
    (none-best c.args.self.now done lent c.args.best c.in_default.not-Some is)

pub returns-then-least-count : goal.returns-then-least-count
returns-then-least-count c = λ done is. best-some c.args.self.now (done ++ c.args.filter.now ∷ []) lent c.args.best (c.in-Some.field-0-0, c.in-Some.least) c.in-Some.is (best-stays c.args.self.now done c.args.filter.now (c.in-Some.field-0-0.now, c.in-Some.least) (sym c.is_positive.ensures ∙ c.if-not-is_positive.false) (omega (arith, c.if-least-count.true, c.candidate_count-count.ensures))
    (some-best c.args.self.now done lent c.args.best (c.in-Some.field-0-0, c.in-Some.least) c.in-Some.is is))

pub returns : goal.returns
returns c = λ done is. best-fewer c.args.self.now done c.args.filter.now (c.in-Some.field-0-0.now, c.in-Some.least) c.candidate_count-count.result (sym c.is_positive.ensures ∙ c.if-not-is_positive.false) c.candidate_count-count.ensures (omega (arith, c.if-least-count.false))
    (some-best c.args.self.now done lent c.args.best (c.in-Some.field-0-0, c.in-Some.least) c.in-Some.is is)
