use Rattle.std.proofs.Common.{map, refl}
use Rattle.std.specs.Prelude.{codes}
use Rattle.ts_spec.specs.SeriesOptions.{series_options, alter_options, add_options, incr_options}
use Rattle.ts_spec.specs.Ranges.{range_options}
use Rattle.ts_spec.specs.ManySeries.{shown_options, last_options, many_options}
use Rattle.ts_command.specs.declared.option_word.TheConstants.{CREATE, ALTER, ADD, INCR, RANGE, MANY_RANGES, MANY_LAST}
use Rattle.ts_command.proofs.OptionLemmas.{found, found_one}
use Rattle.ts_command.proofs.option_word.OptionSet.named.Goals as goal

pub returns-in-Create : goal.returns-in-Create
unfolding series_options
returns-in-Create c = rw c.in-Create.is (found (codes "LABELS") (map (λ row. (row.0.now, row.1)) CREATE) series_options c.args.word.now c.named.result c.named.ensures refl refl)

pub returns-in-Alter : goal.returns-in-Alter
unfolding alter_options
returns-in-Alter c = rw c.in-Alter.is (found (codes "LABELS") (map (λ row. (row.0.now, row.1)) ALTER) alter_options c.args.word.now c.named-in-Alter.result c.named-in-Alter.ensures refl refl)

pub returns-in-Add : goal.returns-in-Add
unfolding add_options series_options
returns-in-Add c = rw c.in-Add.is (found (codes "LABELS") (map (λ row. (row.0.now, row.1)) ADD) add_options c.args.word.now c.named-in-Add.result c.named-in-Add.ensures refl refl)

pub returns-in-Incr : goal.returns-in-Incr
unfolding incr_options series_options
returns-in-Incr c = rw c.in-Incr.is (found (codes "LABELS") (map (λ row. (row.0.now, row.1)) INCR) incr_options c.args.word.now c.named-in-Incr.result c.named-in-Incr.ensures refl refl)

pub returns-in-Range : goal.returns-in-Range
unfolding range_options
returns-in-Range c = rw c.in-Range.is (found (codes "FILTER_BY_TS") (map (λ row. (row.0.now, row.1)) RANGE) range_options c.args.word.now c.named-in-Range.result c.named-in-Range.ensures refl refl)

pub returns-in-ManyRanges : goal.returns-in-ManyRanges
unfolding many_options shown_options range_options
returns-in-ManyRanges c = rw c.in-ManyRanges.is (found_one (map (λ row. (row.0.now, row.1)) MANY_RANGES) many_options c.args.word.now c.named-in-ManyRanges.result c.named-in-ManyRanges.ensures refl)

pub returns-in-ManyLast : goal.returns-in-ManyLast
unfolding last_options shown_options
returns-in-ManyLast c = rw c.in-ManyLast.is (found_one (map (λ row. (row.0.now, row.1)) MANY_LAST) last_options c.args.word.now c.named-in-ManyLast.result c.named-in-ManyLast.ensures refl)
