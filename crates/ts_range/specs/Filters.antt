-- Which samples pass the filters of a query.
use Rattle.std.specs.Prelude.{Bool, ◌&&◌, option_map}
use Rattle.ts_spec.specs.Sample.{Point}
use Rattle.ts_spec.specs.Answer.{passes_time_filter, passes_value_filter}
use Rattle.ts_range.specs.Query.{span_of}
use Rattle.ts_range.specs.declared.filters.Filters.{Filters}

-- whether a sample passes both filters
abbrev pub passes : Filters → Point → Bool
passes f p = passes_time_filter (option_map (λ times. times.items) f.times) p.time && passes_value_filter (option_map span_of f.values) p.value
