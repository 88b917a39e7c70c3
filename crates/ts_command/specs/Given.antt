-- Option values as values of the specification.
use Rattle.std.specs.Prelude.{false, None, option_map}
use Rattle.ts_spec.specs.Settings as spec
use Rattle.ts_labels.specs.Show.{show_of}
use Rattle.ts_range.specs.Query.{span_of}
use Rattle.ts_command.specs.GroupBy.{group_of}
use Rattle.ts_command.specs.declared.given.Given.{Given}
use Rattle.ts_command.specs.declared.range_given.RangeGiven.{RangeGiven}

-- all option values of a command
abbrev pub given_of : Given → spec.Given
given_of g = record {
  retention = g.retention;
  encoding = g.encoding;
  chunk_size = g.chunk_size;
  policy = g.policy;
  ignore = g.ignore;
  on = g.on;
  at = g.at;
  labels = g.labels;
  times = option_map (λ times. times.items) g.range.times;
  values = option_map span_of g.range.values;
  count = g.range.count;
  aggregation = g.range.aggregation;
  align = g.range.align;
  stamp = g.range.stamp;
  empty = g.range.empty;
  latest = g.latest;
  show = option_map show_of g.show;
  filters = option_map (λ filters. filters.items) g.filters;
  group = option_map group_of g.group;
}

-- the option values of a range query alone
abbrev pub range_given_of : RangeGiven → spec.Given
range_given_of g = record {
  retention = None;
  encoding = None;
  chunk_size = None;
  policy = None;
  ignore = None;
  on = None;
  at = None;
  labels = None;
  times = option_map (λ times. times.items) g.times;
  values = option_map span_of g.values;
  count = g.count;
  aggregation = g.aggregation;
  align = g.align;
  stamp = g.stamp;
  empty = g.empty;
  latest = false;
  show = None;
  filters = None;
  group = None;
}
