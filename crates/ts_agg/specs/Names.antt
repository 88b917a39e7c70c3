-- The names of aggregators and reducers.
use Rattle.std.specs.Prelude.{ℕ, List, Result}
use Rattle.ts_spec.specs.declared.bucket.Aggregator.{Aggregator}
use Rattle.ts_spec.specs.declared.bucket.Reducer.{Reducer}
use Rattle.ts_spec.specs.Names.{named, aggregators, reducers, named_or}
use Rattle.ts_agg.specs.declared.names.AggFault.{AggFault}
use Rattle.ts_agg.specs.declared.names.AggFault.TheVariants.{NotInProfile, Unknown}

-- parses the name of an aggregator
abbrev pub aggregator_read : List ℕ → Result Aggregator AggFault
aggregator_read name = named_or Unknown NotInProfile (named aggregators name)

-- parses the name of a reducer
abbrev pub reducer_read : List ℕ → Result Reducer AggFault
reducer_read name = named_or Unknown NotInProfile (named reducers name)
