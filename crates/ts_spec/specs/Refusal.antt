-- Why a command fails. A failed command changes nothing.
use Rattle.ts_spec.specs.declared.units.ValueFault.{ValueFault}
use Rattle.ts_spec.specs.Key.{Key}

-- Why a request does not parse.
pub data Fault : Type 0 where
  UnknownCommand : Fault
  Arity : Fault
  BadTimestamp : Fault
  BadValue : ValueFault → Fault
  BadOption : Fault
  RepeatedOption : Fault
  BadLabels : Fault
  BadChunkSize : Fault
  BadPolicy : Fault
  BadEncoding : Fault
  UnknownAggregator : Fault
  AggregatorNotInProfile : Fault
  BadDuration : Fault
  BadFilter : Fault
  NoPositiveFilter : Fault

-- Why the database refuses a command.
pub data Refusal : Type 0 where
  NoKey : Refusal
  KeyExists : Refusal
  KeysFull : Refusal
  LabelsFull : Refusal
  -- the time is before the edge (the retention cutoff) of the series
  TooOld : Refusal
  Duplicate : Refusal
  OutOfRange : Refusal
  -- an increment is before the last sample
  BeforeLast : Refusal
  -- the written key, or this destination, would show too many samples
  SamplesFull : Refusal
  DestinationFull : Key → Refusal
  DeleteBeyondRetention : Refusal
  SameKey : Refusal
  SourceIsDest : Refusal
  DestIsSource : Refusal
  DestHasSource : Refusal
  RulesSpent : Refusal
  RulesFull : Refusal
  NoRule : Refusal
  EmptyRows : Refusal
