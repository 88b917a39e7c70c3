-- The texts of error replies.
use Rattle.std.specs.Prelude.{ℕ, List, codes}
use Rattle.ts_spec.specs.declared.units.ValueFault.TheVariants as value
use Rattle.ts_spec.specs.Refusal.{Fault, UnknownCommand, Arity, BadTimestamp, BadValue, BadOption, RepeatedOption, BadLabels, BadChunkSize, BadPolicy, BadEncoding, UnknownAggregator, AggregatorNotInProfile, BadDuration, BadFilter, NoPositiveFilter, Refusal, NoKey, KeyExists, KeysFull, LabelsFull, TooOld, Duplicate, OutOfRange, BeforeLast, SamplesFull, DestinationFull, DeleteBeyondRetention, SameKey, SourceIsDest, DestIsSource, DestHasSource, RulesSpent, RulesFull, NoRule, EmptyRows}

-- the error for a request that does not parse
abbrev pub fault_message : Fault → List ℕ
fault_message UnknownCommand = codes "ERR unknown command"
fault_message Arity = codes "ERR wrong number of arguments"
fault_message BadTimestamp = codes "ERR TSDB: invalid timestamp"
fault_message (BadValue value.NotANumber) = codes "ERR TSDB: invalid value"
fault_message (BadValue value.OutOfRange) = codes "ERR TSDB: value out of range"
fault_message BadOption = codes "ERR TSDB: invalid option"
fault_message RepeatedOption = codes "ERR TSDB: option given twice"
fault_message BadLabels = codes "ERR TSDB: invalid labels"
fault_message BadChunkSize = codes "ERR TSDB: invalid chunk size"
fault_message BadPolicy = codes "ERR TSDB: invalid duplicate policy"
fault_message BadEncoding = codes "ERR TSDB: invalid encoding"
fault_message UnknownAggregator = codes "ERR TSDB: unknown aggregator"
fault_message AggregatorNotInProfile = codes "ERR TSDB: aggregator not supported"
fault_message BadDuration = codes "ERR TSDB: invalid bucket duration"
fault_message BadFilter = codes "ERR TSDB: invalid filter"
fault_message NoPositiveFilter = codes "ERR TSDB: a filter with a wanted value is needed"

-- the error for a command that the database refuses
abbrev pub refusal_message : Refusal → List ℕ
refusal_message NoKey = codes "ERR TSDB: the key does not exist"
refusal_message KeyExists = codes "ERR TSDB: the key already exists"
refusal_message KeysFull = codes "ERR TSDB: too many keys"
refusal_message LabelsFull = codes "ERR TSDB: too many labels"
refusal_message TooOld = codes "ERR TSDB: timestamp is older than retention"
refusal_message Duplicate = codes "ERR TSDB: duplicate sample"
refusal_message OutOfRange = codes "ERR TSDB: result out of range"
refusal_message BeforeLast = codes "ERR TSDB: timestamp is before the last sample"
refusal_message SamplesFull = codes "ERR TSDB: too many samples"
refusal_message (DestinationFull _) = codes "ERR TSDB: too many samples in a destination"
refusal_message DeleteBeyondRetention = codes "ERR TSDB: the interval meets an expired bucket"
refusal_message SameKey = codes "ERR TSDB: source and destination are the same"
refusal_message SourceIsDest = codes "ERR TSDB: the source is a destination"
refusal_message DestIsSource = codes "ERR TSDB: the destination is a source"
refusal_message DestHasSource = codes "ERR TSDB: the destination has a source"
refusal_message RulesSpent = codes "ERR TSDB: too many rules made"
refusal_message RulesFull = codes "ERR TSDB: too many rules"
refusal_message NoRule = codes "ERR TSDB: the rule does not exist"
refusal_message EmptyRows = codes "ERR TSDB: too many empty buckets"

-- the error when memory runs out
abbrev pub memory_message : List ℕ
memory_message = codes "OOM out of memory"
