-- The texts of the server itself have no CR.
use Rattle.std.proofs.Common.{◌≡◌, ℕ, ◌==◌, Bool, true, false, not, ◌&&◌, List, [], ◌∷◌, refl}
use Rattle.std.proofs.lemmas.Bool.{false≢true, eqb-false, and_parts}
use Rattle.ts_spec.specs.declared.units.ValueFault.TheVariants as value
use Rattle.ts_spec.specs.declared.bucket.Aggregator.{Aggregator}
use Rattle.ts_spec.specs.declared.bucket.Aggregator.TheVariants as agg
use Rattle.ts_spec.specs.declared.series.Encoding.{Encoding}
use Rattle.ts_spec.specs.declared.series.Encoding.TheVariants as coding
use Rattle.ts_spec.specs.declared.series.Policy.{Policy}
use Rattle.ts_spec.specs.declared.series.Policy.TheVariants as policy
use Rattle.ts_spec.specs.declared.wire.Kind.{Kind}
use Rattle.ts_spec.specs.declared.wire.Kind.TheVariants as kind
use Rattle.ts_spec.specs.Refusal.{Fault, UnknownCommand, Arity, BadTimestamp, BadValue, BadOption, RepeatedOption, BadLabels, BadChunkSize, BadPolicy, BadEncoding, UnknownAggregator, AggregatorNotInProfile, BadDuration, BadFilter, NoPositiveFilter, Refusal, NoKey, KeyExists, KeysFull, LabelsFull, TooOld, Duplicate, OutOfRange, BeforeLast, SamplesFull, DestinationFull, DeleteBeyondRetention, SameKey, SourceIsDest, DestIsSource, DestHasSource, RulesSpent, RulesFull, NoRule, EmptyRows}
use Rattle.ts_spec.specs.Messages.{fault_message, refusal_message}
use Rattle.ts_spec.specs.Text.{IsOneLine, protocol_message}
use Rattle.ts_spec.specs.Replies.{encoding_name, policy_name, aggregator_name}

-- whether a text has no CR
abbrev is_one_line : List ℕ → Bool
is_one_line [] = true
is_one_line (byte ∷ bytes) = not (byte == 13) && is_one_line bytes

pub one_line : (words : List ℕ) → is_one_line words ≡ true → IsOneLine words
one_line [] h = tt
one_line (byte ∷ bytes) h =
    let parts : (not (byte == 13) ≡ true) × (is_one_line bytes ≡ true) = and_parts (not (byte == 13)) (is_one_line bytes) h in
    (eqb-false byte 13 (untrue (byte == 13) parts.0), one_line bytes parts.1)
  where
    untrue : (b : Bool) → not b ≡ true → b ≡ false
    untrue true e = absurd (false≢true e)
    untrue false e = refl

pub fault-line : (fault : Fault) → IsOneLine (fault_message fault)
fault-line UnknownCommand = one_line (fault_message UnknownCommand) refl
fault-line Arity = one_line (fault_message Arity) refl
fault-line BadTimestamp = one_line (fault_message BadTimestamp) refl
fault-line (BadValue value.NotANumber) = one_line (fault_message (BadValue value.NotANumber)) refl
fault-line (BadValue value.OutOfRange) = one_line (fault_message (BadValue value.OutOfRange)) refl
fault-line BadOption = one_line (fault_message BadOption) refl
fault-line RepeatedOption = one_line (fault_message RepeatedOption) refl
fault-line BadLabels = one_line (fault_message BadLabels) refl
fault-line BadChunkSize = one_line (fault_message BadChunkSize) refl
fault-line BadPolicy = one_line (fault_message BadPolicy) refl
fault-line BadEncoding = one_line (fault_message BadEncoding) refl
fault-line UnknownAggregator = one_line (fault_message UnknownAggregator) refl
fault-line AggregatorNotInProfile = one_line (fault_message AggregatorNotInProfile) refl
fault-line BadDuration = one_line (fault_message BadDuration) refl
fault-line BadFilter = one_line (fault_message BadFilter) refl
fault-line NoPositiveFilter = one_line (fault_message NoPositiveFilter) refl

pub refusal-line : (refusal : Refusal) → IsOneLine (refusal_message refusal)
refusal-line NoKey = one_line (refusal_message NoKey) refl
refusal-line KeyExists = one_line (refusal_message KeyExists) refl
refusal-line KeysFull = one_line (refusal_message KeysFull) refl
refusal-line LabelsFull = one_line (refusal_message LabelsFull) refl
refusal-line TooOld = one_line (refusal_message TooOld) refl
refusal-line Duplicate = one_line (refusal_message Duplicate) refl
refusal-line OutOfRange = one_line (refusal_message OutOfRange) refl
refusal-line BeforeLast = one_line (refusal_message BeforeLast) refl
refusal-line SamplesFull = one_line (refusal_message SamplesFull) refl
refusal-line (DestinationFull key) = one_line (refusal_message (DestinationFull key)) refl
refusal-line DeleteBeyondRetention = one_line (refusal_message DeleteBeyondRetention) refl
refusal-line SameKey = one_line (refusal_message SameKey) refl
refusal-line SourceIsDest = one_line (refusal_message SourceIsDest) refl
refusal-line DestIsSource = one_line (refusal_message DestIsSource) refl
refusal-line DestHasSource = one_line (refusal_message DestHasSource) refl
refusal-line RulesSpent = one_line (refusal_message RulesSpent) refl
refusal-line RulesFull = one_line (refusal_message RulesFull) refl
refusal-line NoRule = one_line (refusal_message NoRule) refl
refusal-line EmptyRows = one_line (refusal_message EmptyRows) refl

pub aggregator-line : (a : Aggregator) → IsOneLine (aggregator_name a)
aggregator-line agg.Avg = one_line (aggregator_name agg.Avg) refl
aggregator-line agg.Sum = one_line (aggregator_name agg.Sum) refl
aggregator-line agg.Min = one_line (aggregator_name agg.Min) refl
aggregator-line agg.Max = one_line (aggregator_name agg.Max) refl
aggregator-line agg.Range = one_line (aggregator_name agg.Range) refl
aggregator-line agg.Count = one_line (aggregator_name agg.Count) refl
aggregator-line agg.First = one_line (aggregator_name agg.First) refl
aggregator-line agg.Last = one_line (aggregator_name agg.Last) refl

pub encoding-line : (e : Encoding) → IsOneLine (encoding_name e)
encoding-line coding.Compressed = one_line (encoding_name coding.Compressed) refl
encoding-line coding.Uncompressed = one_line (encoding_name coding.Uncompressed) refl

pub policy-line : (p : Policy) → IsOneLine (policy_name p)
policy-line policy.Block = one_line (policy_name policy.Block) refl
policy-line policy.First = one_line (policy_name policy.First) refl
policy-line policy.Last = one_line (policy_name policy.Last) refl
policy-line policy.Min = one_line (policy_name policy.Min) refl
policy-line policy.Max = one_line (policy_name policy.Max) refl
policy-line policy.Sum = one_line (policy_name policy.Sum) refl

pub kind-line : (k : Kind) → IsOneLine (protocol_message k)
kind-line kind.Multibulk = one_line (protocol_message kind.Multibulk) refl
kind-line kind.Bulk = one_line (protocol_message kind.Bulk) refl
kind-line kind.Dollar = one_line (protocol_message kind.Dollar) refl
kind-line kind.Crlf = one_line (protocol_message kind.Crlf) refl
kind-line kind.TooLarge = one_line (protocol_message kind.TooLarge) refl
