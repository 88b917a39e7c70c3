-- The reply to each response.
use Rattle.std.specs.Prelude.{◌≡◌, ◌⊎◌, ℕ, ℤ, pos, List, [], ◌∷◌, map, codes, Option, None, Some}
use Rattle.ts_spec.specs.declared.bucket.Aggregator.{Aggregator}
use Rattle.ts_spec.specs.declared.bucket.Aggregator.TheVariants.{Avg, Sum, Min, Max, Range, Count, First, Last}
use Rattle.ts_spec.specs.declared.series.Encoding.{Encoding}
use Rattle.ts_spec.specs.declared.series.Encoding.TheVariants.{Compressed, Uncompressed}
use Rattle.ts_spec.specs.declared.series.Policy.{Policy}
use Rattle.ts_spec.specs.declared.series.Policy.TheVariants as policy
use Rattle.ts_spec.specs.State.{Label}
use Rattle.ts_spec.specs.Refusal.{Fault, Refusal}
use Rattle.ts_spec.specs.Messages.{fault_message, refusal_message, memory_message}
use Rattle.ts_spec.specs.Answer.{Cell, Number, Nan, Row}
use Rattle.ts_spec.specs.Response as response
use Rattle.ts_spec.specs.Response.{Item, Wrote, IsWrong, IsRefused, ShownLabel, Member, RuleInfo, Info, Response}
use Rattle.ts_spec.specs.Text.{Reply, Simple, Error, Int, Value, Bulk, Nil, Array, Replies, Empty}
use Rattle.ts_spec.specs.Text as text

-- a sequence of replies
abbrev pub reply_list : List Reply → Replies
reply_list [] = Empty
reply_list (reply ∷ others) = text.Replies.Item reply (reply_list others)

-- an array reply
abbrev pub array : List Reply → Reply
array items = Array (reply_list items)

-- an integer reply: a time in milliseconds or a count
abbrev pub number : ℕ → Reply
number n = Int (pos n)

-- ---- errors

-- the error reply for a fault
abbrev pub fault_reply : Fault → Reply
fault_reply fault = Error (fault_message fault)

-- the error reply for a refusal
abbrev pub refusal_reply : Refusal → Reply
refusal_reply refusal = Error (refusal_message refusal)

-- the error reply when memory runs out
abbrev pub memory_reply : Reply
memory_reply = Error memory_message

-- ---- the parts of answers

-- the reply to one triple of TS.MADD
abbrev pub item_reply : Item → Reply
item_reply (Wrote time) = number time
item_reply (IsWrong fault) = fault_reply fault
item_reply (IsRefused refusal) = refusal_reply refusal

-- an item in the reply to TS.MADD: the reply to a triple, or the error when memory runs out
abbrev pub IsItemReply : Reply → Type 0
IsItemReply reply = ((item : Item) × (reply ≡ item_reply item)) ⊎ (reply ≡ memory_reply)

-- a value in millionths, or `None` for NaN
abbrev pub millionths : Cell → Option ℤ
millionths (Number value) = Some value
millionths Nan = None

-- `[time, value]`
abbrev pub row_reply : Row → Reply
row_reply row = array (number row.time ∷ Value (millionths row.value) ∷ [])

-- the first row, or `[]`
abbrev pub first_row_reply : List Row → Reply
first_row_reply [] = array []
first_row_reply (row ∷ rows) = row_reply row

-- the row of the last sample, or `[]` if there is none
abbrev pub last_row_reply : Option Row → Reply
last_row_reply None = array []
last_row_reply (Some row) = row_reply row

-- a bulk string, or nil
abbrev pub bulk_or_nil : Option (List ℕ) → Reply
bulk_or_nil None = Nil
bulk_or_nil (Some bytes) = Bulk bytes

-- `[label, value]`, with nil for a label that the series lacks
abbrev pub shown_label_reply : ShownLabel → Reply
shown_label_reply label = array (Bulk label.name ∷ bulk_or_nil label.value ∷ [])

-- an array of labels
abbrev pub labels_reply : List ShownLabel → Reply
labels_reply labels = array (map shown_label_reply labels)

-- `[key, labels, rows]`
abbrev pub member_reply : Member → Reply
member_reply member = array (Bulk member.key ∷ labels_reply member.labels ∷ array (map row_reply member.rows) ∷ [])

-- `[key, labels, row]`
abbrev pub last_member_reply : Member → Reply
last_member_reply member = array (Bulk member.key ∷ labels_reply member.labels ∷ first_row_reply member.rows ∷ [])

-- ---- TS.INFO

-- the name of an encoding in TS.INFO
abbrev pub encoding_name : Encoding → List ℕ
encoding_name Compressed = codes "compressed"
encoding_name Uncompressed = codes "uncompressed"

-- the name of a policy in TS.INFO
abbrev pub policy_name : Policy → List ℕ
policy_name policy.Block = codes "block"
policy_name policy.First = codes "first"
policy_name policy.Last = codes "last"
policy_name policy.Min = codes "min"
policy_name policy.Max = codes "max"
policy_name policy.Sum = codes "sum"

-- the name of an aggregator in TS.INFO
abbrev pub aggregator_name : Aggregator → List ℕ
aggregator_name Avg = codes "avg"
aggregator_name Sum = codes "sum"
aggregator_name Min = codes "min"
aggregator_name Max = codes "max"
aggregator_name Range = codes "range"
aggregator_name Count = codes "count"
aggregator_name First = codes "first"
aggregator_name Last = codes "last"

-- `[label, value]`
abbrev pub label_reply : Label → Reply
label_reply label = array (Bulk label.name ∷ Bulk label.value ∷ [])

-- `[destination, duration, aggregator, alignment]`
abbrev pub rule_reply : RuleInfo → Reply
rule_reply rule = array (Bulk rule.dest ∷ number rule.grid.duration ∷ Simple (aggregator_name rule.agg) ∷ number rule.grid.align ∷ [])

-- the reply to TS.INFO: twelve names, each followed by its value
abbrev pub info_reply : Info → Reply
info_reply info = array (
    Simple (codes "totalSamples") ∷ number info.total
    ∷ Simple (codes "firstTimestamp") ∷ number info.first
    ∷ Simple (codes "lastTimestamp") ∷ number info.last
    ∷ Simple (codes "retentionTime") ∷ number info.options.retention
    ∷ Simple (codes "chunkSize") ∷ number info.options.chunk_size
    ∷ Simple (codes "chunkType") ∷ Simple (encoding_name info.options.encoding)
    ∷ Simple (codes "duplicatePolicy") ∷ Simple (policy_name info.options.policy)
    ∷ Simple (codes "labels") ∷ array (map label_reply info.labels)
    ∷ Simple (codes "sourceKey") ∷ bulk_or_nil info.source
    ∷ Simple (codes "rules") ∷ array (map rule_reply info.rules)
    ∷ Simple (codes "ignoreMaxTimeDiff") ∷ number info.options.ignore.time
    ∷ Simple (codes "ignoreMaxValDiff") ∷ Value (Some info.options.ignore.value)
    ∷ [])

-- ---- responses

-- the reply to a response
abbrev pub reply_to : Response → Reply
reply_to response.Done = Simple (codes "OK")
reply_to (response.Count n) = number n
reply_to (response.Refused refusal) = refusal_reply refusal
reply_to (response.Items items) = array (map item_reply items)
reply_to (response.Rows rows) = array (map row_reply rows)
reply_to (response.LastRow row) = last_row_reply row
reply_to (response.Members members) = array (map member_reply members)
reply_to (response.LastRows members) = array (map last_member_reply members)
reply_to (response.Keys keys) = array (map (λ key. Bulk key) keys)
reply_to (response.KeyInfo info) = info_reply info
reply_to response.Pong = Simple (codes "PONG")
reply_to (response.Word word) = Bulk word
