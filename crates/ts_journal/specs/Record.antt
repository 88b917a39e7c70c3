-- The record of a change: the request in the journal, which has the same effect whenever it is executed.
use Rattle.std.specs.Prelude.{◌≡◌, ℕ, ℤ, Bool, true, false, List, [], ◌∷◌, ◌++◌, flat_map, codes, Option, None, Some, Result, Ok, if◌then◌else◌}
use Rattle.std.specs.Fmt.{decimal}
use Rattle.ts_spec.specs.declared.command.At.{At}
use Rattle.ts_spec.specs.declared.series.Encoding.{Encoding}
use Rattle.ts_spec.specs.declared.series.Encoding.TheVariants.{Compressed, Uncompressed}
use Rattle.ts_spec.specs.declared.series.Ignore.{Ignore}
use Rattle.ts_spec.specs.declared.series.Policy.{Policy}
use Rattle.ts_spec.specs.declared.series.Policy.TheVariants as policy
use Rattle.ts_spec.specs.Command.{Spec, Change, Triple, Command, Create, Alter, Add, Madd, Incr, DelRange, CreateRule, DeleteRule, Drop}
use Rattle.ts_spec.specs.Encoded.{encoded_request}
use Rattle.ts_spec.specs.Refusal.{Fault}
use Rattle.ts_spec.specs.Outcome.{time_of}
use Rattle.ts_spec.specs.Replies.{aggregator_name}
use Rattle.ts_spec.specs.Settings.{Word}
use Rattle.ts_spec.specs.State.{Label}
use Rattle.ts_spec.specs.Text.{Reply, Error, Int, Array, Replies, Empty, Item, IsOneLine, text}
use Rattle.ts_spec.specs.Value.{shown_value}
use Rattle.ts_spec.specs.Wire.{Request}

-- ---- options

-- the arguments of an option, if it is given
abbrev pub given : {X : Type 0} → (X → List Word) → Option X → List Word
given words None = []
given words (Some x) = words x

-- the name of an encoding
abbrev pub encoding_name : Encoding → Word
encoding_name Compressed = codes "COMPRESSED"
encoding_name Uncompressed = codes "UNCOMPRESSED"

-- the name of a policy
abbrev pub policy_name : Policy → Word
policy_name policy.Block = codes "BLOCK"
policy_name policy.First = codes "FIRST"
policy_name policy.Last = codes "LAST"
policy_name policy.Min = codes "MIN"
policy_name policy.Max = codes "MAX"
policy_name policy.Sum = codes "SUM"

-- RETENTION: how long samples are kept
abbrev pub retention_words : ℕ → List Word
retention_words n = codes "RETENTION" ∷ decimal n ∷ []

-- ENCODING: how chunks are encoded
abbrev pub encoding_words : Encoding → List Word
encoding_words encoding = codes "ENCODING" ∷ encoding_name encoding ∷ []

-- CHUNK_SIZE: how large a chunk may be
abbrev pub chunk_size_words : ℕ → List Word
chunk_size_words n = codes "CHUNK_SIZE" ∷ decimal n ∷ []

-- DUPLICATE_POLICY: what a series does with two samples at one time
abbrev pub policy_words : Policy → List Word
policy_words p = codes "DUPLICATE_POLICY" ∷ policy_name p ∷ []

-- ON_DUPLICATE: what one write does if there is a sample at its time
abbrev pub on_duplicate_words : Policy → List Word
on_duplicate_words p = codes "ON_DUPLICATE" ∷ policy_name p ∷ []

-- IGNORE: how close to the last sample a new one is ignored
abbrev pub ignore_words : Ignore → List Word
ignore_words ignore = codes "IGNORE" ∷ decimal ignore.time ∷ shown_value ignore.value ∷ []

-- labels and their values, alternating
abbrev pub label_pairs : List Label → List Word
label_pairs [] = []
label_pairs (label ∷ labels) = label.name ∷ label.value ∷ label_pairs labels

-- LABELS: the labels of a series
abbrev pub labels_words : List Label → List Word
labels_words labels = codes "LABELS" ∷ label_pairs labels

-- all options of a new series
abbrev pub spec_words : Spec → List Word
spec_words s =
    retention_words s.options.retention
    ++ encoding_words s.options.encoding
    ++ chunk_size_words s.options.chunk_size
    ++ policy_words s.options.policy
    ++ ignore_words s.options.ignore
    ++ labels_words s.labels

-- the options that TS.ALTER changes
abbrev pub change_words : Change → List Word
change_words c =
    given retention_words c.retention
    ++ given chunk_size_words c.chunk_size
    ++ given policy_words c.policy
    ++ given ignore_words c.ignore
    ++ given labels_words c.labels

-- ---- commands

-- a sample of TS.MADD, if its time and value are valid
abbrev pub sample_words : (reading : ℕ) → Word → Result At Fault → Result ℤ Fault → List Word
sample_words reading key (Ok at) (Ok v) = key ∷ decimal (time_of reading at) ∷ shown_value v ∷ []
sample_words reading key _ _ = []

-- the key, time and value of a triple of TS.MADD
abbrev pub triple_words : (reading : ℕ) → Triple → List Word
triple_words reading t = sample_words reading t.key t.at t.value

-- a name and the arguments after it, or nothing if there are none
abbrev pub with_name : Word → List Word → Request
with_name name [] = []
with_name name (word ∷ words) = name ∷ word ∷ words

-- The arguments of the record of a change. A reading of the clock replaces each time that the command leaves to the
-- clock. A command that changes nothing has none.
abbrev pub record_words : (reading : ℕ) → Command → Request
record_words reading (Create key s) = codes "TS.CREATE" ∷ key ∷ spec_words s
record_words reading (Alter key c) = codes "TS.ALTER" ∷ key ∷ change_words c
record_words reading (Add key at v on s) = codes "TS.ADD" ∷ key ∷ decimal (time_of reading at) ∷ shown_value v ∷ (given on_duplicate_words on ++ spec_words s)
record_words reading (Madd triples) = with_name (codes "TS.MADD") (flat_map (triple_words reading) triples)
record_words reading (Incr key v at s) = codes "TS.INCRBY" ∷ key ∷ shown_value v ∷ codes "TIMESTAMP" ∷ decimal (time_of reading at) ∷ spec_words s
record_words reading (DelRange key from to) = codes "TS.DEL" ∷ key ∷ decimal from ∷ decimal to ∷ []
record_words reading (CreateRule source dest agg grid) =
    codes "TS.CREATERULE" ∷ source ∷ dest ∷ codes "AGGREGATION" ∷ aggregator_name agg ∷ decimal grid.duration ∷ decimal grid.align ∷ []
record_words reading (DeleteRule source dest) = codes "TS.DELETERULE" ∷ source ∷ dest ∷ []
record_words reading (Drop keys) = codes "DEL" ∷ keys
record_words reading _ = []

-- whether a command is one that changes the database
abbrev pub is_change : Command → Bool
is_change (Create key s) = true
is_change (Alter key c) = true
is_change (Add key at v on s) = true
is_change (Madd triples) = true
is_change (Incr key v at s) = true
is_change (DelRange key from to) = true
is_change (CreateRule source dest agg grid) = true
is_change (DeleteRule source dest) = true
is_change (Drop keys) = true
is_change _ = false

-- ---- what of them was accepted

-- whether a reply is an error
abbrev pub is_error : Reply → Bool
is_error (Error words) = true
is_error _ = false

-- whether a reply is a number
abbrev pub is_number : Reply → Bool
is_number (Int n) = true
is_number _ = false

-- the items of an array reply
abbrev pub items_of : Reply → Replies
items_of (Array items) = items
items_of _ = Empty

-- the triples whose item in the reply is a number
abbrev pub accepted_part : List Triple → Replies → List Triple
accepted_part [] replies = []
accepted_part (t ∷ ts) Empty = []
accepted_part (t ∷ ts) (Item reply replies) = if is_number reply then t ∷ accepted_part ts replies else accepted_part ts replies

-- the accepted part of a command: of TS.MADD, the accepted triples; any other command is whole
abbrev pub accepted : Command → Reply → Command
accepted (Madd triples) reply = Madd (accepted_part triples (items_of reply))
accepted c reply = c

-- the bytes of a request, or nothing if it has no arguments
abbrev pub bytes_of : Request → List ℕ
bytes_of [] = []
bytes_of (word ∷ words) = encoded_request (word ∷ words)

-- The record of a command executed with this reading of the clock and this reply. It is empty if nothing was accepted,
-- or if the command is not a change.
abbrev pub record_of : Command → (reading : ℕ) → Reply → List ℕ
record_of c reading reply = if is_error reply then [] else bytes_of (record_words reading (accepted c reply))

-- each item of TS.MADD's reply is a number or an error of one line
abbrev pub AreMaddItems : Replies → Type 0
AreMaddItems Empty = Unit {0}
AreMaddItems (Item (Int n) replies) = AreMaddItems replies
AreMaddItems (Item (Error words) replies) = IsOneLine words × AreMaddItems replies
AreMaddItems (Item reply replies) = ⊥

-- this is the record for the text of each reply that the command may get
abbrev pub IsRecordOf : (reading : ℕ) → Command → (record_ : List ℕ → List ℕ) → Type 0
IsRecordOf reading c record_ = (reply : Reply) → AreMaddItems (items_of reply) → record_ (text reply) ≡ record_of c reading reply
