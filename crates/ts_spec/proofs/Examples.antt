-- Notation of the worked examples: keys of one letter, values as whole numbers, and the responses to a list of
-- commands.
use Rattle.std.specs.Prelude.{ℕ, ◌*◌, ◌^◌, pos, true, false, Bool, List, [], ◌∷◌, Some, None, Option, codes}
use Rattle.ts_spec.specs.declared.series.Policy.{Policy}
use Rattle.ts_spec.specs.declared.series.Policy.TheVariants.{Block, Last}
use Rattle.ts_spec.specs.declared.series.Encoding.TheVariants.{Compressed}
use Rattle.ts_spec.specs.declared.series.Ignore.{Ignore}
use Rattle.ts_spec.specs.declared.bucket.Aggregator.{Aggregator}
use Rattle.ts_spec.specs.declared.bucket.Aggregator.TheVariants as aggregator
use Rattle.ts_spec.specs.declared.bucket.Stamp.{Stamp}
use Rattle.ts_spec.specs.Limits.{usual}
use Rattle.ts_spec.specs.Sample.{MAX_TIME}
use Rattle.ts_spec.specs.Key.{Key}
use Rattle.ts_spec.specs.State.{State, empty}
use Rattle.ts_spec.specs.declared.command.At.TheVariants.{Time}
use Rattle.ts_spec.specs.Command.{Spec, Query, Buckets, Command, Create, Alter, Add, Incr, CreateRule, Range}
use Rattle.ts_spec.specs.Answer.{Number, Nan, Row}
use Rattle.ts_spec.specs.Response.{Response}
use Rattle.ts_spec.specs.Step.{step, Outcome}

abbrev pub responses_from : State → List Command → List Response
responses_from m [] = []
responses_from m (c ∷ cs) = let o : Outcome = step usual m 0 c in o.response ∷ responses_from o.state cs

-- the responses to the commands, from the empty database on
abbrev pub responses : List Command → List Response
responses cs = responses_from empty cs

abbrev pub a : Key
a = codes "a"

abbrev pub b : Key
b = codes "b"

abbrev pub c : Key
c = codes "c"

abbrev pub d : Key
d = codes "d"

abbrev pub e : Key
e = codes "e"

abbrev pub p : Key
p = codes "p"

abbrev pub r : Key
r = codes "r"

abbrev pub s : Key
s = codes "s"

abbrev pub x : Key
x = codes "x"

-- at most an equal sample is ignored
abbrev pub equal : Ignore
equal = record { time = 0; value = pos 0 }

-- with retention, and with a policy and what is ignored
abbrev pub kept_for : ℕ → Spec
kept_for retention = record { options = record { retention = retention; encoding = Compressed; chunk_size = 4096; policy = Block; ignore = equal }; labels = [] }

abbrev pub ignoring : Policy → (time value : ℕ) → Spec
ignoring policy time amount = record {
  options = record { retention = 0; encoding = Compressed; chunk_size = 4096; policy = policy; ignore = record { time = time; value = pos (amount * 10 ^ 6) } };
  labels = [];
}

abbrev pub create : Key → Command
create k = Create k (kept_for 0)

abbrev pub create_kept_for : ℕ → Key → Command
create_kept_for retention k = Create k (kept_for retention)

abbrev pub alter_retention : Key → ℕ → Command
alter_retention k n = Alter k (record { retention = Some n; chunk_size = None; policy = None; ignore = None; labels = None })

abbrev pub alter_ignore : Key → (time value : ℕ) → Command
alter_ignore k time amount = Alter k (record { retention = None; chunk_size = None; policy = None; ignore = Some (record { time = time; value = pos (amount * 10 ^ 6) }); labels = None })

-- TS.ADD, and with ON_DUPLICATE
abbrev pub add : Key → (time value : ℕ) → Command
add k t v = Add k (Time t) (pos (v * 10 ^ 6)) None (kept_for 0)

abbrev pub add_as : Policy → Key → (time value : ℕ) → Command
add_as policy k t v = Add k (Time t) (pos (v * 10 ^ 6)) (Some policy) (kept_for 0)

abbrev pub replace : Key → (time value : ℕ) → Command
replace k t v = add_as Last k t v

-- TS.INCRBY
abbrev pub increase : Key → (time change : ℕ) → Command
increase k t x = Incr k (pos (x * 10 ^ 6)) (Time t) (kept_for 0)

-- AGGREGATION sum 10, with an alignment
abbrev pub sum_rule_at : ℕ → (source dest : Key) → Command
sum_rule_at align source dest = CreateRule source dest aggregator.Sum (record { align = align; duration = 10 })

abbrev pub sum_rule : (source dest : Key) → Command
sum_rule source dest = sum_rule_at 0 source dest

abbrev pub question : (from to : ℕ) → Option Buckets → Query
question from to buckets = record { from = from; to = to; times = None; values = None; count = None; buckets = buckets; reverse = false }

-- TS.RANGE from `-` to `+`, and with LATEST
abbrev pub range : Key → Command
range k = Range k false (question 0 MAX_TIME None)

abbrev pub range_latest : Key → Command
range_latest k = Range k true (question 0 MAX_TIME None)

-- buckets of 10
abbrev pub tens : ℕ → Aggregator → Stamp → (empty : Bool) → Option Buckets
tens align aggregator stamp empty = Some (record { grid = record { align = align; duration = 10 }; agg = aggregator; stamp = stamp; empty = empty })

abbrev pub row : (time value : ℕ) → Row
row t v = record { time = t; value = Number (pos (v * 10 ^ 6)) }

abbrev pub no_value : ℕ → Row
no_value t = record { time = t; value = Nan }
