-- The workload of a seed: requests that create keys and rules, then changes drawn from the seed, and one query.
use Rattle.std.specs.Prelude.{ℕ, zero, suc, ◌+◌, ◌-◌, ◌*◌, ◌/◌, ◌%◌, ◌^◌, min, ◌==◌, if◌then◌else◌, pos, ◌-ℤ◌, List, [], ◌∷◌, ◌++◌, map, codes}
use Rattle.std.specs.Fmt.{decimal, signed_decimal}
use Rattle.std.specs.List.{range_with_len}
use Rattle.ts_spec.specs.Encoded.{encoded}
use Rattle.ts_spec.specs.Wire.{Request}

-- ---- the keys

-- the key of a kind and a unit
abbrev pub key : List ℕ → ℕ → List ℕ
key kind unit = kind ++ codes ":" ++ decimal unit

-- the key of a unit's raw samples
abbrev pub raw : ℕ → List ℕ
raw unit = key (codes "raw") unit

-- creates a key with its kind and its unit as labels
abbrev pub create : List ℕ → ℕ → Request
create kind unit =
    codes "TS.CREATE" ∷ key kind unit ∷ codes "LABELS" ∷ codes "kind" ∷ kind ∷ codes "unit" ∷ decimal unit ∷ []

-- creates a rule from a unit's raw key, per minute, with the aggregator that the destination's kind names
abbrev pub create_rule : List ℕ → ℕ → Request
create_rule kind unit =
    codes "TS.CREATERULE" ∷ raw unit ∷ key kind unit ∷ codes "AGGREGATION" ∷ kind ∷ codes "60000" ∷ []

-- one request for each of the four units
abbrev pub for_each_unit : (ℕ → Request) → List Request
for_each_unit request = map request (range_with_len 0 4)

-- all keys and rules
unfoldable pub set_up : List Request
set_up =
    for_each_unit (create (codes "raw"))
    ++ for_each_unit (create (codes "avg"))
    ++ for_each_unit (create (codes "max"))
    ++ for_each_unit (create_rule (codes "avg"))
    ++ for_each_unit (create_rule (codes "max"))

-- ---- the changes

-- the generator's next number
abbrev pub next : ℕ → ℕ
next x = (x * 6364136223846793005 + 1442695040888963407) % 2 ^ 64

-- the k-th number drawn from a seed
unfoldable pub generator_state : (seed k : ℕ) → ℕ
generator_state seed zero = seed
generator_state seed (suc k) = next (generator_state seed k)

-- the time `back` seconds before second k, in milliseconds, at least 0
abbrev pub second_before : (back k : ℕ) → ℕ
second_before back k = 1000 * (k - min k back)

-- a deletion of five seconds, which begins 32 seconds before second k
abbrev pub delete : ℕ → Request
delete k =
    codes "TS.DEL" ∷ raw (k % 4) ∷ decimal (second_before 32 k) ∷ decimal (second_before 32 k + 4000) ∷ []

-- a value from -1000 to 1000
abbrev pub value : (r : ℕ) → List ℕ
value r = signed_decimal (pos (r % 2001) -ℤ pos 1000)

-- one sample in sixteen is late, by less than 64 seconds
abbrev pub time : (k r : ℕ) → ℕ
time k r = if r % 16 == 0 then second_before (r / 16 % 64) k else 1000 * k

-- a sample for one unit's raw key; it replaces a sample at the same time
abbrev pub add : (k r : ℕ) → Request
add k r =
    codes "TS.ADD" ∷ raw (k % 4) ∷ decimal (time k r) ∷ value r ∷ codes "ON_DUPLICATE" ∷ codes "LAST" ∷ []

-- the k-th change: one in sixteen is a deletion
abbrev pub change : (k r : ℕ) → Request
change k r = if r % 16 == 1 then delete k else add k r

-- the first n changes, drawn from the high bits of the generator
abbrev pub changes : (seed n : ℕ) → List Request
changes seed n = map (λ k. change k (generator_state seed k / 2 ^ 33)) (range_with_len 1 n)

-- ---- the whole

-- a query for all rows of all rule destinations
abbrev pub final_query : Request
final_query = codes "TS.MRANGE" ∷ codes "-" ∷ codes "+" ∷ codes "FILTER" ∷ codes "kind=(avg,max)" ∷ []

-- the requests of a seed with n changes
abbrev pub workload : (seed n : ℕ) → List Request
workload seed n = set_up ++ changes seed n ++ final_query ∷ []

-- the bytes of these requests
abbrev pub script : (seed n : ℕ) → List ℕ
script seed n = encoded (workload seed n)
