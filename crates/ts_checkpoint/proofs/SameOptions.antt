-- Options that the code finds equal are the same.
use Rattle.std.proofs.Common.{rules, ◌≡◌, ◌==◌, ◌&&◌, Bool, true, eqb-true}
use Rattle.std.proofs.lemmas.Bool.{and_parts}
use Rattle.std.proofs.lemmas.Bool.Decides.{Decides-int_eq}
use Rattle.std.specs.Ordering.{int_eq}
use denote.Enum.Bare.{sameb, same_true}
use Rattle.ts_spec.specs.contracts.series.Encoding as encoding
use Rattle.ts_spec.specs.contracts.series.Policy as policy
use Rattle.ts_spec.specs.declared.series.Options.{Options}

abbrev same-encoding : Options → Options → Bool
same-encoding a b = sameb encoding.the_type a.encoding b.encoding

abbrev same-policy : Options → Options → Bool
same-policy a b = sameb policy.the_type a.policy b.policy

abbrev same-ignore : Options → Options → Bool
same-ignore a b = (a.ignore.time == b.ignore.time) && int_eq a.ignore.value b.ignore.value

abbrev same-from-size : Options → Options → Bool
same-from-size a b = (a.chunk_size == b.chunk_size) && (same-policy a b && same-ignore a b)

abbrev pub same_options : Options → Options → Bool
same_options a b = (a.retention == b.retention) && (same-encoding a b && same-from-size a b)

pub same-options : (a b : Options) → same_options a b ≡ true → a ≡ b
same-options a b h =
    let one = and_parts (a.retention == b.retention) (same-encoding a b && same-from-size a b) h in
    let two = and_parts (same-encoding a b) (same-from-size a b) one.1 in
    let three = and_parts (a.chunk_size == b.chunk_size) (same-policy a b && same-ignore a b) two.1 in
    let four = and_parts (same-policy a b) (same-ignore a b) three.1 in
    let five = and_parts (a.ignore.time == b.ignore.time) (int_eq a.ignore.value b.ignore.value) four.1 in
    let retention : a.retention ≡ b.retention = eqb-true a.retention b.retention one.0 in
    let encoding : a.encoding ≡ b.encoding = same_true encoding.the_type (search rules) a.encoding b.encoding two.0 in
    let size : a.chunk_size ≡ b.chunk_size = eqb-true a.chunk_size b.chunk_size three.0 in
    let policy : a.policy ≡ b.policy = same_true policy.the_type (search rules) a.policy b.policy four.0 in
    let time : a.ignore.time ≡ b.ignore.time = eqb-true a.ignore.time b.ignore.time five.0 in
    let value : a.ignore.value ≡ b.ignore.value = (Decides-int_eq a.ignore.value b.ignore.value).0 five.1 in
    λ i. record {
      retention = retention i;
      encoding = encoding i;
      chunk_size = size i;
      policy = policy i;
      ignore = record { time = time i; value = value i };
    }
