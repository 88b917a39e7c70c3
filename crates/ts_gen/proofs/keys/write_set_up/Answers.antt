use Rattle.std.proofs.Common.{◌++◌, ℕ, List}
use Rattle.std.proofs.lemmas.Result.{on_ok_weaker}
use Rattle.std.specs.Prelude.{codes}
use Rattle.ts_spec.specs.Wire.{Request}
use Rattle.ts_gen.specs.Workload.{create, create_rule, for_each_unit, set_up}
use Rattle.ts_gen.proofs.Appending.{then_all}
use Rattle.ts_gen.proofs.keys.write_set_up.Goals as goal

pub returns : goal.returns
unfolding set_up
returns c =
    let old : List ℕ = c.args.bytes.now.items in
    let first : List ℕ = c.write_keys_of_kind.new.bytes.items in
    let second : List ℕ = c.write_keys_of_kind-2.new.bytes.items in
    let third : List ℕ = c.write_keys_of_kind-3.new.bytes.items in
    let fourth : List ℕ = c.write_rules_of_kind.new.bytes.items in
    let last : List ℕ = c.write_rules_of_kind-2.new.bytes.items in
    let raws : List Request = for_each_unit (create (codes "raw")) in
    let avgs : List Request = for_each_unit (create (codes "avg")) in
    let maxs : List Request = for_each_unit (create (codes "max")) in
    let to_avgs : List Request = for_each_unit (create_rule (codes "avg")) in
    let to_maxs : List Request = for_each_unit (create_rule (codes "max")) in
    let p2 = then_all old first second raws avgs c.in_ok-write_keys_of_kind.ensures c.in_ok-write_keys_of_kind-2.ensures in
    let p3 = then_all old second third (raws ++ avgs) maxs p2 c.in_ok-write_keys_of_kind-3.ensures in
    let p4 = then_all old third fourth (raws ++ avgs ++ maxs) to_avgs p3 c.in_ok-write_rules_of_kind.ensures in
    on_ok_weaker c.write_rules_of_kind-2.result (λ e. then_all old fourth last (raws ++ avgs ++ maxs ++ to_avgs) to_maxs p4 e) c.write_rules_of_kind-2.ensures
