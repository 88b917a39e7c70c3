-- The workload of seed 7: its first change, and its length without changes.
use Rattle.std.proofs.Common.{◌≡◌, ◌/◌, ◌^◌, ◌∷◌, [], length, refl}
use Rattle.std.specs.Fmt.{digits}
use Rattle.std.specs.Prelude.{codes}
use Rattle.ts_spec.specs.Encoded.{encoded_request}
use Rattle.ts_gen.specs.Workload.{change, generator_state, script, set_up, workload}

first_number : generator_state 7 1 ≡ 9098160460397411210
unfolding generator_state
first_number = refl

first_bits : generator_state 7 1 / 2 ^ 33 ≡ 1059165278
unfolding generator_state
first_bits = refl

first_change : change 1 1059165278 ≡ codes "TS.ADD" ∷ codes "raw:1" ∷ codes "1000" ∷ codes "961" ∷ codes "ON_DUPLICATE" ∷ codes "LAST" ∷ []
unfolding digits
first_change = refl

its_bytes : length (encoded_request (change 1 1059165278)) ≡ 75
unfolding digits
its_bytes = refl

requests_without_changes : length (workload 7 0) ≡ 21
unfolding set_up
requests_without_changes = refl

bytes_without_changes : length (script 7 0) ≡ 1674
unfolding set_up digits
bytes_without_changes = refl
