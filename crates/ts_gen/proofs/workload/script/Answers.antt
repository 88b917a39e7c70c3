use Rattle.std.proofs.Common.{◌++◌, ◌∷◌, [], ℕ, List, sym, ◌∙◌, ap, append-nil}
use Rattle.ts_spec.specs.Encoded.{encoded, encoded_request}
use Rattle.ts_gen.specs.Workload.{set_up, changes, final_query}
use Rattle.ts_gen.proofs.Appending.{then_all}
use Rattle.ts_gen.proofs.workload.script.Goals as goal

pub returns : goal.returns
returns c =
    let begun : List ℕ = c.write_set_up.new.bytes.items in
    let changed : List ℕ = c.write_change_requests.new.bytes.items in
    let p2 = then_all [] begun changed set_up (changes c.args.seed c.args.n) (c.in_ok-write_set_up.ensures ∙ ap (λ (l : List ℕ). l ++ encoded set_up) c.in_ok-bytes.ensures.items) c.in_ok-write_change_requests.ensures in
    then_all [] changed c.write_final_query.new.bytes.items (set_up ++ changes c.args.seed c.args.n) (final_query ∷ []) p2 (c.in_ok-write_final_query.ensures ∙ ap (λ (l : List ℕ). changed ++ l) (sym (append-nil (encoded_request final_query))))
