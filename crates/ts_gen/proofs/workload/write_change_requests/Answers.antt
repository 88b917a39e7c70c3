use Rattle.std.proofs.Common.{◌≡◌, ◌+◌, ◌/◌, ◌^◌, ◌++◌, ℕ, sym, ◌∙◌, ap, subst, append-nil, arith}
use Rattle.ts_spec.specs.Encoded.{encoded, encoded_request}
use Rattle.ts_gen.specs.Workload.{change, changes, generator_state, next}
use Rattle.ts_gen.proofs.Appending.{one_more}
use Rattle.ts_gen.proofs.Drawing.{drawn_none, drawn_next}
use Rattle.ts_gen.proofs.workload.write_change_requests.Goals as goal

pub loop-k-init : goal.loop-k-init
loop-k-init c = record { bytes = sym (append-nil c.args.bytes.now.items); generator_state = sym (drawn_none c.args.seed); within = omega arith }

pub loop-k-preserved : goal.loop-k-preserved
loop-k-preserved c =
    let next_drawn : c.next_generator_state-generator_state.result ≡ generator_state c.args.seed (c.loop-k.k + 1) =
    c.next_generator_state-generator_state.ensures ∙ ap next c.loop-k.invariant.generator_state ∙ sym (drawn_next c.args.seed c.loop-k.k) in
    record {
      bytes = one_more (λ k. change k (generator_state c.args.seed k / 2 ^ 33)) c.args.bytes.now.items c.loop-k.bytes.items c.write_change_request.new.bytes.items 1 c.loop-k.k (c.loop-k.k + 1) (omega arith) c.loop-k.invariant.bytes (c.in_ok-write_change_request.ensures ∙ ap (λ (x : ℕ). c.loop-k.bytes.items ++ encoded_request (change (c.loop-k.k + 1) (x / 2 ^ 33))) next_drawn);
      generator_state = next_drawn;
      within = omega arith;
    }

pub returns : goal.returns
returns c =
    let all : c.loop-k.k ≡ c.args.n = omega arith in
    subst (λ (n : ℕ). c.loop-k.bytes.items ≡ c.args.bytes.now.items ++ encoded (changes c.args.seed n)) all c.loop-k.invariant.bytes
