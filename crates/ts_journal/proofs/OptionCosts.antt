-- The lengths of options in a record.
use Rattle.std.proofs.Common.{◌≡◌, ℕ, ◌≤◌, nat_le, true, List, [], ◌∷◌, length, codes, refl, arith}
use Rattle.std.proofs.lemmas.Bool.{leb-true, and_parts}
use Rattle.std.specs.Fmt.{decimal}
use Rattle.std.specs.Prelude.{ℤ, Option, None, Some, unwrap_or, IfSome, Result, Ok, Err, IfOk, ◌&&◌, ◌==◌, ◌%◌}
use Rattle.ts_spec.specs.declared.bucket.Aggregator.{Aggregator}
use Rattle.ts_spec.specs.declared.bucket.Aggregator.TheVariants as agg
use Rattle.ts_spec.specs.declared.series.Encoding.{Encoding}
use Rattle.ts_spec.specs.declared.series.Encoding.TheVariants.{Compressed, Uncompressed}
use Rattle.ts_spec.specs.declared.series.Ignore.{Ignore}
use Rattle.ts_spec.specs.declared.series.Policy.{Policy}
use Rattle.ts_spec.specs.declared.series.Policy.TheVariants as policy
use Rattle.ts_spec.specs.Command.{Spec, Change}
use Rattle.ts_spec.specs.Names.{Table}
use Rattle.ts_spec.specs.Refusal.{Fault}
use Rattle.ts_spec.specs.Replies.{aggregator_name}
use Rattle.ts_spec.specs.Sample.{MAX_TIME}
use Rattle.ts_spec.specs.SeriesOptions.{is_chunk_size, alter_options}
use Rattle.ts_spec.specs.Settings.{Word, Setting}
use Rattle.ts_spec.specs.State.{Label}
use Rattle.ts_spec.specs.Value.{shown_value}
use Rattle.ts_journal.specs.Record as record_
use Rattle.ts_journal.specs.Record.{encoding_name, policy_name, retention_words, encoding_words, chunk_size_words, policy_words, on_duplicate_words, ignore_words, label_pairs, labels_words, spec_words, change_words, sample_words, triple_words, with_name, items_of, is_number, accepted_part, accepted, record_words}
use Rattle.ts_journal.proofs.Among.{IsAmong}
use Rattle.ts_journal.proofs.Costs.{Costs, costs-then, costs-none, costs-own, costs-more, costs-among}
use Rattle.ts_journal.proofs.Lengths.{length-number, length-value}
use Rattle.ts_journal.proofs.Readable.{IsSmall, IsBounded}
use Rattle.ts_journal.proofs.ReadableOptions.{IsReadableIgnore, IsReadableSpec, IsReadableChange}

pub both : {X : Type 0} (P Q : X → Type 0) (r : Result X Fault) → IfOk r P → IfOk r Q → IfOk r (λ x. P x × Q x)
both P Q (Ok x) h k = (h, k)
both P Q (Err fault) h k = tt

pub always : {X : Type 0} (P : X → Type 0) (r : Result X Fault) → ((x : X) → P x) → IfOk r P
always P (Ok x) h = h x
always P (Err fault) h = tt

-- ---- words of the record's own

pub named-cost : (name : Word) (n : ℕ) → nat_le (length name) n ≡ true → n ≤ 32 → Costs (name ∷ []) [] 1 n
named-cost name n e few = costs-own name n (leb-true (length name) n e) few

pub number-cost : (n : ℕ) → n ≤ MAX_TIME → Costs (decimal n ∷ []) [] 1 19
number-cost n h = costs-own (decimal n) 19 (length-number n (omega arith)) (omega arith)

pub value-cost : (v : ℤ) → IsBounded v → Costs (shown_value v ∷ []) [] 1 27
value-cost v h = costs-own (shown_value v) 27 (length-value v h) (omega arith)

encoding-cost : (e : Encoding) → Costs (encoding_name e ∷ []) [] 1 12
encoding-cost Compressed = named-cost (encoding_name Compressed) 12 refl (omega arith)
encoding-cost Uncompressed = named-cost (encoding_name Uncompressed) 12 refl (omega arith)

policy-cost : (p : Policy) → Costs (policy_name p ∷ []) [] 1 5
policy-cost policy.Block = named-cost (policy_name policy.Block) 5 refl (omega arith)
policy-cost policy.First = named-cost (policy_name policy.First) 5 refl (omega arith)
policy-cost policy.Last = named-cost (policy_name policy.Last) 5 refl (omega arith)
policy-cost policy.Min = named-cost (policy_name policy.Min) 5 refl (omega arith)
policy-cost policy.Max = named-cost (policy_name policy.Max) 5 refl (omega arith)
policy-cost policy.Sum = named-cost (policy_name policy.Sum) 5 refl (omega arith)

pub aggregator-cost : (a : Aggregator) → Costs (aggregator_name a ∷ []) [] 1 5
aggregator-cost agg.Avg = named-cost (aggregator_name agg.Avg) 5 refl (omega arith)
aggregator-cost agg.Sum = named-cost (aggregator_name agg.Sum) 5 refl (omega arith)
aggregator-cost agg.Min = named-cost (aggregator_name agg.Min) 5 refl (omega arith)
aggregator-cost agg.Max = named-cost (aggregator_name agg.Max) 5 refl (omega arith)
aggregator-cost agg.Range = named-cost (aggregator_name agg.Range) 5 refl (omega arith)
aggregator-cost agg.Count = named-cost (aggregator_name agg.Count) 5 refl (omega arith)
aggregator-cost agg.First = named-cost (aggregator_name agg.First) 5 refl (omega arith)
aggregator-cost agg.Last = named-cost (aggregator_name agg.Last) 5 refl (omega arith)

-- ---- options

retention-cost : (n : ℕ) → n ≤ MAX_TIME → Costs (retention_words n) [] 2 28
retention-cost n h = costs-then (named-cost (codes "RETENTION") 9 refl (omega arith)) (number-cost n h)

encoding_words-cost : (e : Encoding) → Costs (encoding_words e) [] 2 20
encoding_words-cost e = costs-then (named-cost (codes "ENCODING") 8 refl (omega arith)) (encoding-cost e)

chunk-small : (n : ℕ) → is_chunk_size n ≡ true → n ≤ MAX_TIME
chunk-small n h =
    let most : n ≤ 1048576 = leb-true n 1048576 (and_parts (nat_le 48 n) (nat_le n 1048576) (and_parts (nat_le 48 n && nat_le n 1048576) (n % 8 == 0) h).0).1 in
    omega (arith, most)

chunk_size-cost : (n : ℕ) → is_chunk_size n ≡ true → Costs (chunk_size_words n) [] 2 29
chunk_size-cost n h = costs-then (named-cost (codes "CHUNK_SIZE") 10 refl (omega arith)) (number-cost n (chunk-small n h))

policy_words-cost : (p : Policy) → Costs (policy_words p) [] 2 21
policy_words-cost p = costs-then (named-cost (codes "DUPLICATE_POLICY") 16 refl (omega arith)) (policy-cost p)

pub on-cost : (p : Policy) → Costs (on_duplicate_words p) [] 2 17
on-cost p = costs-then (named-cost (codes "ON_DUPLICATE") 12 refl (omega arith)) (policy-cost p)

ignore-cost : (i : Ignore) → IsReadableIgnore i → Costs (ignore_words i) [] 3 52
ignore-cost i h = costs-then (named-cost (codes "IGNORE") 6 refl (omega arith)) (costs-then (number-cost i.time h.time) (value-cost i.value h.value))

labels-cost : (ls : List Label) (words : List Word) → IsAmong (label_pairs ls) words → Costs (labels_words ls) words 1 6
labels-cost ls words h = costs-then (named-cost (codes "LABELS") 6 refl (omega arith)) (costs-among h)

given-cost : {X : Type 0} (words : X → List Word) (o : Option X) (P : X → Type 0) (a b : ℕ) → IfSome o P → ((x : X) → P x → Costs (words x) [] a b) → Costs (record_.given words o) [] a b
given-cost words None P a b h cost = costs-more a b (costs-none []) (omega arith) (omega arith)
given-cost words (Some x) P a b h cost = cost x h

pub given-any : {X : Type 0} (words : X → List Word) (o : Option X) (a b : ℕ) → ((x : X) → Costs (words x) [] a b) → Costs (record_.given words o) [] a b
given-any words None a b cost = costs-more a b (costs-none []) (omega arith) (omega arith)
given-any words (Some x) a b cost = cost x

pub spec-cost : (known : Table Setting) (s : Spec) (words : List Word) → IsReadableSpec known s → IsAmong (label_pairs s.labels) words → Costs (spec_words s) words 12 156
spec-cost known s words h among =
    costs-then (retention-cost s.options.retention h.retention) (costs-then (encoding_words-cost s.options.encoding)
    (costs-then (chunk_size-cost s.options.chunk_size h.chunk_size) (costs-then (policy_words-cost s.options.policy)
    (costs-then (ignore-cost s.options.ignore h.ignore) (labels-cost s.labels words among)))))

labels-given-cost : (o : Option (List Label)) (words : List Word) → IsAmong (label_pairs (unwrap_or o [])) words → Costs (record_.given labels_words o) words 1 6
labels-given-cost None words h = costs-more 1 6 (costs-none words) (omega arith) (omega arith)
labels-given-cost (Some ls) words h = labels-cost ls words h

pub change-cost : (c : Change) (words : List Word) → IsReadableChange alter_options c → IsAmong (label_pairs (unwrap_or c.labels [])) words → Costs (change_words c) words 10 136
change-cost c words h among =
    costs-then (costs-then (costs-then (costs-then (given-cost retention_words c.retention IsSmall 2 28 h.retention retention-cost)
    (given-cost chunk_size_words c.chunk_size (λ n. is_chunk_size n ≡ true) 2 29 h.chunk_size chunk_size-cost))
    (given-any policy_words c.policy 2 21 policy_words-cost))
    (given-cost ignore_words c.ignore IsReadableIgnore 3 52 h.ignore ignore-cost)) (labels-given-cost c.labels words among)
