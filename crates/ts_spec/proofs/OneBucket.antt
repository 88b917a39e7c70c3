-- If two states differ in one bucket of a destination, it shows the same at every time except the start of that
-- bucket.
use Rattle.std.proofs.Common.{◌≡◌, ◌≢◌, ℕ, List, ◌&&◌, nat_le, if◌then◌else◌, Option, Some, None, sym, ap, ◌∙◌}
use Rattle.std.specs.Option.{option_or}
use Rattle.ts_spec.specs.Sample.{Point, at}
use Rattle.ts_spec.specs.Bucket.{members}
use Rattle.ts_spec.specs.Key.{Key}
use Rattle.ts_spec.specs.State.{Rule, State, edge, edge_of}
use Rattle.ts_spec.specs.Aggregate.{aggregate}
use Rattle.ts_spec.specs.Rules.{is_closed, has_any, has_row_of, bucket_sample, shown, shown_by}
use Rattle.ts_spec.specs.OneBucket.{DiffersInOneBucket}
use Rattle.ts_spec.proofs.Shows.{at-shown}
use Rattle.ts_spec.proofs.Keeps.{shown-there}

-- the row of a rule at a time depends only on what it counts there
told-same : (r : Rule) (qs : List Point) (born t : ℕ) → members r.grid t r.seen ≡ members r.grid t qs →
    (if has_row_of r t then Some (bucket_sample r born t) else None) ≡ (if has_row_of (record r { seen = qs }) t then Some (bucket_sample (record r { seen = qs }) born t) else None)
told-same r qs born t h =
    ap (λ (ps : List Point). if is_closed r t && has_any ps then Some (record { time = t; value = aggregate r.agg ps; made = born }) else None) h

pub one-bucket-shows : (m n : State) (k : Key) (b : ℕ) → DiffersInOneBucket m n k b → (t : ℕ) → t ≢ b → at t (shown m k) ≡ at t (shown n k)
one-bucket-shows m n k b h t other =
    ap (at t) (shown-there m k h.first h.first_there ∙ ap (λ (o : Option Rule). shown_by o h.first) h.rule_there)
    ∙ at-shown h.rule h.first t
    ∙ inside
    ∙ sym (at-shown (record h.rule { seen = h.other.seen }) h.second t)
    ∙ ap (at t) (ap (λ (o : Option Rule). shown_by o h.second) (ap (λ (r : Rule). Some r) (sym h.rules) ∙ sym h.other_there) ∙ sym (shown-there n k h.second h.second_there))
  where
    inside : (if nat_le (edge h.first) t then option_or (if has_row_of h.rule t then Some (bucket_sample h.rule h.first.born t) else None) (at t h.first.plain) else None) ≡
        (if nat_le (edge h.second) t then option_or (if has_row_of (record h.rule { seen = h.other.seen }) t then Some (bucket_sample (record h.rule { seen = h.other.seen }) h.second.born t) else None) (at t h.second.plain) else None)
    inside =
        let told : (if has_row_of h.rule t then Some (bucket_sample h.rule h.first.born t) else None) ≡ (if has_row_of (record h.rule { seen = h.other.seen }) t then Some (bucket_sample (record h.rule { seen = h.other.seen }) h.second.born t) else None) =
        told-same h.rule h.other.seen h.first.born t (h.counted t other)
        ∙ ap (λ (n : ℕ). if has_row_of (record h.rule { seen = h.other.seen }) t then Some (bucket_sample (record h.rule { seen = h.other.seen }) n t) else None) h.born in
        let plain : at t h.first.plain ≡ at t h.second.plain = h.plain t other in
        λ i. if nat_le (edge_of (h.options i).retention (h.high i)) t then option_or (told i) (plain i) else None
