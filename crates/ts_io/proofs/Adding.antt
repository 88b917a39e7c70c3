-- What a log has after several appends.
use Rattle.std.proofs.Common.{◌≡◌, ℕ, ◌+◌, ◌-◌, ◌≤◌, List, [], ◌++◌, length, take, drop, Option, None, Some, refl, sym, ◌∙◌, ap, append_assoc, append-nil, arith}
use Rattle.std.proofs.lemmas.List.{take_all, length-append}
use Rattle.std.proofs.Math.Seq.{take-append-add}
use Rattle.ts_io.specs.Logs.{AppendsPrefix}
use Rattle.std.specs.Io.KnownBytes.{append_known}
use Rattle.ts_io.proofs.Growth.{front_on}

pub adds_none : (content : Option (List ℕ)) → content ≡ append_known content []
adds_none None = refl
adds_none (Some w) = ap (λ (l : List ℕ). Some l) (sym (append-nil w))

adds_twice : (content : Option (List ℕ)) (first second : List ℕ) → append_known (append_known content first) second ≡ append_known content (first ++ second)
adds_twice None first second = refl
adds_twice (Some w) first second = ap (λ (l : List ℕ). Some l) (append_assoc w first second)

-- a prefix was appended, then the first m bytes of the rest
pub adds_on : (old mid new : Option (List ℕ)) (n m : ℕ) (bytes : List ℕ) → mid ≡ append_known old (take n bytes) → n + m ≤ length bytes → new ≡ append_known mid (take m (take (length bytes - n) (drop n bytes))) → new ≡ append_known old (take (n + m) bytes)
adds_on old mid new n m bytes had le added =
    let second : List ℕ = take m (take (length bytes - n) (drop n bytes)) in
    added
    ∙ ap (λ (o : Option (List ℕ)). append_known o second) had
    ∙ adds_twice old (take n bytes) second
    ∙ ap (λ (l : List ℕ). append_known old l) (front_on n m bytes le)

-- everything was appended
pub adds_all : (old new : Option (List ℕ)) (n : ℕ) (bytes : List ℕ) → length bytes ≤ n → new ≡ append_known old (take n bytes) → new ≡ append_known old bytes
adds_all old new n bytes le added = added ∙ ap (λ (l : List ℕ). append_known old l) (take_all n bytes le)

-- all of the first bytes were appended, then a prefix of the second ones
pub adds_after : (old mid new : Option (List ℕ)) (first second : List ℕ) → mid ≡ append_known old first → AppendsPrefix mid new second → AppendsPrefix old new (first ++ second)
adds_after old mid new first second had adds = record {
  len = length first + adds.len;
  within = omega (arith, adds.within, length-append first second);
  added = adds.added
      ∙ ap (λ (o : Option (List ℕ)). append_known o (take adds.len second)) had
      ∙ adds_twice old first (take adds.len second)
      ∙ ap (λ (l : List ℕ). append_known old l) (sym (take-append-add first second adds.len));
}

-- everything was appended, which is the longest prefix
pub all_as_prefix : (old new : Option (List ℕ)) (bytes : List ℕ) → new ≡ append_known old bytes → AppendsPrefix old new bytes
all_as_prefix old new bytes added = record {
  len = length bytes;
  within = omega arith;
  added = added ∙ ap (λ (l : List ℕ). append_known old l) (sym (take_all (length bytes) bytes (omega arith)));
}
