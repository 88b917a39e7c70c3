-- Lemmas about contents of which one begins with the other.
use Rattle.std.proofs.Common.{◌≡◌, ℕ, List, [], ◌++◌, take, drop, refl, sym, ap, ◌∙◌, append_assoc, append-nil}
use Rattle.std.proofs.lemmas.List.{take-append-drop}
use Rattle.std.specs.Prelude.{Option, None, Some}
use Rattle.std.specs.Io.KnownBytes.{append_known}
use Rattle.ts_io.specs.Logs.{AppendsPrefix}
use Rattle.ts_host.specs.Steps.{Extends}

pub adds_none : (content : Option (List ℕ)) → content ≡ append_known content []
adds_none None = refl
adds_none (Some w) = ap (λ (l : List ℕ). Some l) (sym (append-nil w))

pub adds_twice : (content : Option (List ℕ)) (first second : List ℕ) → append_known (append_known content first) second ≡ append_known content (first ++ second)
adds_twice None first second = refl
adds_twice (Some w) first second = ap (λ (l : List ℕ). Some l) (append_assoc w first second)

pub extends_none : (old new : Option (List ℕ)) → new ≡ old → Extends old new
extends_none old new same = ([], same ∙ adds_none old)

pub extends_twice : (old mid new : Option (List ℕ)) → Extends old mid → Extends mid new → Extends old new
extends_twice old mid new first second =
    (first.0 ++ second.0, second.1 ∙ ap (λ (o : Option (List ℕ)). append_known o second.0) first.1 ∙ adds_twice old first.0 second.0)

-- a prefix of these bytes was appended; all of them make the content longer still
pub prefix_extends : (old new : Option (List ℕ)) (bytes : List ℕ) → AppendsPrefix old new bytes → Extends old new
prefix_extends old new bytes front = (take front.len bytes, front.added)

pub prefix_within : (old new whole : Option (List ℕ)) (bytes : List ℕ) → AppendsPrefix old new bytes → whole ≡ append_known old bytes → Extends new whole
prefix_within old new whole bytes front all = (
  drop front.len bytes,
  all ∙ ap (λ (l : List ℕ). append_known old l) (sym (take-append-drop front.len bytes)) ∙ sym (adds_twice old (take front.len bytes) (drop front.len bytes))
      ∙ ap (λ (o : Option (List ℕ)). append_known o (drop front.len bytes)) (sym front.added),
)
