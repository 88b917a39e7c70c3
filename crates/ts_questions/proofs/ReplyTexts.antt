-- The text of a single reply, and the number of replies in a list.
use Rattle.std.proofs.Common.{◌≡◌, ◌∙◌, ℕ, List, [], ◌∷◌, ◌++◌, length, refl, ap, arith}
use Rattle.ts_spec.specs.Replies.{reply_list}
use Rattle.ts_spec.specs.Text.{Reply, text, count_of}

-- the text of a reply alone was written
pub alone : (reply : Reply) (before written : List ℕ) → written ≡ before ++ text reply → before ≡ [] → written ≡ text reply
alone reply before written is none = is ∙ ap (λ (l : List ℕ). l ++ text reply) none

pub count-reply_list : (items : List Reply) → count_of (reply_list items) ≡ length items
count-reply_list [] = refl
count-reply_list (r ∷ items) = omega (arith, count-reply_list items)
