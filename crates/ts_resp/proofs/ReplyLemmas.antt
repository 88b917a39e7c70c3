-- The encoding of an array, and its length.
use Rattle.std.proofs.Common.{◌≡◌, ℕ, suc, ◌+◌, ◌≤◌, List, [], ◌∷◌, ◌++◌, length, drop, refl, ap, ◌∙◌, length-append, arith}
use Rattle.std.proofs.Math.ListN.{drop_of_length-le}
use Rattle.std.specs.Fmt.{decimal}
use Rattle.ts_spec.specs.Text.{Array, CRLF, count_of, line_text, text, texts}
use Rattle.ts_resp.specs.declared.reply.Reply.{Reply}
use Rattle.ts_resp.specs.Replies.{all_of}

count_of-all_of : (replies : List Reply) → count_of (all_of replies) ≡ length replies
count_of-all_of [] = refl
count_of-all_of (reply ∷ replies) = ap suc (count_of-all_of replies)

pub text-array : (replies : List Reply) → text (Array (all_of replies)) ≡ line_text 42 (decimal (length replies)) ++ texts (all_of replies)
text-array replies = ap (λ n. line_text 42 (decimal n) ++ texts (all_of replies)) (count_of-all_of replies)

pub length-line : (first : ℕ) (others : List ℕ) → length (line_text first others) ≡ length others + 3
length-line first others = omega (arith, length-append others CRLF)

pub length-array : (replies : List Reply)
    → length (text (Array (all_of replies))) ≡ length (decimal (length replies)) + 3 + length (texts (all_of replies))
length-array replies =
    ap length (text-array replies) ∙ length-append (line_text 42 (decimal (length replies))) (texts (all_of replies))
    ∙ ap (λ n. n + length (texts (all_of replies))) (length-line 42 (decimal (length replies)))

-- no text is left after the last reply
pub texts-drop : (replies : List Reply) (at : ℕ) → length replies ≤ at → texts (all_of (drop at replies)) ≡ []
texts-drop replies at h = ap (λ rest. texts (all_of rest)) (drop_of_length-le replies h)
