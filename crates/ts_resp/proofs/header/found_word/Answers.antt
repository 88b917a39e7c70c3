use Rattle.ts_resp.proofs.WordLemmas.{IsWord-body}
use Rattle.ts_resp.proofs.header.found_word.Goals as goal

pub returns-in-Whole-clause-meaning : goal.returns-in-Whole-clause-meaning
returns-in-Whole-clause-meaning c = λ words later.
    IsWord-body c.args.limits.now (record { words = words; later = later; room = c.args.room }) c.args.bytes.now c.in-Whole.number c.in-Whole.feed _ (c.in-Whole.ensures.meaning words later) c.word_body.ensures.body
