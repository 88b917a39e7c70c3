use Rattle.ts_questions.proofs.by_value.known_id.Goals as goal

pub returns : goal.returns
returns c = record { is = c.key_of-key.ensures.numbered; one = c.key_of-key.ensures.one }
