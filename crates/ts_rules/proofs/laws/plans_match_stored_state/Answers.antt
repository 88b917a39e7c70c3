use Rattle.ts_rules.proofs.States.{law-of-writes, law-of-deletions}
use Rattle.ts_rules.proofs.laws.plans_match_stored_state.Goals as goal

pub returns : goal.returns
returns c = record {
  written = λ limits m key to r source dest s d limit t v h. law-of-writes limits m key to r source dest s d limit h t v;
  deleted = λ limits m key to r source dest s d limit first last h. law-of-deletions limits m key to r source dest s d limit h first last;
}
