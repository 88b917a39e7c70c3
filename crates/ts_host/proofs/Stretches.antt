-- Stretches of answers, one item or one end at a time.
use Rattle.std.proofs.Common.{◌≡◌, ℕ, List, [], ◌∷◌, ◌++◌, refl, sym, ap, subst, append_assoc}
use Rattle.ts_io.specs.declared.hub.Step.{Step}
use Rattle.ts_mux.specs.Order.{Item, without}
use Rattle.ts_words.specs.declared.lines.LinkEnd.{LinkEnd}
use Rattle.ts_execution.specs.Journaling.{Snapshot, IsJournaled}
use Rattle.ts_host.specs.Answers.{Counts, Agree, counted, forgotten, IsReply, Answers, none, reply, leave}
use Rattle.ts_host.specs.Serving.{Stretch}
use Rattle.ts_host.specs.Shown.{Progress}
use Rattle.ts_host.proofs.Answering.{answers_on, answers_as}

-- nothing was answered
abbrev pub stretch_none : (old new : Progress) (steps : List Step) → ((more : List Step) → old.items (steps ++ more) ≡ new.items more)
    → Agree old.counts new.counts → new.world ≡ old.world → Stretch old new steps
stretch_none old new steps items counts world = record {
  frames = [];
  endings = [];
  answers = λ more.
      subst (λ (w : Snapshot). Answers IsJournaled old.world old.counts (old.items (steps ++ more)) [] [] w new.counts (new.items more)) (sym world)
      (answers_as IsJournaled refl (items more) (none counts));
}

-- one item was answered
abbrev pub stretch_one : (old new : Progress) (item : Item) (text : List ℕ) → ((more : List Step) → old.items more ≡ item ∷ new.items more)
    → IsReply IsJournaled old.world item.event text new.world → Agree (counted item old.counts) new.counts → Stretch old new []
stretch_one old new item text items here counts = record {
  frames = record { link = item.link; bytes = text } ∷ [];
  endings = [];
  answers = λ more. answers_as IsJournaled (sym (items more)) refl (reply here counts (none (λ link. refl)));
}

-- one item was answered, and its connection ended
abbrev pub stretch_last : (old new : Progress) (item : Item) (text : List ℕ) (counts : Counts) (how : LinkEnd) (rest : List Step → List Item)
    → ((more : List Step) → old.items more ≡ item ∷ rest more) → ((more : List Step) → new.items more ≡ without item.link (rest more))
    → IsReply IsJournaled old.world item.event text new.world → Agree (counted item old.counts) counts
    → Agree (forgotten item.link counts) new.counts → Stretch old new []
stretch_last old new item text counts how rest items left here counted forgets = record {
  frames = record { link = item.link; bytes = text } ∷ [];
  endings = record { link = item.link; executed = counts item.link; how = how } ∷ [];
  answers = λ more. answers_as IsJournaled (sym (items more)) (sym (left more)) (reply here counted (leave forgets (none (λ link. refl))));
}

-- a connection ended
abbrev pub stretch_leave : (old new : Progress) (steps : List Step) (link : ℕ) (how : LinkEnd)
    → ((more : List Step) → new.items more ≡ without link (old.items (steps ++ more)))
    → Agree (forgotten link old.counts) new.counts → new.world ≡ old.world → Stretch old new steps
stretch_leave old new steps link how left forgets world = record {
  frames = [];
  endings = record { link = link; executed = old.counts link; how = how } ∷ [];
  answers = λ more.
      subst (λ (w : Snapshot). Answers IsJournaled old.world old.counts (old.items (steps ++ more)) [] (record { link = link; executed = old.counts link; how = how } ∷ []) w new.counts (new.items more))
      (sym world) (answers_as IsJournaled refl (sym (left more)) (leave forgets (none (λ at. refl))));
}

-- two stretches are one
abbrev pub stretch_on : (old mid new : Progress) (one two : List Step) → Stretch old mid one → Stretch mid new two → Stretch old new (one ++ two)
stretch_on old mid new one two first second = record {
  frames = first.frames ++ second.frames;
  endings = first.endings ++ second.endings;
  answers = λ more. answers_on IsJournaled
      (answers_as IsJournaled (ap old.items (sym (append_assoc one two more))) refl (first.answers (two ++ more)))
      (second.answers more);
}

-- the steps may be said otherwise
abbrev pub stretch_over : (old new : Progress) (steps others : List Step) → steps ≡ others → (all : Stretch old new steps) → Stretch old new others
stretch_over old new steps others same all = record {
  frames = all.frames;
  endings = all.endings;
  answers = λ more. answers_as IsJournaled (ap (λ (l : List Step). old.items (l ++ more)) same) refl (all.answers more);
}
