use Rattle.std.proofs.Common.{[], sym, ◌∙◌, append-nil}
use Rattle.ts_spec.specs.Text.{text}
use Rattle.ts_spec.proofs.Texts.{ends, array_shows}
use Rattle.ts_spec.proofs.reply_laws.reply_texts_are_self_delimiting.Goals as goal

pub returns-clause-ends : goal.returns-clause-ends
returns-clause-ends c = λ a b x y ha hb e. ends a b x y ha hb e

pub returns-clause-front : goal.returns-clause-front
returns-clause-front c = λ a b rest ha hb e. (ends a b rest [] ha hb (sym e ∙ sym (append-nil (text b)))).1

pub returns-clause-items : goal.returns-clause-items
returns-clause-items c = array_shows
