use Rattle.std.proofs.Common.{true, refl, ◌∙◌}
use Rattle.ts_group.proofs.Joining.{sources_text-more}
use Rattle.ts_group.proofs.one_group.Sources.add.Goals as goal

pub returns : goal.returns
returns c = λ keys. λ is.
    sources_text-more (record { some = c.self.inside.some; text = c.self.inside.text.items }) (record { some = true; text = c.add_after.new.text.items }) keys c.args.key.now
    (c.self.view_is ∙ is) refl c.in_ok-add_after.ensures
