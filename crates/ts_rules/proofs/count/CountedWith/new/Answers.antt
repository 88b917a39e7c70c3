use Rattle.std.proofs.Common.{Some}
use Rattle.ts_rules.proofs.Putting.{whole-told}
use Rattle.ts_rules.proofs.Least.{all-written}
use Rattle.ts_rules.proofs.count.CountedWith.new.Goals as goal

pub returns-clause-told : goal.returns-clause-told
returns-clause-told c = whole-told c.args.made c.args.wrote.now _ (λ i. record { counting = c.new.ensures.empty i; held = Some (c.wrote.view_is i); least = (c.wrote.view_is i).made })

pub returns-clause-least : goal.returns-clause-least
returns-clause-least c = all-written c.args.made c.args.wrote.now _ (λ i. record { counting = c.new.ensures.empty i; held = Some (c.wrote.view_is i); least = (c.wrote.view_is i).made })
