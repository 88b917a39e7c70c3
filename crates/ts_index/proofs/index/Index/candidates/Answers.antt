use Rattle.ts_index.proofs.ChoiceLemmas.{by_narrowest, by_all}
use Rattle.ts_index.proofs.index.Index.candidates.Goals as goal

pub returns-in-Some-clause-live : goal.returns-in-Some-clause-live
returns-in-Some-clause-live c = (by_narrowest c.args.self.now c.args.filters.now c.in-Some.filter.now c.by_value.result c.in-Some.ensures.most_selective c.by_value.ensures.selected c.by_value.ensures.count).live

pub returns-in-Some-clause-once : goal.returns-in-Some-clause-once
returns-in-Some-clause-once c = (by_narrowest c.args.self.now c.args.filters.now c.in-Some.filter.now c.by_value.result c.in-Some.ensures.most_selective c.by_value.ensures.selected c.by_value.ensures.count).once

pub returns-in-Some-clause-covers : goal.returns-in-Some-clause-covers
returns-in-Some-clause-covers c = (by_narrowest c.args.self.now c.args.filters.now c.in-Some.filter.now c.by_value.result c.in-Some.ensures.most_selective c.by_value.ensures.selected c.by_value.ensures.count).covers

pub returns-in-Some-clause-few : goal.returns-in-Some-clause-few
returns-in-Some-clause-few c = (by_narrowest c.args.self.now c.args.filters.now c.in-Some.filter.now c.by_value.result c.in-Some.ensures.most_selective c.by_value.ensures.selected c.by_value.ensures.count).few

pub returns-in-None-clause-live : goal.returns-in-None-clause-live
returns-in-None-clause-live c = (by_all c.args.self.now c.args.filters.now c.all.result c.known.ensures c.in-None.ensures.none c.all.ensures).live

pub returns-in-None-clause-once : goal.returns-in-None-clause-once
returns-in-None-clause-once c = (by_all c.args.self.now c.args.filters.now c.all.result c.known.ensures c.in-None.ensures.none c.all.ensures).once

pub returns-in-None-clause-covers : goal.returns-in-None-clause-covers
returns-in-None-clause-covers c = (by_all c.args.self.now c.args.filters.now c.all.result c.known.ensures c.in-None.ensures.none c.all.ensures).covers

pub returns-in-None-clause-few : goal.returns-in-None-clause-few
returns-in-None-clause-few c = (by_all c.args.self.now c.args.filters.now c.all.result c.known.ensures c.in-None.ensures.none c.all.ensures).few
