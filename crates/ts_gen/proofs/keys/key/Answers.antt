use Rattle.ts_gen.proofs.Naming.{key_is}
use Rattle.ts_gen.proofs.keys.key.Goals as goal

pub returns : goal.returns
returns c = key_is c.args.kind.now c.args.unit c.told-kind c.requires
