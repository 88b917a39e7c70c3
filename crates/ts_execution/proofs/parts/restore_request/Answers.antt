use Rattle.std.proofs.Common.{sym, ap, refl, subst}
use Rattle.std.specs.Prelude.{Option}
use Rattle.ts_checkpoint.specs.Loading.{restore_request}
use Rattle.ts_checkpoint.specs.Parts.{Part, value_of}
use Rattle.ts_execution.specs.Stages.{TakesPart}
use Rattle.ts_execution.proofs.Carried.{carries_none, carries_as}
use Rattle.ts_execution.proofs.PartRanges.{in-range}
use Rattle.ts_execution.proofs.parts.restore_request.Goals as goal

pub restore_part-requires : goal.restore_part-requires
restore_part-requires g c = in-range c.args.words.items (value_of c.in-Ok.part) c.in-Ok.ensures

pub returns-in-Ok : goal.returns-in-Ok
returns-in-Ok g c = carries_as _ _ _ _ (λ from to is. subst (λ (p : Option Part). TakesPart c.restore_part.result c.args.current p from to) (sym c.in-Ok.ensures) is) c.restore_part.ensures

pub returns-in-Err-Refused : goal.returns-in-Err-Refused
returns-in-Err-Refused g c = carries_none _ _ (λ from stands. (ap (restore_request from.limits (record { state = from.state; current = c.args.current })) (rw c.in-Err-Refused.field-0-is at c.in-Err-Refused.ensures), refl))
