use Rattle.std.proofs.Common.{subst, sym, ◌∙◌}
use Rattle.ts_mux.specs.OwnReaders.{RemovesReader}
use Rattle.ts_mux.proofs.open_connections.remove_reader.Goals as goal

pub returns-in-Some : goal.returns-in-Some
returns-in-Some c = subst (RemovesReader c.args.readers.now c.free_if_empty.new.readers) (sym c.in-Some.is)
    (record {
      changed = c.free_if_empty.ensures c.in-Some.index ∙ c.try_remove.ensures.updates.changed;
      others = λ other differs. c.free_if_empty.ensures other ∙ c.try_remove.ensures.updates.others other differs;
    })
