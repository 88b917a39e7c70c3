use Rattle.std.proofs.Common.{refl}
use Rattle.slab.specs.Slab as slab
use Rattle.slab.proofs.SlabLemmas.{Updates-with_value}
use Rattle.ts_mux.specs.OwnReaders.{index_in}
use Rattle.ts_mux.proofs.OwnReaders.{contains, put_own, changed}
use Rattle.ts_mux.proofs.open_connections.OpenConnections.give_back.Goals as goal

pub index_mut-reader-requires : goal.index_mut-reader-requires
index_mut-reader-requires c = c.args.self.now.own.stored c.args.at.link c.args.at.index c.requires

pub invariant_of-self-clause-own : goal.invariant_of-self-clause-own
invariant_of-self-clause-own c =
    let s = c.args.self.now in
    put_own (index_in s.indexes) s.readers (slab.with_value s.readers c.args.at.index c.give_back.new.self) c.args.at.link c.args.at.index c.give_back.new.self
    (Updates-with_value s.readers c.args.at.index c.give_back.new.self (contains s.readers c.args.at.index c.index_mut-reader.result.now c.index_mut-reader.ensures.value)) c.requires s.own

pub returns : goal.returns
returns c =
    let s = c.args.self.now in
    changed s _ c.args.at.link c.args.at.index c.index_mut-reader.result.now c.give_back.new.self s.own c.requires c.index_mut-reader.ensures.value refl refl refl
    c.give_back.ensures
