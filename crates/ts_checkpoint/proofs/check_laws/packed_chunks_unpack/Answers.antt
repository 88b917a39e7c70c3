use Rattle.ts_checkpoint.proofs.Unpacking.{packs, unpacks}
use Rattle.ts_checkpoint.proofs.check_laws.packed_chunks_unpack.Goals as goal

pub returns : goal.returns
returns c = record { packed = packs; unpacked = unpacks }
