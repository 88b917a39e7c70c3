use Rattle.ts_chunk_packed.proofs.Listing.{law}
use Rattle.ts_chunk_packed.proofs.coding.packed_samples_read_back.Goals as goal

pub returns : goal.returns
returns c = law
