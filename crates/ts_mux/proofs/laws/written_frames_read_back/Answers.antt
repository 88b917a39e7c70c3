use Rattle.ts_mux.proofs.FramesReadBack.{frames-framed}
use Rattle.ts_mux.proofs.laws.written_frames_read_back.Goals as goal

pub returns-clause-frames : goal.returns-clause-frames
returns-clause-frames c = λ frames all. (frames-framed frames 0 all).0

pub returns-clause-ending : goal.returns-clause-ending
returns-clause-ending c = λ frames all. (frames-framed frames 0 all).1
