use Rattle.std.proofs.Common.{arith}
use Rattle.ts_engine.proofs.FramesWritten.{on_err, front_of_first, front_of_others, of_length}
use Rattle.ts_engine.proofs.framing.FrameWriter.write.Goals as goal

pub returns-in_err-write_all_counted-clause-front : goal.returns-in_err-write_all_counted-clause-front
returns-in_err-write_all_counted-clause-front g c =
    let first = c.min-first.result in
    let w = c.put_front.new.self in
    on_err _ (front_of_first _ _ _ c.args.bytes.now _ first (of_length w.room c.args.bytes.now _ w.start 42 first (omega arith) c.put_front.ensures)
    c.in_err-write_all_counted.ensures.front)

pub returns-in_err-write_all_counted-2-clause-front : goal.returns-in_err-write_all_counted-2-clause-front
returns-in_err-write_all_counted-2-clause-front g c =
    let first = c.min-first.result in
    let w = c.put_front.new.self in
    on_err _ (front_of_others _ _ _ _ c.args.bytes.now _ first (of_length w.room c.args.bytes.now _ w.start 42 first (omega arith) c.put_front.ensures)
    c.in_ok-write_all_counted.ensures.all c.in_err-write_all_counted-2.ensures.front)
