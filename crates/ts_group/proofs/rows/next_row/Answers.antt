use Rattle.ts_group.proofs.Told.{timely-first, timely-last, time-last}
use Rattle.ts_group.proofs.rows.next_row.Goals as goal

pub returns-then-reverse-clause-timely : goal.returns-then-reverse-clause-timely
returns-then-reverse-clause-timely c = timely-last c.args.times.now c.next_back.new.self (c.in_ok-time.time, c.in_ok-time.running.now) c.in_ok-time.ensures c.requires

pub returns-clause-timely : goal.returns-clause-timely
returns-clause-timely c = timely-first c.args.times.now c.next.new.self (c.in_ok-time-2.time, c.in_ok-time-2.running.now) c.in_ok-time-2.ensures c.requires

pub row_at-requires : goal.row_at-requires
row_at-requires c = time-last c.args.times.now c.next_back.new.self (c.in_ok-time.time, c.in_ok-time.running.now) c.in_ok-time.ensures c.requires
