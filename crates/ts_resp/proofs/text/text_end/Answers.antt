use Rattle.std.proofs.Common.{◌+◌, arith}
use Rattle.ts_resp.proofs.ScanLemmas.{found_at, found_none, text_at-long, text_at-whole, text_at-open}
use Rattle.ts_resp.proofs.text.text_end.Goals as goal

pub returns-then-bytes-limit : goal.returns-then-bytes-limit
returns-then-bytes-limit c =
    let all = found_none c.args.scanned c.args.bytes.now c.requires.scanned c.in_default.ensures.place in
    text_at-long c.args.limit c.args.bytes.now (omega (arith, all, c.if-bytes-limit.true))

pub returns-in_default : goal.returns-in_default
returns-in_default c =
    let all = found_none c.args.scanned c.args.bytes.now c.requires.scanned c.in_default.ensures.place in
    text_at-open c.args.limit c.args.bytes.now all c.if-bytes-limit.false

pub returns-then-scanned-at : goal.returns-then-scanned-at
returns-then-scanned-at c =
    let found = found_at c.args.scanned c.in-Some.at c.args.bytes.now c.requires.scanned c.in-Some.ensures.place in
    text_at-long c.args.limit c.args.bytes.now (omega (arith, found.0, c.if-scanned-at.true))

pub returns : goal.returns
returns c =
    let found = found_at c.args.scanned c.in-Some.at c.args.bytes.now c.requires.scanned c.in-Some.ensures.place in
    text_at-whole c.args.limit c.args.bytes.now (c.args.scanned + c.in-Some.at) found.0 c.if-scanned-at.false found.1
