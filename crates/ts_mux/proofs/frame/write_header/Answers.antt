use Rattle.std.proofs.Common.{◌-◌, length-set, arith}
use Rattle.std.specs.Fmt.{decimal}
use Rattle.ts_spec.specs.Wire.{FEED, SPACE}
use Rattle.ts_mux.proofs.WrittenHeaders.{twenty_digits, length-header, header_put}
use Rattle.ts_mux.proofs.frame.write_header.Goals as goal

pub write_digits-digits-requires : goal.write_digits-digits-requires
write_digits-digits-requires c = (omega (arith, twenty_digits c.args.len c.ranges.len.fits), omega (arith, length-set c.args.room.now (c.args.end - 1) FEED))

pub overflow_sub-space : goal.overflow_sub-space
overflow_sub-space c = omega (arith, twenty_digits c.args.len c.ranges.len.fits)

pub write_digits-requires : goal.write_digits-requires
write_digits-requires c =
    let digits = c.write_digits-digits in (
      omega (arith, twenty_digits c.args.len c.ranges.len.fits, twenty_digits c.args.link c.ranges.link.fits),
      omega (arith, length-set digits.new.buf (digits.result - 1) SPACE, length-set c.args.room.now (c.args.end - 1) FEED),
    )

pub returns-clause-text : goal.returns-clause-text
returns-clause-text c =
    let digits = c.write_digits-digits in
    header_put (decimal c.args.link) (decimal c.args.len) c.args.room.now digits.new.buf c.write_digits.new.buf c.args.end digits.result c.write_digits.result
    (omega arith) (omega arith) (omega (arith, twenty_digits c.args.len c.ranges.len.fits)) (omega (arith, length-set c.args.room.now (c.args.end - 1) FEED))
    digits.ensures.written c.write_digits.ensures.written

pub returns-clause-start : goal.returns-clause-start
returns-clause-start c = omega (arith, length-header c.args.link c.args.len, twenty_digits c.args.len c.ranges.len.fits)
