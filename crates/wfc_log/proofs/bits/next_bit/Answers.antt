use Rattle.std.proofs.Common.{◌/◌, ◌^◌, ◌<◌, arith}
use Rattle.wfc_log.proofs.BitLemmas.{first-bit, no-bit}
use Rattle.wfc_log.proofs.bits.next_bit.Goals as goal

pub returns-then-rest-eq0-clause-clear : goal.returns-then-rest-eq0-clause-clear
returns-then-rest-eq0-clause-clear c = λ k after before. no-bit c.args.byte c.args.from c.if-rest-eq0.true k after

pub returns-else-rest-eq0 : goal.returns-else-rest-eq0
returns-else-rest-eq0 c =
    let some : 0 < c.args.byte / 2 ^ c.args.from = omega (arith, c.if-rest-eq0.false) in
    let first = first-bit c.args.byte c.args.from (omega (arith, c.ranges.byte.fits)) c.requires.from_in some in
    record { from = omega arith; within = omega (arith, first.0); clear = first.2; set = λ low. first.1 }
