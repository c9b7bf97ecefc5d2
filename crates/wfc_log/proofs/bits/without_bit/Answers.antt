use Rattle.std.proofs.Common.{w8}
use Rattle.std.proofs.lemmas.Nat.Bits.{bit_at_clear_same, bit_at_clear_other}
use Rattle.wfc_log.proofs.bits.without_bit.Goals as goal

pub returns-clause-clear : goal.returns-clause-clear
returns-clause-clear c = bit_at_clear_same w8 c.args.byte c.args.bit c.requires.bit_in

pub returns-clause-others : goal.returns-clause-others
returns-clause-others c = λ k l apart. bit_at_clear_other w8 c.args.byte c.args.bit c.requires.bit_in k l apart
