use Rattle.std.proofs.Common.{w8}
use Rattle.std.proofs.lemmas.Nat.Bits.{bit_at_set_same, bit_at_set_other}
use Rattle.wfc_log.proofs.bits.with_bit.Goals as goal

pub returns-clause-set : goal.returns-clause-set
returns-clause-set c = bit_at_set_same w8 c.args.byte c.args.bit c.requires.bit_in

pub returns-clause-others : goal.returns-clause-others
returns-clause-others c = λ k apart. bit_at_set_other w8 c.args.byte c.args.bit c.requires.bit_in k apart
