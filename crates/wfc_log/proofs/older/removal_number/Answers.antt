use Rattle.std.proofs.Common.{arith}
use Rattle.wfc_log.proofs.older.removal_number.Goals as goal

pub overflow_mul-result : goal.overflow_mul-result
overflow_mul-result c = rw (c.from.ensures, c.from-2.ensures, c.from-3.ensures) (omega (arith, c.requires.few))

pub overflow_add-result-2 : goal.overflow_add-result-2
overflow_add-result-2 c =
    rw (c.from.ensures, c.from-2.ensures, c.from-3.ensures, c.from-4.ensures, c.cause_number.ensures.value) (omega (arith, c.requires.few))
