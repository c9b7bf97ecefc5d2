use Rattle.std.proofs.Common.{arith, inl, inr, refl}
use Rattle.wfc_reply.proofs.VerdictLemmas.{verdict_answers}
use Rattle.wfc_reply.proofs.laws.statuses_are.Goals as goal

pub returns-clause-each_answers : goal.returns-clause-each_answers
returns-clause-each_answers c = verdict_answers

pub returns-clause-spent_answers : goal.returns-clause-spent_answers
returns-clause-spent_answers c = inl (omega arith)

pub returns-clause-eight_answers : goal.returns-clause-eight_answers
returns-clause-eight_answers c = inr refl

pub returns-clause-three_is_none : goal.returns-clause-three_is_none
returns-clause-three_is_none c (inl low) = omega (arith, low)
returns-clause-three_is_none c (inr is) = omega (arith, is)

pub returns-clause-seven_is_none : goal.returns-clause-seven_is_none
returns-clause-seven_is_none c (inl low) = omega (arith, low)
returns-clause-seven_is_none c (inr is) = omega (arith, is)

pub returns-clause-nine_is_none : goal.returns-clause-nine_is_none
returns-clause-nine_is_none c (inl low) = omega (arith, low)
returns-clause-nine_is_none c (inr is) = omega (arith, is)
