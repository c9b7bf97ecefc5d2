use Rattle.std.proofs.Common.{[], ap, arith, inl, inr, refl, ◌∷◌, ◌≡◌}
use Rattle.wfc_outside.specs.declared.whole.ReadFault.TheVariants.{Missing}
use Rattle.wfc_plan.proofs.laws.plans_go_by_example.Goals as goal
use Rattle.wfc_plan.specs.Fault.{status_of}
use Rattle.wfc_plan.specs.declared.fault.Fault.TheVariants.{Unread}
use Rattle.wfc_plan.specs.declared.fault.Source.TheVariants.{Pins}

pub returns-clause-both : goal.returns-clause-both
returns-clause-both c = inl (inl (7 ∷ [], record { told = refl; within = refl }, inl ([], record { told = refl; within = refl }, (refl, refl))))

pub returns-clause-first : goal.returns-clause-first
returns-clause-first c = inl (inr (Missing, record { contents = refl; counts = λ name. omega arith; lacking = refl }, refl))

pub returns-clause-second : goal.returns-clause-second
returns-clause-second c = inl (inl (7 ∷ [], record { told = refl; within = refl }, inr (Missing, record { contents = refl; counts = λ name. omega arith; lacking = refl }, refl)))

pub returns-clause-exchanged : goal.returns-clause-exchanged
returns-clause-exchanged c (inl (inl goes_on)) = absurd (cc (goes_on.1.told))
returns-clause-exchanged c (inl (inr unread)) = absurd (cc (unread.2))
returns-clause-exchanged c (inr short) =
    let same : Unread Pins Missing ≡ short.1.0 = cc (short.1.2) in
    absurd (omega (arith, ap status_of same, short.1.1))

pub returns-clause-left_out : goal.returns-clause-left_out
returns-clause-left_out c (inl (inl goes_on)) = absurd (cc (goes_on.1.told))
returns-clause-left_out c (inl (inr unread)) = absurd (cc (unread.2))
returns-clause-left_out c (inr short) = absurd (cc (short.1.2))
