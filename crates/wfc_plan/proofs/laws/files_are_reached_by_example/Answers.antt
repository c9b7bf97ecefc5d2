use Rattle.std.proofs.Common.{[], inl, inr, refl, ◌∷◌}
use Rattle.wfc_plan.proofs.laws.files_are_reached_by_example.Goals as goal

pub returns-clause-first : goal.returns-clause-first
returns-clause-first c = inl (refl, refl)

pub returns-clause-second : goal.returns-clause-second
returns-clause-second c = inr (7 ∷ [], record { told = refl; within = refl }, inl (refl, refl))

pub returns-clause-hidden : goal.returns-clause-hidden
returns-clause-hidden c (inl same) = absurd (cc (same.0))
returns-clause-hidden c (inr goes_on) = absurd (cc (goes_on.1.told))

pub returns-clause-role : goal.returns-clause-role
returns-clause-role c (inl same) = absurd (cc (same.0))
returns-clause-role c (inr goes_on) = absurd (cc (goes_on.1.told))
