use Rattle.std.proofs.Common.{inl, inr, refl}
use Rattle.wfc_plan.proofs.laws.first_faults_by_example.Goals as goal
use Rattle.wfc_plan.specs.declared.fault.Fault.TheVariants.{Unread}
use Rattle.wfc_plan.specs.declared.fault.Source.TheVariants.{Pins, Sample}
use Rattle.wfc_outside.specs.declared.whole.ReadFault.TheVariants.{Missing}

pub returns-clause-first : goal.returns-clause-first
returns-clause-first c fault (inl is) = is
returns-clause-first c fault (inr (none, later)) = absurd (none (Unread Pins Missing) refl)

pub returns-clause-second : goal.returns-clause-second
returns-clause-second c = inr (λ f has. has, inl refl)

pub returns-clause-past : goal.returns-clause-past
returns-clause-past c fault (inl has) = has
returns-clause-past c fault (inr (none, later)) = later

pub returns-clause-none : goal.returns-clause-none
returns-clause-none c = (λ f has. has, (λ f has. has, tt))

pub returns-clause-some : goal.returns-clause-some
returns-clause-some c all = all.1.0 (Unread Sample Missing) refl
