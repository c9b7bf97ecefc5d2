-- Which statuses are those of answers, and which those of faults.
use Rattle.std.proofs.Common.{arith, inl, inr, refl, subst, ℕ, ◌≡◌, ◌≤◌}
use Rattle.wfc_plan.proofs.CallerLemmas.{fault_between}
use Rattle.wfc_plan.specs.Fault.{status_of}
use Rattle.wfc_plan.specs.declared.fault.Fault.{Fault}
use Rattle.wfc_reply.specs.Reply.{HasAnswer, verdict_status}
use Rattle.wfc_reply.specs.declared.reply.CommandVerdict.{CommandVerdict}
use Rattle.wfc_reply.specs.declared.reply.CommandVerdict.TheVariants.{Dead, Done, MapExists, NoMap, Spent, Stuck, Unaccepted}

-- each verdict has the status of an answer
pub verdict_answers : (verdict : CommandVerdict) → HasAnswer (verdict_status verdict)
verdict_answers Done = inl (omega arith)
verdict_answers NoMap = inl (omega arith)
verdict_answers (Spent budget) = inl (omega arith)
verdict_answers Dead = inl (omega arith)
verdict_answers MapExists = inl (omega arith)
verdict_answers (Unaccepted fault) = inl (omega arith)
verdict_answers (Stuck x y) = inr refl

-- which is none from 3 to 7
pub answer_apart : (k : ℕ) → HasAnswer k → 3 ≤ k → k ≤ 7 → ⊥
answer_apart k (inl low) above below = omega (arith, low, above)
answer_apart k (inr eight) above below = omega (arith, eight, below)

-- so no verdict has one of these
pub verdict_apart : (verdict : CommandVerdict) (k : ℕ) → 3 ≤ k → k ≤ 7 → verdict_status verdict ≡ k → ⊥
verdict_apart verdict k above below is = answer_apart k (subst HasAnswer is (verdict_answers verdict)) above below

-- so none is 5
pub five_apart : (k : ℕ) → k ≡ 5 → HasAnswer k → ⊥
five_apart k five has = answer_apart k has (omega (arith, five)) (omega (arith, five))

-- which is no status of an answer
pub fault_apart : (fault : Fault) → HasAnswer (status_of fault) → ⊥
fault_apart fault has = let between = fault_between fault in answer_apart (status_of fault) has (omega (arith, between.0)) between.1
