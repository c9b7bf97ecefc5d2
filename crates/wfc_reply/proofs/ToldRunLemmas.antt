-- What a run says that is told from its opening on.
use Rattle.rand_core.specs.Stream.{Stream}
use Rattle.std.proofs.Common.{List, arith, refl, subst, ℕ, ◌+◌, ◌≡◌, ◌≤◌}
use Rattle.wfc_choose.specs.Pick.{Rule}
use Rattle.wfc_domains.specs.Store.{StoreView}
use Rattle.wfc_problem.specs.Assignment.{IsLegalAssignment}
use Rattle.wfc_problem.specs.Network.{IsProblem, Network}
use Rattle.wfc_proof.proofs.Sound.{closed_none}
use Rattle.wfc_proof.specs.declared.Line.{Line}
use Rattle.wfc_reply.specs.Outcomes.{refute_status}
use Rattle.wfc_reply.specs.RunText.{IsToldBy}
use Rattle.wfc_search.proofs.CallerLemmas.{between_start, from_computed, outcome_spent}
use Rattle.wfc_search.proofs.Proved.{run_proved}
use Rattle.wfc_search.specs.Proved.{AreProof}
use Rattle.wfc_search.specs.Run.{IsRunFrom, State, last_of, start}
use Rattle.wfc_search.specs.Telling.{IsStoreAt}
use Rattle.wfc_search.specs.Volume.{volume_of}
use Rattle.wfc_search.specs.declared.Outcome.{Outcome}
use Rattle.wfc_search.specs.declared.Outcome.TheVariants as outcome

-- a run that is told
pub run_is_proof : (rule : Rule) (budget : ℕ) (P : Network) (words : Stream) (o : Outcome) (lines : List Line) → IsToldBy rule budget P (start words) o lines → AreProof P o lines
run_is_proof rule budget P words o lines told = run_proved P rule budget (start words) told.first o lines refl told.opened told.tells

pub store_problem : (P : Network) (s : State) (first : StoreView) → IsStoreAt P s first → IsProblem P
store_problem P s first at = subst IsProblem at.problem at.sound.problem

-- what it says where its status is 0
pub run_none : (P : Network) → IsProblem P → (o : Outcome) (lines : List Line) → AreProof P o lines → refute_status o ≡ 0 → (a : List ℕ) → IsLegalAssignment P a → ⊥
run_none P p outcome.NoMap lines proof nought = closed_none P p proof.proof proof.closes
run_none P p outcome.Map lines proof nought = absurd (omega (arith, nought))
run_none P p outcome.Spent lines proof nought = absurd (omega (arith, nought))

-- what it says where its status is 2
pub run_spent : (P : Network) → IsProblem P → (rule : Rule) (budget : ℕ) (words : Stream) (later : List State) (o : Outcome) → IsRunFrom P rule budget (start words) later o → refute_status o ≡ 2 → budget + 1 ≤ volume_of P
run_spent P p rule budget words later outcome.Spent run two =
    let end = from_computed P p rule budget (start words) later outcome.Spent (between_start P budget words) run in
    let below = (outcome_spent P p rule budget words (last_of (start words) later) end).1 in
    omega (arith, below)
run_spent P p rule budget words later outcome.Map run two = absurd (omega (arith, two))
run_spent P p rule budget words later outcome.NoMap run two = absurd (omega (arith, two))
