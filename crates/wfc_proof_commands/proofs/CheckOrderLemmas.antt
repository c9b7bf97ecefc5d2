-- The first faults of `check`.
use Rattle.std.proofs.Common.{Err, List, None, Ok, Option, Result, Some, [], ap, inl, inr, refl, subst, sym, ℕ, ◌∙◌, ◌∷◌, ◌≡◌}
use Rattle.std.specs.Prelude.{◌↔◌}
use Rattle.wfc_check.specs.Text.{checked}
use Rattle.wfc_check.specs.declared.fault.CheckFault.{CheckFault}
use Rattle.wfc_check.specs.declared.fault.CheckFault.TheVariants as checks
use Rattle.wfc_outside.specs.Folder.{File, file_of}
use Rattle.wfc_outside.specs.declared.whole.ReadFault.TheVariants as reading
use Rattle.wfc_plan.proofs.CallerLemmas.{Faults, faults_as, faults_group, faults_none, same_first, same_self}
use Rattle.wfc_plan.specs.Order.{IsFirstFault}
use Rattle.wfc_plan.specs.Plan.{Plan, done, outcome, step}
use Rattle.wfc_plan.specs.Stages.{IsMissingFault, TaskStage}
use Rattle.wfc_plan.specs.declared.fault.Fault.{Fault}
use Rattle.wfc_plan.specs.declared.fault.Fault.TheVariants.{Unread}
use Rattle.wfc_plan.specs.declared.fault.Source.TheVariants.{Refutation}
use Rattle.wfc_problem.specs.Network.{Network}
use Rattle.wfc_proof_commands.proofs.ProofKindLemmas.{IsProofKind, same_problem}
use Rattle.wfc_proof_commands.proofs.CheckingLemmas.{behind_checked_problem}
use Rattle.wfc_proof_commands.specs.ProofKind.{ProofKind}
use Rattle.wfc_proof.specs.declared.heads.Shape.{Shape}
use Rattle.wfc_proof_commands.specs.CheckOrder.{check_order}
use Rattle.wfc_proof_commands.specs.CheckTask.{CheckTask, check, check_plan}
use Rattle.wfc_proof_commands.specs.Checking.{refutation_answer, refutation_name, refutation_plan, verdict_in}
use Rattle.wfc_proof_commands.specs.TextStages.{IsTextFault, IsTextStage, IsTextTooLong}
use Rattle.wfc_words.specs.RequestView.{RequestView}

-- ---- refutations

-- only a text that is too long is refused
faults_judged : (shape : Shape) (P : Network) (text : List ℕ) (files : List File) → Faults (step (refutation_answer shape P text)) files (IsTextTooLong shape P text)
faults_judged shape P text files fault = (to (checked P shape text) refl, from)
  where
    by_answer : (answer : Result (Unit {0}) CheckFault) → checked P shape text ≡ answer → outcome (step (verdict_in answer)) files ≡ Err fault → IsTextTooLong shape P text fault
    by_answer (Ok accepted) was is = absurd (cc (is))
    by_answer (Err (checks.Rejected line reject)) was is = absurd (cc (is))
    by_answer (Err (checks.BadLine line)) was is = absurd (cc (is))
    by_answer (Err (checks.HeaderDiffers cells values)) was is = absurd (cc (is))
    by_answer (Err checks.NotEnded) was is = absurd (cc (is))
    by_answer (Err checks.Missing) was is = absurd (cc (is))
    by_answer (Err checks.Failed) was is = absurd (cc (is))
    by_answer (Err checks.TooLong) was is = record { long = was; is = cc (is) }
    by_answer (Err checks.NoMemory) was is = absurd (cc (is))
    by_answer (Err (checks.OptionsDiffer found)) was is = absurd (cc (is))

    to : (answer : Result (Unit {0}) CheckFault) → checked P shape text ≡ answer → outcome (step (refutation_answer shape P text)) files ≡ Err fault → IsTextTooLong shape P text fault
    to answer was is = by_answer answer was (subst (λ a. outcome (step (verdict_in a)) files ≡ Err fault) was is)

    from : IsTextTooLong shape P text fault → outcome (step (refutation_answer shape P text)) files ≡ Err fault
    from has = ap (λ a. outcome (step (verdict_in a)) files) has.long ∙ ap (λ f. let end : Result (Option CheckFault) Fault = Err f in end) (sym has.is)

abbrev text_stages : Shape → RequestView → List File → Network → List TaskStage
text_stages shape asked files P = IsMissingFault Refutation files (refutation_name asked) ∷ IsTextStage shape asked files P ∷ []

faults_refutation : (shape : Shape) (asked : RequestView) (files : List File) (P : Network) → Faults (refutation_plan shape asked P) files (IsFirstFault (text_stages shape asked files P))
faults_refutation shape asked files P fault = by_file (file_of files (refutation_name asked)) refl
  where
    by_file : (file : Option (List ℕ)) → file_of files (refutation_name asked) ≡ file → (outcome (refutation_plan shape asked P) files ≡ Err fault) ↔ IsFirstFault (text_stages shape asked files P) fault
    by_file None was = (to, from)
      where
        out : outcome (refutation_plan shape asked P) files ≡ Err (Unread Refutation reading.Missing)
        out = rw was refl

        to : outcome (refutation_plan shape asked P) files ≡ Err fault → IsFirstFault (text_stages shape asked files P) fault
        to is = inl (record { lacking = was; is = cc (is, out) })

        from : IsFirstFault (text_stages shape asked files P) fault → outcome (refutation_plan shape asked P) files ≡ Err fault
        from (inl has) = out ∙ ap (λ f. let end : Result (Option CheckFault) Fault = Err f in end) (sym has.is)
        from (inr (order, _)) = absurd (order (Unread Refutation reading.Missing) (record { lacking = was; is = refl }))
    by_file (Some text) was = (to, from)
      where
        as_step : outcome (refutation_plan shape asked P) files ≡ outcome (step (refutation_answer shape P text)) files
        as_step = rw was refl

        to : outcome (refutation_plan shape asked P) files ≡ Err fault → IsFirstFault (text_stages shape asked files P) fault
        to is = inr (λ f has. let never : file_of files (refutation_name asked) ≡ None = has.lacking in absurd (cc (was, never)), inl (text, was, (faults_judged shape P text files fault).0 (sym as_step ∙ is)))

        from : IsFirstFault (text_stages shape asked files P) fault → outcome (refutation_plan shape asked P) files ≡ Err fault
        from (inl has) = let never : file_of files (refutation_name asked) ≡ None = has.lacking in absurd (cc (was, never))
        from (inr (_, inl (other, there, has))) =
            let same : other ≡ text = cc (was, there) in
            as_step ∙ (faults_judged shape P text files fault).1 (subst (λ (t : List ℕ). IsTextTooLong shape P t fault) same has)
        from (inr (_, inr (_, none))) = absurd none

pub faults_check : (space : ProofKind) → IsProofKind space → (asked : RequestView) (files : List File) → Faults (check_plan space asked) files (IsFirstFault (check_order space asked files))
faults_check space is_kind asked files =
    let later : List TaskStage = IsMissingFault Refutation files (refutation_name asked) ∷ IsTextFault space asked files ∷ [] in
    faults_group (space.plan asked) (behind_checked_problem space asked) files (space.order asked files) later (is_kind.faults asked files)
    (λ P was.
    let text : Faults (refutation_plan (space.shape_of asked) asked P) files (IsFirstFault later)
    = faults_as (refutation_plan (space.shape_of asked) asked P) files (IsFirstFault (text_stages (space.shape_of asked) asked files P)) (IsFirstFault later)
    (same_first (IsMissingFault Refutation files (refutation_name asked)) (IsMissingFault Refutation files (refutation_name asked)) (IsTextStage (space.shape_of asked) asked files P ∷ []) (IsTextFault space asked files ∷ [])
    (same_self (IsMissingFault Refutation files (refutation_name asked)))
    (same_first (IsTextStage (space.shape_of asked) asked files P) (IsTextFault space asked files) [] [] (same_problem space is_kind asked files P (λ other. IsTextStage (space.shape_of asked) asked files other) was) (same_self (IsFirstFault []))))
    (faults_refutation (space.shape_of asked) asked files P) in
    faults_group (refutation_plan (space.shape_of asked) asked P) (λ found. let end : Plan CheckTask = done (check found) in end) files later [] text (λ found said. faults_none (check found) files))
