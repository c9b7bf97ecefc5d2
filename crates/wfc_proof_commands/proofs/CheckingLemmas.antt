-- What the check of a file answers is what its plan comes to.
use Rattle.std.proofs.Common.{Err, List, None, Ok, Option, Result, Some, ap, inl, inr, refl, subst, sym, ℕ, ◌∙◌, ◌≡◌}
use Rattle.wfc_check.specs.Answered.{Answers, IsOfFile}
use Rattle.wfc_check.specs.declared.fault.CheckFault.{CheckFault}
use Rattle.wfc_check.specs.declared.fault.CheckFault.TheVariants as faults
use Rattle.wfc_outside.specs.Folder.{File, FolderView, file_of}
use Rattle.wfc_outside.specs.declared.whole.ReadFault.TheVariants as reading
use Rattle.wfc_plan.proofs.CallerLemmas.{done_is, goes_read, goes_step, ok_step, outcome_on, outcome_parts, refused, step_ok}
use Rattle.wfc_plan.specs.Plan.{Goes, Plan, after_reading, and_then, done, outcome, reading_of, step}
use Rattle.wfc_plan.specs.declared.fault.Fault.{Fault}
use Rattle.wfc_plan.specs.declared.fault.Fault.TheVariants.{Refused}
use Rattle.wfc_plan.specs.declared.fault.Refusal.TheVariants as refusals
use Rattle.wfc_plan.specs.declared.fault.Source.TheVariants.{Refutation}
use Rattle.wfc_problem.specs.Network.{Network}
use Rattle.wfc_proof.specs.declared.heads.Shape.{Shape}
use Rattle.wfc_proof_commands.proofs.ProofKindLemmas.{IsProofKind}
use Rattle.wfc_proof_commands.specs.ProofKind.{ProofKind}
use Rattle.wfc_proof_commands.specs.CheckGiven.{IsCheckTask}
use Rattle.wfc_proof_commands.specs.CheckTask.{CheckTask, check, check_plan}
use Rattle.wfc_proof_commands.specs.Checking.{found_in, refutation_answer, refutation_name, refutation_plan, verdict_in}
use Rattle.wfc_words.specs.RequestView.{RequestView}

-- the answer to the bytes of a file
of_file : (shape : Shape) (asked : RequestView) (P : Network) (old new : FolderView) (answer : Result (Unit {0}) CheckFault) → IsOfFile P shape (refutation_name asked) old new answer
    → Goes (refutation_plan shape asked P) old new (refused (verdict_in answer))
of_file shape asked P old new answer of =
    subst (λ (f : FolderView). Goes (refutation_plan shape asked P) old f (refused (verdict_in answer))) (sym of.same)
    (goes_read Refutation (refutation_name asked) None (λ text. step (refutation_answer shape P text)) old old of.bytes (refused (verdict_in answer)) (record { told = of.told; within = refl })
    (goes_step (refutation_answer shape P of.bytes) (verdict_in answer) old (inl (ap verdict_in (sym of.is)))))

pub refutation_goes : (shape : Shape) (asked : RequestView) (P : Network) (old new : FolderView) (answer : Result (Unit {0}) CheckFault) → Answers P shape (refutation_name asked) old new answer
    → Goes (refutation_plan shape asked P) old new (found_in answer)
refutation_goes shape asked P old new (Ok accepted) of = of_file shape asked P old new (Ok accepted) of
refutation_goes shape asked P old new (Err (faults.Rejected line reject)) of = of_file shape asked P old new (Err (faults.Rejected line reject)) of
refutation_goes shape asked P old new (Err (faults.BadLine line)) of = of_file shape asked P old new (Err (faults.BadLine line)) of
refutation_goes shape asked P old new (Err (faults.HeaderDiffers cells values)) of = of_file shape asked P old new (Err (faults.HeaderDiffers cells values)) of
refutation_goes shape asked P old new (Err faults.NotEnded) of = of_file shape asked P old new (Err faults.NotEnded) of
refutation_goes shape asked P old new (Err faults.Missing) of = inl (inr (reading.Missing, of, refl))
refutation_goes shape asked P old new (Err faults.Failed) of = inl (inr (reading.Failed, of, refl))
refutation_goes shape asked P old new (Err faults.TooLong) of = of_file shape asked P old new (Err faults.TooLong) of
refutation_goes shape asked P old new (Err faults.NoMemory) of = inr (of, (Refused refusals.NoMemory, refl, refl))
refutation_goes shape asked P old new (Err (faults.OptionsDiffer found)) of = of_file shape asked P old new (Err (faults.OptionsDiffer found)) of

-- ---- over files that are told

-- a reading that came to something
refutation_there : (shape : Shape) (asked : RequestView) (P : Network) (files : List File) (found : Option CheckFault) → outcome (refutation_plan shape asked P) files ≡ Ok found
    → (bytes : List ℕ) × (file_of files (refutation_name asked) ≡ Some bytes) × (refutation_answer shape P bytes ≡ Ok found)
refutation_there shape asked P files found is = by_file (file_of files (refutation_name asked)) refl is
  where
    by_file : (file : Option (List ℕ)) → file_of files (refutation_name asked) ≡ file → after_reading Refutation (λ text. outcome (step (refutation_answer shape P text)) files) (reading_of None file) ≡ Ok found
        → (bytes : List ℕ) × (file_of files (refutation_name asked) ≡ Some bytes) × (refutation_answer shape P bytes ≡ Ok found)
    by_file None there is = absurd (cc)
    by_file (Some bytes) there is = (bytes, there, step_ok (refutation_answer shape P bytes) files found is)

there_refutation : (shape : Shape) (asked : RequestView) (P : Network) (files : List File) (bytes : List ℕ) (found : Option CheckFault) → file_of files (refutation_name asked) ≡ Some bytes → refutation_answer shape P bytes ≡ Ok found
    → outcome (refutation_plan shape asked P) files ≡ Ok found
there_refutation shape asked P files bytes found there is =
    ap (λ file. after_reading Refutation (λ text. outcome (step (refutation_answer shape P text)) files) (reading_of None file)) there ∙ ok_step (refutation_answer shape P bytes) files found is

-- the same of a call that was given this shape and this name
pub refutation_found : (wanted : Shape) (asked : RequestView) (P : Network) (old new : FolderView) (shape : Shape) (name : List ℕ) (answer : Result (Unit {0}) CheckFault) (found : Result (Option CheckFault) Fault) → shape ≡ wanted
    → name ≡ refutation_name asked → Answers P shape name old new answer → found ≡ found_in answer → Goes (refutation_plan wanted asked P) old new found
refutation_found wanted asked P old new shape name answer found of_shape of_name answers is =
    subst (Goes (refutation_plan wanted asked P) old new) (sym is)
    (refutation_goes wanted asked P old new answer (subst (λ n. Answers P wanted n old new answer) of_name (subst (λ (s : Shape). Answers P s name old new answer) of_shape answers)))

-- what follows a problem in `check`
abbrev pub behind_checked_problem : ProofKind → RequestView → Network → Plan CheckTask
behind_checked_problem space asked P = and_then (refutation_plan (space.shape_of asked) asked P) (λ found. done (check found))

module _ (space : ProofKind) (is_kind : IsProofKind space) where
  -- what `check` comes to
  pub check_given : (asked : RequestView) (files : List File) (task : CheckTask) → outcome (check_plan space asked) files ≡ Ok task → (found : Option CheckFault) × (check found ≡ task) × IsCheckTask space asked files found
  check_given asked files task is =
      let made = outcome_parts (space.plan asked) (behind_checked_problem space asked) files task is in
      let said = outcome_parts (refutation_plan (space.shape_of asked) asked made.0) (λ found. let end : Plan CheckTask = done (check found) in end) files task made.2 in
      let there = refutation_there (space.shape_of asked) asked made.0 files said.0 said.1 in
      (said.0, done_is _ task files said.2, record { work = record { P = made.0; posed = is_kind.posed asked files made.0 made.1; bytes = there.0; there = there.1 }; answer = there.2 })

  pub given_check : (asked : RequestView) (files : List File) (found : Option CheckFault) → IsCheckTask space asked files found → outcome (check_plan space asked) files ≡ Ok (check found)
  given_check asked files found task =
      let work = task.work in
      outcome_on (space.plan asked) (behind_checked_problem space asked) files work.P (is_kind.given asked files work.P work.posed)
      ∙ outcome_on (refutation_plan (space.shape_of asked) asked work.P) (λ found. let end : Plan CheckTask = done (check found) in end) files found (there_refutation (space.shape_of asked) asked work.P files work.bytes found work.there task.answer)
