-- What `refute` comes to.
use Rattle.std.proofs.Common.{List, Ok, ◌∙◌, ◌≡◌}
use Rattle.wfc_choose.specs.declared.RuleKind.{RuleKind}
use Rattle.wfc_outside.specs.Folder.{File}
use Rattle.wfc_plan.proofs.CallerLemmas.{choosers_given, done_is, given_choosers, ok_step, outcome_on, outcome_parts, step_ok}
use Rattle.wfc_plan.specs.Kinds.{enough}
use Rattle.wfc_plan.specs.Plan.{Plan, and_then, done, outcome, step}
use Rattle.wfc_problem.specs.Network.{Network}
use Rattle.wfc_proof_commands.proofs.ProofKindLemmas.{IsProofKind}
use Rattle.wfc_proof_commands.specs.ProofKind.{ProofKind}
use Rattle.wfc_proof_commands.specs.RefuteGiven.{IsRefuteTask}
use Rattle.wfc_proof_commands.specs.RefuteTask.{RefuteTask, refute, refute_plan}
use Rattle.wfc_words.specs.RequestView.{RequestView}

-- what follows a problem in `refute`, and what follows its chooser
abbrev pub behind_refuted : Network → Plan RefuteTask
behind_refuted P = done (refute P)

abbrev pub behind_refuter : ProofKind → RequestView → Plan RefuteTask
behind_refuter space asked = and_then (space.plan asked) behind_refuted

module _ (space : ProofKind) (is_kind : IsProofKind space) where
  pub refute_given : (kinds : List RuleKind) (asked : RequestView) (files : List File) (task : RefuteTask) → outcome (refute_plan space kinds asked) files ≡ Ok task
      → (P : Network) × (refute P ≡ task) × IsRefuteTask space kinds asked files P
  refute_given kinds asked files task is =
      let found = outcome_parts (step (enough 1 kinds asked.rule)) (λ _. behind_refuter space asked) files task is in
      let made = outcome_parts (space.plan asked) behind_refuted files task found.2 in
      (made.0, done_is _ task files made.2, record { chooser = choosers_given 1 kinds asked.rule found.0 (step_ok (enough 1 kinds asked.rule) files found.0 found.1); posed = is_kind.posed asked files made.0 made.1 })

  pub given_refute : (kinds : List RuleKind) (asked : RequestView) (files : List File) (P : Network) → IsRefuteTask space kinds asked files P → outcome (refute_plan space kinds asked) files ≡ Ok (refute P)
  given_refute kinds asked files P task =
      outcome_on (step (enough 1 kinds asked.rule)) (λ _. behind_refuter space asked) files tt (ok_step (enough 1 kinds asked.rule) files tt (given_choosers 1 kinds asked.rule task.chooser))
      ∙ outcome_on (space.plan asked) behind_refuted files P (is_kind.given asked files P task.posed)
