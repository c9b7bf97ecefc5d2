-- The task of `refute` over files that are told, in the subject's words.
use Rattle.wfc_plan.specs.Kinds.{HasChoosers}
use Rattle.std.specs.Prelude.{List}
use Rattle.wfc_choose.specs.declared.RuleKind.{RuleKind}
use Rattle.wfc_outside.specs.Folder.{File}
use Rattle.wfc_problem.specs.Network.{Network}
use Rattle.wfc_proof_commands.specs.ProofKind.{ProofKind}
use Rattle.wfc_words.specs.RequestView.{RequestView}

-- a chooser goes by the rule, and the problem is that of the request
pub record IsRefuteTask (space : ProofKind) (kinds : List RuleKind) (asked : RequestView) (files : List File)
    (P : Network) : Type 0 where
  pub chooser : HasChoosers 1 kinds asked.rule
  pub posed : space.maps.IsPosed asked files P
