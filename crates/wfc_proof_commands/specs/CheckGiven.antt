-- The task of `check` over files that are told, in the subject's words.
use Rattle.std.specs.Prelude.{List, Ok, Option, Some, ℕ, ◌≡◌}
use Rattle.wfc_check.specs.declared.fault.CheckFault.{CheckFault}
use Rattle.wfc_outside.specs.Folder.{File, file_of}
use Rattle.wfc_problem.specs.Network.{Network}
use Rattle.wfc_proof_commands.specs.Checking.{refutation_answer, refutation_name}
use Rattle.wfc_proof_commands.specs.ProofKind.{ProofKind}
use Rattle.wfc_words.specs.RequestView.{RequestView}

-- the problem is that of the request, and the refutation has these bytes
pub record IsCheckWork (space : ProofKind) (asked : RequestView) (files : List File) : Type 0 where
  pub P : Network
  pub posed : space.maps.IsPosed asked files P
  pub bytes : List ℕ
  pub there : file_of files (refutation_name asked) ≡ Some bytes

-- and this is what they are answered
pub record IsCheckTask (space : ProofKind) (asked : RequestView) (files : List File)
    (found : Option CheckFault) : Type 0 where
  pub work : IsCheckWork space asked files
  pub answer : refutation_answer (space.shape_of asked) work.P work.bytes ≡ Ok found
