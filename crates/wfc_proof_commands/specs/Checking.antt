-- What the check of a refutation is held to, and what it comes to.
use Rattle.std.specs.Prelude.{Err, List, None, Ok, Option, Result, Some, [], false, unwrap_or, ℕ}
use Rattle.wfc_check.specs.Text.{checked}
use Rattle.wfc_check.specs.declared.fault.CheckFault.{CheckFault}
use Rattle.wfc_check.specs.declared.fault.CheckFault.TheVariants as faults
use Rattle.wfc_outside.specs.declared.whole.ReadFault.{ReadFault}
use Rattle.wfc_outside.specs.declared.whole.ReadFault.TheVariants as reading
use Rattle.wfc_plan.specs.Plan.{Plan, read, step}
use Rattle.wfc_plan.specs.declared.fault.Fault.{Fault}
use Rattle.wfc_plan.specs.declared.fault.Fault.TheVariants.{Refused, Unread}
use Rattle.wfc_plan.specs.declared.fault.Refusal.{Refusal}
use Rattle.wfc_plan.specs.declared.fault.Refusal.TheVariants as refusals
use Rattle.wfc_plan.specs.declared.fault.Source.TheVariants.{Refutation}
use Rattle.wfc_problem.specs.Network.{Network}
use Rattle.wfc_proof.specs.declared.heads.Shape.{Shape}
use Rattle.wfc_proof_commands.specs.ProofKind.{ProofKind}
use Rattle.wfc_task.specs.Maps.{flat_maps}
use Rattle.wfc_task.specs.Posed.{posed_plan}
use Rattle.wfc_task.specs.PosedOrder.{posed_order}
use Rattle.wfc_words.specs.RequestView.{RequestView}
use Rattle.wfc_words.specs.declared.kinds.SourceModel.{SourceModel}
use Rattle.wfc_words.specs.declared.kinds.SourceModel.TheVariants.{Overlap, Tiles}

-- the shape of a request, whose map has two dimensions; of tiles no windows, images and edges of a sample are told
abbrev pub shape_by : SourceModel → RequestView → Shape
shape_by (Overlap n) asked = record {
  n = n;
  width = asked.width;
  height = asked.height;
  depth = 1;
  symmetry = asked.symmetry;
  wrap_in = asked.wrap_in;
  wrap_out = asked.wrap_out;
}
shape_by Tiles asked = record {
  n = 0;
  width = asked.width;
  height = asked.height;
  depth = 1;
  symmetry = 1;
  wrap_in = false;
  wrap_out = asked.wrap_out;
}

-- the shape that the head of a refutation has to tell for a request
abbrev pub shape_asked : RequestView → Shape
shape_asked asked = shape_by asked.source asked

-- maps of windows and of tiles
abbrev pub flat_proofs : ProofKind
flat_proofs = record { maps = flat_maps; plan = posed_plan; order = posed_order; shape_of = shape_asked }

-- what a fault of a check is of: of the text, which is an answer, of its length, of the file that isn't read, or want of memory
pub data CheckCause : Type 0 where
  text_fault : CheckCause
  length_fault : CheckCause
  file_fault : ReadFault → CheckCause
  memory_fault : CheckCause

-- what each fault of a check is of
abbrev pub check_cause : CheckFault → CheckCause
check_cause (faults.Rejected line reject) = text_fault
check_cause (faults.BadLine line) = text_fault
check_cause (faults.HeaderDiffers cells values) = text_fault
check_cause faults.NotEnded = text_fault
check_cause faults.Missing = file_fault reading.Missing
check_cause faults.Failed = file_fault reading.Failed
check_cause faults.TooLong = length_fault
check_cause faults.NoMemory = memory_fault
check_cause (faults.OptionsDiffer found) = text_fault

-- a text that is too long is refused, and any other fault of a text is the answer to it
abbrev pub verdict_by : CheckFault → CheckCause → Result (Option CheckFault) Refusal
verdict_by fault length_fault = Err (refusals.TooLong Refutation)
verdict_by fault _ = Ok (Some fault)

-- an answer to a text: no fault, or the fault of a line
abbrev pub verdict_in : Result (Unit {0}) CheckFault → Result (Option CheckFault) Refusal
verdict_in (Ok done) = Ok None
verdict_in (Err fault) = verdict_by fault (check_cause fault)

-- what the text of a refutation is answered, for a problem and a shape
abbrev pub refutation_answer : Shape → Network → List ℕ → Result (Option CheckFault) Refusal
refutation_answer shape P text = verdict_in (checked P shape text)

-- the name of the file of the refutation
abbrev pub refutation_name : RequestView → List ℕ
refutation_name asked = unwrap_or asked.refutation []

-- the refutation is read, which is held to the problem and the shape
abbrev pub refutation_plan : Shape → RequestView → Network → Plan (Option CheckFault)
refutation_plan shape asked P = read Refutation (refutation_name asked) None (λ text. step (refutation_answer shape P text))

-- a file that isn't read is a fault of the task, and so is want of memory
abbrev pub found_by : CheckFault → CheckCause → Result (Option CheckFault) Fault
found_by fault text_fault = Ok (Some fault)
found_by fault length_fault = Err (Refused (refusals.TooLong Refutation))
found_by fault (file_fault why) = Err (Unread Refutation why)
found_by fault memory_fault = Err (Refused refusals.NoMemory)

-- the answer to a file, as a task's
abbrev pub found_in : Result (Unit {0}) CheckFault → Result (Option CheckFault) Fault
found_in (Ok done) = Ok None
found_in (Err fault) = found_by fault (check_cause fault)
