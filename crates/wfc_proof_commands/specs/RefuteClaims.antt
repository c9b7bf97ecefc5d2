-- What `refute` promises, in the words of its subject.
use Rattle.std.specs.Prelude.{List, Some, length, take, ℕ, ◌+◌, ◌≡◌, ◌≤◌, ◌⊎◌}
use Rattle.wfc_choose.specs.Pick.{Rule}
use Rattle.wfc_outside.specs.Folder.{File}
use Rattle.wfc_outside.specs.Sink.{IsFaultAfterFront, after_bytes, after_finish}
use Rattle.wfc_problem.specs.Network.{Network}
use Rattle.wfc_proof.specs.declared.Line.{Line}
use Rattle.wfc_proof_commands.specs.Checking.{flat_proofs}
use Rattle.wfc_proof_commands.specs.ProofKind.{ProofKind}
use Rattle.wfc_proof_commands.specs.RefuteGiven.{IsRefuteTask}
use Rattle.wfc_reply.specs.Asking.{Promises}
use Rattle.wfc_reply.specs.Call.{Call}
use Rattle.wfc_reply.specs.Choosers.{first_rule, kinds_of}
use Rattle.wfc_reply.specs.Outcomes.{refute_status}
use Rattle.wfc_reply.specs.Putting.{IsTextBrokenOff}
use Rattle.wfc_reply.specs.Reply.{HasAnswer}
use Rattle.wfc_reply.specs.RunText.{IsBegunBy, IsRunText, IsToldBy}
use Rattle.wfc_proof_commands.specs.Refuting.{refutation_text, writing_of}
use Rattle.wfc_runs.specs.Words.{words_of_seed}
use Rattle.wfc_search.specs.Proved.{CountsChoices}
use Rattle.wfc_search.specs.Run.{start}
use Rattle.wfc_search.specs.Volume.{volume_of}
use Rattle.wfc_search.specs.declared.Outcome.{Outcome}
use Rattle.wfc_words.specs.RequestView.{RequestView}
use Rattle.wfc_words.specs.declared.kinds.CommandKind.TheVariants as commands

-- what `refute` works on over these files
pub record RefuteWork (space : ProofKind) (rules : List Rule) (asked : RequestView)
    (files : List File) : Type 0 where
  pub P : Network
  pub task : IsRefuteTask space (kinds_of rules) asked files P
  pub rule : Rule
  pub first : first_rule asked.rule rules ≡ Some rule

-- these are all lines of the run asked for, which has this outcome
abbrev pub AreToldBy : {space : ProofKind} {rules : List Rule} {files : List File} (asked : RequestView)
    → RefuteWork space rules asked files
    → Outcome → List Line → Type 0
AreToldBy asked work outcome lines = IsToldBy work.rule asked.budget work.P (start (words_of_seed asked.seed)) outcome lines

-- these are its first lines
abbrev pub AreBegunBy : {space : ProofKind} {rules : List Rule} {files : List File} (asked : RequestView)
    → RefuteWork space rules asked files
    → List Line → Type 0
AreBegunBy asked work lines = IsBegunBy work.rule asked.budget work.P (start (words_of_seed asked.seed)) lines

-- the text of the lines of a run was written, and finished; they try what the run chooses, in
-- order, and name as many empty cells
-- as it has dead states;
-- without a map it is the text of a proof, and no map is legal; a spent budget is below the volume
pub record WritesRun {space : ProofKind} {rules : List Rule} {files : List File} (asked : RequestView)
    (work : RefuteWork space rules asked files) (call : Call) : Type 0 where
  pub outcome : Outcome
  pub lines : List Line
  pub told : AreToldBy asked work outcome lines
  pub counts : CountsChoices work.P work.rule asked.budget (start (words_of_seed asked.seed)) outcome lines
  pub text : IsRunText work.P (space.shape_of asked) outcome (refutation_text space asked work.P lines)
  pub same_status : call.status ≡ refute_status outcome
  pub written : call.after.out ≡ after_finish (after_bytes call.before.out (refutation_text space asked work.P lines))
  pub none : call.status ≡ 0 → (m : space.maps.Map) → space.maps.IsLegal asked files work.P work.task.posed m → ⊥
  pub spent : call.status ≡ 2 → asked.budget + 1 ≤ volume_of work.P

-- statuses 0, 1 and 2 of `refute`
abbrev pub WritesRefutation : ProofKind → Call → RequestView → List File → Type 0
WritesRefutation space call asked files =
    HasAnswer call.status
    → (work : RefuteWork space call.rules asked files) × WritesRun asked work call

-- a front was written of the text of a run of this problem: of one of a proof that closes the base domains, or of one that
-- follows from them, with the line of the end behind it
pub record WritesTextFront {space : ProofKind} {rules : List Rule} {files : List File} (asked : RequestView)
    (work : RefuteWork space rules asked files) (call : Call) : Type 0 where
  pub outcome : Outcome
  pub text : List ℕ
  pub is : IsRunText work.P (space.shape_of asked) outcome text
  pub front : IsFaultAfterFront call.before.out call.after.out text

-- status 5 of `refute`: nothing was written, or a front of such a text
abbrev pub WritesProofFront : ProofKind → Call → RequestView → List File → Type 0
WritesProofFront space call asked files =
    call.status ≡ 5
    → (call.after.out ≡ call.before.out) ⊎ ((work : RefuteWork space call.rules asked files) × WritesTextFront asked work call)

-- a front was written of the text of all lines of the run asked for
pub record IsWholeRunFront {space : ProofKind} {rules : List Rule} {files : List File} (asked : RequestView)
    (work : RefuteWork space rules asked files) (call : Call) : Type 0 where
  pub outcome : Outcome
  pub lines : List Line
  pub told : AreToldBy asked work outcome lines
  pub front : IsFaultAfterFront call.before.out call.after.out (refutation_text space asked work.P lines)

-- or of the text of some of its first lines; in format 2 it ends before the last line of that text ends
pub record IsFirstLinesFront {space : ProofKind} {rules : List Rule} {files : List File} (asked : RequestView)
    (work : RefuteWork space rules asked files) (call : Call) : Type 0 where
  pub lines : List Line
  pub begun : AreBegunBy asked work lines
  pub count : ℕ
  pub within : count ≤ length lines
  pub bytes : ℕ
  pub broken : IsTextBrokenOff (writing_of space asked) work.P (take count lines) bytes
  pub front : IsFaultAfterFront call.before.out call.after.out
      (take bytes (refutation_text space asked work.P (take count lines)))

-- status 5 of `refute`: nothing was written, or a front of the lines of the run asked for
abbrev pub WritesRunFront : ProofKind → Call → RequestView → List File → Type 0
WritesRunFront space call asked files =
    call.status ≡ 5
    → (call.after.out ≡ call.before.out) ⊎ ((work : RefuteWork space call.rules asked files)
    × (IsWholeRunFront asked work call ⊎ IsFirstLinesFront asked work call))

-- what a call promises of a request for `refute`
pub record RefutePromise (space : ProofKind) (call : Call) (asked : RequestView) (files : List File) : Type 0 where
  pub written : WritesRefutation space call asked files
  pub front : WritesProofFront space call asked files
  pub as_run : WritesRunFront space call asked files

-- this, of each request over told files
abbrev pub RefutePromises : Call → Type 0
RefutePromises call = Promises commands.Refute (RefutePromise flat_proofs) call
