-- What `check` promises, in the words of its subject.
use Rattle.std.specs.Prelude.{List, ℕ, ◌≡◌, ◌⊎◌}
use Rattle.wfc_check.specs.Text.{IsRefutation}
use Rattle.wfc_outside.specs.Folder.{File}
use Rattle.wfc_outside.specs.Sink.{after_bytes, after_finish}
use Rattle.wfc_proof_commands.specs.CheckAnswer.{accepted_text}
use Rattle.wfc_proof_commands.specs.CheckGiven.{IsCheckWork}
use Rattle.wfc_proof_commands.specs.Checking.{flat_proofs}
use Rattle.wfc_proof_commands.specs.ProofKind.{ProofKind}
use Rattle.wfc_reply.specs.Asking.{Promises}
use Rattle.wfc_reply.specs.Call.{Call}
use Rattle.wfc_reply.specs.CutClaims.{CutsText}
use Rattle.wfc_reply.specs.Reply.{HasAnswer}
use Rattle.wfc_words.specs.RequestView.{RequestView}
use Rattle.wfc_words.specs.declared.kinds.CommandKind.TheVariants as commands

-- the file's bytes are a refutation of the problem and of the shape asked for
abbrev pub IsRefuted : {space : ProofKind} {files : List File} (asked : RequestView) → IsCheckWork space asked files → Type 0
IsRefuted {space = space} asked work = IsRefutation work.P (space.shape_of asked) work.bytes

-- the file is a refutation, so no map is legal, and that it is accepted was written
pub record Accepts {space : ProofKind} {files : List File} (asked : RequestView)
    (work : IsCheckWork space asked files) (call : Call) : Type 0 where
  pub refutation : IsRefuted asked work
  pub none : (m : space.maps.Map) → space.maps.IsLegal asked files work.P work.posed m → ⊥
  pub written : call.after.out ≡ after_finish (after_bytes call.before.out accepted_text)

-- the file is no refutation, and nothing was written
pub record Refuses {space : ProofKind} {files : List File} (asked : RequestView)
    (work : IsCheckWork space asked files) (call : Call) : Type 0 where
  pub none : IsRefuted asked work → ⊥
  pub same : call.after.out ≡ call.before.out

-- statuses 0 and 1 of `check`: 0 exactly where the file is a refutation
abbrev pub ChecksRefutation : ProofKind → Call → RequestView → List File → Type 0
ChecksRefutation space call asked files =
    HasAnswer call.status
    → (work : IsCheckWork space asked files)
    × (((call.status ≡ 0) × Accepts asked work call) ⊎ ((call.status ≡ 1) × Refuses asked work call))

-- the file is a refutation, and the text says that it is accepted
abbrev pub IsAcceptance : ProofKind → RequestView → List File → List ℕ → Type 0
IsAcceptance space asked files text = (work : IsCheckWork space asked files) × IsRefuted asked work × (text ≡ accepted_text)

-- what a call promises of a request for `check`
pub record CheckPromise (space : ProofKind) (call : Call) (asked : RequestView) (files : List File) : Type 0 where
  pub checked : ChecksRefutation space call asked files
  pub cut : CutsText (IsAcceptance space) call asked files

-- this, of each request over told files
abbrev pub CheckPromises : Call → Type 0
CheckPromises call = Promises commands.Check (CheckPromise flat_proofs) call
