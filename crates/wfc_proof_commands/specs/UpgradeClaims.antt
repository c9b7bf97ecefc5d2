-- What `upgrade` promises, in the words of its subject.
use Rattle.std.specs.Prelude.{List, ◌≡◌, ◌⊎◌}
use Rattle.wfc_check.specs.Text.{IsRefutation}
use Rattle.wfc_model.specs.Raster.{Raster}
use Rattle.wfc_outside.specs.Folder.{File}
use Rattle.wfc_outside.specs.Sink.{IsFaultAfterFront, after_bytes, after_finish}
use Rattle.wfc_proof.specs.Proof.{Proof}
use Rattle.wfc_proof.specs.ProofText.{IsTextOf}
use Rattle.wfc_proof.specs.declared.heads.Format.{Format}
use Rattle.wfc_proof.specs.declared.heads.Format.TheVariants.{Two}
use Rattle.wfc_proof_commands.specs.Checking.{shape_asked}
use Rattle.wfc_proof_commands.specs.Upgrading.{UpgradeWork, same_proof_text}
use Rattle.wfc_reply.specs.Asking.{Promises}
use Rattle.wfc_reply.specs.Call.{Call}
use Rattle.wfc_reply.specs.Reply.{HasAnswer}
use Rattle.wfc_task.specs.Maps.{IsLegal}
use Rattle.wfc_words.specs.RequestView.{RequestView}
use Rattle.wfc_words.specs.declared.kinds.CommandKind.TheVariants as commands

-- the file's bytes are a refutation of the problem and of the shape asked for
abbrev pub IsUpgradable : {files : List File} (asked : RequestView) → UpgradeWork asked files → Type 0
IsUpgradable asked work = IsRefutation work.P (shape_asked asked) work.bytes

-- the text in format 2 has each proof that the file's bytes are the text of
abbrev pub KeepsProof : {files : List File} (asked : RequestView) → UpgradeWork asked files → Type 0
KeepsProof asked work =
    (format : Format) (proof : Proof) → IsTextOf work.P (shape_asked asked) format proof work.bytes
    → IsTextOf work.P (shape_asked asked) Two proof (same_proof_text asked work.P work.bytes)

-- the file is a refutation, so no map is legal, and its proof was written in format 2
pub record WritesUpgraded {files : List File} (asked : RequestView)
    (work : UpgradeWork asked files) (call : Call) : Type 0 where
  pub refutation : IsUpgradable asked work
  pub none : (m : Raster) → IsLegal asked files work.P work.task.posed m → ⊥
  pub same_proof : KeepsProof asked work
  pub written : call.after.out ≡ after_finish (after_bytes call.before.out (same_proof_text asked work.P work.bytes))

-- the file is no refutation, and nothing was written
pub record KeepsOld {files : List File} (asked : RequestView) (work : UpgradeWork asked files)
    (call : Call) : Type 0 where
  pub none : IsUpgradable asked work → ⊥
  pub same : call.after.out ≡ call.before.out

-- statuses 0 and 1 of `upgrade`: 0 exactly where the file is a refutation
abbrev pub UpgradesRefutation : Call → RequestView → List File → Type 0
UpgradesRefutation call asked files =
    HasAnswer call.status
    → (work : UpgradeWork asked files)
    × (((call.status ≡ 0) × WritesUpgraded asked work call) ⊎ ((call.status ≡ 1) × KeepsOld asked work call))

-- the file is a refutation, and a front was written of its proof in format 2
pub record WritesUpgradedFront {files : List File} (asked : RequestView)
    (work : UpgradeWork asked files) (call : Call) : Type 0 where
  pub refutation : IsUpgradable asked work
  pub same_proof : KeepsProof asked work
  pub front : IsFaultAfterFront call.before.out call.after.out (same_proof_text asked work.P work.bytes)

-- status 5 of `upgrade`: nothing was written, or a front of that text
abbrev pub UpgradesFront : Call → RequestView → List File → Type 0
UpgradesFront call asked files =
    call.status ≡ 5
    → (call.after.out ≡ call.before.out) ⊎ ((work : UpgradeWork asked files) × WritesUpgradedFront asked work call)

-- what a call promises of a request for `upgrade`
pub record UpgradePromise (call : Call) (asked : RequestView) (files : List File) : Type 0 where
  pub written : UpgradesRefutation call asked files
  pub front : UpgradesFront call asked files

-- this, of each request over told files
abbrev pub UpgradePromises : Call → Type 0
UpgradePromises call = Promises commands.Upgrade UpgradePromise call
