-- What the program keeps of its promises.
use Rattle.std.specs.Prelude.{IfOk, List, Result, ℕ}
use Rattle.std.specs.declared.alloc.Global.{Global}
use Rattle.std.specs.declared.string.String.{String}
use Rattle.std.specs.declared.vec.Vec.{Vec}
use Rattle.wfc_app.specs.Choosers.{rules_made}
use Rattle.wfc_app.specs.Needed.{needed_choosers}
use Rattle.wfc_cli.specs.Promises.{KeepsPromises}
use Rattle.wfc_outside.specs.Folder.{FolderView}
use Rattle.wfc_outside.specs.Sink.{SinkView}
use Rattle.wfc_reply.specs.Call.{Call, devices}
use Rattle.wfc_words.specs.Request.{texts}

-- the call with these words, and choosers of each rule for all runs that their command may make, where the folder, the sink of the
-- answer and the error stream are so before it and so after it, and this is its status
abbrev pub served_call : {F O E : Type 0} → List (String Global)
    → (F → FolderView) → F → F → (O → SinkView) → O → O → (E → SinkView) → E → E → ℕ → Call
served_call words folder folder_old folder_new out out_old out_new err err_old err_new status = record {
  rules = rules_made (needed_choosers (texts words));
  words = texts words;
  before = devices (folder folder_old) (out out_old) (err err_old);
  after = devices (folder folder_new) (out out_new) (err err_new);
  status = status;
}

-- where its words are read, that call keeps all promises
abbrev pub KeepsWhereRead : {X F O E : Type 0} → Result (Vec (String Global) Global) X
    → (F → FolderView) → F → F → (O → SinkView) → O → O → (E → SinkView) → E → E → ℕ → Type 0
KeepsWhereRead words folder folder_old folder_new out out_old out_new err err_old err_new status =
    IfOk words (λ read. KeepsPromises (served_call read.items folder folder_old folder_new out out_old out_new
    err err_old err_new status))
