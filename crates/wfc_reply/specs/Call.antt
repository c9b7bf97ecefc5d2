-- A call of the program.
use Rattle.std.specs.Prelude.{List, [], map, ℕ}
use Rattle.std.specs.declared.alloc.Global.{Global}
use Rattle.std.specs.declared.string.String.{String}
use Rattle.wfc_choose.specs.Pick.{Rule}
use Rattle.wfc_outside.specs.Folder.{FolderView}
use Rattle.wfc_outside.specs.Sink.{SinkView}
use Rattle.wfc_words.specs.Request.{texts}

-- the devices that a command works with: the folder, the sink of the answer, and the error stream
pub record Devices : Type 0 where
  pub folder : FolderView
  pub out : SinkView
  pub err : SinkView

-- this folder, sink of the answer and error stream, as devices
abbrev pub devices : FolderView → SinkView → SinkView → Devices
devices folder out err = record { folder = folder; out = out; err = err }

-- a call: the rules of its choosers, its words, its devices before it and after it, and its exit status
pub record Call : Type 0 where
  pub rules : List Rule
  pub words : List (List ℕ)
  pub before : Devices
  pub after : Devices
  pub status : ℕ

-- the call with these choosers and words, where the folder, the sink of the answer and the error
-- stream are so before it and so after it, and this is its status
abbrev pub call_of : {C F O E : Type 0} → (C → Rule) → List C → List (String Global)
    → (F → FolderView) → F → F → (O → SinkView) → O → O → (E → SinkView) → E → E → ℕ → Call
call_of rule choosers words folder folder_old folder_new out out_old out_new err err_old err_new status = record {
  rules = map rule choosers;
  words = texts words;
  before = devices (folder folder_old) (out out_old) (err err_old);
  after = devices (folder folder_new) (out out_new) (err err_new);
  status = status;
}

-- the call without words whose choosers, folder and sinks are given as they are seen
abbrev pub plain_call : List Rule → FolderView → FolderView → SinkView → SinkView → SinkView
    → SinkView → ℕ → Call
plain_call rules f g a b c d status =
    call_of (λ (r : Rule). r) rules [] (λ (s : FolderView). s) f g (λ (s : SinkView). s) a b
    (λ (s : SinkView). s) c d status

-- the same devices with another error stream
abbrev pub with_err : Devices → SinkView → Devices
with_err devices err = record devices { err = err }

-- the same call with another error stream, before and after
abbrev pub with_error_stream : Call → SinkView → SinkView → Call
with_error_stream call old new = record call { before = with_err call.before old; after = with_err call.after new }
