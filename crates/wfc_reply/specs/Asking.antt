-- What a call is asked for.
use Rattle.std.specs.Prelude.{List, Ok, Some, ◌≡◌}
use Rattle.wfc_outside.specs.Folder.{File}
use Rattle.wfc_reply.specs.Call.{Call}
use Rattle.wfc_words.specs.Request.{request_of}
use Rattle.wfc_words.specs.RequestView.{RequestView}
use Rattle.wfc_words.specs.declared.kinds.CommandKind.{CommandKind}

-- the words ask for this, and the folder tells these files
pub record IsGiven (call : Call) (asked : RequestView) (files : List File) : Type 0 where
  pub spelled : request_of call.words ≡ Ok asked
  pub told : call.before.folder.contents ≡ Some files

-- the words ask for this command, and the folder tells these files
pub record IsCommand (command : CommandKind) (call : Call) (asked : RequestView) (files : List File) : Type 0 where
  pub given : IsGiven call asked files
  pub command_is : asked.command ≡ command

-- what a call promises of each request for a command, over the files that its folder tells
abbrev pub Promises : CommandKind → (Call → RequestView → List File → Type 0) → Call → Type 0
Promises command Promise call =
    (asked : RequestView) (files : List File) → IsCommand command call asked files → Promise call asked files
