-- What is written of an answer where the sink of the answer fails.
use Rattle.std.specs.Prelude.{List, ℕ, ◌≡◌, ◌⊎◌}
use Rattle.wfc_outside.specs.Folder.{File}
use Rattle.wfc_outside.specs.Sink.{IsFaultAfterFront}
use Rattle.wfc_reply.specs.Call.{Call}
use Rattle.wfc_words.specs.RequestView.{RequestView}

-- status 5 of a command whose answers are these texts: nothing was written, or a front of one
abbrev pub CutsText : (RequestView → List File → List ℕ → Type 0) → Call → RequestView → List File → Type 0
CutsText IsText call asked files =
    call.status ≡ 5 → (call.after.out ≡ call.before.out)
    ⊎ ((text : List ℕ) × IsText asked files text × IsFaultAfterFront call.before.out call.after.out text)
