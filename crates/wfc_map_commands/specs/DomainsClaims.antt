-- What `domains` promises, in the words of its subject.
use Rattle.std.specs.Prelude.{List, [], false, true, ℕ, ◌≡◌, ◌⊎◌}
use Rattle.wfc_map_commands.specs.DomainsAnswer.{steps_text}
use Rattle.wfc_map_commands.specs.DomainsGiven.{IsDomainsTask}
use Rattle.wfc_outside.specs.Folder.{File}
use Rattle.wfc_outside.specs.Sink.{after_bytes, after_finish}
use Rattle.wfc_pins.specs.declared.steps.StepLine.{StepLine}
use Rattle.wfc_problem.specs.Network.{Network}
use Rattle.wfc_problem.specs.Rounds.{greatest}
use Rattle.wfc_problem.specs.Sizes.{is_dead}
use Rattle.wfc_reply.specs.Asking.{Promises}
use Rattle.wfc_reply.specs.Call.{Call}
use Rattle.wfc_reply.specs.CutClaims.{CutsText}
use Rattle.wfc_reply.specs.Reply.{HasAnswer}
use Rattle.wfc_words.specs.RequestView.{RequestView}
use Rattle.wfc_words.specs.declared.kinds.CommandKind.TheVariants as commands

-- the text is the blocks before the first step and after each
abbrev pub IsBlocks : RequestView → List File → List ℕ → Type 0
IsBlocks asked files text =
    (P : Network) × (steps : List StepLine) × IsDomainsTask asked files P steps × (text ≡ steps_text P steps)

-- statuses 0 and 1 of `domains`: the blocks before the first step and after each were written, and
-- the status is 1 exactly where
-- the root is dead
abbrev pub WritesDomains : Call → RequestView → List File → Type 0
WritesDomains call asked files =
    HasAnswer call.status
    → (P : Network) × (steps : List StepLine) × IsDomainsTask asked files P steps
    × (call.after.out ≡ after_finish (after_bytes call.before.out (steps_text P steps)))
    × (((call.status ≡ 0) × (is_dead P (greatest P []) ≡ false)) ⊎ ((call.status ≡ 1) × (is_dead P (greatest P []) ≡ true)))

-- what a call promises of a request for `domains`
pub record DomainsPromise (call : Call) (asked : RequestView) (files : List File) : Type 0 where
  pub written : WritesDomains call asked files
  pub cut : CutsText IsBlocks call asked files

-- this, of each request over told files
abbrev pub DomainsPromises : Call → Type 0
DomainsPromises call = Promises commands.Domains DomainsPromise call
