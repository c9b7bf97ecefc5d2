use Rattle.std.proofs.Common.{◌≡◌}
use Rattle.clap.specs.Simple.{app_of}
use Rattle.wfc_words.specs.Commands.{app_with}
use Rattle.wfc_words.proofs.SimpleLemmas.{groups_to}
use Rattle.wfc_words.proofs.simple.simple.Given as goal

abbrev pub invariant-loop-group : goal.invariant-loop-group
invariant-loop-group l = app_of l.command ≡ app_with (app_of l.initial.command) (groups_to l.group-items l.group-index)
