use Rattle.std.proofs.Common.{◌≡◌}
use Rattle.clap.specs.Simple.{app_of}
use Rattle.wfc_words.specs.Commands.{app_with}
use Rattle.wfc_words.proofs.SimpleLemmas.{words_to}
use Rattle.wfc_words.proofs.simple.with_group.Given as goal

abbrev pub invariant-loop-argument : goal.invariant-loop-argument
invariant-loop-argument l = app_of l.grown ≡ app_with (app_of l.initial.grown) (words_to l.group l.argument-index)
