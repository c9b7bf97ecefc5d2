use Rattle.wfc_choose.specs.declared.RuleKind.TheVariants.{Scanline}
use Rattle.wfc_runs.proofs.CallerLemmas.{rules_alike}
use Rattle.wfc_blocks_tests.proofs.blocks.asking.grown_by.Goals as goal

pub grow-requires-clause-alike : goal.grow-requires-clause-alike
grow-requires-clause-alike g c = rules_alike _ Scanline tt c.requires.kinds
