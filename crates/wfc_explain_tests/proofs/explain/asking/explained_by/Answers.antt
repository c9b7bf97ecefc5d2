use Rattle.wfc_choose.specs.declared.RuleKind.TheVariants.{Scanline}
use Rattle.wfc_runs.proofs.CallerLemmas.{rules_alike}
use Rattle.wfc_explain_tests.proofs.explain.asking.explained_by.Goals as goal

pub explain-requires-clause-alike : goal.explain-requires-clause-alike
explain-requires-clause-alike g c = rules_alike _ Scanline tt c.requires.kinds
