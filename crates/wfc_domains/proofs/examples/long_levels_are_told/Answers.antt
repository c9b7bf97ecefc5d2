use Rattle.std.proofs.Common.{◌∙◌, ap, inl, sym}
use Rattle.wfc_domains.specs.Store.{level_mark}
use Rattle.wfc_domains.proofs.examples.long_levels_are_told.Goals as goal

pub returns-clause-begins : goal.returns-clause-begins
returns-clause-begins c = λ b start marks. inl (start ∙ sym (ap level_mark marks))
