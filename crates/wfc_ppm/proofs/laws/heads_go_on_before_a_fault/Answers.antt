use Rattle.wfc_ppm.proofs.FrontLemmas.{header_front, header_whole}
use Rattle.wfc_ppm.proofs.laws.heads_go_on_before_a_fault.Goals as goal

pub returns-clause-before : goal.returns-clause-before
returns-clause-before c form text at formed fault = header_front form text at formed fault

pub returns-clause-whole : goal.returns-clause-whole
returns-clause-whole c form text formed none = header_whole form text formed none
