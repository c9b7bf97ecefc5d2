use Rattle.wfc_log.specs.Domains.{has}
use Rattle.wfc_domains.specs.Loaded.{HaveSameSupports}
use Rattle.wfc_domains.proofs.beside.are_alike.Given as goal

abbrev pub invariant-loop-dir : goal.invariant-loop-dir
invariant-loop-dir l = HaveSameSupports l.problem (has l.domains) l.cell l.other l.dir
