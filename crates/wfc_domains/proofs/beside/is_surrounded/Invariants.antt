use Rattle.wfc_log.specs.Domains.{has}
use Rattle.wfc_domains.specs.Loaded.{IsSurrounded}
use Rattle.wfc_domains.proofs.beside.is_surrounded.Given as goal

abbrev pub invariant-loop-hop : goal.invariant-loop-hop
invariant-loop-hop l = IsSurrounded l.problem (has l.domains) l.cell l.hop-index
