use Rattle.wfc_problem.proofs.Domains.{greatest_same}
use Rattle.wfc_problem.proofs.laws.greatest_holds_all.Goals as goal

pub returns-clause-only : goal.returns-clause-only
returns-clause-only c = greatest_same

pub returns-clause-largest : goal.returns-clause-largest
returns-clause-largest c P literals D E greatest both cell value stands =
    (greatest cell value).1 (record { domains = E; within = both.0; consistent = both.1; stands = stands })
