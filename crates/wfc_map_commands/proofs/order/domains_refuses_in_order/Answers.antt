use Rattle.wfc_map_commands.proofs.DomainsOrderLemmas.{faults_domains}
use Rattle.wfc_map_commands.proofs.order.domains_refuses_in_order.Goals as goal
use Rattle.wfc_map_commands.specs.DomainsOrder.{domains_order}
use Rattle.wfc_map_commands.specs.DomainsTask.{domains_plan}
use Rattle.wfc_plan.proofs.CallerLemmas.{made_in_order}

pub returns-clause-refused : goal.returns-clause-refused
returns-clause-refused c = faults_domains

pub returns-clause-made : goal.returns-clause-made
returns-clause-made c = λ asked files. made_in_order (domains_plan asked) files (domains_order asked files) (faults_domains asked files)
