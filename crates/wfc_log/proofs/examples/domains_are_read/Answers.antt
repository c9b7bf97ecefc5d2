use Rattle.std.proofs.Common.{refl}
use Rattle.wfc_log.proofs.examples.domains_are_read.Goals as goal

pub returns-clause-fits : goal.returns-clause-fits
returns-clause-fits c = record { same_cells = refl; same_values = refl }

pub returns-clause-fits_not : goal.returns-clause-fits_not
returns-clause-fits_not c = λ f. let e = f.same_cells in cc
