use Rattle.wfc_lines.proofs.outcome.budget_spent.Goals as goal

pub returns : goal.returns
returns g c = record { told = rw c.from.ensures at c.count.ensures.told }
