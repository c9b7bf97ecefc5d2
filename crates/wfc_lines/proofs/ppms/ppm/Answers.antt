use Rattle.wfc_lines.proofs.ppms.ppm.Goals as goal

pub returns-in-SampleAboveMaxval : goal.returns-in-SampleAboveMaxval
returns-in-SampleAboveMaxval g c = record { told = rw c.in-SampleAboveMaxval.is c.put_numbered-in-SampleAboveMaxval.ensures.told }

pub returns-in-Trailing : goal.returns-in-Trailing
returns-in-Trailing g c = record { told = rw c.in-Trailing.is c.put_numbered-in-Trailing.ensures.told }

pub returns-in-Truncated : goal.returns-in-Truncated
returns-in-Truncated g c = record { told = rw c.in-Truncated.is c.twice_numbered.ensures.told }
