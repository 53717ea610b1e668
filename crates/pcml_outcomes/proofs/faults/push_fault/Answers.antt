use Rattle.pcml_outcomes.proofs.faults.push_fault.Goals as goal

pub returns-in-Nobody : goal.returns-in-Nobody
returns-in-Nobody c = rw c.in-Nobody.is c.write-in-Nobody.ensures.bytes

pub returns-in-Unknown : goal.returns-in-Unknown
returns-in-Unknown c = rw c.in-Unknown.is c.write-in-Unknown.ensures.bytes
