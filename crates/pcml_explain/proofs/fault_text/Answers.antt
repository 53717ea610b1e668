-- Where the number is written out, how its text begins is computed.
use Rattle.std.specs.Fmt.{digits}
use Rattle.pcml_explain.proofs.fault_text.Goals as goal

pub returns-in-1-clause-headed : goal.returns-in-1-clause-headed
unfolding digits
returns-in-1-clause-headed c = rw c.in-1.is

pub returns-in-2-clause-headed : goal.returns-in-2-clause-headed
unfolding digits
returns-in-2-clause-headed c = rw c.in-2.is

pub returns-in-3-clause-headed : goal.returns-in-3-clause-headed
unfolding digits
returns-in-3-clause-headed c = rw c.in-3.is

pub returns-in-4-clause-headed : goal.returns-in-4-clause-headed
unfolding digits
returns-in-4-clause-headed c = rw c.in-4.is

pub returns-in-5-clause-headed : goal.returns-in-5-clause-headed
unfolding digits
returns-in-5-clause-headed c = rw c.in-5.is

pub returns-in-6-clause-headed : goal.returns-in-6-clause-headed
unfolding digits
returns-in-6-clause-headed c = rw c.in-6.is

pub returns-in-7-clause-headed : goal.returns-in-7-clause-headed
unfolding digits
returns-in-7-clause-headed c = rw c.in-7.is

pub returns-in-8-clause-headed : goal.returns-in-8-clause-headed
unfolding digits
returns-in-8-clause-headed c = rw c.in-8.is

pub returns-in-11-clause-headed : goal.returns-in-11-clause-headed
unfolding digits
returns-in-11-clause-headed c = rw c.in-11.is

pub returns-in-12-clause-headed : goal.returns-in-12-clause-headed
unfolding digits
returns-in-12-clause-headed c = rw c.in-12.is

pub returns-in-13-clause-headed : goal.returns-in-13-clause-headed
unfolding digits
returns-in-13-clause-headed c = rw c.in-13.is

pub returns-in-14-clause-headed : goal.returns-in-14-clause-headed
unfolding digits
returns-in-14-clause-headed c = rw c.in-14.is

pub returns-in-15-clause-headed : goal.returns-in-15-clause-headed
unfolding digits
returns-in-15-clause-headed c = rw c.in-15.is

pub returns-in-16-clause-headed : goal.returns-in-16-clause-headed
unfolding digits
returns-in-16-clause-headed c = rw c.in-16.is

pub returns-in-21-clause-headed : goal.returns-in-21-clause-headed
unfolding digits
returns-in-21-clause-headed c = rw c.in-21.is

pub returns-in-22-clause-headed : goal.returns-in-22-clause-headed
unfolding digits
returns-in-22-clause-headed c = rw c.in-22.is

pub returns-in-23-clause-headed : goal.returns-in-23-clause-headed
unfolding digits
returns-in-23-clause-headed c = rw c.in-23.is

pub returns-in-31-clause-headed : goal.returns-in-31-clause-headed
unfolding digits
returns-in-31-clause-headed c = rw c.in-31.is

pub returns-in-32-clause-headed : goal.returns-in-32-clause-headed
unfolding digits
returns-in-32-clause-headed c = rw c.in-32.is
