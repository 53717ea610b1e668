use Rattle.std.proofs.Common.{subst, sym}
use Rattle.protocol_ledger.specs.Openings.{HaveReached}
use Rattle.protocol_ledger.proofs.Going.{told_greatest, told_opens}
use Rattle.protocol_ledger.proofs.ledger.Ledger.opening_by.Goals as goal

pub ends-requires : goal.ends-requires
ends-requires c = subst (HaveReached c.args.self.now) (sym c.deref.ensures.value) c.in_ok-reached.ensures

pub nack_states-requires : goal.nack_states-requires
nack_states-requires c = subst (HaveReached c.args.self.now) (sym c.deref-2.ensures.value) c.in_ok-reached.ensures

pub returns-clause-greatest : goal.returns-clause-greatest
returns-clause-greatest c lawful = told_greatest c.args.self.now lawful (record { threads = c.in_ok-ends.field-0.items; nacks = c.in_ok-nack_states.field-0.items }) (c.in_ok-ends.ensures, c.in_ok-nack_states.ensures)

pub returns-clause-leads_on : goal.returns-clause-leads_on
returns-clause-leads_on c lawful = told_opens c.args.self.now lawful (record { threads = c.in_ok-ends.field-0.items; nacks = c.in_ok-nack_states.field-0.items }) (c.in_ok-ends.ensures, c.in_ok-nack_states.ensures)
