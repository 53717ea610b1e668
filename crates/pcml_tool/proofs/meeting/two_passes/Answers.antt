use Rattle.std.proofs.Common.{arith, rules}
use Rattle.pcml_tool.proofs.Passes.{popped}
use Rattle.pcml_tool.proofs.meeting.two_passes.Goals as goal

-- src/meeting.rt:65:1
pub returns-clause-passes : goal.returns-clause-passes
returns-clause-passes c =
    let both = popped c.in_ok-cells.passes.items c.pop.new.self.items c.pop-2.new.self.items c.in-Some-pop.sender c.in-Some.receiver (search rules) (search rules) (search rules) in
    let sender = c.in_ok-cells.ensures.passes 0 c.in-Some-pop.sender both.0 in
    let receiver = c.in_ok-cells.ensures.passes 1 c.in-Some.receiver both.1 in
    let room = c.in_ok-cells.ensures.room in
    ((sender.0, (search rules, search rules), sender.1, omega (arith, room)), (receiver.0, (search rules, search rules), receiver.1, omega (arith, room)))
