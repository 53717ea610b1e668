use Rattle.meet_scan.proofs.Scanning.{no_pair_left, nobody_left}
use Rattle.meet_scan.proofs.scan.nobody_is_left.Goals as goal

pub returns : goal.returns
returns c threads rows v s none agree = (nobody_left threads rows s agree v none, no_pair_left threads rows s agree v none)
