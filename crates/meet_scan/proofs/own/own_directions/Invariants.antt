use Rattle.cell.specs.Calls.{IsPassOf}
use Rattle.meet_scan.specs.Searches.{Grows}
use Rattle.meet_scan.specs.Steps.{OnlyLooks}
use Rattle.meet_scan.proofs.Reading.{Reads}
use Rattle.meet_scan.proofs.Scanning.{ReadTo}
use Rattle.meet_scan.proofs.own.own_directions.Given as goal

abbrev pub invariant-loop-n : goal.invariant-loop-n
invariant-loop-n g l =
    IsPassOf l.cells l.pass × Grows l.fn.pass.seen l.pass.seen × Reads l.fn.pass.seen l.pass.seen l.row l.directions l.n × OnlyLooks l.fn.pass l.pass × ReadTo l.pass.seen l.row l.directions l.n
