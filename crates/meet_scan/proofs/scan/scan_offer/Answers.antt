use Rattle.std.proofs.Common.{◌∙◌, sym}
use Rattle.meet_scan.proofs.Scanning.{comes_wider, left_in_side, never_alone}
use Rattle.meet_scan.proofs.scan.scan_offer.Goals as goal

pub returns-in-Some-clause-found : goal.returns-in-Some-clause-found
returns-in-Some-clause-found g c =
    comes_wider c.scan_side.new.pass.seen c.args.mine.0 _ _ c.scan_side.result
    (λ left. (
      left_in_side c.scan_side.new.scan.me.0 c.scan_side.new.pass.seen c.args.mine.0 c.args.direction c.in-Some.both (sym c.sides.ensures ∙ c.in-Some.is) left,
      (λ _. never_alone _ _ c.args.pass.now.seen c.args.mine.0 c.args.mine.1 c.args.direction c.in-Some.both c.requires.here.0.4 c.requires.read (sym c.sides.ensures ∙ c.in-Some.is)),
    ))
    c.scan_side.ensures.found
