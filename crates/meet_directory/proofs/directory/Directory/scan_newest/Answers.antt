use Rattle.std.proofs.Common.{arith, ◌<◌, ◌+◌}
use Rattle.meet_directory.proofs.Sitting.{within, sees}
use Rattle.meet_directory.proofs.directory.Directory.scan_newest.Goals as goal

pub load-requires : goal.load-requires
load-requires c =
    let low : c.from.result < 64 + c.args.self.now.sides = omega (arith, c.requires.thread, c.from.ensures) in
    (c.requires.sits.0, within c.args.self.now c.from.result low, sees c.args.self.now c.args.pass.now c.from.result low)
