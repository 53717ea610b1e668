use Rattle.std.proofs.Common.{arith}
use Rattle.meet_directory.proofs.Sitting.{within, sees}
use Rattle.meet_directory.proofs.directory.Directory.scan_side.Goals as goal

pub load-requires : goal.load-requires
load-requires c = (c.requires.sits.0, within c.args.self.now _ (omega (arith, c.requires.side)), sees c.args.self.now c.args.pass.now _ (omega (arith, c.requires.side)))
