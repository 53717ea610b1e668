use Rattle.std.proofs.Common.{arith, ◌<◌}
use Rattle.meet_directory.proofs.Sitting.{within, raises_it}
use Rattle.meet_directory.proofs.directory.Directory.open.Goals as goal

pub fetch_max-requires : goal.fetch_max-requires
fetch_max-requires c =
    let low : c.from.result < 64 = omega (arith, c.requires.thread, c.from.ensures) in
    (c.requires.sits.0, within c.args.self.now c.from.result (omega arith), raises_it c.args.self.now c.args.pass.now c.from.result _ low)
