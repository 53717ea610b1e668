use Rattle.meet_directory.proofs.Sitting.{some_words, enters}
use Rattle.meet_directory.proofs.directory.Directory.another.Goals as goal

pub split_seat-requires : goal.split_seat-requires
split_seat-requires c = (c.requires.sits.0, some_words c.args.self.now, enters c.args.self.now c.args.pass.now)
