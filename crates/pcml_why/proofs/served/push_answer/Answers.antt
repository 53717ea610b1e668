use Rattle.std.proofs.Common.{map}
use Rattle.script_tree.specs.Processes.{proc_of}
use Rattle.pcml_why.proofs.Sites.{one-more-answer}
use Rattle.pcml_why.proofs.served.push_answer.Goals as goal

pub returns : goal.returns
returns c =
    one-more-answer (map proc_of c.args.processes.now) c.args.answers.now.items c.push.new.self.items c.args.side c.args.chan c.nobody_serves.result c.nobody_serves.ensures c.in_ok-push.ensures.items
