use Rattle.pcml_answers.proofs.Breaking.{stamped-at}
use Rattle.pcml_answers.proofs.unlawful.find_reason.Goals as goal

pub returns : goal.returns
returns c ps rows stands breaks = stamped-at ps rows c.args.commits.now c.args.index _ c.in-Some-stamped.next c.args.state.now c.stamp.result breaks stands c.in-Some-stamped.ensures c.stamp.ensures
