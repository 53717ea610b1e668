use Rattle.std.proofs.Common.{map, subst, sym}
use Rattle.std.specs.Global.{Vec}
use Rattle.script_tree.specs.Processes.{proc_of}
use Rattle.pcml_why.specs.Served.{AreAnswers}
use Rattle.pcml_why.specs.declared.served.Answer.{Answer}
use Rattle.pcml_why.proofs.served.push_answers.Goals as goal
use Rattle.pcml_why.proofs.served.push_answers.Goals.{in-Some+in_ok-push_answer, in_default}

pub loop-offer-preserved : goal.loop-offer-preserved
loop-offer-preserved c =
    let Are = λ (v : Vec Answer). AreAnswers (map proc_of c.args.processes.now) v.items in
    λ before. elim c.match-partner_of.branch [
      | in-Some+in_ok-push_answer w ↦ subst Are (sym w.answers-is) (w.in_ok-push_answer.ensures (c.loop-offer.invariant before))
      | in_default w ↦ subst Are (sym w.answers-is) (c.loop-offer.invariant before)
    ]
