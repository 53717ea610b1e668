use Rattle.std.proofs.Common.{map, subst, sym}
use Rattle.std.specs.Global.{Vec}
use Rattle.script_tree.specs.Processes.{proc_of}
use Rattle.pcml_why.specs.Served.{AreAnswers}
use Rattle.pcml_why.specs.declared.served.Answer.{Answer}
use Rattle.pcml_why.proofs.served.answers_of.Goals as goal
use Rattle.pcml_why.proofs.served.answers_of.Goals.{then-is_waiting+in_ok-push_answers, else-is_waiting}

pub loop-site-preserved : goal.loop-site-preserved
loop-site-preserved c =
    let Are = λ (v : Vec Answer). AreAnswers (map proc_of c.args.processes.now) v.items in
    elim c.if-is_waiting.branch [
      | then-is_waiting+in_ok-push_answers w ↦ subst Are (sym w.answers-is) (w.in_ok-push_answers.ensures c.loop-site.invariant)
      | else-is_waiting w ↦ subst Are (sym w.answers-is) c.loop-site.invariant
    ]
