use Rattle.std.proofs.Common.{List, length, take, subst, sym}
use Rattle.std.proofs.lemmas.List.{take_more}
use Rattle.protocol_values.specs.declared.Commit.{Commit}
use Rattle.script.specs.Scripts.{script_of}
use Rattle.pcml_answers.specs.Tallies.{IsTally}
use Rattle.pcml_answers.proofs.tallying.tally_journal.Goals as goal

pub loop-commit-preserved : goal.loop-commit-preserved
loop-commit-preserved c =
    let P : List Commit → Type 0 = λ cs. IsTally (length (script_of c.args.script.now).processes) (length (script_of c.args.script.now).channels) cs c.add.new.self in
    subst P (sym (take_more c.args.journal.now c.loop-commit.commit-index _ c.loop-commit-test.true))
    (c.add.ensures (length (script_of c.args.script.now).processes) (length (script_of c.args.script.now).channels) (take c.loop-commit.commit-index c.args.journal.now) c.loop-commit.invariant)
