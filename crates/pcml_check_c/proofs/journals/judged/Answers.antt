use Rattle.std.proofs.Common.{◌∙◌, refl, subst}
use Rattle.script.specs.Scripts.{script_of}
use Rattle.pcml_texts.specs.Replay.{TellsJudged}
use Rattle.pcml_texts.specs.declared.replay.Judged.{Judged}
use Rattle.pcml_texts.specs.declared.replay.Judged.TheVariants.{Lawful}
use Rattle.pcml_check_c.proofs.journals.judged.Goals as goal

pub returns-in-Lawful-default-true-clause-told : goal.returns-in-Lawful-default-true-clause-told
returns-in-Lawful-default-true-clause-told c =
    let s = script_of c.in_ok-script.script in
    let lawful = c.in-Lawful-default-true in
    let judged : TellsJudged s c.args.rows c.args.journal.now (Lawful lawful.text lawful.is_maximal) =
    subst (λ (j : Judged). TellsJudged s c.args.rows c.args.journal.now j) lawful.is c.in_ok-text.ensures.judged in
    record {
      in_range = search;
      s = s;
      spells = c.in_ok-script.ensures.found;
      judges = (refl, judged.0, judged.1 ∙ lawful.is_maximal-test);
    }

pub returns-in-Lawful-clause-told : goal.returns-in-Lawful-clause-told
returns-in-Lawful-clause-told c =
    let s = script_of c.in_ok-script.script in
    let lawful = c.in-Lawful in
    let judged : TellsJudged s c.args.rows c.args.journal.now (Lawful lawful.text lawful.is_maximal) =
    subst (λ (j : Judged). TellsJudged s c.args.rows c.args.journal.now j) lawful.is c.in_ok-text.ensures.judged in
    record {
      in_range = search;
      s = s;
      spells = c.in_ok-script.ensures.found;
      judges = (refl, judged.0, judged.1 ∙ lawful.is_maximal-test);
    }
