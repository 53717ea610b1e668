use Rattle.std.proofs.Common.{ℕ, List, Bool, ap, length, subst, ◌∙◌}
use Rattle.script.specs.Scripts.{script_of}
use Rattle.pcml_answers.specs.Needs.{Names}
use Rattle.pcml_outcomes.specs.Left.{TellsLeft}
use Rattle.pcml_answers.proofs.Columns.{each-named}
use Rattle.pcml_check_c.proofs.seeking.left_sought.Goals as goal

pub left_text-requires-clause-marks : goal.left_text-requires-clause-marks
left_text-requires-clause-marks c =
    let s = script_of c.in_ok-script.script in
    ap (λ (m : List Bool). length m) (c.deref.ensures.value ∙ c.in_ok-marks.ensures.named.1) ∙ each-named s c.in_ok-text.text.now

pub returns-clause-told : goal.returns-clause-told
returns-clause-told c =
    let s = script_of c.in_ok-script.script in
    let marks = c.in_ok-marks.marks.items in
    let tells : TellsLeft s c.in_ok-most.most marks c.in_ok-sought.sought = subst (λ (m : List Bool). TellsLeft s c.in_ok-most.most m c.in_ok-sought.sought) c.deref.ensures.value c.in_ok-sought.ensures in
    record {
      number = c.in_ok-most.ensures.found.1;
      s = s;
      spells = c.in_ok-script.ensures.found;
      sought = c.in_ok-sought.sought;
      tells = (
        marks,
        subst (λ (text : List ℕ). Names s text marks) c.in_ok-text.ensures.text c.in_ok-marks.ensures.named,
        subst (λ (n : ℕ). TellsLeft s n marks c.in_ok-sought.sought) c.in_ok-most.ensures.found.0 tells,
      );
      shows = c.told_of.ensures;
    }
