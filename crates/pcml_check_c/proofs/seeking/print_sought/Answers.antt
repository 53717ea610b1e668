use Rattle.std.proofs.Common.{ℕ, List, [], ◌∷◌, subst}
use Rattle.script.specs.Scripts.{script_of}
use Rattle.pcml_answers.specs.Prints.{NamePrints}
use Rattle.pcml_answers.specs.declared.prints.Print.{Print}
use Rattle.pcml_outcomes.specs.Printed.{TellsPrints}
use Rattle.pcml_check_c.proofs.seeking.print_sought.Goals as goal

pub returns-clause-told : goal.returns-clause-told
returns-clause-told c =
    let s = script_of c.in_ok-script.script in
    let prints = c.in_ok-prints.prints.items in
    let tells : TellsPrints s c.in_ok-most.most prints c.in_ok-sought.sought = subst (λ (ps : List Print). TellsPrints s c.in_ok-most.most ps c.in_ok-sought.sought) c.deref.ensures.value c.in_ok-sought.ensures in
    record {
      number = c.in_ok-most.ensures.found.1;
      s = s;
      spells = c.in_ok-script.ensures.found;
      sought = c.in_ok-sought.sought;
      tells = (
        prints,
        subst (λ (text : List ℕ). NamePrints s (text ∷ []) prints) c.in_ok-text.ensures.text c.in_ok-prints.ensures.named,
        subst (λ (n : ℕ). TellsPrints s n prints c.in_ok-sought.sought) c.in_ok-most.ensures.found.0 tells,
      );
      shows = c.told_of.ensures;
    }
