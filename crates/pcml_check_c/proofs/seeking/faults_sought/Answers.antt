use Rattle.std.proofs.Common.{ℕ, subst}
use Rattle.script.specs.Scripts.{script_of}
use Rattle.pcml_outcomes.specs.Faults.{TellsFaults}
use Rattle.pcml_check_c.proofs.seeking.faults_sought.Goals as goal

pub returns-clause-told : goal.returns-clause-told
returns-clause-told c =
    let s = script_of c.in_ok-script.script in
    record {
      number = c.in_ok-most.ensures.found.1;
      s = s;
      spells = c.in_ok-script.ensures.found;
      sought = c.in_ok-sought.sought;
      tells = subst (λ (n : ℕ). TellsFaults s n c.in_ok-sought.sought) c.in_ok-most.ensures.found.0 c.in_ok-sought.ensures;
      shows = c.told_of.ensures;
    }
