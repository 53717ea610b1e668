use Rattle.std.proofs.Common.{◌≡◌, List, subst}
use Rattle.script.specs.Scripts.{script_of}
use Rattle.script_tree.specs.Processes.{Proc}
use Rattle.reachable.specs.Faults.{IsFaultBehind, NobodyFaults}
use Rattle.reachable.specs.declared.faults.Faults.TheVariants.{First, Nobody}
use Rattle.reachable.specs.declared.faults.FirstFault.{FirstFault}
use Rattle.pcml_outcomes.proofs.Faulting.{fault-has-lines}
use Rattle.pcml_outcomes.proofs.faults.found_faults.Goals as goal

pub returns-clause-found : goal.returns-clause-found
returns-clause-found g c =
    let found = c.in_ok-found.found in
    let told = c.in_ok-found.ensures in
    let same = c.processes.ensures.value in
    record {
      told = subst (λ (ps : List Proc). (fault : FirstFault) → found.faults ≡ First fault → IsFaultBehind ps fault) same told.told;
      nobody = subst (λ (ps : List Proc). found.faults ≡ Nobody → NobodyFaults ps) same told.nobody;
      cut = told.cut;
      few = told.few;
    }

pub returns-clause-lines : goal.returns-clause-lines
returns-clause-lines g c =
    let s = script_of c.args.script.now in
    let found = c.in_ok-found.found in
    fault-has-lines s c.processes.ensures.spelled found.faults (subst (λ (ps : List Proc). (fault : FirstFault) → found.faults ≡ First fault → IsFaultBehind ps fault) c.processes.ensures.value c.in_ok-found.ensures.told)
