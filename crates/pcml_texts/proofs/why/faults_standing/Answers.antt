use Rattle.std.proofs.Common.{ℕ, List, subst, sym}
use Rattle.script.specs.Scripts.{script_of}
use Rattle.pcml_why.specs.Faults.{TellsFaults}
use Rattle.pcml_texts.proofs.why.faults_standing.Goals as goal

pub returns : goal.returns
returns c =
    subst (λ (told : List ℕ). TellsFaults (script_of c.args.script.now) c.args.state.now c.args.commits.now told) (λ i. (sym c.into_bytes.ensures.value i).items) c.in_ok-told.ensures
