use Rattle.pcml_why_sites.proofs.Forgetting.{forgetting_gives_after, tells_what_it_does, troubles_are_so}
use Rattle.pcml_why_sites.proofs.Variables.{faults_are_told, machines_have_them, offers_are_told}
use Rattle.pcml_why_sites.proofs.laws.stand_laws.Goals as goal

pub returns : goal.returns
returns c = record { forgetting = forgetting_gives_after; troubles = troubles_are_so; told = tells_what_it_does; variables = machines_have_them; offers = offers_are_told; faults = faults_are_told }
