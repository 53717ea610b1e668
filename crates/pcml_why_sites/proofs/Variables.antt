-- The variables with which a process stands are its machine's.
use Rattle.std.proofs.Common.{◌≡◌, length, refl, sym, ap, ◌∙◌}
use Rattle.std.specs.Global.{Vec}
use Rattle.std.specs.Prelude.{Option}
use Rattle.event.specs.Tree.{Tree as Event}
use Rattle.protocol_values.specs.declared.Atom.{Atom}
use Rattle.script_tree.specs.Lined as written
use Rattle.script_tree.proofs.Lines.{block_plain}
use Rattle.thread.specs.After as after
use Rattle.thread.specs.After.{Said, State}
use Rattle.thread.specs.Standing as lined
use Rattle.thread.specs.Standing.{unlined}
use Rattle.pcml_why_sites.specs.Forgetting.{forgotten}
use Rattle.pcml_why_sites.specs.Standing.{Standing, Goes, Offers, Finishes, Fails, Strays, standing}
use Rattle.pcml_why_sites.specs.Stands.{IsTold}
use Rattle.pcml_why_sites.specs.Variables.{FaultsAreTold, MachinesHaveThem, OffersAreTold, variables_in}
use Rattle.pcml_why_sites.specs.declared.stand.Stand.TheVariants as stand
use Rattle.pcml_why_sites.specs.declared.trouble.Trouble.{Trouble}
use Rattle.pcml_why_sites.proofs.Forgetting.{forgetting_gives_after}
use Rattle.pcml_why_sites.proofs.Lining.{Told, standing_told}

same_variables : (x : Standing State) (y : lined.Outcome lined.State) → Told unlined x y → variables_in x ≡ lined.variables_in y
same_variables (Goes b) (lined.Goes a) h = refl
same_variables (Offers event s) (lined.Offers other at) h = ap (λ (t : State). t.store) h.1
same_variables (Finishes s) (lined.Finishes at) h = ap (λ (t : State). t.store) h
same_variables (Fails trouble s) (lined.Fails fault at) h = ap (λ (t : State). t.store) h.2
same_variables Strays lined.Strays h = refl
same_variables x y h = absurd h

pub machines_have_them : MachinesHaveThem
machines_have_them tree variables thread results =
    ap (λ b. variables_in (standing b variables thread results)) (sym (block_plain tree))
    ∙ same_variables _ _ (standing_told (written.block_of tree) variables thread results)

told_offering : (x : Standing State) (event : Event) (said : Said) (variables : Vec (Option Atom)) → forgotten x ≡ after.Offers event said → variables.items ≡ variables_in x → IsTold x (stand.Offers variables)
told_offering (Goes s) event said variables offers is = absurd (cc (offers))
told_offering (Offers other s) event said variables offers is = is
told_offering (Finishes s) event said variables offers is = absurd (cc (offers))
told_offering (Fails trouble s) event said variables offers is = absurd (cc (offers))
told_offering Strays event said variables offers is = absurd (cc (offers))

told_failed : (x : Standing State) (trouble : Trouble) (variables : Vec (Option Atom)) → IsTold x (stand.Fails variables trouble) → variables.items ≡ variables_in x
told_failed (Fails trouble s) told variables h = h.0
told_failed x told variables h = absurd h

pub offers_are_told : OffersAreTold
offers_are_told p tree thread results event said variables same offers is =
    let n = length p.variables in
    told_offering (standing p.body n thread results) event said variables (forgetting_gives_after p.body n thread results ∙ offers)
    (is ∙ sym (machines_have_them tree n thread results) ∙ ap (λ b. variables_in (standing b n thread results)) same)

pub faults_are_told : FaultsAreTold
faults_are_told p tree thread results trouble variables same h =
    let n = length p.variables in
    told_failed (standing p.body n thread results) trouble variables h
    ∙ ap (λ b. variables_in (standing b n thread results)) (sym same)
    ∙ machines_have_them tree n thread results
