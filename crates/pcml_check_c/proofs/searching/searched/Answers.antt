use Rattle.std.proofs.Common.{◌∙◌, ℕ, List, None, Option, ap, false, refl, subst}
use Rattle.script.specs.Scripts.{script_of}
use Rattle.pcml_outcomes.specs.Told.{TellsOutcomes}
use Rattle.pcml_outcomes.specs.declared.finding.Finding.{Finding}
use Rattle.pcml_outcomes.specs.Searching.{IsAskedOf}
use Rattle.pcml_check_c.specs.Names.{Wants}
use Rattle.pcml_check_c.specs.Outcomes.{code_of_finding, rows_of}
use Rattle.pcml_check_c.proofs.searching.searched.Goals as goal

pub returns-clause-told : goal.returns-clause-told
returns-clause-told c =
    let s = script_of c.in_ok-script.script in
    let wanted = c.wanted_by.result in
    let asked = c.in_ok-asked.asked in
    let told : TellsOutcomes s (rows_of c.args.rows) c.args.limit asked None c.in_ok-listed.listed =
    subst (λ (rows : Option ℕ). TellsOutcomes s rows c.args.limit asked None c.in_ok-listed.listed) c.rows_of-rows.ensures c.in_ok-listed.ensures in
    record {
      numbers = search;
      s = s;
      spells = c.in_ok-script.ensures.found;
      wanted = wanted;
      wants = subst (λ (names : Option (List ℕ)). Wants names wanted) c.in_ok-needed.ensures.names c.wanted_by.ensures;
      asked = asked;
      asks = subst (λ (names : Option (List ℕ)). IsAskedOf s wanted names false asked) c.in_ok-names.ensures.names c.in_ok-asked.ensures.asked;
      needed = c.in_ok-asked.ensures.needed;
      found = told.found;
      are = told.are;
      stranded = told.stranded;
      lost = told.lost;
      code = c.code_of_finding.ensures ∙ ap (λ (f : Finding). code_of_finding f) told.is.finding_is;
      line = refl;
      text = told.is.text;
    }
