use Rattle.std.proofs.Common.{ℕ, Option, ap, subst, ◌∙◌}
use Rattle.std.specs.Option.{option_copied}
use Rattle.std.specs.Prelude.{is_some}
use Rattle.script.specs.Scripts.{script_of}
use Rattle.pcml_outcomes.specs.declared.finding.Finding.{Finding}
use Rattle.pcml_outcomes.specs.Told.{TellsOutcomes, bytes_of}
use Rattle.pcml_tool.specs.Command.{printed_of}
use Rattle.pcml_tool.specs.Searching.{verdict_of}
use Rattle.pcml_tool.proofs.Keeping.{kept_on}
use Rattle.pcml_tool.proofs.program.answer_search.Goals as goal

pub returns-clause-done : goal.returns-clause-done
returns-clause-done g c =
    let search = c.args.search in
    let s = script_of c.in_ok-script.script in
    let read = c.in_ok-script.ensures.read in
    let asked = c.in_ok-asked.asked in
    let listed = c.in_ok-listed.listed in
    let told : TellsOutcomes s search.rows search.limit asked search.of listed =
    subst (λ (rows : Option ℕ). TellsOutcomes s rows search.limit asked search.of listed) c.rows_of-rows.ensures c.in_ok-listed.ensures in
    let holds = g.S.Source.holds in
    let name = option_copied search.journal in
    let lines = bytes_of listed.journal in
    let kept = c.in_ok-answer.ensures in
    record {
      source = read.0;
      holds = read.1;
      s = s;
      spells = read.2;
      asked = asked;
      asks = c.in_ok-asked.ensures.asked;
      needed = c.in_ok-asked.ensures.needed;
      found = told.found;
      are = told.are;
      stranded = told.stranded;
      lost = told.lost;
      lines = lines;
      is_kept = told.is.journal;
      kept = kept_on (holds c.args.source.now) (holds c.read_script.new.source) (holds c.keep_outcome.new.source) name lines c.read_script.ensures.kept kept.kept;
      so = kept.verdict ∙ ap (λ (finding : Finding). verdict_of finding (is_some search.of) (is_some lines)) told.is.finding_is;
      is = kept.printed ∙ ap (printed_of search.alone lines) told.is.text;
    }
