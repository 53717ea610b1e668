use Rattle.std.specs.Option.{option_copied}
use Rattle.script.specs.Scripts.{script_of}
use Rattle.pcml_outcomes.specs.Told.{bytes_of}
use Rattle.pcml_tool.proofs.Keeping.{kept_on}
use Rattle.pcml_tool.proofs.seeking.answer_sought.Goals as goal

pub returns-clause-done : goal.returns-clause-done
returns-clause-done g c =
    let seeking = c.args.seeking in
    let read = c.in_ok-script.ensures.read in
    let told = c.in_ok-told.told in
    let holds = g.S.Source.holds in
    let kept = c.in_ok-answer.ensures in
    record {
      source = read.0;
      holds = read.1;
      s = script_of c.in_ok-script.script;
      spells = read.2;
      told = told;
      tells = c.in_ok-told.ensures.told;
      kept = kept_on (holds c.args.source.now) (holds c.read_script.new.source) (holds c.keep_sought.new.source) (option_copied seeking.journal) (bytes_of told.journal) c.read_script.ensures.kept kept.kept;
      so = kept.verdict;
      is = kept.printed;
    }
