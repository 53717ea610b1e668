use Rattle.std.proofs.Common.{List, ap, subst, ◌∙◌}
use Rattle.script.specs.Scripts.{script_of}
use Rattle.protocol_values.specs.declared.Commit.{Commit}
use Rattle.journal_text.specs.Names.{named}
use Rattle.pcml_answers.specs.Stats.{stats_text}
use Rattle.pcml_texts.specs.Replay.{LeadsTo, Reaches}
use Rattle.pcml_texts.specs.declared.reach.Reached.{Reached}
use Rattle.pcml_texts.proofs.stats.stats_journal.Goals as goal

pub returns-in-Run-clause-told : goal.returns-in-Run-clause-told
returns-in-Run-clause-told c =
    let s = script_of c.args.script.now in
    let led : LeadsTo s c.args.rows c.args.journal.now c.in-Run.commits.items c.in-Run.field-1 =
    subst (λ (r : Reached). Reaches s c.args.rows c.args.journal.now r) c.in-Run.is c.in_ok-commits.ensures.reached in
    record {
      commits = c.in-Run.commits.items;
      spells = led.spells;
      run = led.stands.run;
      is = (λ i. (c.into_bytes.ensures.value i).items) ∙ c.in_ok-text-in-Run.ensures ∙ ap (λ (cs : List Commit). stats_text (named s) s cs) c.as_slice.ensures.value;
    }
