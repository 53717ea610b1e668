use Rattle.std.proofs.Common.{◌≡◌, List, Bool, ap, length, subst, ◌∙◌}
use Rattle.std.specs.Option.{option_copied}
use Rattle.script.specs.Scripts.{script_of}
use Rattle.protocol_values.specs.declared.Commit.{Commit}
use Rattle.pcml_answers.specs.Needs.{named_or_all}
use Rattle.pcml_texts.specs.Chart.{Draws}
use Rattle.pcml_texts.specs.Replay.{LeadsTo, Reaches}
use Rattle.pcml_texts.specs.declared.reach.Reached.{Reached}
use Rattle.pcml_answers.proofs.Columns.{each-column}
use Rattle.pcml_texts.proofs.chart.chart_journal.Goals as goal

pub drawn-requires-clause-threads : goal.drawn-requires-clause-threads
drawn-requires-clause-threads c =
    let s = script_of c.args.script.now in
    let led : LeadsTo s c.args.rows c.args.journal.now c.in-Run.commits.items c.in-Run.state =
    subst (λ (r : Reached). Reaches s c.args.rows c.args.journal.now r) c.in-Run.is c.in_ok-commits.ensures.reached in
    led.stands.strands.stands.count

pub drawn-requires-clause-columns : goal.drawn-requires-clause-columns
drawn-requires-clause-columns c =
    ap (λ (own : List Bool). length own) (c.deref.ensures.value ∙ c.in_ok-own-in-Run.ensures.named.1) ∙ each-column (script_of c.args.script.now) (option_copied c.args.drawing.now.only)

pub returns-in_ok-text-in-Run-clause-charted : goal.returns-in_ok-text-in-Run-clause-charted
returns-in_ok-text-in-Run-clause-charted c =
    let s = script_of c.args.script.now in
    let led : LeadsTo s c.args.rows c.args.journal.now c.in-Run.commits.items c.in-Run.state =
    subst (λ (r : Reached). Reaches s c.args.rows c.args.journal.now r) c.in-Run.is c.in_ok-commits.ensures.reached in
    let own : c.deref.result.now ≡ named_or_all s (option_copied c.args.drawing.now.only) = c.deref.ensures.value ∙ c.in_ok-own-in-Run.ensures.named.1 in
    record {
      commits = c.in-Run.commits.items;
      spells = led.spells;
      state = c.in-Run.state;
      stands = led.stands;
      named = c.in_ok-own-in-Run.ensures.named.0;
      is =
          subst (λ (z : List Bool × List Commit). Draws c.args.drawing.now.form s c.in-Run.state z.0 z.1 c.args.drawing.now.from c.args.drawing.now.to c.in_ok-text-in-Run.text.items)
          (λ i. (own i, c.as_slice.ensures.value i)) c.in_ok-text-in-Run.ensures;
    }
