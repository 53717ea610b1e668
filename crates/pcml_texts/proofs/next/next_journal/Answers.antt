use Rattle.std.proofs.Common.{subst}
use Rattle.script.specs.Scripts.{script_of}
use Rattle.pcml_texts.specs.Replay.{LeadsTo, Reaches}
use Rattle.pcml_texts.specs.declared.reach.Reached.{Reached}
use Rattle.pcml_texts.proofs.next.next_journal.Goals as goal

pub next_text-requires : goal.next_text-requires
next_text-requires c =
    let s = script_of c.args.script.now in
    let led : LeadsTo s c.args.rows c.args.journal.now c.in-Run.field-0.items c.in-Run.state =
    subst (λ (r : Reached). Reaches s c.args.rows c.args.journal.now r) c.in-Run.is c.in_ok-state.ensures.reached in
    (c.args.rows, c.in-Run.field-0.items, led.stands)

pub returns-in-Run-clause-told : goal.returns-in-Run-clause-told
returns-in-Run-clause-told c =
    let s = script_of c.args.script.now in
    let led : LeadsTo s c.args.rows c.args.journal.now c.in-Run.field-0.items c.in-Run.state =
    subst (λ (r : Reached). Reaches s c.args.rows c.args.journal.now r) c.in-Run.is c.in_ok-state.ensures.reached in
    let coming = c.in_ok-text-in-Run.ensures c.args.rows c.in-Run.field-0.items led.stands in
    record {
      commits = c.in-Run.field-0.items;
      spells = led.spells;
      run = led.stands.run;
      told = coming.told;
      each = coming.next.each;
      ordered = coming.next.ordered;
      lines = coming.spells;
    }
