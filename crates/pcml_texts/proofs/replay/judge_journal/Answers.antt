use Rattle.std.proofs.Common.{ℕ, refl, subst, ◌∙◌}
use Rattle.std.specs.String.{string_bytes}
use Rattle.script.specs.Scripts.{script_of}
use Rattle.journal_text.specs.Names.{named}
use Rattle.pcml_texts.specs.Replay.{Breaks, LeadsTo, Reaches, TellsState}
use Rattle.pcml_texts.specs.declared.reach.Reached.{Reached}
use Rattle.pcml_texts.proofs.Replaying.{is_replayed}
use Rattle.pcml_texts.proofs.replay.judge_journal.Goals as goal

pub state_text-requires : goal.state_text-requires
state_text-requires c =
    let s = script_of c.args.script.now in
    let led : LeadsTo s c.args.rows c.args.journal.now c.in-Run.commits.items c.in-Run.state =
    subst (λ (r : Reached). Reaches s c.args.rows c.args.journal.now r) c.in-Run.is c.in_ok-commits.ensures.reached in
    led.stands.strands.stands.count

pub returns-in_ok-text-in-Run-clause-judged : goal.returns-in_ok-text-in-Run-clause-judged
returns-in_ok-text-in-Run-clause-judged c =
    let s = script_of c.args.script.now in
    let text = c.in_ok-text-in-Run.text.items in
    let led : LeadsTo s c.args.rows c.args.journal.now c.in-Run.commits.items c.in-Run.state =
    subst (λ (r : Reached). Reaches s c.args.rows c.args.journal.now r) c.in-Run.is c.in_ok-commits.ensures.reached in
    let maximal = c.is_none-is_maximal.result in
    let tells = subst (λ (n : ℕ). TellsState (named s) c.in-Run.state n maximal text) (c.len.ensures ∙ c.in-Run.commits.ok.0) c.in_ok-text-in-Run.ensures in
    is_replayed s c.args.rows c.args.journal.now text c.in-Run.commits.items c.in-Run.state c.in_ok-next-in-Run.next maximal led.spells led.stands c.in_ok-next-in-Run.ensures c.is_none-is_maximal.ensures tells

pub returns-in-NoRun-clause-judged : goal.returns-in-NoRun-clause-judged
returns-in-NoRun-clause-judged c =
    let s = script_of c.args.script.now in
    let broken : Breaks s c.args.rows c.args.journal.now c.in-NoRun.broken =
    subst (λ (r : Reached). Reaches s c.args.rows c.args.journal.now r) c.in-NoRun.is c.in_ok-commits.ensures.reached in (
      record {
        commits = c.in-NoRun.broken.commits.items;
        spells = broken.0;
        index = c.in-NoRun.broken.index;
        breaks = broken.1.breaks;
        is = (λ i. (c.into_bytes.ensures.value i).items) ∙ broken.1.is;
      },
      refl,
    )
