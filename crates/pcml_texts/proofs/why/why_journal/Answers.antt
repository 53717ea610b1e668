use Rattle.std.proofs.Common.{◌≡◌, List, subst, sym}
use Rattle.script.specs.Lines.{trees_of_script}
use Rattle.script.specs.Scripts.{script_of}
use Rattle.script_tree.specs.declared.tree.Block.{Block as Tree}
use Rattle.protocol_values.specs.declared.Commit.{Commit}
use Rattle.journal_replay.specs.Lines.{trees_in}
use Rattle.journal_replay.specs.Replays.{StandsAfter}
use Rattle.pcml_texts.specs.Replay.{LeadsTo, Reaches}
use Rattle.pcml_texts.specs.Why.{IsWhyOf, RunsTrees}
use Rattle.pcml_texts.specs.declared.reach.Reached.{Reached}
use Rattle.pcml_texts.proofs.why.why_journal.Goals as goal

pub why_standing-requires : goal.why_standing-requires
why_standing-requires c =
    let s = script_of c.args.script.now in
    let led : LeadsTo s c.args.rows c.args.journal.now c.in-Run.commits.items c.in-Run.state =
    subst (λ (r : Reached). Reaches s c.args.rows c.args.journal.now r) c.in-Run.is c.in_ok-commits.ensures.reached in
    subst (λ (cs : List Commit). StandsAfter s.processes c.args.rows cs c.in-Run.state) (sym c.deref.ensures.value) led.stands

pub returns-in_ok-told-in-Run-clause-told : goal.returns-in_ok-told-in-Run-clause-told
returns-in_ok-told-in-Run-clause-told c =
    let s = script_of c.args.script.now in
    let led : LeadsTo s c.args.rows c.args.journal.now c.in-Run.commits.items c.in-Run.state =
    subst (λ (r : Reached). Reaches s c.args.rows c.args.journal.now r) c.in-Run.is c.in_ok-commits.ensures.reached in
    let trees = trees_of_script c.args.script.now in
    let runs : trees_in c.in-Run.state ≡ trees = subst (λ (r : Reached). RunsTrees trees r) c.in-Run.is c.in_ok-commits.ensures.trees in
    record {
      commits = c.in-Run.commits.items;
      spells = led.spells;
      why =
          subst (λ (ts : List Tree). IsWhyOf s ts c.args.text.now c.args.rows c.in-Run.commits.items c.in_ok-told-in-Run.told.items) runs
          (subst (λ (cs : List Commit). IsWhyOf s (trees_in c.in-Run.state) c.args.text.now c.args.rows cs c.in_ok-told-in-Run.told.items) c.deref.ensures.value c.in_ok-told-in-Run.ensures);
    }
