use Rattle.std.proofs.Common.{◌≡◌, ◌↔◌, ℕ, Contains, List, ◌++◌, map, ◌∙◌, subst, sym, refl}
use Rattle.protocol_values.specs.declared.Commit.{Commit}
use Rattle.protocol_ledger.specs.Ledgers.{HasCommit}
use Rattle.journal_ledger.specs.Ledgers.{IsOrderOf}
use Rattle.runtime.specs.Between.{renumbered}
use Rattle.runtime.specs.Played.{ArePlayed}
use Rattle.runtime.specs.Season.{IsLedgerOver}
use Rattle.runtime.proofs.LeadingOn.{goes_on, same-journal, stamps_on}
use Rattle.script.specs.Scripts.{script_of}
use Rattle.runtime_run.proofs.Trees.{left_trees}
use Rattle.runtime.proofs.season.play_season.Goals as goal

pub opening_by-requires : goal.opening_by-requires
opening_by-requires g c = λ d. subst (λ (commits : List Commit). Contains commits d ↔ HasCommit c.in_ok-ledger.ledger d) (sym c.deref.ensures.value) (c.in_ok-commits.ensures.members d)

pub returns-clause-trees : goal.returns-clause-trees
returns-clause-trees g c trees runs =
    (left_trees trees c.args.season.cells.first c.in_ok-ledger.ledger c.in_ok-ledger.machines.items c.in_ok-ledger.ensures.machines runs.0, runs.1)

pub returns-clause-closed : goal.returns-clause-closed
returns-clause-closed g c =
    let ps = (script_of c.args.script.now).processes in
    let season = c.requires.season in
    let cells = c.args.season.cells in
    let before = c.args.season.journal.items in
    let done = c.args.season.done in
    let ledger = c.in_ok-ledger.ledger in
    let closed = c.in_ok-ledger.ensures in
    let commits = c.in_ok-commits.commits.items in
    let told = c.in_ok-commits.ensures in
    let over : IsLedgerOver cells ledger = record { size = closed.size.0; lawful = closed.lawful; before = closed.before; carried = closed.carried; acts = closed.acts } in
    let order : IsOrderOf ledger commits = record { all = told.once; ordered = told.in_order } in
    let added : c.add_renumbered.new.journal.items ≡ before ++ map (renumbered c.args.season.had.items) commits =
    subst (λ (z : List _ × List Commit). c.add_renumbered.new.journal.items ≡ before ++ map (renumbered z.0) z.1) (λ i. (c.deref-2.ensures.value i, c.deref-3.ensures.value i)) c.in_ok-add_renumbered.ensures in (
      record {
        few = c.requires.few;
        members = told.members;
        cells = cells;
        of = season.of;
        over = over;
        had = season.had;
        left = closed.machines;
        before = before;
        earlier = subst (λ (n : ℕ). ArePlayed ps n done before) (sym closed.size.1) season.played;
        on = goes_on ps cells season.of before done c.args.season.had.items season.had c.requires.few season.run season.tells season.given ledger over closed.size.1 commits order;
        whole = added ∙ same-journal ps cells season.of before done c.args.season.had.items season.had c.requires.few season.run season.tells season.given ledger over closed.size.1 commits order (λ d there. (told.members d).0 there);
        given = season.given;
        tells = c.in_ok-opening.ensures.end;
        leads = c.in_ok-opening.ensures.leads_on closed.lawful;
        stamps = stamps_on ps cells season.of before done c.args.season.had.items season.had c.requires.few season.run season.tells season.given ledger over closed.size.1 commits order _ season.stamps (c.in_ok-opening.ensures.greatest closed.lawful);
        resting = season.resting;
      },
      refl,
      closed.size.1,
    )
