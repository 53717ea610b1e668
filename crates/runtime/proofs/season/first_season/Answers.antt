use Rattle.std.proofs.Common.{rules, ◌≡◌, ◌≤◌, ◌*◌, ◌∙◌, ℕ, List, [], Option, Some, ap, arith, get_or, length, map, refl, replicate, subst, sym, true≢false}
use Rattle.std.proofs.lemmas.List.{length-map}
use Rattle.std.proofs.lemmas.Option.{slice_get-get_or}
use Rattle.script_tree.specs.Processes.{Proc, proc_of, tree_of}
use Rattle.script_tree.specs.declared.tree.Block.{Block as Tree}
use Rattle.journal.specs.Concluding.{RunTrees}
use Rattle.runtime_run.specs.Machines.{machine_in}
use Rattle.script_tree.specs.Spawning.{AreSpawnedOnce}
use Rattle.protocol_ledger.specs.Openings.{Opening}
use Rattle.cell_table.specs.declared.view.Seen.{Seen}
use Rattle.cell_table.specs.Sight.{WasSettled}
use Rattle.runtime_worker.specs.declared.resident.Suspended.{Suspended}
use Rattle.runtime_worker.specs.Machines.{AreNew, IsTable}
use Rattle.runtime_worker.specs.Widths.{AllOfferAtMost}
use Rattle.runtime_worker.proofs.Machines.{none_settled, table_of_first}
use Rattle.runtime_worker.proofs.Processes.{new_first}
use Rattle.protocol_ledger.specs.declared.layout.Layout.{Layout}
use Rattle.runtime_run.specs.Syncs.{AreRowsFor}
use Rattle.runtime_run.proofs.Rows.{each_has_words}
use Rattle.runtime.specs.Between.{AreHad}
use Rattle.runtime.specs.Played.{ArePlayed, NoSeason}
use Rattle.runtime.specs.Season.{IsSeason}
use Rattle.runtime.proofs.GoingOn.{new_had}
use Rattle.std.proofs.lemmas.List.{length-replicate}
use Rattle.protocol_values.specs.declared.Commit.{Commit}
use Rattle.protocol_ledger.specs.Openings.{greatest, start_opening}
use Rattle.protocol_ledger.specs.declared.opening.NackState.TheVariants.{Unbound}
use Rattle.protocol_ledger.proofs.LedgerLemmas.{start_greatest, start_threads}
use Rattle.cell.specs.Calls.{opening_at}
use Rattle.journal_replay.specs.Runs.{IsRun, config_of}
use Rattle.journal_replay.proofs.Running.{run-none}
use Rattle.journal_ledger.specs.Behind.{TellsRun}
use Rattle.runtime.specs.declared.season.Season.{Season}
use Rattle.runtime_run.proofs.Ledgers.{tells_first}
use Rattle.runtime.proofs.season.first_season.Goals as goal

pub with_machines_of-requires-clause-layout : goal.with_machines_of-requires-clause-layout
with_machines_of-requires-clause-layout c =
    let ps : List Proc = map proc_of c.processes-processes.result.now in
    let few : length (map proc_of c.processes-processes.result.now) ≤ 64 = (search rules) in
    let new : AreNew ps (map Some c.in_ok-first.first.items) = c.in_ok-first.ensures.new in
    let size : length c.in_ok-first.first.items ≡ length ps = sym (length-map c.in_ok-first.first.items Some) ∙ new.0 in
    (c.layout_for-layout.ensures.fits, λ t below. c.layout_for-layout.ensures.words.some t (omega (arith, below, size, few)))

pub with_machines_of-requires-clause-whole : goal.with_machines_of-requires-clause-whole
with_machines_of-requires-clause-whole c = λ whole. absurd (true≢false whole)

pub returns-clause-trees : goal.returns-clause-trees
returns-clause-trees c =
    let trees : List Tree = map tree_of c.processes-processes.result.now in
    subst (λ (ts : List Tree). RunTrees ts (map machine_in c.in_ok-cells.cells.first) × RunTrees ts c.in_ok-resting.resting.items) c.processes-processes.ensures.trees
    (subst (λ (l : List (Option Suspended)). RunTrees trees (map machine_in l)) (sym c.in_ok-cells.ensures.first) c.in_ok-first.ensures.trees, λ t m is. absurd (c.in_ok-resting.ensures.1 t m is))

pub returns-clause-season : goal.returns-clause-season
unfolding table_of_first
returns-clause-season c =
    let ps : List Proc = map proc_of c.processes-processes.result.now in
    let empty : c.new.result.items ≡ [] = (search rules) in
    let value = c.processes-processes.ensures.value in
    let cells = c.in_ok-cells.cells in
    let is = c.in_ok-cells.ensures.first in
    let some : 1 ≤ length ps = subst (λ (qs : List Proc). 1 ≤ length qs) (sym value) c.requires.some in
    let few : length (map proc_of c.processes-processes.result.now) ≤ 64 = (search rules) in
    let rows : (1 ≤ c.in_ok-cells.cells.rows) × (c.in_ok-cells.cells.rows ≤ 1024) = (search rules) in
    let new : AreNew ps cells.first = subst (λ (l : List (Option Suspended)). AreNew ps l) (sym is) c.in_ok-first.ensures.new in
    let none : c.in_ok-had.had.items ≡ replicate c.len.result 0 = c.in_ok-had.ensures.items_if_clones_equal (λ y h. search rules) in
    let had : AreHad cells.first c.in_ok-had.had.items = subst (AreHad cells.first) (sym none) (new_had ps cells.first c.len.result new) in
    let size : cells.rows ≡ c.args.rows = (search rules) in
    let lens = c.layout_for-layout.result.lens in
    let each = subst (λ (z : List ℕ × ℕ). AreRowsFor ps z.0 z.1 lens) (λ i. (c.deref.ensures.value i, sym size i)) c.layout_for-layout.ensures.words in
    let words = each_has_words cells ps c.in_ok-had.had.items lens (new_first ps cells.first new) each (λ t start e. (let same = had t start e in omega (arith, same))) (ap (λ (y : Layout). y.lens) c.in_ok-cells.ensures.layout) in
    let table : IsTable cells = table_of_first cells ps (map Some c.in_ok-first.first.items) is c.in_ok-first.ensures.new some few c.processes-processes.ensures.placed
    (subst AreSpawnedOnce (sym value) c.processes-processes.ensures.limits.once)
    (subst (λ (y : Layout). AllOfferAtMost y.offers ps) (sym c.in_ok-cells.ensures.layout) c.layout_for-layout.ensures.room) words rows (length c.in_ok-first.first.items) c.later.result c.in_ok-cells.ensures.opening in
    let opens : opening_at cells ≡ start_opening (length c.in_ok-first.first.items) c.later.result = c.in_ok-cells.ensures.opening in
    let few_first : length c.in_ok-first.first.items ≤ 64 = (search rules) in
    let lives : length (opening_at cells).threads ≡ cells.threads = ap (λ (o : Opening). length o.threads) opens ∙ start_threads (length c.in_ok-first.first.items) c.later.result ∙ sym c.in_ok-cells.ensures.size.0 in
    let states : length (opening_at cells).nacks ≡ cells.threads * 64 =
    ap (λ (o : Opening). length o.nacks) opens ∙ length-replicate (length c.in_ok-first.first.items * 64) Unbound ∙ ap (λ (n : ℕ). n * 64) (sym c.in_ok-cells.ensures.size.0) in
    let resting = c.in_ok-resting.ensures in
    let season : Season = record { done = 0; journal = c.new.result; cells = cells; passes = c.in_ok-cells.passes; had = c.in_ok-had.had; resting = c.in_ok-resting.resting } in
    subst (λ (qs : List Proc). IsSeason qs season × (season.done ≡ 0) × (season.cells.rows ≡ c.args.rows)) value (
      record {
        of = record {
          table = table;
          processes = refl;
          threads = c.in_ok-cells.ensures.size.0 ∙ sym (ap (λ (l : List (Option Suspended)). length l) is ∙ length-map c.in_ok-first.first.items Some) ∙ new.0;
          lives = lives;
          states = states;
          waiting = λ n stamp low waits was. none_settled (length c.in_ok-first.first.items) c.later.result n stamp (subst (λ (o : Opening). WasSettled o n stamp) opens was);
        };
        passes = λ k d h.
            let x = c.in_ok-cells.ensures.passes k (get_or c.in_ok-cells.passes.items k d) (slice_get-get_or c.in_ok-cells.passes.items k d h) in
            (x.0, ap (λ (s : Seen). s.opened) x.1, ap (λ (s : Seen). s.begun) x.1, ap (λ (s : Seen). s.bound) x.1, ap (λ (s : Seen). s.ended) x.1, table);
        had = had;
        played = subst (ArePlayed ps cells.rows 0) (sym empty) NoSeason;
        run = subst (IsRun ps (0 * cells.rows)) (sym empty) (run-none ps (0 * cells.rows));
        tells = subst (λ (z : List Commit × Opening). TellsRun ps z.0 z.1) (λ i. (sym empty i, sym opens i)) (tells_first ps (length c.in_ok-first.first.items) c.later.result few_first c.later.ensures);
        stamps = (let none_yet = ap greatest opens ∙ start_greatest (length c.in_ok-first.first.items) c.later.result in omega (arith, none_yet));
        given = λ t start e. (new.1 t start e).2.results ∙ ap (λ (cs : List Commit). config_of cs t) (sym empty);
        resting = (resting.0 ∙ sym (length-map c.processes-processes.result.now proc_of), λ t m e. absurd (resting.1 t m e));
      },
      refl,
      c.in_ok-cells.ensures.size.1,
    )
