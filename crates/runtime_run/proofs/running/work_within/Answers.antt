use Rattle.std.proofs.Common.{rules, ◌≤◌, ℕ, List, [], Option, arith, Some, ap, get_or, length, map, subst, sym, true≢false, ◌≡◌, ◌∙◌, ◌<◌}
use Rattle.std.proofs.lemmas.List.{length-map}
use Rattle.std.proofs.lemmas.Option.{slice_get-get_or}
use Rattle.script_tree.specs.Processes.{Proc, proc_of, tree_of}
use Rattle.script_tree.specs.declared.tree.Block.{Block as Tree}
use Rattle.cell_table.specs.declared.view.Seen.{Seen}
use Rattle.script_tree.specs.Spawning.{AreSpawnedOnce}
use Rattle.journal_ledger.specs.Ledgers.{IsLedgerOf}
use Rattle.journal.specs.Concluding.{AreStanding, RunTrees}
use Rattle.protocol_ledger.specs.Acting.{ActsAs, acts_in, before_of}
use Rattle.protocol_ledger.specs.Openings.{Opening}
use Rattle.protocol_ledger.specs.declared.layout.Layout.{Layout}
use Rattle.runtime_run.specs.Syncs.{AreRowsFor}
use Rattle.runtime_run.proofs.Rows.{each_has_words}
use Rattle.runtime_worker.specs.Machines.{AreFirst, AreNew, doings}
use Rattle.runtime_worker.specs.Widths.{AllOfferAtMost}
use Rattle.runtime_worker.specs.declared.resident.Suspended.{Suspended}
use Rattle.runtime_run.proofs.Ledgers.{ledger_of_processes}
use Rattle.runtime_worker.proofs.Machines.{table_of_first}
use Rattle.runtime_worker.proofs.Processes.{new_first}
use Rattle.runtime_run.specs.Machines.{machine_in}
use Rattle.runtime_run.proofs.Trees.{left_trees}
use Rattle.runtime_run.proofs.Resting.{left_standing}
use Rattle.runtime_run.proofs.running.work_within.Goals as goal

-- the table is laid out as its processes need
pub with_machines_of-requires-clause-layout : goal.with_machines_of-requires-clause-layout
with_machines_of-requires-clause-layout g c =
    let ps : List Proc = map proc_of c.processes-processes.result.now in
    let few : length (map proc_of c.processes-processes.result.now) ≤ 64 = (search rules) in
    let new : AreNew ps (map Some c.in_ok-first.first.items) = c.in_ok-first.ensures.new in
    let size : length c.in_ok-first.first.items ≡ length ps = sym (length-map c.in_ok-first.first.items Some) ∙ new.0 in
    (c.layout_for-layout.ensures.fits, λ t below. c.layout_for-layout.ensures.words.some t (omega (arith, below, size, few)))

pub with_machines_of-requires-clause-whole : goal.with_machines_of-requires-clause-whole
with_machines_of-requires-clause-whole g c = λ whole. absurd (true≢false whole)

-- the table begins with new machines
pub work_table-requires-clause-table : goal.work_table-requires-clause-table
work_table-requires-clause-table g c κs within =
    let ps : List Proc = map proc_of c.processes-processes.result.now in
    let value = c.processes-processes.ensures.value in
    let some : 1 ≤ length ps = subst (λ (qs : List Proc). 1 ≤ length qs) (sym value) c.requires.some in
    let few : length (map proc_of c.processes-processes.result.now) ≤ 64 = (search rules) in
    let cells = c.in_ok-cells.cells in
    let rows : (1 ≤ c.in_ok-cells.cells.rows) × (c.in_ok-cells.cells.rows ≤ 1024) = (search rules) in
    let narrow = subst (λ (y : Layout). AllOfferAtMost y.offers ps) (sym c.in_ok-cells.ensures.layout) c.layout_for-layout.ensures.room in
    let size : cells.rows ≡ c.rows_used-used.result = (search rules) in
    let lens = c.layout_for-layout.result.lens in
    let each = subst (λ (n : ℕ). AreRowsFor ps [] n lens) (sym size) c.layout_for-layout.ensures.words in
    let first = subst (AreFirst ps) (sym c.in_ok-cells.ensures.first) (new_first ps (map Some c.in_ok-first.first.items) c.in_ok-first.ensures.new) in
    let words = each_has_words cells ps [] lens first each (λ t start is. omega arith) (ap (λ (y : Layout). y.lens) c.in_ok-cells.ensures.layout) in
    table_of_first c.in_ok-cells.cells ps (map Some c.in_ok-first.first.items) c.in_ok-cells.ensures.first c.in_ok-first.ensures.new some few c.processes-processes.ensures.placed
    (subst AreSpawnedOnce (sym value) c.processes-processes.ensures.limits.once)
    narrow words rows (length c.in_ok-first.first.items) c.later.result c.in_ok-cells.ensures.opening

pub work_table-requires-clause-passes : goal.work_table-requires-clause-passes
work_table-requires-clause-passes g c κs within = λ k d h.
    let x = c.in_ok-cells.ensures.passes k (get_or c.in_ok-cells.passes.items k d) (slice_get-get_or c.in_ok-cells.passes.items k d h) in
    (x.0, ap (λ (s : Seen). s.opened) x.1, ap (λ (s : Seen). s.begun) x.1, ap (λ (s : Seen). s.bound) x.1, ap (λ (s : Seen). s.ended) x.1, work_table-requires-clause-table g c κs within)

-- so its ledger is one of the processes
pub returns-clause-run : goal.returns-clause-run
returns-clause-run g c =
    let ps : List Proc = map proc_of c.processes-processes.result.now in
    let value = c.processes-processes.ensures.value in
    let cells = c.in_ok-cells.cells in
    let ledger = c.in_ok-left.left.0 in
    let new : AreNew ps cells.first = subst (λ (l : List (Option Suspended)). AreNew ps l) (sym c.in_ok-cells.ensures.first) c.in_ok-first.ensures.new in
    let once : AreSpawnedOnce ps = subst AreSpawnedOnce (sym value) c.processes-processes.ensures.limits.once in
    let threads : length c.in_ok-first.first.items ≤ 64 = (search rules) in
    let acts = subst (λ (o : Opening). ActsAs (before_of o) (acts_in doings cells.first) ledger) c.in_ok-cells.ensures.opening c.in_ok-left.ensures.acts in (
      subst (λ (qs : List Proc). IsLedgerOf qs ledger) value
          (ledger_of_processes ps cells.first (length c.in_ok-first.first.items) c.later.result ledger new once threads c.later.ensures acts),
      (search rules),
    )

-- and its machines stand as the processes do
pub returns-clause-machines : goal.returns-clause-machines
returns-clause-machines g c =
    let ps : List Proc = map proc_of c.processes-processes.result.now in
    let cells = c.in_ok-cells.cells in
    let new : AreNew ps cells.first = subst (λ (l : List (Option Suspended)). AreNew ps l) (sym c.in_ok-cells.ensures.first) c.in_ok-first.ensures.new in
    subst (λ (qs : List Proc). AreStanding qs c.in_ok-left.left.0 c.in_ok-left.left.1.items) c.processes-processes.ensures.value
    (left_standing ps cells.first c.in_ok-left.left.0 c.in_ok-left.left.1.items new c.in_ok-left.ensures.machines)

-- which run its trees
pub returns-clause-trees : goal.returns-clause-trees
returns-clause-trees g c =
    let cells = c.in_ok-cells.cells in
    subst (λ (trees : List Tree). RunTrees trees c.in_ok-left.left.1.items) c.processes-processes.ensures.trees
    (left_trees (map tree_of c.processes-processes.result.now) cells.first c.in_ok-left.left.0 c.in_ok-left.left.1.items c.in_ok-left.ensures.machines
    (subst (λ (l : List (Option Suspended)). RunTrees (map tree_of c.processes-processes.result.now) (map machine_in l)) (sym c.in_ok-cells.ensures.first) c.in_ok-first.ensures.trees))
