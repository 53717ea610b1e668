use Rattle.std.proofs.Common.{rules, ◌≡◌, ◌≤◌, ◌+◌, ◌*◌, ◌∙◌, ℕ, List, Option, IfSome, ap, get_or, length, map, refl, subst, sym, arith, true≢false}
use Rattle.std.proofs.lemmas.List.{length-map}
use Rattle.std.proofs.lemmas.Option.{slice_get-get_or}
use Rattle.script_tree.specs.Processes.{Proc, proc_of, tree_of}
use Rattle.script_tree.specs.declared.tree.Block.{Block as Tree}
use Rattle.script.specs.Lines.{trees_of_script}
use Rattle.journal.specs.Concluding.{RunTrees}
use Rattle.protocol_ledger.specs.declared.layout.Layout.{Layout}
use Rattle.runtime_worker.specs.Machines.{AreFirst}
use Rattle.runtime_run.specs.Syncs.{AreRowsFor}
use Rattle.runtime_run.proofs.Rows.{each_has_words}
use Rattle.runtime_run.specs.Machines.{machine_in}
use Rattle.runtime.proofs.Keeping.{kept_trees}
use Rattle.script.specs.Scripts.{script_of}
use Rattle.protocol_ledger.specs.declared.opening.Life.{Life}
use Rattle.protocol_ledger.specs.Openings.{Opening, greatest}
use Rattle.cell_table.specs.declared.view.Seen.{Seen}
use Rattle.journal_replay.specs.Runs.{IsRun}
use Rattle.journal_ledger.specs.Behind.{TellsRun}
use Rattle.runtime_worker.specs.Widths.{AllOfferAtMost}
use Rattle.runtime_worker.specs.declared.resident.Suspended.{Suspended}
use Rattle.runtime.specs.declared.between.NextTable.{NextTable}
use Rattle.runtime.specs.Between.{AreHad, GoOnBelow}
use Rattle.runtime.specs.Played.{ArePlayed}
use Rattle.runtime.specs.Season.{HaveResultsOf}
use Rattle.runtime.proofs.GoingOn.{counted, next_of, table_of_next}
use Rattle.runtime.proofs.LeadingOn.{ended_gone, from_size, given_next, kept_gone, left_gone, opens_next, played_is, resting_gone, run_is, stamps_next, tells_next}
use Rattle.runtime.proofs.season.next_season.Goals as goal

-- so far the run is one in the rows of these seasons
pub returns-in_default-clause-leads : goal.returns-in_default-clause-leads
returns-in_default-clause-leads c =
    let ps : List Proc = (script_of c.args.script.now).processes in
    let x = c.args.closed in (
      subst (λ (n : ℕ). IsRun ps ((x.done + 1) * n) x.journal.items) c.requires.same (run_is ps x c.requires.closed),
      subst (λ (n : ℕ). ArePlayed ps n (x.done + 1) x.journal.items) c.requires.same (played_is ps x c.requires.closed),
    )

pub go_on_all-requires-clause-count : goal.go_on_all-requires-clause-count
go_on_all-requires-clause-count c =
    let ps : List Proc = (script_of c.args.script.now).processes in
    let x = c.args.closed in
    let machines = x.machines.items in
    let left = c.requires.closed.left in
    let caught = c.requires.caught in
    let gone = left_gone ps x c.requires.closed machines c.requires.closed.left in
    let size : length ps ≡ length c.processes.result.now = sym (ap (λ (qs : List Proc). length qs) c.processes.ensures.value) ∙ length-map c.processes.result.now proc_of in
    (ap (λ (ls : List (Life × ℕ)). length ls) c.deref.ensures.value ∙ from_size ps x c.requires.closed ∙ size, gone.0 ∙ size)

pub next_of-requires-clause-machines : goal.next_of-requires-clause-machines
next_of-requires-clause-machines c =
    let ps : List Proc = (script_of c.args.script.now).processes in
    let x = c.args.closed in
    let machines = x.machines.items in
    let left = c.requires.closed.left in
    let caught = c.requires.caught in
    let told = subst (λ (o : Option NextTable). IfSome o (λ n. GoOnBelow (map proc_of c.processes.result.now) c.deref.result.now machines (length c.processes.result.now) n.threads.items n.first.items n.ended.items)) c.in-Some.is c.in_ok-table.ensures.go in
    let goes : GoOnBelow ps x.opening.threads.items machines (length ps) c.in-Some.table.threads.items c.in-Some.table.first.items c.in-Some.table.ended.items =
    subst (λ (z : List Proc × List (Life × ℕ) × ℕ). GoOnBelow z.0 z.1 machines z.2 c.in-Some.table.threads.items c.in-Some.table.first.items c.in-Some.table.ended.items)
    (λ i. (c.processes.ensures.value i, c.deref.ensures.value i, (sym (length-map c.processes.result.now proc_of) ∙ ap (λ (qs : List Proc). length qs) c.processes.ensures.value) i)) told in
    (next_of ps x c.requires.closed machines left caught c.in-Some.table.threads.items c.in-Some.table.first.items c.in-Some.table.ended.items goes).machines

pub next_of-requires-clause-opening : goal.next_of-requires-clause-opening
next_of-requires-clause-opening c =
    let ps : List Proc = (script_of c.args.script.now).processes in
    let x = c.args.closed in
    let machines = x.machines.items in
    let left = c.requires.closed.left in
    let caught = c.requires.caught in
    let told = subst (λ (o : Option NextTable). IfSome o (λ n. GoOnBelow (map proc_of c.processes.result.now) c.deref.result.now machines (length c.processes.result.now) n.threads.items n.first.items n.ended.items)) c.in-Some.is c.in_ok-table.ensures.go in
    let goes : GoOnBelow ps x.opening.threads.items machines (length ps) c.in-Some.table.threads.items c.in-Some.table.first.items c.in-Some.table.ended.items =
    subst (λ (z : List Proc × List (Life × ℕ) × ℕ). GoOnBelow z.0 z.1 machines z.2 c.in-Some.table.threads.items c.in-Some.table.first.items c.in-Some.table.ended.items)
    (λ i. (c.processes.ensures.value i, c.deref.ensures.value i, (sym (length-map c.processes.result.now proc_of) ∙ ap (λ (qs : List Proc). length qs) c.processes.ensures.value) i)) told in
    opens_next ps x c.requires.closed machines left caught c.in-Some.table.threads.items c.in-Some.table.first.items c.in-Some.table.ended.items goes c.args.rows c.requires.rows.1 c.requires.few

pub next_of-requires-clause-layout : goal.next_of-requires-clause-layout
next_of-requires-clause-layout c = (c.layout_for-layout.ensures.fits, λ t below. c.layout_for-layout.ensures.words.some t (let few = (next_of-requires-clause-opening c).few in omega (arith, below, few)))

pub next_of-requires-clause-whole : goal.next_of-requires-clause-whole
next_of-requires-clause-whole c = λ whole. absurd (true≢false whole)

pub returns-clause-trees : goal.returns-clause-trees
returns-clause-trees c runs =
    let plain : List Tree = map tree_of c.processes.result.now in
    let trees : List Tree = trees_of_script c.args.script.now in
    let table = c.in-Some.table in
    let same : plain ≡ trees = c.processes.ensures.trees in
    let told = subst (λ (o : Option NextTable). IfSome o (λ n. RunTrees plain c.args.closed.machines.items → RunTrees plain (map machine_in n.first.items) × RunTrees plain n.ended.items)) c.in-Some.is c.in_ok-table.ensures.trees in
    let both = subst (λ (ts : List Tree). RunTrees ts (map machine_in table.first.items) × RunTrees ts table.ended.items) same (told (subst (λ (ts : List Tree). RunTrees ts c.args.closed.machines.items) (sym same) runs.0)) in
    (subst (λ (l : List (Option Suspended)). RunTrees trees (map machine_in l)) (sym c.in_ok-cells.ensures.first) both.0, kept_trees trees c.args.closed.resting.items table.ended.items c.keep_all.new.kept.items c.keep_all.ensures runs.1 both.1)

pub returns-clause-leads : goal.returns-clause-leads
returns-clause-leads c =
    let ps : List Proc = (script_of c.args.script.now).processes in
    let x = c.args.closed in
    let closed = c.requires.closed in
    let machines = x.machines.items in
    let left = c.requires.closed.left in
    let caught = c.requires.caught in
    let lives = c.in-Some.table.threads.items in
    let first = c.in-Some.table.first.items in
    let ended = c.in-Some.table.ended.items in
    let told = subst (λ (o : Option NextTable). IfSome o (λ n. GoOnBelow (map proc_of c.processes.result.now) c.deref.result.now machines (length c.processes.result.now) n.threads.items n.first.items n.ended.items)) c.in-Some.is c.in_ok-table.ensures.go in
    let goes : GoOnBelow ps x.opening.threads.items machines (length ps) lives first ended =
    subst (λ (z : List Proc × List (Life × ℕ) × ℕ). GoOnBelow z.0 z.1 machines z.2 lives first ended)
    (λ i. (c.processes.ensures.value i, c.deref.ensures.value i, (sym (length-map c.processes.result.now proc_of) ∙ ap (λ (qs : List Proc). length qs) c.processes.ensures.value) i)) told in
    let next = next_of ps x closed machines left caught lives first ended goes in
    let o : Opening = record { threads = lives; nacks = x.opening.nacks.items } in
    let cells = c.in_ok-cells.cells in
    let size = c.in_ok-cells.ensures.size in
    let rows : (1 ≤ cells.rows) × (cells.rows ≤ 1024) = (search rules) in
    let states : length x.opening.nacks.items ≡ cells.threads * 64 =
    closed.tells.1.0 ∙ ap (λ (n : ℕ). n * 64) (closed.over.size ∙ closed.of.threads ∙ sym next.count ∙ sym size.0) in
    let narrow : AllOfferAtMost cells.layout.offers ps = subst (λ (z : Layout × List Proc). AllOfferAtMost z.0.offers z.1) (λ i. (sym c.in_ok-cells.ensures.layout i, c.processes-2.ensures.value i)) c.layout_for-layout.ensures.room in
    let made = c.in_ok-had.had.items in
    let lens = c.layout_for-layout.result.lens in
    let each : AreRowsFor ps made cells.rows lens = subst (λ (z : List Proc × List ℕ × ℕ). AreRowsFor z.0 z.1 z.2 lens) (λ i. (c.processes-2.ensures.value i, c.deref-3.ensures.value i, sym size.1 i)) c.layout_for-layout.ensures.words in
    let had : AreHad cells.first made = subst (λ (l : List (Option Suspended)). AreHad l made) (sym c.in_ok-cells.ensures.first) (subst (AreHad first) (sym (c.in_ok-had.ensures ∙ ap (map _) c.deref-2.ensures.value)) (counted first)) in
    let words = each_has_words cells ps made lens (subst (AreFirst ps) (sym c.in_ok-cells.ensures.first) next.are) each (λ t start is. (let same = had t start is in omega (arith, same))) (ap (λ (y : Layout). y.lens) c.in_ok-cells.ensures.layout) in
    let of = table_of_next closed.cells cells ps o first closed.of next narrow words c.in_ok-cells.ensures.first c.in_ok-cells.ensures.opening rows size.0 states in
    let below : greatest o ≤ (x.done + 1) * 65536 = (let low = closed.stamps in let kept = stamps_next ps x closed machines left caught lives first ended goes in omega (arith, low, kept)) in (
      record {
        of = of;
        passes = λ k d h.
            let y = c.in_ok-cells.ensures.passes k (get_or c.in_ok-cells.passes.items k d) (slice_get-get_or c.in_ok-cells.passes.items k d h) in
            (y.0, ap (λ (s : Seen). s.opened) y.1, ap (λ (s : Seen). s.begun) y.1, ap (λ (s : Seen). s.bound) y.1, ap (λ (s : Seen). s.ended) y.1, of.table);
        had = had;
        run = subst (λ (n : ℕ). IsRun ps ((x.done + 1) * n) x.journal.items) (c.requires.same ∙ sym size.1) (run_is ps x closed);
        played = subst (λ (n : ℕ). ArePlayed ps n (x.done + 1) x.journal.items) (c.requires.same ∙ sym size.1) (played_is ps x closed);
        tells = subst (TellsRun ps x.journal.items) (sym c.in_ok-cells.ensures.opening) (tells_next ps x closed machines left caught lives first ended goes);
        stamps = subst (λ (n : Opening). greatest n ≤ (x.done + 1) * 65536) (sym c.in_ok-cells.ensures.opening) below;
        given = subst (HaveResultsOf x.journal.items) (sym c.in_ok-cells.ensures.first) (given_next ps x closed machines left caught lives first ended goes);
        resting = kept_gone ps x.journal.items x.resting.items ended c.keep_all.new.kept.items (resting_gone ps x closed) (ended_gone ps x closed machines left caught lives first ended goes) c.keep_all.ensures;
      },
      refl,
      omega arith,
      size.1,
    )
