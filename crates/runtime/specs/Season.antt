-- A season of a run: what is known of its table before the first turn, and behind the last one.
use Rattle.std.specs.Prelude.{◌≡◌, ◌<◌, ◌≤◌, ◌+◌, ◌*◌, ℕ, All, Contains, List, Option, None, Some, ⊤, length, map, slice_get}
use Rattle.protocol_values.specs.declared.Commit.{Commit}
use Rattle.protocol_values.specs.declared.NackName.{NackName}
use Rattle.script_tree.specs.Processes.{Proc}
use Rattle.script_tree.specs.declared.tree.Block.{Block as Tree}
use Rattle.protocol_ledger.specs.Acting.{ActsAs, HasStart, acts_in, before_of}
use Rattle.protocol_ledger.specs.Ledgers.{HasCommit, IsLawful, Ledger, carried_in, course_in}
use Rattle.protocol_ledger.specs.Openings.{HadStarted, LeadsOn, Opening, TellsEnd, greatest, opening_of, state_in, thread_in, word_for}
use Rattle.protocol_ledger.specs.Tables.{carried_by}
use Rattle.protocol_ledger.specs.declared.opening.Life.TheVariants.{Unstarted}
use Rattle.cell.specs.Calls.{GridOf, IsNackOf, opening_at}
use Rattle.cell_table.specs.Sight.{WasSettled}
use Rattle.runtime_worker.specs.declared.resident.Suspended.{Suspended}
use Rattle.runtime_worker.specs.Machines.{IsTable, doings}
use Rattle.runtime_worker.specs.Workers.{IsNewPassOf}
use Rattle.journal_replay.specs.Runs.{IsRun, config_of}
use Rattle.journal_ledger.specs.Behind.{GoesOn, TellsRun, run_on}
use Rattle.journal.specs.Concluding.{AreGone, RunTrees}
use Rattle.runtime.specs.Between.{AreHad, HasResults}
use Rattle.runtime_run.specs.Machines.{AreLeftBy, machine_in}
use Rattle.runtime.specs.Played.{ArePlayed, NeedsOneMore}
use Rattle.runtime.specs.declared.season.ClosedSeason.{ClosedSeason}
use Rattle.runtime.specs.declared.season.Next.{Next}
use Rattle.runtime.specs.declared.season.Next.TheVariants as next
use Rattle.runtime.specs.declared.season.Season.{Season}
use Rattle.runtime.specs.declared.season.AtEnd.{AtEnd}

-- of a thread that waits to be started no nack was settled
abbrev pub NoneSettledWaits : Opening → Type 0
NoneSettledWaits o = (n : NackName) (stamp : ℕ) → n.k < 64 → (thread_in o n.thread).0 ≡ Unstarted → WasSettled o n stamp → ⊥

-- A table of machines of these processes, which a season has.
pub record IsTableOf (ps : List Proc) (cells : GridOf Suspended) : Type 0 where
  pub table : IsTable cells
  pub processes : table.processes ≡ ps
  pub threads : cells.threads ≡ length ps
  pub lives : length (opening_at cells).threads ≡ cells.threads
  pub states : length (opening_at cells).nacks ≡ cells.threads * 64
  pub waiting : NoneSettledWaits (opening_at cells)

-- the ledger is of a table that went on from its opening, where threads did what their machines do
pub record IsLedgerOver (cells : GridOf Suspended) (l : Ledger) : Type 0 where
  pub size : l.threads ≡ cells.threads
  pub lawful : IsLawful l
  pub before : (t stamp : ℕ) → HadStarted (opening_at cells) t stamp → HasStart (course_in l t) stamp
  pub carried : (n : NackName) → IsNackOf cells n → carried_in l n ≡ carried_by (word_for (state_in (opening_at cells) n))
  pub acts : ActsAs (before_of (opening_at cells)) (acts_in doings cells.first) l

-- the first machines have the results to which these commits lead
abbrev pub HaveResultsOf : List Commit → List (Option Suspended) → Type 0
HaveResultsOf journal first = (t : ℕ) (start : Suspended) → slice_get first t ≡ Some (Some start) → start.machine.value.results ≡ config_of journal t

-- Workers may begin with the passes. The commits of the seasons before are a run in the rows of these, of which the table's opening
-- tells, and its machines stand where they lead. A season counts no more than 65,536 stamps: 1,024 rows of each of 64 threads.
pub record IsSeason (ps : List Proc) (s : Season) : Type 0 where
  pub of : IsTableOf ps s.cells
  pub passes : All (λ p. IsNewPassOf s.cells p) s.passes.items
  pub had : AreHad s.cells.first s.had.items
  pub run : IsRun ps (s.done * s.cells.rows) s.journal.items
  pub played : ArePlayed ps s.cells.rows s.done s.journal.items
  pub tells : TellsRun ps s.journal.items (opening_at s.cells)
  pub stamps : greatest (opening_at s.cells) ≤ s.done * 65536
  pub given : HaveResultsOf s.journal.items s.cells.first
  pub resting : AreGone ps s.journal.items s.resting.items

-- The ledger's table went on where the commits of the seasons before led, and the machines stand over it. The journal has these
-- commits, and behind them the ledger's.
pub record IsClosed (ps : List Proc) (c : ClosedSeason) : Type 0 where
  pub few : c.done < 65535
  pub cells : GridOf Suspended
  pub of : IsTableOf ps cells
  pub over : IsLedgerOver cells c.ledger
  pub had : AreHad cells.first c.had.items
  pub left : AreLeftBy cells.first c.ledger c.machines.items
  pub before : List Commit
  pub earlier : ArePlayed ps c.ledger.rows c.done before
  pub on : GoesOn ps ((c.done + 1) * c.ledger.rows) before (before_of (opening_at cells)) c.ledger c.commits.items
  pub members : (d : Commit) → (Contains c.commits.items d → HasCommit c.ledger d) × (HasCommit c.ledger d → Contains c.commits.items d)
  pub whole : c.journal.items ≡ run_on before c.commits.items
  pub given : HaveResultsOf before cells.first
  pub tells : TellsEnd c.ledger c.opening.threads.items c.opening.nacks.items
  pub leads : LeadsOn c.ledger (opening_of c.opening)
  pub stamps : greatest (opening_of c.opening) ≤ (c.done + 1) * 65536
  pub resting : AreGone ps before c.resting.items

-- each commit of the ledger has machines with its results
abbrev pub HaveCaughtUp : ClosedSeason → Type 0
HaveCaughtUp c = (d : Commit) → HasCommit c.ledger d → HasResults c.had.items c.machines.items d

-- the machines of a season run these trees
abbrev pub SeasonRuns : List Tree → Season → Type 0
SeasonRuns trees s = RunTrees trees (map machine_in s.cells.first) × RunTrees trees s.resting.items

abbrev pub ClosedRuns : List Tree → ClosedSeason → Type 0
ClosedRuns trees c = RunTrees trees c.machines.items × RunTrees trees c.resting.items

-- WHAT FOLLOWS A SEASON

-- the commits are a run in so many rows; where something is known of their end, the opening tells of it, and the machines have gone part of it
abbrev pub EndsRun : List Proc → ℕ → List Commit → Option AtEnd → Type 0
EndsRun ps rows commits None = IsRun ps rows commits
EndsRun ps rows commits (Some s) = IsRun ps rows commits × TellsRun ps commits (opening_of s.opening) × AreGone ps commits s.machines.items

-- behind so many seasons and one, of so many
abbrev pub LeadsTo : List Proc → ℕ → ℕ → ℕ → Next → Type 0
LeadsTo ps done rows seasons (next.Season s) = IsSeason ps s × (s.done ≡ done + 1) × (s.done < seasons) × (s.cells.rows ≡ rows)
LeadsTo ps done rows seasons (next.End journal standing) = EndsRun ps ((done + 1) * rows) journal.items standing × ArePlayed ps rows (done + 1) journal.items
LeadsTo ps done rows seasons next.Spent = NeedsOneMore ps rows (done + 1) × (seasons ≤ done + 1)

-- the machines that are at hand run these trees
abbrev pub EndRuns : List Tree → Option AtEnd → Type 0
EndRuns trees None = ⊤
EndRuns trees (Some s) = RunTrees trees s.machines.items

abbrev pub NextRuns : List Tree → Next → Type 0
NextRuns trees (next.Season s) = SeasonRuns trees s
NextRuns trees (next.End journal standing) = EndRuns trees standing
NextRuns trees next.Spent = ⊤
