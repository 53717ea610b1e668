-- How many syncs a text comes to at most.
use Rattle.std.specs.Prelude.{◌≡◌, ⊤, ◌+◌, ◌<◌, ◌≤◌, ℕ, List, [], Some, length, slice_get, slice_index}
use Rattle.script_tree.specs.Processes.{Proc}
use Rattle.script_tree.specs.Trees.{Block, Event, Events, LoopBody, Stmt}
use Rattle.thread.specs.After.{Chosen, Formed, Goes, Offers, Outcome, State, Wrapping, ◌>>=◌, resolve, resolve_all, run_block, run_stmt, synced}

-- Each sync takes a result of those that are left. Of so many, no more than these were taken where the text goes on. Where it offers a
-- sync, all were taken, and the sync is one more.
abbrev pub TakesAtMost : {A : Type 0} → ℕ → ℕ → (A → List Chosen) → Outcome A → Type 0
TakesAtMost most had left_in (Goes value) = had ≤ most + length (left_in value)
TakesAtMost most had left_in (Offers tree said) = had < most
TakesAtMost most had left_in outcome = ⊤

abbrev pub left_in : State → List Chosen
left_in s = s.left

abbrev pub left_behind : Formed → List Chosen
left_behind f = f.state.left

-- so of the statements, from wherever they begin
pub record BlockSyncsAtMost (most : ℕ) (body : Block) : Type 0 where
  pub takes : (s : State) → TakesAtMost most (length s.left) left_in (run_block body s)

pub record StmtSyncsAtMost (most : ℕ) (stmt : Stmt) : Type 0 where
  pub takes : (s : State) → TakesAtMost most (length s.left) left_in (run_stmt stmt s)

-- of one turn of a loop
pub record TurnSyncsAtMost (most : ℕ) (turn : LoopBody) : Type 0 where
  pub takes : (s : State) → TakesAtMost most (length s.left) left_in (resolve turn.event [] s >>= synced turn.names >>= run_block turn.rest)

-- of the blocks that run before the event is offered
pub record EventSyncsAtMost (most : ℕ) (event : Event) : Type 0 where
  pub takes : (wraps : List Wrapping) (s : State) → TakesAtMost most (length s.left) left_behind (resolve event wraps s)

pub record MembersSyncAtMost (most : ℕ) (members : Events) : Type 0 where
  pub takes : (wraps : List Wrapping) (s : State) → TakesAtMost most (length s.left) left_behind (resolve_all members wraps s)

-- Each process of these, wherever it offers a sync, has made fewer than so many.
abbrev pub AllSyncAtMost : ℕ → List Proc → Type 0
AllSyncAtMost most processes = (t : ℕ) (process : Proc) → slice_get processes t ≡ Some process → BlockSyncsAtMost most process.body

-- So many rows for each process of these, which has made so many syncs before: one at least, and no more than are stated. Where they
-- are fewer, the process makes no more syncs.
pub record AreRowsFor (processes : List Proc) (had : List ℕ) (stated : ℕ) (rows : List ℕ) : Type 0 where
  pub some : (t : ℕ) → t < 64 → 1 ≤ slice_index rows t
  pub few : (t : ℕ) → slice_index rows t ≤ stated
  pub enough : (t : ℕ) (process : Proc) → slice_get processes t ≡ Some process → slice_index rows t < stated → BlockSyncsAtMost (slice_index had t + slice_index rows t) process.body
