-- The machines that stand for the threads, and what a worker knows of one.
use Rattle.std.specs.Prelude.{◌≡◌, ◌≢◌, ◌⊎◌, ◌<◌, ◌≤◌, ℕ, ⊤, List, [], ◌∷◌, ◌++◌, All, length, take, drop, Option, Some, slice_get, Contains}
use Rattle.protocol_values.specs.declared.Binding.{Binding}
use Rattle.protocol_values.specs.declared.NackName.{NackName}
use Rattle.protocol_values.specs.declared.Offer.{Offer}
use Rattle.protocol_values.specs.declared.Row.{Row}
use Rattle.script_tree.specs.Processes.{IsProc, Proc}
use Rattle.script_tree.specs.Spawning.{AreSpawnedOnce, IsPlaced}
use Rattle.std.specs.List.{AllPairs}
use Rattle.script_tree.specs.Trees.{block_of}
use Rattle.thread.specs.After.{Chosen, after}
use Rattle.thread.specs.Machines.{HasStopped, IsAfter, IsOpen, Open, Over, Phase, SameProcess, StartsAs, Stuck, Thread}
use Rattle.thread.specs.Ranges.{BaseIsIn, ResultsAreIn}
use Rattle.protocol_ledger.specs.Short.{rows_of}
use Rattle.protocol_ledger.specs.Standing.{IsLeft, Stands, binding_of}
use Rattle.protocol_ledger.specs.Worlds.{first_row, nack_of_row}
use Rattle.protocol_ledger.specs.Tables.{bound_row}
use Rattle.journal_replay.specs.Starting.{spawned_in}
use Rattle.journal_order.specs.Laws.{HasScopeAt}
use Rattle.atomic_table.specs.Table.{rest}
use Rattle.cell.specs.Calls.{GridOf, PassOf, opening_at}
use Rattle.cell_table.specs.declared.view.Seen.{Seen}
use Rattle.cell_table.specs.Sight.{Has, SawEnded, WasSettled}
use Rattle.runtime_worker.specs.Widths.{AllOfferAtMost}
use Rattle.runtime_worker.specs.declared.resident.Rest.{Rest}
use Rattle.runtime_worker.specs.declared.resident.Suspended.{Suspended}
use Rattle.runtime_worker.specs.declared.turns.Taken.{Taken}

-- what the machine's process, run as this thread, has spawned after these results
abbrev pub spawned_by : Thread → ℕ → List Chosen → List ℕ
spawned_by m t results = spawned_in (after (block_of m.body) m.variables t results)

-- what the process had spawned after some of the machine's results, from the first on, the machine has spawned
abbrev pub HasSpawnedAll : Thread → ℕ → Type 0
HasSpawnedAll m t = (n other : ℕ) → n ≤ length m.results → Contains (spawned_by m t (take n m.results)) other → Contains m.spawned other

-- The machine runs the process of the thread's first one, and was given these results behind those of the first one. It stands where
-- all of its results lead, which words have room for, and has spawned what its process has.
pub record IsMachineOf (first : List (Option Suspended)) (m : Suspended) (t : ℕ) (results : List Chosen) : Type 0 where
  pub start : Suspended
  pub is_first : slice_get first t ≡ Some (Some start)
  pub process : SameProcess start.machine.value m.machine.value
  pub given : m.machine.value.results ≡ start.machine.value.results ++ results
  pub after : IsAfter m.machine.value
  pub in_range : ResultsAreIn m.machine.value.results
  pub told : HasSpawnedAll m.machine.value t

-- and offers these there, with these nacks of its scopes
abbrev pub StandsFor : List (Option Suspended) → Suspended → ℕ → List Chosen → List Offer → List ℕ → Type 0
StandsFor first m t results offers nacks = IsMachineOf first m t results × (m.machine.value.phase ≡ Open offers nacks)

-- and has spawned the other process there, behind the last of its results, and after no fewer of them
pub record SpawnsFor (first : List (Option Suspended)) (m : Suspended) (t : ℕ) (results : List Chosen) (other : ℕ) : Type 0 where
  pub machine : IsMachineOf first m t results
  pub stopped : HasStopped m.machine.value.phase
  pub spawned : Contains m.machine.value.spawned other
  pub not_before : (n : ℕ) → n < length m.machine.value.results → Contains (spawned_by m.machine.value t (take n m.machine.value.results)) other → ⊥

-- and has come to its end, or to a fault
abbrev pub IsAtEnd : Phase → Type 0
IsAtEnd Over = ⊤
IsAtEnd (Stuck fault) = ⊤
IsAtEnd phase = ⊥

abbrev pub EndsFor : List (Option Suspended) → Suspended → ℕ → List Chosen → Type 0
EndsFor first m t results = IsMachineOf first m t results × IsAtEnd m.machine.value.phase

-- what machines do for their threads
abbrev pub doings : Stands Suspended
doings = record { follows = IsMachineOf; offers = StandsFor; starts = SpawnsFor; ends = EndsFor }

-- FIRST MACHINES

-- one place for each process, and the machine that is there is so by its process and its number
abbrev pub AreOf : (Proc → ℕ → Thread → Type 0) → List Proc → List (Option Suspended) → Type 0
AreOf Is ps first = (length first ≡ length ps) × ((t : ℕ) (m : Suspended) → slice_get first t ≡ Some (Some m) → (p : Proc) × (slice_get ps t ≡ Some p) × Is p t m.machine.value)

-- each has its whole process before it
abbrev pub AreNew : List Proc → List (Option Suspended) → Type 0
AreNew ps first = AreOf StartsAs ps first

-- a machine that stands at an open sync of the process, which keeps the limits of processes
pub record IsAtSync (process : Proc) (number : ℕ) (m : Thread) : Type 0 where
  pub limits : IsProc process
  pub place : process.earlier < 64
  pub body : block_of m.body ≡ process.body
  pub variables : m.variables ≡ length process.variables
  pub thread : m.thread ≡ number
  pub is_open : IsOpen m.phase
  pub after : IsAfter m
  pub in_range : ResultsAreIn m.results
  pub told : HasSpawnedAll m number

-- each has its whole process before it, or stands at an open sync
abbrev pub AreFirst : List Proc → List (Option Suspended) → Type 0
AreFirst ps first = AreOf (λ p t m. StartsAs p t m ⊎ IsAtSync p t m) ps first

-- whoever stands for a thread at a sync for which the table has a row has words for it
abbrev pub SyncsHaveWords : GridOf Suspended → Type 0
SyncsHaveWords cells = (t : ℕ) (m : Suspended) (results : List Chosen) (offers : List Offer) (nacks : List ℕ) → StandsFor cells.first m t results offers nacks → length results < cells.rows → length results < rows_of cells.layout t

-- A table of machines, which begins where they stand: of 1 to 1,024 rows for each of the processes.
pub record IsTable (cells : GridOf Suspended) : Type 0 where
  pub rows : (1 ≤ cells.rows) × (cells.rows ≤ 1024)
  pub processes : List Proc
  pub some : 1 ≤ length processes
  pub few : length processes ≤ 64
  pub first : AreFirst processes cells.first
  pub placed : IsPlaced processes
  pub once : AreSpawnedOnce processes
  -- the table's rows have room for what a sync of these offers
  pub narrow : AllOfferAtMost cells.layout.offers processes
  -- and so have its threads for the syncs that they come to
  pub words : SyncsHaveWords cells
  -- a nack that was settled before it is a scope's of an earlier sync of its thread
  pub settled : (n : NackName) (stamp : ℕ) (start : Suspended) → n.k < 64 → WasSettled (opening_at cells) n stamp → slice_get cells.first n.thread ≡ Some (Some start)
      → (g : ℕ) × (g < length start.machine.value.results) × HasScopeAt processes n.thread start.machine.value.results n.k g

-- WHAT A WORKER KNOWS

-- the pass has not seen the row opened, nor begun with it, no nack that it has seen is bound to it, and it has not seen the thread end
abbrev pub IsUntouched : Seen → Row → Type 0
IsUntouched s r = (¬ Has s.opened r) × (¬ Has s.begun r) × ((n : NackName) (b : Binding) → Has s.bound (n, b) → bound_row n b ≢ r) × (¬ SawEnded s r.thread)

-- of each other thread, a row that was held and untouched still is
abbrev pub LeavesOthers : ℕ → Seen → Seen → Type 0
LeavesOthers thread s t = (r : Row) → r.thread ≢ thread → Has s.held r → IsUntouched s r → Has t.held r × IsUntouched t r

-- these threads, of so many, are to have their first turns, each once: the pass holds their first rows, and they are untouched
abbrev pub AreToBegin : ℕ → Seen → List ℕ → Type 0
AreToBegin count s threads = ((t : ℕ) → Contains threads t → (t < count) × Has s.held (first_row t) × IsUntouched s (first_row t)) × AllPairs (λ a b. a ≢ b) threads

-- the rows that were held are, and those that were seen opened
abbrev pub KeepsRows : Seen → Seen → Type 0
KeepsRows s t = ((r : Row) → Has s.held r → Has t.held r) × ((r : Row) → Has s.opened r → Has t.opened r)

-- what the machine has spawned behind the first so many, its process spawns behind the last of the machine's results, and not before
abbrev pub SpawnedSince : Suspended → ℕ → ℕ → Type 0
SpawnedSince m t had = (other n : ℕ) → Contains (drop had m.machine.value.spawned) other → n < length m.machine.value.results
    → Contains (spawned_by m.machine.value t (take n m.machine.value.results)) other → ⊥

-- the pass has taken the row, and what stands for its thread came out last: it is to be given the row's message last
abbrev pub IsToResume : List (Option Suspended) → PassOf Suspended → Taken → Type 0
IsToResume first p t =
    (told : List Chosen) × Has p.results (t.row.thread, told) × (value : Suspended) × (p.out ≡ (t.row.thread, Some value) ∷ rest p.out) × IsLeft doings first value t.row t.joined.own told t.message

-- the nacks that an offer names, and the scopes round it, are in the range of words
abbrev pub IsIn : Offer → Type 0
IsIn o = BaseIsIn o.base × (o.scopes < 16)

-- so it is with each of these offers
abbrev pub NamesInRange : List Offer → Type 0
NamesInRange offers = (n : ℕ) (o : Offer) → slice_get offers n ≡ Some o → IsIn o

-- a machine stands for the row's thread after the results of the rows before, as the pass has them, which has not seen the thread end
pub record IsNow (first : List (Option Suspended)) (p : PassOf Suspended) (r : Row) (m : Suspended) : Type 0 where
  pub earlier : List Chosen
  pub count : length earlier ≡ r.sync
  pub seen : (earlier ≡ []) ⊎ Has p.results (r.thread, earlier)
  pub machine : IsMachineOf first m r.thread earlier
  pub begun : r.sync ≡ 0 → Has p.seen.begun r
  pub alive : ¬ SawEnded p.seen r.thread

-- nothing but nacks was bound, or seen bound
pub record OnlyBinds (p q : PassOf Suspended) : Type 0 where
  pub held : q.seen.held ≡ p.seen.held
  pub opened : q.seen.opened ≡ p.seen.opened
  pub begun : q.seen.begun ≡ p.seen.begun
  pub ended : q.seen.ended ≡ p.seen.ended
  pub results : q.results ≡ p.results
  pub out : q.out ≡ p.out

-- the nacks of the first so many scopes are bound to the row under them, and nothing else was seen bound anew
pub record AreBound (r : Row) (nacks : List ℕ) (count : ℕ) (s t : Seen) : Type 0 where
  pub bound : (scope k : ℕ) → scope < count → slice_get nacks scope ≡ Some k → Has t.bound (nack_of_row r k, binding_of r scope)
  pub only : (n : NackName) (b : Binding) → Has t.bound (n, b) → Has s.bound (n, b) ⊎ ((scope : ℕ) × (k : ℕ) × (slice_get nacks scope ≡ Some k) × (scope < count) × (n ≡ nack_of_row r k) × (b ≡ binding_of r scope))

-- The machine was given results of the thread that the pass has, and its thread does no more here.
pub record IsAtRest (first : List (Option Suspended)) (told : List (ℕ × List Chosen)) (r : Rest) : Type 0 where
  pub results : List Chosen
  pub machine : IsMachineOf first r.suspended r.thread results
  pub stopped : HasStopped r.suspended.machine.value.phase
  pub seen : (results ≡ []) ⊎ Has told (r.thread, results)

abbrev pub AreAtRest : List (Option Suspended) → List (ℕ × List Chosen) → List Rest → Type 0
AreAtRest first told rests = All (IsAtRest first told) rests
