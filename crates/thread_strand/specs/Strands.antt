-- One thread of a run: its machine, and what is remembered of its stamps and nacks.
use Rattle.std.specs.Prelude.{◌≡◌, ◌==◌, ◌&&◌, ◌||◌, ℕ, if◌then◌else◌, List, [], ◌∷◌, ◌++◌, length, replicate, true, false, Bool, MatchOption, Option, Some, None, is_none, is_some, nat_lt, slice_get, slice_index_or, unwrap_or}
use Rattle.std.specs.List.{list_any}
use Rattle.script_tree.specs.Processes.{Proc}
use Rattle.script_tree.specs.Trees.{block_of}
use Rattle.thread.specs.After.{Chosen}
use Rattle.thread.specs.declared.machine.Turn.{Turn}
use Rattle.thread.specs.declared.machine.Turn.TheVariants.{Offering, Ended, Faulted}
use Rattle.thread.specs.Machines.{Thread, HasStopped, IsAfter, SameProcess, Tells, offers_in, nacks_in}
use Rattle.thread.specs.Memories.{AddsNew}
use Rattle.thread.specs.Standing.{line_of, variables_of}
use Rattle.thread.specs.Values.{Store}
use Rattle.protocol_values.specs.declared.Atom.{Atom}
use Rattle.protocol_values.specs.declared.Offer.{Offer}
use Rattle.protocol_values.specs.declared.Row.{Row}
use Rattle.protocol_values.specs.Scopes.{has_scope}
use Rattle.thread.specs.declared.end.End.{End}
use Rattle.thread.specs.declared.end.End.TheVariants as end
use Rattle.thread_strand.specs.declared.strand.Known.{Known}
use Rattle.thread_strand.specs.declared.strand.Strand.{Strand}

-- WHERE IT BEGINS

-- a machine at its process's first stop
pub record HasBegun (process : Proc) (number : ℕ) (m : Thread) : Type 0 where
  pub body : block_of m.body ≡ process.body
  pub variables : m.variables ≡ length process.variables
  pub thread : m.thread ≡ number
  pub results : m.results ≡ []
  pub stopped : HasStopped m.phase
  pub after : IsAfter m

-- the process's thread at its first stop; it has started where no text spawns it
pub record Begins (process : Proc) (from : Option ℕ) (number : ℕ) (s : Strand) : Type 0 where
  pub body : block_of s.machine.body ≡ process.body
  pub variables : s.machine.variables ≡ length process.variables
  pub thread : s.machine.thread ≡ number
  pub results : s.machine.results ≡ []
  pub stopped : HasStopped s.machine.phase
  pub after : IsAfter s.machine
  pub turn : Tells s.turn s.machine.phase
  pub started : s.started ≡ is_none from
  pub spawner : s.spawner ≡ from
  pub last : s.last ≡ 0
  pub fired : s.fired ≡ replicate 256 None

-- the strand of a thread of which this is known; it has started, too, where no text spawns its process
pub record Gathers (process : Proc) (from : Option ℕ) (number : ℕ) (k : Known) (s : Strand) : Type 0 where
  pub machine : MatchOption k.machine (HasBegun process number s.machine) (λ m. s.machine ≡ m)
  pub turn : Tells s.turn s.machine.phase
  pub spawner : s.spawner ≡ from
  pub started : s.started ≡ (is_some k.last || is_none from)
  pub last : s.last ≡ unwrap_or k.last 0
  pub fired : s.fired ≡ k.fired

-- WHAT IT TELLS

-- offer n of the thread's next sync, where it has started and the row is that sync, of fewer than so many
abbrev pub next_offer : ℕ → Row × ℕ → Strand → Option Offer
next_offer rows at s =
    if s.started && ((at.0.sync == length s.machine.results) && nat_lt at.0.sync rows) then slice_get (offers_in s.machine.phase) at.1 else None

-- what a thread that has started offers, with the nacks of its scopes
abbrev pub offers_at : Strand → List Offer
offers_at s = if s.started then offers_in s.machine.phase else []

abbrev pub nacks_at : Strand → List ℕ
nacks_at s = if s.started then nacks_in s.machine.phase else []

-- what a thread that has started printed
abbrev pub printed_at : Strand → List Atom
printed_at s = if s.started then s.machine.output else []

-- the line of a thread that has started
abbrev pub line_at : Strand → ℕ
line_at s = if s.started then line_of s.machine else 0

-- the variables of a thread that has started
abbrev pub variables_at : Strand → Store
variables_at s = if s.started then variables_of s.machine else []

-- how the thread stands, of at most so many syncs
abbrev pub end_after : ℕ → ℕ → Turn → End
end_after rows count Offering = if nat_lt count rows then end.Waiting else end.Spent
end_after rows count Ended = end.Ended
end_after rows count (Faulted fault) = end.Faulted fault

abbrev pub end_at : ℕ → Strand → End
end_at rows s = if s.started then end_after rows (length s.machine.results) s.turn else end.Unstarted

-- the thread has started, and has ended or faulted
abbrev pub is_over : Turn → Bool
is_over Offering = false
is_over Ended = true
is_over (Faulted fault) = true

-- the stamp that counts for the end of a thread
abbrev pub end_stamp : Strand → Option ℕ
end_stamp s = if s.started && is_over s.turn then Some s.last else None

-- whether the thread has started, and has spawned this one
abbrev pub has_run : Strand → ℕ → Bool
has_run s t = s.started && list_any (λ p. p == t) s.machine.spawned

abbrev pub stamp_from : ℕ → Option Strand → Option ℕ
stamp_from t None = None
stamp_from t (Some s) = if has_run s t then Some s.last else None

-- HOW IT GOES ON

-- of an open sync with these nacks, that was committed inside the scopes of the mask, at this stamp: nacks of the other scopes are fired
pub record FiresMore (nacks : List ℕ) (scopes stamp : ℕ) (old new : List (Option ℕ)) : Type 0 where
  pub fires : (k s : ℕ) → slice_get nacks s ≡ Some k → has_scope scopes s ≡ false → slice_index_or new k None ≡ Some stamp
  pub stays : (k : ℕ) → ((s : ℕ) → slice_get nacks s ≡ Some k → has_scope scopes s ≡ true) → slice_index_or new k None ≡ slice_index_or old k None

-- the thread's open sync is committed by this result at this stamp, and the thread went on
pub record Grows (chosen : Chosen) (stamp : ℕ) (old new : Strand) : Type 0 where
  pub process : SameProcess old.machine new.machine
  pub results : new.machine.results ≡ old.machine.results ++ chosen ∷ []
  pub stopped : HasStopped new.machine.phase
  pub after : IsAfter new.machine
  pub turn : Tells new.turn new.machine.phase
  pub spawner : new.spawner ≡ old.spawner
  pub started : new.started ≡ old.started
  pub last : new.last ≡ stamp
  pub offer : Offer
  pub was : slice_get (offers_in old.machine.phase) chosen.0 ≡ Some offer
  pub fired : FiresMore (nacks_in old.machine.phase) offer.scopes stamp old.fired new.fired

-- the thread went on by this result, and nothing else is known of it
pub record GoesOn (chosen : Chosen) (old new : Strand) : Type 0 where
  pub process : SameProcess old.machine new.machine
  pub results : new.machine.results ≡ old.machine.results ++ chosen ∷ []
  pub stopped : HasStopped new.machine.phase
  pub after : IsAfter new.machine
  pub spawned : AddsNew old.machine.spawned new.machine.spawned
  pub turn : Tells new.turn new.machine.phase
  pub spawner : new.spawner ≡ old.spawner
  pub started : new.started ≡ old.started
  pub last : new.last ≡ old.last
  pub fired : new.fired ≡ old.fired
