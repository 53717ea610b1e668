-- The table and a pass, as callers see them.
use Rattle.std.specs.Prelude.{◌≡◌, ◌⊎◌, ℕ, ◌<◌, ◌≤◌, zero, suc, List, [], ◌∷◌, Option, Some, None, length, slice_get}
use Rattle.atomic_table.specs.Seated.{TableId}
use Rattle.atomic_table.specs.Table.{rest}
use Rattle.protocol_values.specs.declared.NackName.{NackName}
use Rattle.protocol_values.specs.declared.Row.{Row}
use Rattle.protocol_values.specs.declared.Step.{Step}
use Rattle.protocol_ledger.specs.declared.opening.Life.{Life}
use Rattle.protocol_ledger.specs.declared.opening.NackState.{NackState}
use Rattle.protocol_ledger.specs.declared.layout.Layout.{Layout}
use Rattle.protocol_ledger.specs.Openings.{Opening}
use Rattle.protocol_ledger.specs.Short.{HasWords}
use Rattle.protocol_ledger.specs.Standing.{Result, Stands}
use Rattle.protocol_ledger.specs.declared.resident.Bare.{Bare}
use Rattle.cell_table.specs.declared.view.Seen.{Seen}
use Rattle.cell_table.specs.Rule.{IsReady}
use Rattle.cell_table.specs.Sight.{AreSettled, Coherent, Has, OpenHaveWords, see_begun}

-- which table it is, its size, and what stood for its threads at first, thread by thread; an empty list in a table of no machines
pub record GridOf (M : Type 0) : Type 0 where
  pub id : TableId
  pub threads : ℕ
  pub rows : ℕ
  -- for how many offers a row has room, and for how many rows each thread has words: a row that has none is Fresh for good
  pub layout : Layout
  pub passes : ℕ
  -- from what it goes on: the threads' lives and last stamps, and what became of each nack
  pub lives : List (Life × ℕ)
  pub nacks : List NackState
  pub first : List (Option M)

-- of which table a pass is, what it has seen, and the steps of the protocol that it has made, the last one first
pub record PassOf (M : Type 0) : Type 0 where
  pub of : GridOf M
  pub seen : Seen
  pub made : List Step
  -- of a thread, the results of its first rows, once the pass has taken one of them or was told so
  pub results : List (ℕ × List Result)
  -- the threads whose slots are out with the pass, the last one first, unless the pass turns them, and what lies in each: none
  -- where it was fetched
  pub out : List (ℕ × Option M)

-- a pass to which others leave the table at its end, with their seats, and the steps that they made
pub record GathererOf (M : Type 0) : Type 0 where
  pub pass : PassOf M
  pub gathered : List (ℕ × List Step)

-- those of a table of no machines
abbrev pub Grid : Type 0
Grid = GridOf Bare

abbrev pub PassView : Type 0
PassView = PassOf Bare

-- all rows have words
abbrev pub AllHaveWords : Layout → ℕ → ℕ → Type 0
AllHaveWords y threads rows = (r : Row) → r.thread < threads → r.sync < rows → HasWords y r

module _ {M : Type 0} where
  -- from what the table goes on
  abbrev pub opening_at : GridOf M → Opening
  opening_at g = record { threads = g.lives; nacks = g.nacks }

  -- the pass is one of this table's, and what it has seen agrees with itself, and with what went before the table, and what it saw
  -- open has words
  abbrev pub IsPassOf : GridOf M → PassOf M → Type 0
  IsPassOf g p = (p.of.id ≡ g.id) × (p.of.threads ≡ g.threads) × (p.of.rows ≡ g.rows) × (p.of.passes ≡ g.passes) × Coherent g.threads g.rows p.seen × (p.of.first ≡ g.first) × (p.of.lives ≡ g.lives) × (p.of.nacks ≡ g.nacks) × AreSettled (opening_at g) p.seen × (p.of.layout ≡ g.layout) × OpenHaveWords g.layout p.seen

  -- the pass has the results and the slots that it had
  abbrev pub KeepsResults : PassOf M → PassOf M → Type 0
  KeepsResults old new = (new.results ≡ old.results) × (new.out ≡ old.out)

  -- the table has the row
  abbrev pub IsRowOf : GridOf M → Row → Type 0
  IsRowOf g r = (r.thread < g.threads) × (r.sync < g.rows)

  -- the table has the place: a row, or that behind a thread's last one
  abbrev pub IsStandOf : GridOf M → Row → Type 0
  IsStandOf g r = (r.thread < g.threads) × (r.sync ≤ g.rows)

  -- the pass holds the row, or stands behind the thread's last one
  abbrev pub HoldsAt : PassOf M → Row → Type 0
  HoldsAt p r = Has p.seen.held r ⊎ ((r.sync ≡ p.of.rows) × Has p.seen.lasts r.thread)

  -- the table has the nack
  abbrev pub IsNackOf : GridOf M → NackName → Type 0
  IsNackOf g n = (n.thread < g.threads) × (n.k < 64)

  -- it is a table of machines
  abbrev pub IsHousing : GridOf M → Type 0
  IsHousing g = 0 < length g.first

  -- the pass made these steps, or one that left the table to it
  abbrev pub HasSteps : GathererOf M → List Step → Type 0
  HasSteps p steps = (steps ≡ p.pass.made) ⊎ ((seat : ℕ) × Has p.gathered (seat, steps))

  -- MACHINES: of the slots that are out with the pass the front one is the row's thread's, and holds this
  abbrev pub Holds : PassOf M → Row → Option M → Type 0
  Holds p r value = p.out ≡ (r.thread, value) ∷ rest p.out

  -- What may be fetched: for the first row of a thread what stood for it at first, unless this pass has fetched it; for
  -- another what came out with the row before, if its slot is the front one.
  abbrev pub CanFetchAt : GridOf M → PassOf M → Row → ℕ → Type 0
  CanFetchAt g p r zero = IsHousing g × (¬ Has p.seen.begun r)
  CanFetchAt g p r (suc sync) = (value : M) × Holds p r (Some value)

  abbrev pub CanFetch : GridOf M → PassOf M → Row → Type 0
  CanFetch g p r = CanFetchAt g p r r.sync

  -- what was fetched, and what is left
  abbrev pub FetchedAt : GridOf M → PassOf M → PassOf M → Row → M → ℕ → Type 0
  FetchedAt g before after r value zero =
      (slice_get g.first r.thread ≡ Some (Some value)) × (after.seen ≡ see_begun r before.seen) × (after.out ≡ (r.thread, None) ∷ before.out)
  FetchedAt g before after r value (suc sync) =
      Holds before r (Some value) × (after.seen ≡ before.seen) × (after.out ≡ (r.thread, None) ∷ rest before.out)

  abbrev pub Fetched : GridOf M → PassOf M → PassOf M → Row → M → Type 0
  Fetched g before after r value = FetchedAt g before after r value r.sync

  -- behind a thread's last row: the value stands for the thread after the results of all its rows, as the pass has them
  abbrev pub IsFollowing : Stands M → List (Option M) → List (ℕ × List Result) → Row → M → Type 0
  IsFollowing stands first results r value =
      (earlier : List Result) × (length earlier ≡ r.sync) × ((earlier ≡ []) ⊎ Has results (r.thread, earlier)) × stands.follows first value r.thread earlier

  -- in a table of machines the row's machine is parked, stands where its thread's results lead, and offers what was drafted for the row
  abbrev pub IsParked : Stands M → GridOf M → PassOf M → Row → Type 0
  IsParked stands g p r = IsHousing g → (value : M) × Holds p r (Some value) × IsReady stands g.first p.results p.seen r value

-- places in which nothing lies
abbrev pub HoldNothing : {A : Type 0} → List (Option A) → Type 0
HoldNothing {A} places = (n : ℕ) (value : A) → slice_get places n ≡ Some (Some value) → ⊥
