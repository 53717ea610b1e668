-- What a table hands out at its end.
use Rattle.std.specs.Prelude.{◌≡◌, ◌⊎◌, ◌+◌, ◌<◌, ◌≤◌, ℕ, true, false, List, Option, None, Some, length, slice_get}
use mathlib.Core.Option.{some}
use lib.ListN.{get_elem?}
use Rattle.protocol_values.specs.declared.Commit.{Commit}
use Rattle.protocol_values.specs.declared.Offer.{Offer}
use Rattle.protocol_values.specs.declared.Row.{Row}
use Rattle.protocol_values.specs.declared.Step.{Step}
use Rattle.protocol_ledger.specs.Ledgers.{HasCommit, Involves, Ledger, joined_in, offer_in}
use Rattle.protocol_ledger.specs.Openings.{greatest}
use Rattle.protocol_ledger.specs.Standing.{OffersAs, Stands}
use Rattle.protocol_ledger.specs.Short.{wide_table}
use Rattle.protocol_ledger.specs.Tables.{Table, cell_at, is_fresh, is_taken}
use Rattle.cell_table.specs.declared.view.Shape.{Shape}
use Rattle.cell_table.specs.declared.view.Stage.TheVariants.{Resting}
use Rattle.cell_table.specs.declared.view.View.{View}
use Rattle.cell_table.specs.Sight.{Has}
use Rattle.cell_table.specs.Views.{opening_in}

module _ {M : Type 0} where
  abbrev pub words_of : Shape M → List ℕ → Table
  words_of shape ws = wide_table shape.layout (record { threads = shape.threads; rows = shape.rows; words = ws; opening = greatest (opening_in shape) })

  -- by these words the row is opened, and nobody has taken it
  abbrev pub IsOpenAt : Shape M → List ℕ → ℕ → ℕ → Type 0
  IsOpenAt shape ws t g =
      (is_fresh (cell_at (words_of shape ws) (record { thread = t; sync = g })) ≡ false)
      × (is_taken (cell_at (words_of shape ws) (record { thread = t; sync = g })) ≡ false)

  -- the rows of a thread are taken one after another: those before an opened one were
  abbrev pub AreInTurn : Shape M → List ℕ → Type 0
  AreInTurn shape ws = (t g h : ℕ) → g < h → is_fresh (cell_at (words_of shape ws) (record { thread = t; sync = h })) ≡ false → is_taken (cell_at (words_of shape ws) (record { thread = t; sync = g })) ≡ true

  -- a pass made these steps, or one that left the table to it
  abbrev pub MadeBy : View M → List Step → Type 0
  MadeBy v steps = (steps ≡ v.made) ⊎ ((seat : ℕ) × Has v.gathered (seat, steps))

  -- all passes of the table are here: this one, and those that left to it
  abbrev pub HasAll : View M → Type 0
  HasAll v = (v.stage ≡ Resting) × (v.passes ≤ length v.gathered + 1)

  -- the value lies in the thread's slot, and a row of the thread is so
  abbrev pub IsHomeOf : Shape M → List ℕ → List (Option M) → ℕ → M → Type 0
  IsHomeOf shape ws slots t value = (get_elem? slots t ≡ some (Some value)) × ((g : ℕ) × IsOpenAt shape ws t g)

-- What is handed out for a thread offers what a row of it offers, after the results of the rows before, and no later row of the
-- thread is in a commit: one result at most is left to be given.
pub record HandedOut {M : Type 0} (stands : Stands M) (first : List (Option M)) (l : Ledger) (t : ℕ) (value : M) : Type 0 where
  pub sync : ℕ
  pub offers : OffersAs (stands.offers first value) l (record { thread = t; sync = sync })
  pub next : (c : Commit) (g : ℕ) → HasCommit l c → Involves c (record { thread = t; sync = g }) → g ≤ sync

abbrev pub HandsOut : {M : Type 0} → Stands M → List (Option M) → Ledger → List (Option M) → Type 0
HandsOut {M} stands first l machines = (t : ℕ) (value : M) → slice_get machines t ≡ Some (Some value) → HandedOut stands first l t value

-- something is handed out for the thread
abbrev pub IsHandedOut : {M : Type 0} → List (Option M) → ℕ → Type 0
IsHandedOut {M} machines t = (value : M) × (slice_get machines t ≡ Some (Some value))

-- of each thread with a row that offers something and is not committed
abbrev pub HandsOutWaiting : {M : Type 0} → Ledger → List (Option M) → Type 0
HandsOutWaiting l machines = (r : Row) (n : ℕ) (o : Offer) → offer_in l r n ≡ Some o → joined_in l r ≡ None → IsHandedOut machines r.thread
