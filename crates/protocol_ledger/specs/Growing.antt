-- That the ledgers of schedules are lawful, and what stays of a table, however its schedule goes on.
use Rattle.std.specs.Prelude.{◌≡◌, ◌⊎◌, ⊤, ℕ, ◌≤◌, false, List, Some}
use Rattle.protocol_values.specs.declared.Binding.{Binding}
use Rattle.protocol_values.specs.declared.Commit.{Commit}
use Rattle.protocol_values.specs.declared.Course.{Course}
use Rattle.protocol_values.specs.declared.Course.TheVariants.{Unstarted, Running, Ended}
use Rattle.protocol_values.specs.declared.Joined.{Joined}
use Rattle.protocol_values.specs.declared.NackName.{NackName}
use Rattle.protocol_values.specs.declared.Row.{Row}
use Rattle.protocol_values.specs.declared.Seat.{Seat}
use Rattle.protocol_values.specs.declared.Step.{Step}
use Rattle.protocol_ledger.specs.Openings.{Begins, IsOpening, Opening}
use Rattle.protocol_ledger.specs.Tables.{Table, carried_at, course_at, binding_at, bound_row, cell_at, is_fresh, joined_at, offer_at}
use Rattle.protocol_ledger.specs.Ledgers.{HasCommit, IsLawful, ledger_of}
use Rattle.protocol_ledger.specs.Worlds.{Plays, World}

-- Whatever steps are made from where a table begins, its ledger is lawful.
abbrev pub SchedulesAreLawful : Type 0
SchedulesAreLawful =
    (o : Opening) (rows seats : ℕ) (steps : List (Seat × Step)) (b w : World) → IsOpening o rows → rows ≤ 1024 → Begins o rows seats b →
    Plays b steps w → IsLawful (ledger_of w.table)

-- a start stays with its stamp, and an end stays
abbrev pub GoesOn : Course → Course → Type 0
GoesOn Unstarted d = ⊤
GoesOn (Running start) d = (d ≡ Running start) ⊎ ((sync : ℕ) × (d ≡ Ended start sync))
GoesOn (Ended start sync) d = d ≡ Ended start sync

pub record GrowsTo (t u : Table) : Type 0 where
  pub threads : u.threads ≡ t.threads
  pub rows : u.rows ≡ t.rows
  -- an opened row stays open, and its offers as they are
  pub opened : (r : Row) → is_fresh (cell_at t r) ≡ false → is_fresh (cell_at u r) ≡ false
  pub offers : (r : Row) (n : ℕ) → is_fresh (cell_at t r) ≡ false → offer_at u r n ≡ offer_at t r n
  -- a committed row stays committed in the same way
  pub joined : (r : Row) (j : Joined) → joined_at t r ≡ Some j → joined_at u r ≡ Some j
  -- a bound nack stays bound as it is, and to an opened row none is bound anew
  pub bound : (n : NackName) (b : Binding) → binding_at t n ≡ Some b → binding_at u n ≡ Some b
  pub unbound : (n : NackName) (b : Binding) → is_fresh (cell_at t (bound_row n b)) ≡ false → binding_at u n ≡ Some b → binding_at t n ≡ Some b
  pub courses : (p : ℕ) → GoesOn (course_at t p) (course_at u p)
  -- what went before stays what it was
  pub opening : u.opening ≡ t.opening
  pub carried : (n : NackName) → carried_at u n ≡ carried_at t n

-- whatever steps follow
abbrev pub TablesGrow : Type 0
TablesGrow =
    (o : Opening) (rows seats : ℕ) (steps more : List (Seat × Step)) (b w v : World) → IsOpening o rows → rows ≤ 1024 → Begins o rows seats b →
    Plays b steps w → Plays w more v → GrowsTo w.table v.table

-- so a commit stays one
abbrev pub CommitsStay : Type 0
CommitsStay =
    (o : Opening) (rows seats : ℕ) (steps more : List (Seat × Step)) (b w v : World) (c : Commit) → IsOpening o rows → rows ≤ 1024 → Begins o rows seats b →
    Plays b steps w → Plays w more v → HasCommit (ledger_of w.table) c → HasCommit (ledger_of v.table) c
