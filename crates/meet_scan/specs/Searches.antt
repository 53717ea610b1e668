-- What a search comes to.
use Rattle.std.specs.Prelude.{◌≡◌, ◌≤◌, ℕ, ⊤, List, Option, None, Some, get_or}
use Rattle.protocol_values.specs.declared.Direction.{Direction}
use Rattle.protocol_values.specs.declared.Joined.{Joined}
use Rattle.protocol_values.specs.declared.Row.{Row}
use Rattle.cell_table.specs.declared.view.Seen.{Seen}
use Rattle.cell.specs.Attempts.{AreMet}
use Rattle.cell_table.specs.Nacks.{CanStandAlone}
use Rattle.cell_table.specs.Sight.{Has, LearnsOf, SawCommitted}
use Rattle.meet_scan.specs.declared.found.Found.{Found}
use Rattle.meet_scan.specs.declared.found.Found.TheVariants.{Met, Alone, Already, Waits}

-- the pass has seen no less, and holds and has drafted the same
abbrev pub Grows : Seen → Seen → Type 0
Grows s t = LearnsOf (λ q. ⊤) (λ n. ⊤) (λ p. ⊤) s t

-- SEARCHES

-- the row was seen committed with the other
abbrev pub IsMetWith : Seen → Row → Row → Type 0
IsMetWith s r other = (own : ℕ) × (partner : ℕ) × (stamp : ℕ) × AreMet s r own other partner stamp

-- the row was seen committed alone
abbrev pub IsAlone : Seen → Row → Type 0
IsAlone s r = (j : Joined) × Has s.joined (r, j) × (j.partner ≡ None)

-- what was found where the row is committed
abbrev pub FoundAt : Seen → Row → Found → Type 0
FoundAt t r (Met other) = IsMetWith t r other
FoundAt t r Alone = IsAlone t r
FoundAt t r Already = SawCommitted t r
FoundAt t r Waits = ⊥

-- What a search found, by what the pass had seen before it and has seen after it. A row is left only where it had not
-- been seen committed, and no offer of it had been seen to be an always, an enabled nack, or the end of a thread that has ended.
abbrev pub Finds : Seen → Seen → Row → Found → Type 0
Finds s t r (Met other) = IsMetWith t r other
Finds s t r Alone = IsAlone t r
Finds s t r Already = SawCommitted t r
Finds s t r Waits = (¬ SawCommitted s r) × ((n : ℕ) → ¬ CanStandAlone s r n)

-- what leaving a row came to
abbrev pub Leaves : Seen → Seen → Row → Found → Type 0
Leaves s t r (Met other) = ⊥
Leaves s t r Alone = ⊥
Leaves s t r Already = SawCommitted t r
Leaves s t r Waits = ¬ SawCommitted s r

-- the list has this direction at place n
abbrev pub Lists : List (Option Direction) → ℕ → Direction → Type 0
Lists directions n d = get_or directions n None ≡ Some d

-- and none at place n
abbrev pub LacksAt : List (Option Direction) → ℕ → Type 0
LacksAt directions n = get_or directions n None ≡ None

-- no offer before the list's end had been seen to let its row stand alone
abbrev pub StandsByNone : Seen → Row → List (Option Direction) → Type 0
StandsByNone s r directions = (n : ℕ) → ((k : ℕ) → k ≤ n → ¬ LacksAt directions k) → ¬ CanStandAlone s r n
