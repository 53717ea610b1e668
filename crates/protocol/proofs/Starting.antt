-- The state at a beginning is sound.
use Rattle.std.proofs.Common.{◌≡◌, ℕ, ◌<◌, ◌≤◌, List, get_or, length, replicate, sym, ap, ◌∙◌, subst, ⊎_elim, Option, None, arith}
use Rattle.std.proofs.lemmas.Bool.{cases_lt}
use Rattle.std.proofs.lemmas.List.{get_or-replicate, get_or_past, length-replicate}
use Rattle.protocol_values.specs.declared.Row.{Row}
use Rattle.protocol_values.specs.declared.Cell.{Cell}
use Rattle.protocol_values.specs.declared.Cell.TheVariants.{Fresh}
use Rattle.protocol.specs.declared.state.State.{State}
use Rattle.protocol_ledger.specs.Openings.{Begins, IsOpening, Opening}
use Rattle.protocol_ledger.specs.Tables.{all_rows, cell_at, number_of, names}
use Rattle.protocol_values.specs.Values.{joined_of}
use Rattle.protocol_ledger.specs.Worlds.{World, start_world}
use Rattle.protocol_ledger.specs.Kept.{Kept}
use Rattle.protocol.specs.States.{world_of, IsSound, Tells}
use Rattle.protocol_ledger.proofs.Beginning.{first_cell}
use Rattle.protocol_ledger.proofs.Naming.{namer_none}
use Rattle.protocol_ledger.proofs.LedgerLemmas.{kept_opening, kept_start, start_cell}

nobody : (n i : ℕ) → get_or (replicate {A = Option Row} n None) i None ≡ None
nobody n i = ⊎_elim
    (λ (h : i < n). get_or-replicate n i None None h)
    (λ (h : n ≤ i). let l = length-replicate {A = Option Row} n None in get_or_past (replicate {A = Option Row} n None) i None (omega arith))
    (cases_lt i n)

-- where all rows are Fresh, nobody names anybody
tells_fresh : (w : World) (n : ℕ) → ((r : Row) → cell_at w.table r ≡ Fresh) → Tells w (replicate n None)
tells_fresh w n cells r h =
    nobody n (number_of w.table.rows r)
    ∙ sym (namer_none (all_rows w.table.threads w.table.rows) _ r (λ q. ap (λ (c : Cell). names (joined_of c) r) (cells q)))

sound_fresh : (s : State) (n : ℕ) → Kept (world_of s) → ((r : Row) → cell_at (world_of s).table r ≡ Fresh) → s.namers.items ≡ replicate n None → IsSound s
sound_fresh s n kept cells e = record { kept = kept; told = subst (Tells (world_of s)) (sym e) (tells_fresh (world_of s) n cells) }

start_fresh : (threads rows seats later : ℕ) (r : Row) → cell_at (start_world threads rows seats later).table r ≡ Fresh
unfolding start_world
start_fresh threads rows seats later r = start_cell threads rows later r

pub start_sound : (s : State) (threads rows seats later n : ℕ) → world_of s ≡ start_world threads rows seats later → s.namers.items ≡ replicate n None → threads ≤ 64 → rows ≤ 1024 → IsSound s
start_sound s threads rows seats later n e f a b =
    sound_fresh s n (subst Kept (sym e) (kept_start threads rows seats later a b)) (λ r. ap (λ (w : World). cell_at w.table r) e ∙ start_fresh threads rows seats later r) f

pub next_sound : (o : Opening) (rows seats n : ℕ) (s : State) → Begins o rows seats (world_of s) → IsOpening o rows → rows ≤ 1024 → s.namers.items ≡ replicate n None → IsSound s
next_sound o rows seats n s begins opens few e =
    let room = opens.room in
    sound_fresh s n (kept_opening o rows seats (world_of s) opens few begins) (first_cell o (world_of s).table begins.words (omega arith)) e
