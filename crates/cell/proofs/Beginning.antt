-- A first table begins where its opening says.
use Rattle.std.proofs.Common.{◌∙◌, ◌≡◌, ◌<◌, ℕ, zero, suc, List, [], ◌∷◌, length, map, slice_get, Some, inr, sym, refl, arith}
use Rattle.std.proofs.lemmas.List.{length-map}
use Rattle.protocol_ledger.specs.Openings.{start_opening}
use Rattle.protocol_ledger.proofs.LedgerLemmas.{start_threads}
use Rattle.cell_table.specs.Rule.{AreMachines}

-- where each thread has a machine
each_there : {M : Type 0} (xs : List M) (t : ℕ) → t < length xs → (value : M) × (slice_get (map Some xs) t ≡ Some (Some value))
each_there [] t h = absurd (omega arith)
each_there (x ∷ xs) zero h = (x, refl)
each_there (x ∷ xs) (suc t) h = each_there xs t (omega arith)

pub first_machines : {M : Type 0} (xs : List M) (later : ℕ) → AreMachines (start_opening (length xs) later) (map Some xs)
first_machines xs later =
    let n = start_threads (length xs) later in
    inr (length-map xs Some ∙ sym n, λ t h alive. each_there xs t (omega (arith, h, n)))
