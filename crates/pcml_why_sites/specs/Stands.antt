-- What a caller is told of how a process stands.
use Rattle.std.specs.Prelude.{◌≡◌, ◌<◌, ℕ, List, [], length, ⊤}
use Rattle.script_tree.specs.Processes.{Proc}
use Rattle.thread.specs.After.{Chosen, State}
use Rattle.pcml_why_sites.specs.Standing as standing
use Rattle.pcml_why_sites.specs.Standing.{Standing, standing}
use Rattle.pcml_why_sites.specs.declared.stand.Stand.{Stand}
use Rattle.pcml_why_sites.specs.declared.stand.Stand.TheVariants.{Offers, Finishes, Fails, Strays}

abbrev pub standing_of : Proc → ℕ → List Chosen → Standing State
standing_of p thread results = standing p.body (length p.variables) thread results

-- It is told what the variables are, and what was wrong; and that it strays also where results are left over.
abbrev pub IsTold : Standing State → Stand → Type 0
IsTold (standing.Offers tree s) (Offers variables) = variables.items ≡ s.store
IsTold (standing.Finishes s) Finishes = s.left ≡ []
IsTold (standing.Finishes s) Strays = 0 < length s.left
IsTold (standing.Fails trouble s) (Fails variables told) = (variables.items ≡ s.store) × (told ≡ trouble) × (s.left ≡ [])
IsTold (standing.Fails trouble s) Strays = 0 < length s.left
IsTold standing.Strays Strays = ⊤
IsTold one other = ⊥
