-- How a process stands, with what is kept of it left out, is what it does; and what its trouble says is so.
use Rattle.std.specs.Prelude.{◌≡◌, ◌<◌, ℕ, List, [], length, ⊤}
use Rattle.script_tree.specs.Processes.{Proc}
use Rattle.script_tree.specs.Trees.{Block}
use Rattle.thread.specs.After.{Chosen, State, Outcome, after}
use Rattle.thread.specs.After as after
use Rattle.pcml_why_sites.specs.Standing.{Standing, Goes, Offers, Finishes, Fails, Strays, standing}
use Rattle.pcml_why_sites.specs.Stands.{IsTold, standing_of}
use Rattle.pcml_why_sites.specs.Troubles.{IsSo, fault_of}
use Rattle.pcml_why_sites.specs.declared.stand.Stand.{Stand}
use Rattle.pcml_why_sites.specs.declared.stand.Stand.TheVariants as stand
use Rattle.pcml_why_sites.specs.declared.trouble.Trouble.{Trouble}

-- with the variables and the trouble left out
abbrev pub forgotten : {A : Type 0} → Standing A → Outcome A
forgotten (Goes value) = after.Goes value
forgotten (Offers tree s) = after.Offers tree s.said
forgotten (Finishes s) = after.Finishes s.said s.left
forgotten (Fails trouble s) = after.Fails (fault_of trouble) s.said s.left
forgotten Strays = after.Strays

-- what is left is what the process does
abbrev pub ForgettingGivesAfter : Type 0
ForgettingGivesAfter =
    (body : Block) (variables thread : ℕ) (results : List Chosen) →
    forgotten (standing body variables thread results) ≡ after body variables thread results

-- and what a trouble says is so, by the variables that stand with it
abbrev pub TroublesAreSo : Type 0
TroublesAreSo =
    (body : Block) (variables thread : ℕ) (results : List Chosen) (trouble : Trouble) (s : State) →
    standing body variables thread results ≡ Fails trouble s → IsSo s.store s.nacks trouble

-- what is told to a caller is what the process does; it strays also where it leaves results over
abbrev pub DoesSo : Outcome State → Stand → Type 0
DoesSo (after.Offers tree said) (stand.Offers variables) = ⊤
DoesSo (after.Finishes said left) stand.Finishes = left ≡ []
DoesSo (after.Finishes said left) stand.Strays = 0 < length left
DoesSo (after.Fails fault said left) (stand.Fails variables trouble) = (fault_of trouble ≡ fault) × (left ≡ [])
DoesSo (after.Fails fault said left) stand.Strays = 0 < length left
DoesSo after.Strays stand.Strays = ⊤
DoesSo one other = ⊥

abbrev pub TellsWhatItDoes : Type 0
TellsWhatItDoes =
    (p : Proc) (thread : ℕ) (results : List Chosen) (stand : Stand) →
    IsTold (standing_of p thread results) stand → DoesSo (after p.body (length p.variables) thread results) stand
