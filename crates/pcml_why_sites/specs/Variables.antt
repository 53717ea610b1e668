-- The variables that a machine has are those with which its process stands.
use Rattle.std.specs.Global.{Vec}
use Rattle.std.specs.Prelude.{◌≡◌, ℕ, List, [], length, Option}
use Rattle.event.specs.Tree.{Tree as Event}
use Rattle.script_tree.specs.Processes.{Proc}
use Rattle.script_tree.specs.Trees.{block_of}
use Rattle.script_tree.specs.declared.tree.Block.{Block as Tree}
use Rattle.protocol_values.specs.declared.Atom.{Atom}
use Rattle.thread.specs.After as after
use Rattle.thread.specs.After.{Chosen, Said, State, after}
use Rattle.thread.specs.Standing.{variables_after}
use Rattle.thread.specs.Values.{Store}
use Rattle.pcml_why_sites.specs.Standing.{Standing, Goes, Offers, Finishes, Fails, Strays, standing}
use Rattle.pcml_why_sites.specs.Stands.{IsTold, standing_of}
use Rattle.pcml_why_sites.specs.declared.stand.Stand.TheVariants as stand
use Rattle.pcml_why_sites.specs.declared.trouble.Trouble.{Trouble}

-- the variables where a process stops; none where it strays
abbrev pub variables_in : Standing State → Store
variables_in (Goes s) = []
variables_in (Offers event s) = s.store
variables_in (Finishes s) = s.store
variables_in (Fails trouble s) = s.store
variables_in Strays = []

-- they are those of its machine, which runs its tree with lines
abbrev pub MachinesHaveThem : Type 0
MachinesHaveThem =
    (tree : Tree) (variables thread : ℕ) (results : List Chosen) →
    variables_in (standing (block_of tree) variables thread results) ≡ variables_after tree variables thread results

-- so of a process that offers an event the machine's variables are all that is told
abbrev pub OffersAreTold : Type 0
OffersAreTold =
    (p : Proc) (tree : Tree) (thread : ℕ) (results : List Chosen) (event : Event) (said : Said) (variables : Vec (Option Atom)) →
    block_of tree ≡ p.body → after p.body (length p.variables) thread results ≡ after.Offers event said →
    variables.items ≡ variables_after tree (length p.variables) thread results →
    IsTold (standing_of p thread results) (stand.Offers variables)

-- and the variables that are told of one that failed are the machine's
abbrev pub FaultsAreTold : Type 0
FaultsAreTold =
    (p : Proc) (tree : Tree) (thread : ℕ) (results : List Chosen) (trouble : Trouble) (variables : Vec (Option Atom)) →
    block_of tree ≡ p.body → IsTold (standing_of p thread results) (stand.Fails variables trouble) →
    variables.items ≡ variables_after tree (length p.variables) thread results
