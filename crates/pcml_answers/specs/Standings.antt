-- How processes stand, and the lines that tell it.
use Rattle.std.specs.Prelude.{◌≡◌, ℕ, List, [], ◌∷◌, ◌++◌, length, codes, Some, slice_get}
use Rattle.std.specs.List.{flat_map}
use Rattle.protocol_values.specs.declared.Atom.{Atom}
use Rattle.script_tree.specs.Processes.{Proc}
use Rattle.journal_text.specs.Endings.{printed_text}
use Rattle.journal_text.specs.Names.{Naming}
use Rattle.thread.specs.Ends.{end_text}
use Rattle.journal_replay.specs.Runs.{Config, EndsAs}
use Rattle.thread.specs.declared.end.End.{End}

-- THE LINE OF A PROCESS

-- a process by its number, how it ended and what it printed
pub record Standing : Type 0 where
  pub thread : ℕ
  pub end : End
  pub printed : List Atom

abbrev pub process_line : Naming → Standing → List ℕ
process_line names p = names.thread p.thread ++ codes " " ++ end_text p.end ++ printed_text names p.printed ++ 10 ∷ []

-- a line for each process, in their order
abbrev pub process_lines : Naming → List Standing → List ℕ
process_lines names standing = flat_map (process_line names) standing

-- each process ends so and printed this, where its results are these
pub record StandAs (ps : List Proc) (rows : ℕ) (config : Config) (standing : List Standing) : Type 0 where
  pub count : length standing ≡ length ps
  pub each : (t : ℕ) (p : Standing) → slice_get standing t ≡ Some p → (p.thread ≡ t) × EndsAs ps rows t config p.end p.printed

-- the process of this number, by the ends and the outputs of all
abbrev pub IsStandingOf : List End → List (List Atom) → ℕ → Standing → Type 0
IsStandingOf ends outputs t p = (p.thread ≡ t) × (slice_get ends t ≡ Some p.end) × (slice_get outputs t ≡ Some p.printed)

-- one for each process, in their order
pub record AreStandings (ends : List End) (outputs : List (List Atom)) (standing : List Standing) : Type 0 where
  pub count : length standing ≡ length ends
  pub each : (t : ℕ) (p : Standing) → slice_get standing t ≡ Some p → IsStandingOf ends outputs t p

-- the lines of processes with these ends and outputs
pub record TellsStandings (names : Naming) (ends : List End) (outputs : List (List Atom)) (text : List ℕ) : Type 0 where
  pub standing : List Standing
  pub are : AreStandings ends outputs standing
  pub is : text ≡ process_lines names standing
