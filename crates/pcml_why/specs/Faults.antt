-- What went wrong in the processes that faulted.
use Rattle.std.specs.Prelude.{◌≡◌, ℕ, List, [], ◌∷◌, ◌++◌, codes}
use Rattle.script.specs.Sources.{Script}
use Rattle.script_tree.specs.Processes.{Proc}
use Rattle.protocol_values.specs.declared.Commit.{Commit}
use Rattle.journal_replay.specs.declared.state.State.{State}
use Rattle.journal_text.specs.Names.{Naming, named}
use Rattle.pcml_why.specs.Variables.{wrong_text}
use Rattle.pcml_why.specs.Whys.{all_texts, variables_at}
use Rattle.pcml_why_sites.specs.Sites.{AreSites}
use Rattle.pcml_why_sites.specs.declared.site.Site.{Site}
use Rattle.pcml_why_sites.specs.declared.stand.Stand.{Stand}
use Rattle.thread.specs.Ends.{end_text}
use Rattle.thread.specs.declared.end.End.{End}
use Rattle.thread.specs.declared.end.End.TheVariants.{Faulted}

-- the line of a process that faulted, by the names of its variables
abbrev pub fault_words : Naming → List (List ℕ) → ℕ → End → Stand → List ℕ
fault_words names variables t (Faulted fault) stand = names.thread t ++ codes " " ++ end_text (Faulted fault) ++ codes ": " ++ wrong_text names variables fault stand ++ 10 ∷ []
fault_words names variables t end stand = []

abbrev pub fault_line : Naming → List Proc → ℕ → Site → List ℕ
fault_line names ps t s = fault_words names (variables_at ps t) t s.end s.stand

-- The text has a line for each process of the state that faulted, where these commits led.
pub record TellsFaults (script : Script) (state : State) (commits : List Commit) (text : List ℕ) : Type 0 where
  pub sites : List Site
  pub are : AreSites script.processes commits state sites
  pub is : text ≡ all_texts (fault_line (named script) script.processes) sites
