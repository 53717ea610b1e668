-- What replaying a journal prints.
use Rattle.std.specs.Prelude.{◌≡◌, ℕ, ◌+◌, Bool, true, false, List, [], ◌∷◌, ◌++◌, length, codes, Some, slice_get, take}
use Rattle.std.specs.Fmt.{decimal}
use Rattle.std.specs.String.{string_bytes}
use Rattle.protocol_values.specs.declared.Commit.{Commit}
use Rattle.script_tree.specs.Processes.{Proc}
use Rattle.script.specs.Sources.{Script}
use Rattle.script.specs.Spelling.{IsSpelled}
use Rattle.journal_text.specs.Journals.{Spells}
use Rattle.journal_text.specs.Names.{Naming, named}
use Rattle.journal_replay.specs.Replays.{StandsAfter, TellsEnd, TellsOutput, thread_count}
use Rattle.journal_replay.specs.Runs.{BreaksOffAt, Config, IsLegal, IsMaximal, IsRun, config_of}
use Rattle.journal_replay.specs.declared.state.State.{State}
use Rattle.pcml_answers.specs.Standings.{Standing, StandAs, process_lines}
use Rattle.pcml_texts.specs.declared.reach.Broken.{Broken}
use Rattle.pcml_texts.specs.declared.reach.Reached.{Reached}
use Rattle.pcml_texts.specs.declared.reach.Reached.TheVariants.{Run, NoRun}
use Rattle.pcml_texts.specs.declared.replay.Judged.{Judged}
use Rattle.pcml_texts.specs.declared.replay.Judged.TheVariants as judged
use Rattle.pcml_texts.specs.declared.replay.Replayed.{Replayed}
use Rattle.pcml_texts.specs.declared.replay.Replayed.TheVariants.{Lawful, Unlawful}

-- THE LAST LINE

abbrev pub reach_text : Bool → List ℕ
reach_text true = codes "maximal"
reach_text false = codes "open"

-- how many commits there were, and whether they are a maximal run
abbrev pub lawful_line : ℕ → Bool → List ℕ
lawful_line commits maximal = codes "lawful " ++ decimal commits ++ codes " " ++ reach_text maximal ++ 10 ∷ []

abbrev pub unlawful_line : ℕ → List ℕ
unlawful_line line = codes "unlawful at line " ++ decimal line ++ 10 ∷ []

-- WHAT A STATE'S TEXT SAYS

-- one for each thread of the state, in their order
pub record TellsStanding (s : State) (standing : List Standing) : Type 0 where
  pub count : length standing ≡ thread_count s
  pub each : (t : ℕ) (p : Standing) → slice_get standing t ≡ Some p → (p.thread ≡ t) × TellsEnd s t p.end × TellsOutput s t p.printed

pub record TellsProcesses (names : Naming) (s : State) (text : List ℕ) : Type 0 where
  pub standing : List Standing
  pub tells : TellsStanding s standing
  pub is : text ≡ process_lines names standing

pub record TellsState (names : Naming) (s : State) (commits : ℕ) (maximal : Bool) (text : List ℕ) : Type 0 where
  pub standing : List Standing
  pub tells : TellsStanding s standing
  pub is : text ≡ process_lines names standing ++ lawful_line commits maximal

-- WHAT IS PRINTED

-- no commit may come next, or one may
abbrev pub IsAt : List Proc → ℕ → Config → Bool → Type 0
IsAt ps rows config true = IsMaximal ps rows config
IsAt ps rows config false = (c : Commit) × IsLegal ps rows config c

-- The bytes are a journal in the names of the script, and its commits are a run of the script's processes, of so many rows each.
-- The text tells where they lead.
pub record IsReplayed (s : Script) (rows : ℕ) (bytes text : List ℕ) : Type 0 where
  pub commits : List Commit
  pub spells : Spells s bytes commits
  pub run : IsRun s.processes rows commits
  pub standing : List Standing
  pub stand : StandAs s.processes rows (config_of commits) standing
  pub maximal : Bool
  pub is_at : IsAt s.processes rows (config_of commits) maximal
  pub is : text ≡ process_lines (named s) standing ++ lawful_line (length commits) maximal

-- The bytes are a journal in the names of the script, of which the text tells the first line, from 1, with which it is no run.
pub record IsNoRun (s : Script) (rows : ℕ) (bytes text : List ℕ) : Type 0 where
  pub commits : List Commit
  pub spells : Spells s bytes commits
  pub index : ℕ
  pub breaks : BreaksOffAt s.processes rows commits index
  pub is : text ≡ unlawful_line (index + 1)

-- the bytes spell these commits, a run of the script's processes, of so many rows each, and the state stands where they lead
pub record LeadsTo (s : Script) (rows : ℕ) (bytes : List ℕ) (commits : List Commit) (state : State) : Type 0 where
  pub spells : Spells s bytes commits
  pub stands : StandsAfter s.processes rows commits state

-- of the commits the first so many are a run, which leads to the state, and with the next they are none; the text tells its line
pub record IsBroken (ps : List Proc) (rows : ℕ) (b : Broken) : Type 0 where
  pub stands : StandsAfter ps rows (take b.index b.commits.items) b.state
  pub breaks : BreaksOffAt ps rows b.commits.items b.index
  pub is : string_bytes b.text ≡ unlawful_line (b.index + 1)

-- the bytes spell these commits
abbrev pub Breaks : Script → ℕ → List ℕ → Broken → Type 0
Breaks s rows bytes b = Spells s bytes b.commits.items × IsBroken s.processes rows b

abbrev pub Reaches : Script → ℕ → List ℕ → Reached → Type 0
Reaches s rows bytes (Run commits state) = LeadsTo s rows bytes commits.items state
Reaches s rows bytes (NoRun broken) = Breaks s rows bytes broken

abbrev pub TellsReplayed : Script → ℕ → List ℕ → Replayed → Type 0
TellsReplayed s rows bytes (Lawful text) = IsReplayed s rows bytes text.items
TellsReplayed s rows bytes (Unlawful text) = IsNoRun s rows bytes text.items

-- the same, with what the text says at its end as values
abbrev pub TellsJudged : Script → ℕ → List ℕ → Judged → Type 0
TellsJudged s rows bytes (judged.Lawful text maximal) = (replayed : IsReplayed s rows bytes text.items) × (replayed.maximal ≡ maximal)
TellsJudged s rows bytes (judged.Unlawful text line) = (no_run : IsNoRun s rows bytes text.items) × (line ≡ no_run.index + 1)

-- LAWS, of a script that some text spells

-- no bytes are replayed to two texts
abbrev pub IsReplayedToOne : Type 0
IsReplayedToOne = (s : Script) → IsSpelled s → (rows : ℕ) (bytes text other : List ℕ) → IsReplayed s rows bytes text → IsReplayed s rows bytes other → text ≡ other

-- bytes that are replayed are no journal that is no run
abbrev pub IsReplayedOrNoRun : Type 0
IsReplayedOrNoRun = (s : Script) → IsSpelled s → (rows : ℕ) (bytes text other : List ℕ) → IsReplayed s rows bytes text → IsNoRun s rows bytes other → ⊥

-- at most one line is the first with which a journal is no run
abbrev pub HasOneUnlawfulLine : Type 0
HasOneUnlawfulLine = (s : Script) → IsSpelled s → (rows : ℕ) (bytes text other : List ℕ) → IsNoRun s rows bytes text → IsNoRun s rows bytes other → text ≡ other
