-- A run has a text: the commits of a run of a script's processes have lines in the script's names, and what is printed has names.
use Rattle.std.specs.Prelude.{ℕ, ◌≤◌, List}
use Rattle.std.specs.List.{AllByRecursion}
use Rattle.protocol_values.specs.declared.Atom.{Atom}
use Rattle.protocol_values.specs.declared.Commit.{Commit}
use Rattle.script.specs.Sources.{Script}
use Rattle.script.specs.Spelling.{IsSpelled}
use Rattle.journal_text.specs.Journals.{HasAtom, HasLine, IsFirstBadLine, Spells}
use Rattle.journal_text.specs.Names.{names_of, named}
use Rattle.journal_text.specs.Texts.{commits_text}
use Rattle.thread.specs.declared.end.End.{End}
use Rattle.journal_replay.specs.Runs.{EndsAs, IsRun, config_of}
use Rattle.protocol_values.specs.Commits.{most_rows}

-- each commit of a run of a script that some text spells has a line
abbrev pub RunHasLines : Type 0
RunHasLines =
    (s : Script) → IsSpelled s → (rows : ℕ) → rows ≤ most_rows → (journal : List Commit) → IsRun s.processes rows journal →
    AllByRecursion (HasLine (names_of s)) journal

-- and each atom that its processes print has a text
abbrev pub PrintedHasNames : Type 0
PrintedHasNames =
    (s : Script) → IsSpelled s → (rows : ℕ) → rows ≤ most_rows → (journal : List Commit) → IsRun s.processes rows journal →
    (t : ℕ) (end : End) (printed : List Atom) → EndsAs s.processes rows t (config_of journal) end printed →
    AllByRecursion (HasAtom (names_of s)) printed

-- so the text of its journal is read as that journal again, and none of its lines is bad
abbrev pub RunIsReadAgain : Type 0
RunIsReadAgain =
    (s : Script) → IsSpelled s → (rows : ℕ) → rows ≤ most_rows → (journal : List Commit) → IsRun s.processes rows journal →
    Spells s (commits_text (named s) journal) journal × ((k : ℕ) → IsFirstBadLine s (commits_text (named s) journal) k → ⊥)
