-- What running a script prints.
use Rattle.std.specs.Prelude.{◌≡◌, ◌≢◌, ◌*◌, ◌<◌, ◌≤◌, ℕ, List, [], ◌∷◌, ◌++◌, length, codes, map, Option, None, Some, slice_get, IsPermutation}
use Rattle.std.specs.List.{AllByRecursion}
use Rattle.std.specs.Fmt.{decimal}
use Rattle.protocol_values.specs.declared.Commit.{Commit}
use Rattle.protocol_ledger.specs.Ledgers.{IsLawful, Ledger, commits_in}
use Rattle.script.specs.Sources.{Script}
use Rattle.journal_text.specs.Journals.{HasAtom, Spells}
use Rattle.journal_text.specs.Names.{names_of, named}
use Rattle.journal_text.specs.Texts.{commits_text}
use Rattle.journal_ledger.specs.Ledgers.{IsLedgerOf}
use Rattle.journal_replay.specs.Runs.{IsRun, config_of}
use Rattle.thread.specs.declared.end.End.{End}
use Rattle.thread.specs.declared.end.End.TheVariants.{Spent}
use Rattle.runtime_run.specs.Headline.{IsFreeRun, IsMaximalRun}
use Rattle.runtime.specs.Played.{ArePlayedWithin}
use Rattle.journal.specs.declared.record.Record.{Record}
use Rattle.pcml_answers.specs.Standings.{Standing, AreStandings, StandAs, process_lines}

-- the last line: how many commits there are, and how many of them the workers left to be added
abbrev pub tail_line : ℕ → ℕ → List ℕ
tail_line commits tail = codes "commits " ++ decimal commits ++ codes " tail " ++ decimal tail ++ 10 ∷ []

-- the lines tell the record's commits, and the rest how each process stands, and how many commits there are
pub record TellsRecord (s : Script) (r : Record) (lines rest : List ℕ) : Type 0 where
  pub standing : List Standing
  pub are : AreStandings r.ends.items (map (λ v. v.items) r.outputs.items) standing
  pub are_lines : lines ≡ commits_text (named s) r.journal.items
  pub is : rest ≡ process_lines (named s) standing ++ tail_line (length r.journal.items) r.tail

-- these are the ends of the processes that stand so
pub record AreEnds (standing : List Standing) (ends : List End) : Type 0 where
  pub count : length ends ≡ length standing
  pub each : (t : ℕ) (p : Standing) → slice_get standing t ≡ Some p → slice_get ends t ≡ Some p.end

-- The lines tell the commits of a maximal run of the script's processes, of so many rows each, in stamp order and in the script's
-- names; the rest tells how each process stands where they lead, and how many commits there are. The lines are read as those
-- commits again, and each atom that is printed has a name.
pub record TellsRunOf (s : Script) (rows : ℕ) (journal : List Commit) (ends : List End) (lines rest : List ℕ) : Type 0 where
  pub run : IsMaximalRun s.processes rows journal
  pub spells : Spells s (commits_text (named s) journal) journal
  pub standing : List Standing
  pub stand : StandAs s.processes rows (config_of journal) standing
  pub ended : AreEnds standing ends
  pub nameable : (t : ℕ) (p : Standing) → slice_get standing t ≡ Some p → AllByRecursion (HasAtom (names_of s)) p.printed
  pub tail : ℕ
  pub few : tail ≤ length journal
  -- it counts the commits that a lawful ledger of the script's processes did not have
  pub ledger : Ledger
  pub lawful : IsLawful ledger
  pub of : IsLedgerOf s.processes ledger
  pub added : List Commit
  pub whole : IsPermutation (commits_in ledger ++ added) journal
  pub counted : length added ≡ tail
  pub are : lines ≡ commits_text (named s) journal
  pub is : rest ≡ process_lines (named s) standing ++ tail_line (length journal) tail

-- The same of a run in at most so many seasons, of so many rows each, which ends for no want of syncs: it is maximal however many each
-- process may make, no process is spent, and each stands so wherever it may make more syncs than it did. Yet none makes more than all
-- seasons have rows. It counts the commits that the seasons did not have.
pub record TellsFreelyOf (s : Script) (rows seasons : ℕ) (journal : List Commit) (ends : List End) (lines rest : List ℕ) : Type 0 where
  pub run : IsFreeRun s.processes journal
  pub spells : Spells s (commits_text (named s) journal) journal
  pub standing : List Standing
  pub stand : (rows : ℕ) → ((t : ℕ) → length (config_of journal t) < rows) → StandAs s.processes rows (config_of journal) standing
  pub ended : AreEnds standing ends
  pub never_spent : (t : ℕ) (p : Standing) → slice_get standing t ≡ Some p → p.end ≢ Spent
  pub nameable : (t : ℕ) (p : Standing) → slice_get standing t ≡ Some p → AllByRecursion (HasAtom (names_of s)) p.printed
  pub tail : ℕ
  pub few : tail ≤ length journal
  pub in_rows : IsRun s.processes (seasons * rows) journal
  pub given : List Commit
  pub played : ArePlayedWithin s.processes rows seasons given
  pub added : List Commit
  pub whole : IsPermutation (given ++ added) journal
  pub counted : length added ≡ tail
  pub are : lines ≡ commits_text (named s) journal
  pub is : rest ≡ process_lines (named s) standing ++ tail_line (length journal) tail

-- in seasons, where a number of these is named
abbrev pub TellsAsked : Script → ℕ → Option ℕ → List Commit → List End → List ℕ → List ℕ → Type 0
TellsAsked s rows None journal ends lines rest = TellsRunOf s rows journal ends lines rest
TellsAsked s rows (Some seasons) journal ends lines rest = TellsFreelyOf s rows seasons journal ends lines rest
