-- Which commits so many seasons can make, and when so many are too few.
use Rattle.std.specs.Prelude.{◌≡◌, ◌⊎◌, ◌≤◌, ◌+◌, ◌*◌, ℕ, List, [], Some, length, slice_get}
use Rattle.protocol_values.specs.declared.Commit.{Commit}
use Rattle.script_tree.specs.Processes.{Proc}
use Rattle.protocol_ledger.specs.Acting.{before_of}
use Rattle.protocol_ledger.specs.Ledgers.{Ledger}
use Rattle.protocol_ledger.specs.Openings.{Opening}
use Rattle.protocol_values.specs.declared.Offer.{Offer}
use Rattle.thread.specs.declared.end.End.{End}
use Rattle.thread.specs.declared.end.End.TheVariants.{Spent}
use Rattle.journal_replay.specs.Runs.{config_of}
use Rattle.journal_ledger.specs.Ledgers.{ProcessOffers}
use Rattle.journal_ledger.specs.Behind.{GoesOn, run_on}
use Rattle.journal.specs.Records.{CompletesRun}
use Rattle.journal.specs.declared.record.Record.{Record}

-- One season, the n-th: its table has so many rows a process and went on from an opening, where the commits of the seasons before led. It
-- left a lawful ledger, in which threads did what their processes do there. The ledger's commits, in order and numbered on, stand behind
-- those of the seasons before.
pub record PlaysSeason (ps : List Proc) (each n : ℕ) (before journal : List Commit) : Type 0 where
  pub opening : Opening
  pub ledger : Ledger
  pub commits : List Commit
  pub size : ledger.rows ≡ each
  pub on : GoesOn ps (n * each) before (before_of opening) ledger commits
  pub whole : journal ≡ run_on before commits

-- The commits of so many seasons, one after another, of so many rows each.
pub data ArePlayed (ps : List Proc) (each : ℕ) : ℕ → List Commit → Type 0 where
  NoSeason : ArePlayed ps each 0 []
  OneMore : {n : ℕ} {before journal : List Commit} (earlier : ArePlayed ps each n before) (season : PlaysSeason ps each (n + 1) before journal) → ArePlayed ps each (n + 1) journal

-- so in no more than so many seasons, of no more than so many rows each
pub record ArePlayedWithin (ps : List Proc) (rows seasons : ℕ) (journal : List Commit) : Type 0 where
  pub each : ℕ
  pub count : ℕ
  pub narrow : each ≤ rows
  pub few : count ≤ seasons
  pub played : ArePlayed ps each count journal

-- So many seasons were played, of so many rows each, and one more is needed: behind them a process stands at a sync, and has made as many
-- in the last one as that has rows.
pub record NeedsOneMore (ps : List Proc) (rows seasons : ℕ) : Type 0 where
  pub done : ℕ
  pub before : List Commit
  pub journal : List Commit
  pub count : seasons ≡ done + 1
  pub earlier : ArePlayed ps rows done before
  pub last : PlaysSeason ps rows (done + 1) before journal
  pub thread : ℕ
  pub offers : List Offer
  pub nacks : List ℕ
  pub stands : ProcessOffers ps thread (config_of journal thread) offers nacks
  pub spent : length (config_of before thread) + rows ≤ length (config_of journal thread)

-- a process stands at a sync, with as many results as it has rows
abbrev pub HasSpent : List End → Type 0
HasSpent ends = (t : ℕ) × (slice_get ends t ≡ Some Spent)

-- Led on to their end, the commits of the seasons leave a process at a sync, with as many results as all seasons have rows.
pub record NeedsMoreRows (ps : List Proc) (rows seasons : ℕ) : Type 0 where
  pub commits : List Commit
  pub played : ArePlayedWithin ps rows seasons commits
  pub end : Record
  pub completes : CompletesRun ps (seasons * rows) commits end
  pub spent : HasSpent end.ends.items

-- SO MANY SEASONS, of so many rows each, ARE TOO FEW: one more is needed, or more rows than all of them have
abbrev pub NeedsSeasons : List Proc → ℕ → ℕ → Type 0
NeedsSeasons ps rows seasons = NeedsOneMore ps rows seasons ⊎ NeedsMoreRows ps rows seasons
