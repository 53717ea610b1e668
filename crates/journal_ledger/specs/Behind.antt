-- Ledgers that go on behind a run: their tables began where it led.
use Rattle.std.specs.Prelude.{zero, suc, ◌≡◌, ℕ, ◌+◌, ◌*◌, ◌<◌, ◌≤◌, nat_lt, if◌then◌else◌, ◌++◌, List, Option, None, Some, length, map, slice_get, take, Contains}
use Rattle.script_tree.specs.Processes.{Proc}
use Rattle.thread.specs.After.{Chosen}
use Rattle.protocol_values.specs.declared.Commit.{Commit}
use Rattle.protocol_values.specs.declared.Commit.TheVariants.{Pair, Alone}
use Rattle.protocol_values.specs.declared.NackName.{NackName}
use Rattle.protocol_values.specs.declared.Row.{Row}
use Rattle.protocol_values.specs.Commits.{Gives, stamp_of}
use Rattle.protocol_ledger.specs.Acting.{Acts, ActsAs, Before, EndsAt, HasStart, before_of}
use Rattle.protocol_ledger.specs.Ledgers.{HasCommit, Ledger, IsLawful, carried_in, course_in}
use Rattle.protocol_ledger.specs.Openings.{HadEnded, HadStarted, IsLastStamp, Opening, TellsEnd, TellsNack, state_in, word_for}
use Rattle.protocol_ledger.specs.Standing.{AreResults}
use Rattle.protocol_ledger.specs.declared.opening.NackState.{NackState}
use Rattle.protocol_ledger.specs.declared.opening.NackState.TheVariants.{Enabled, Unbound}
use Rattle.protocol_ledger.specs.Tables.{carried_by}
use Rattle.journal_replay.specs.Runs.{Config, CountsOf, HasThread, IsGreatest, IsRun, Starts, config_of}
use Rattle.journal_replay.specs.Standing.{KnowsNack}
use Rattle.journal_replay.specs.Starting.{HasEnded}
use Rattle.journal_ledger.specs.Ledgers.{IsOrderOf, ProcessOffers, ProcessSpawns, fired_as}

-- THE RUN'S NUMBERS of syncs: behind those that the thread made before

abbrev pub numbered : Config → Row × ℕ → Row × ℕ
numbered had at = (record { thread = at.0.thread; sync = length (had at.0.thread) + at.0.sync }, at.1)

abbrev pub renumbered : Config → Commit → Commit
renumbered had (Pair sender receiver chan msg stamp) = Pair (numbered had sender) (numbered had receiver) chan msg stamp
renumbered had (Alone at why stamp) = Alone (numbered had at) why stamp

-- the commits of the run, and behind them those of a table that began where it led
abbrev pub run_on : List Commit → List Commit → List Commit
run_on before commits = before ++ map (renumbered (config_of before)) commits

-- WHAT THREADS DO of processes, behind these results
abbrev pub acts_behind : List Proc → Config → Acts
acts_behind ps had = record {
  offers = λ t results. ProcessOffers ps t (had t ++ results);
  starts = λ s results t. ProcessSpawns ps s (had s ++ results) t;
  ends = λ t results. HasEnded ps t (had t ++ results);
}

-- a nack that an earlier table settled was fired where it has a stamp
abbrev pub fired_before : Option ℕ → Option ℕ
fired_before None = None
fired_before (Some zero) = None
fired_before (Some (suc stamp)) = Some (suc stamp)

-- What went before the ledger's table is where the run led. Who had started did so there, with the last stamp that counts for what it
-- does next; who had ended has ended there; each thread of a commit had started, with no lower stamp; and the nacks that were settled
-- with a stamp, and no others, were fired there, by the commit of that stamp.
pub record IsBehind (ps : List Proc) (before : List Commit) (had : Before) (l : Ledger) : Type 0 where
  pub started : (t stamp : ℕ) → had.started t stamp → Starts ps (config_of before) t × IsGreatest before (CountsOf ps (config_of before) t) stamp
  pub ended : (t : ℕ) → had.ended t → HasEnded ps t (config_of before t)
  pub below : (d : Commit) (t : ℕ) → Contains before d → HasThread d t → (t < l.threads) × (start : ℕ) × HasStart (course_in l t) start × (stamp_of d ≤ start)
  pub nacks : (n : NackName) → KnowsNack ps n.thread (config_of before n.thread) before n.k (fired_before (carried_in l n))

-- A lawful ledger, with its commits in order, whose table went on where a run of so many rows led, and whose threads did what their
-- processes do behind their results there.
pub record GoesOn (ps : List Proc) (rows : ℕ) (before : List Commit) (had : Before) (l : Ledger) (commits : List Commit) : Type 0 where
  pub run : IsRun ps rows before
  pub lawful : IsLawful l
  pub behind : IsBehind ps before had l
  pub acts : ActsAs had (acts_behind ps (config_of before)) l
  pub room : (t : ℕ) → t < l.threads → length (config_of before t) + l.rows ≤ rows
  pub order : IsOrderOf l commits

-- of each such ledger whose table went on from an opening
abbrev pub OfEach : (List Proc → ℕ → List Commit → Ledger → List Commit → Type 0) → Type 0
OfEach Law = (ps : List Proc) (rows : ℕ) (before : List Commit) (o : Opening) (l : Ledger) (commits : List Commit) → GoesOn ps rows before (before_of o) l commits → Law ps rows before l commits

-- the run and the ledger's commits behind it are a run
abbrev pub RunsBehind : List Proc → ℕ → List Commit → Ledger → List Commit → Type 0
RunsBehind ps rows before l commits = IsRun ps rows (run_on before commits)

-- WHAT THE LEDGER TELLS OF ITS END is so where they lead: the results of a thread's first rows stand behind those that it had,
abbrev pub TellsResultsOn : List Proc → ℕ → List Commit → Ledger → List Commit → Type 0
TellsResultsOn ps rows before l commits =
    (t : ℕ) (results : List Chosen) → AreResults l t results → config_of before t ++ results ≡ take (length (config_of before t ++ results)) (config_of (run_on before commits) t)

-- and each result behind those is one of a row of the ledger,
abbrev pub TellsRowsOn : List Proc → ℕ → List Commit → Ledger → List Commit → Type 0
TellsRowsOn ps rows before l commits =
    (t g : ℕ) (result : Chosen) → slice_get (config_of (run_on before commits) t) (length (config_of before t) + g) ≡ Some result → (c : Commit) × HasCommit l c × Gives c (record { thread = t; sync = g }) result

-- a nack was fired where the ledger calls it enabled, and by the commit of that stamp,
abbrev pub TellsNacksOn : List Proc → ℕ → List Commit → Ledger → List Commit → Type 0
TellsNacksOn ps rows before l commits =
    (n : NackName) (state : NackState) → TellsNack l n state → KnowsNack ps n.thread (config_of (run_on before commits) n.thread) (run_on before commits) n.k (fired_as state)

-- the last stamp of a thread that has started is the greatest that counts for what it does next,
abbrev pub TellsStampsOn : List Proc → ℕ → List Commit → Ledger → List Commit → Type 0
TellsStampsOn ps rows before l commits =
    (t start stamp : ℕ) → HasStart (course_in l t) start → IsLastStamp l t stamp → IsGreatest (run_on before commits) (CountsOf ps (config_of (run_on before commits)) t) stamp

-- it has started in the run,
abbrev pub TellsStartsOn : List Proc → ℕ → List Commit → Ledger → List Commit → Type 0
TellsStartsOn ps rows before l commits = (t start : ℕ) → HasStart (course_in l t) start → Starts ps (config_of (run_on before commits)) t

-- who has ended has ended there,
abbrev pub TellsEndsOn : List Proc → ℕ → List Commit → Ledger → List Commit → Type 0
TellsEndsOn ps rows before l commits = (t g : ℕ) → EndsAt (course_in l t) g → HasEnded ps t (config_of (run_on before commits) t)

-- and each thread of a commit is one of the table, and has started
abbrev pub TellsThreadsOn : List Proc → ℕ → List Commit → Ledger → List Commit → Type 0
TellsThreadsOn ps rows before l commits =
    (d : Commit) (t : ℕ) → Contains (run_on before commits) d → HasThread d t → (t < l.threads) × (start : ℕ) × HasStart (course_in l t) start

-- WHAT AN OPENING TELLS OF A RUN

-- what became of a nack, of which a thread has 64
abbrev pub nack_state : Opening → NackName → NackState
nack_state o n = if nat_lt n.k 64 then state_in o n else Unbound

-- Who had started did so in the run, with the last stamp that counts for what it does next, and who had ended has ended there; each
-- thread of a commit had started; and a nack was fired there where the opening calls it enabled, by the commit of that stamp.
pub record TellsRun (ps : List Proc) (before : List Commit) (o : Opening) : Type 0 where
  pub started : (t stamp : ℕ) → HadStarted o t stamp → Starts ps (config_of before) t × IsGreatest before (CountsOf ps (config_of before) t) stamp
  pub ended : (t : ℕ) → HadEnded o t → HasEnded ps t (config_of before t)
  pub threads : (d : Commit) (t : ℕ) → Contains before d → HasThread d t → (stamp : ℕ) × HadStarted o t stamp
  pub nacks : (n : NackName) → KnowsNack ps n.thread (config_of before n.thread) before n.k (fired_as (nack_state o n))
  pub positive : (n : NackName) (stamp : ℕ) → nack_state o n ≡ Enabled stamp → 1 ≤ stamp

-- the ledger is of a table that went on from the opening, of as many threads
pub record WentOn (o : Opening) (l : Ledger) : Type 0 where
  pub threads : length o.threads ≡ l.threads
  pub states : length o.nacks ≡ l.threads * 64
  pub before : (t stamp : ℕ) → HadStarted o t stamp → HasStart (course_in l t) stamp
  pub carried : (n : NackName) → n.thread < l.threads → n.k < 64 → carried_in l n ≡ carried_by (word_for (state_in o n))

-- where an opening tells of a run, a ledger that went on from it is behind the run
abbrev pub OpeningsLead : Type 0
OpeningsLead = (ps : List Proc) (before : List Commit) (o : Opening) (l : Ledger) → TellsRun ps before o → WentOn o l → IsBehind ps before (before_of o) l

-- and what such a ledger tells of its end is an opening that tells of the run which it led on
abbrev pub TellsRunOn : List Proc → ℕ → List Commit → Ledger → List Commit → Type 0
TellsRunOn ps rows before l commits = (o : Opening) → TellsEnd l o.threads o.nacks → TellsRun ps (run_on before commits) o

abbrev pub TellsRunFirst : List Proc → Ledger → List Commit → Type 0
TellsRunFirst ps l commits = (o : Opening) → TellsEnd l o.threads o.nacks → TellsRun ps commits o
