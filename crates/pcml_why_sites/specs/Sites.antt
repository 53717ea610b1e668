-- Where each process stands.
use Rattle.std.specs.Prelude.{◌≡◌, ℕ, List, length, Option, Some, slice_get, ⊤}
use Rattle.std.specs.Global.{Vec}
use Rattle.thread.specs.After.{State as Thread}
use Rattle.pcml_why_sites.specs.Standing.{Standing}
use Rattle.pcml_why_sites.specs.Stands.{IsTold, standing_of}
use Rattle.pcml_why_sites.specs.declared.stand.Stand.{Stand}
use Rattle.pcml_why_sites.specs.declared.stand.Stand.TheVariants.{Offers}
use Rattle.thread.specs.Values.{Store}
use Rattle.script_tree.specs.Processes.{Proc}
use Rattle.protocol_values.specs.declared.Atom.{Atom}
use Rattle.protocol_values.specs.declared.Commit.{Commit}
use Rattle.journal_replay.specs.Lines.{TellsLine}
use Rattle.journal_replay.specs.Replays.{TellsEnd, TellsOpen, thread_count}
use Rattle.journal_replay.specs.Runs.{config_of}
use Rattle.thread.specs.declared.end.End.{End}
use Rattle.thread.specs.declared.end.End.TheVariants.{Waiting, Faulted}
use Rattle.journal_replay.specs.declared.state.State.{State}
use Rattle.pcml_why_sites.specs.declared.site.Site.{Site}

-- how a process that faulted stands, with what went wrong
abbrev pub TellsFault : End → Standing Thread → Stand → Type 0
TellsFault (Faulted fault) standing stand = IsTold standing stand
TellsFault end standing stand = ⊤

-- the same, and how a process that waits stands: with these variables
abbrev pub TellsStand : End → Standing Thread → Store → Stand → Type 0
TellsStand Waiting standing variables stand = (store : Vec (Option Atom)) → store.items ≡ variables → IsTold standing (Offers store)
TellsStand end standing variables stand = TellsFault end standing stand

-- a process as the state has it, where these commits led
pub record TellsSite (ps : List Proc) (commits : List Commit) (state : State) (t : ℕ) (s : Site) : Type 0 where
  pub end : TellsEnd state t s.end
  pub line : TellsLine state t s.line
  pub offers : TellsOpen state t s.offers.now s.nacks.now
  pub stand : (p : Proc) → slice_get ps t ≡ Some p → TellsStand s.end (standing_of p t (config_of commits t)) s.variables.now s.stand

-- one for each process of the state, in their order
pub record AreSites (ps : List Proc) (commits : List Commit) (state : State) (sites : List Site) : Type 0 where
  pub count : length sites ≡ thread_count state
  pub each : (t : ℕ) (s : Site) → slice_get sites t ≡ Some s → TellsSite ps commits state t s
