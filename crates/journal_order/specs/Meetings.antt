-- What a commit says of the syncs that it names, by the results of their threads at the end.
use Rattle.std.specs.Prelude.{◌≡◌, ◌≢◌, ℕ, List, take, Some, slice_get}
use Rattle.event.specs.Tree.{Tree, BaseEvent, bases}
use Rattle.script_tree.specs.Processes.{Proc}
use Rattle.thread.specs.After.{Chosen}
use Rattle.protocol_values.specs.declared.Base.{Base}
use Rattle.protocol_values.specs.declared.Base.TheVariants.{Send, Recv, Always, OnNack, OnEnd}
use Rattle.protocol_values.specs.declared.Cause.TheVariants as cause
use Rattle.protocol_values.specs.declared.Commit.{Commit}
use Rattle.protocol_values.specs.declared.Commit.TheVariants.{Pair, Alone}
use Rattle.protocol_values.specs.declared.Message.{Message}
use Rattle.protocol_values.specs.declared.Message.TheVariants.{Empty}
use Rattle.protocol_values.specs.declared.Row.{Row}
use Rattle.journal_replay.specs.Runs.{Config, HasEnded, IsFiredAt, IsOffering, Starts}

-- Of a thread with these results, the sync of this row offered the base event under this number, took it, and got this message.
pub record Took (ps : List Proc) (results : List Chosen) (at : Row × ℕ) (b : Base) (msg : Message) : Type 0 where
  pub result : slice_get results at.0.sync ≡ Some (at.1, msg)
  pub event : Tree
  pub offered : IsOffering ps at.0.thread (take at.0.sync results) event
  pub base : BaseEvent
  pub is : slice_get (bases event) at.1 ≡ Some base
  pub same : base.base ≡ b

abbrev pub TookAt : List Proc → Config → Row × ℕ → Base → Message → Type 0
TookAt ps config at b msg = Took ps (config at.0.thread) at b msg

-- A pair is of two threads: one sent the message on the channel, and the other received on it and got that message. A sync that
-- was committed alone took an always and got its message, or a nack that was fired: some sync of its thread chose outside its scope;
-- or it waited for the end of a thread that has started and ended.
abbrev pub Meets : List Proc → Config → Commit → Type 0
Meets ps config (Pair sender receiver chan msg stamp) =
    (sender.0.thread ≢ receiver.0.thread) × TookAt ps config sender (Send chan msg) Empty × TookAt ps config receiver (Recv chan) msg
Meets ps config (Alone at (cause.Always m) stamp) = TookAt ps config at (Always m) m
Meets ps config (Alone at (cause.Nack n) stamp) = TookAt ps config at (OnNack n) Empty × ((g : ℕ) × IsFiredAt ps config n g)
Meets ps config (Alone at (cause.End t) stamp) = TookAt ps config at (OnEnd t) Empty × Starts ps config t × HasEnded ps t (config t)
