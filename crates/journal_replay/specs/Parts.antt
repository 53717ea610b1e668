-- Who takes part in a commit.
use Rattle.std.specs.Prelude.{◌==◌, ◌||◌, ℕ, Bool}
use Rattle.protocol_values.specs.declared.Commit.{Commit}
use Rattle.protocol_values.specs.declared.Commit.TheVariants.{Pair, Alone}

-- a row of the commit is the thread's
abbrev pub takes_part : ℕ → Commit → Bool
takes_part t (Pair sender receiver chan msg stamp) = (t == sender.0.thread) || (t == receiver.0.thread)
takes_part t (Alone at why stamp) = t == at.0.thread
