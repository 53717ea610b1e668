-- Each sync has at most 8 base events and 4 nacks, also those in the bodies of guards and nacks.
use Rattle.std.specs.Prelude.{⊤}
use Rattle.script_tree.specs.Lined.{IsSmall, Event, Sends, Receives, IsReady, IsNever, IsCancelled, IsJoined, Chooses, Wraps, Guards, Nacks, Events, NoMembers, Members, Stmt, Lets, Prints, Syncs, Branches, Loops, LoopsForever, Ends, Spawns, Block, Stops, Runs}

-- each sync in the bodies of its guards and nacks is small
abbrev mutual
  pub EventFits : Event → Type 0
  EventFits (Sends channel list) = ⊤
  EventFits (Receives channel) = ⊤
  EventFits (IsReady list) = ⊤
  EventFits IsNever = ⊤
  EventFits (IsCancelled nack) = ⊤
  EventFits (IsJoined process) = ⊤
  EventFits (Chooses members) = MembersFit members
  EventFits (Wraps event names list) = EventFits event
  EventFits (Guards body event) = BlockFits body × EventFits event
  EventFits (Nacks name body event) = BlockFits body × EventFits event

  pub MembersFit : Events → Type 0
  MembersFit NoMembers = ⊤
  MembersFit (Members event others) = EventFits event × MembersFit others

  pub StmtFits : Stmt → Type 0
  StmtFits (Lets name value) = ⊤
  StmtFits (Prints value) = ⊤
  StmtFits (Syncs names event) = EventFits event × IsSmall event
  StmtFits (Branches test first second) = BlockFits first × BlockFits second
  StmtFits (Loops number line names event rest) = EventFits event × (IsSmall event × BlockFits rest)
  StmtFits (LoopsForever line names event rest) = EventFits event × (IsSmall event × BlockFits rest)
  StmtFits Ends = ⊤
  StmtFits (Spawns process) = ⊤

  pub BlockFits : Block → Type 0
  BlockFits Stops = ⊤
  BlockFits (Runs stmt line rest) = StmtFits stmt × BlockFits rest
