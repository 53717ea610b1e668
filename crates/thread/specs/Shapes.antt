-- The tree that an event comes to, by its base events and its nacks, and its wraps by their numbers. All but these
-- stands in the text.
use Rattle.std.specs.Prelude.{ℕ, ◌+◌, List, [], ◌∷◌, ◌++◌, drop, get_or, length}
use Rattle.event.specs.Tree.{Tree, Single, Nothing, Or, Wrap, Scope}
use Rattle.script_tree.specs.Lined.{base_count, nack_count}
use Rattle.script_tree.specs.Lined.{Event, Sends, Receives, IsReady, IsNever, IsCancelled, IsJoined, Chooses, Wraps, Guards, Nacks, Events, NoMembers, Members}
use Rattle.protocol_values.specs.declared.Base.{Base}
use Rattle.protocol_values.specs.declared.Base.TheVariants.{Never}
use Rattle.thread.specs.After.{Wrapping}

-- the wraps of an event, from left to right
abbrev mutual
  pub wraps_in : Event → List Wrapping
  wraps_in (Sends channel list) = []
  wraps_in (Receives channel) = []
  wraps_in (IsReady list) = []
  wraps_in IsNever = []
  wraps_in (IsCancelled nack) = []
  wraps_in (IsJoined process) = []
  wraps_in (Chooses members) = wraps_in_all members
  wraps_in (Wraps event names list) = record { names = names; list = list } ∷ wraps_in event
  wraps_in (Guards body event) = wraps_in event
  wraps_in (Nacks name body event) = wraps_in event

  pub wraps_in_all : Events → List Wrapping
  wraps_in_all NoMembers = []
  wraps_in_all (Members event others) = wraps_in event ++ wraps_in_all others

-- the tree of an event whose first wrap has the number `next`, with these base events and nacks
abbrev mutual
  pub tree_with : ℕ → Event → List Base → List ℕ → Tree
  tree_with next (Sends channel list) bases nacks = Single (get_or bases 0 Never)
  tree_with next (Receives channel) bases nacks = Single (get_or bases 0 Never)
  tree_with next (IsReady list) bases nacks = Single (get_or bases 0 Never)
  tree_with next IsNever bases nacks = Single (get_or bases 0 Never)
  tree_with next (IsCancelled nack) bases nacks = Single (get_or bases 0 Never)
  tree_with next (IsJoined process) bases nacks = Single (get_or bases 0 Never)
  tree_with next (Chooses members) bases nacks = choice_with next members bases nacks
  tree_with next (Wraps event names list) bases nacks = Wrap next (tree_with (next + 1) event bases nacks)
  tree_with next (Guards body event) bases nacks = tree_with next event bases nacks
  tree_with next (Nacks name body event) bases nacks = Scope (get_or nacks 0 0) (tree_with next event bases (drop 1 nacks))

  pub choice_with : ℕ → Events → List Base → List ℕ → Tree
  choice_with next NoMembers bases nacks = Nothing
  choice_with next (Members event others) bases nacks =
      Or (tree_with next event bases nacks)
      (choice_with (next + length (wraps_in event)) others (drop (base_count event) bases) (drop (nack_count event) nacks))
