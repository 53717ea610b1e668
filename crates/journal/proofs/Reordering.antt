-- A state stands after the commits of a run in whatever order they are a run.
use Rattle.std.proofs.Common.{◌≡◌, ℕ, List, Option, Some, None, Contains, slice_index_or, inl, inr, ⊎_elim, sym, subst}
use Rattle.std.specs.Prelude.{IsPermutation}
use Rattle.std.proofs.lemmas.List.Sorted.{Contains-permutation, IsPermutation-sym}
use Rattle.script_tree.specs.Processes.{Proc}
use Rattle.thread.specs.After.{Chosen}
use Rattle.protocol_values.specs.declared.Commit.{Commit}
use Rattle.journal_replay.specs.declared.state.State.{State}
use Rattle.thread_strand.specs.declared.strand.Strand.{Strand}
use Rattle.journal_replay.specs.Replays.{StandsAfter}
use Rattle.journal_replay.specs.Runs.{Config, CountsOf, IsGreatest, IsRun, Starts, config_of}
use Rattle.journal_replay.specs.Standing.{FiresOf, KnowsNack, StandsIn, StrandStands}

module _ (earlier journal : List Commit) (moved : IsPermutation earlier journal) where
  still : (d : Commit) → Contains journal d → Contains earlier d
  still d = Contains-permutation journal earlier d (IsPermutation-sym earlier journal moved)

  greatest : (Kind : Commit → Type 0) (stamp : ℕ) → IsGreatest earlier Kind stamp → IsGreatest journal Kind stamp
  greatest Kind stamp g = record {
    above = λ d has kind. g.above d (still d has) kind;
    there = ⊎_elim (λ none. inl none) (λ w. inr (w.0, Contains-permutation earlier journal w.0 moved w.1, w.2, w.3)) g.there;
  }

  knows : (ps : List Proc) (t : ℕ) (results : List Chosen) (k : ℕ) (stamp : Option ℕ) → KnowsNack ps t results earlier k stamp → KnowsNack ps t results journal k stamp
  knows ps t results k None is = is
  knows ps t results k (Some stamp) is = (is.0, greatest (FiresOf ps t results k) stamp is.1)

  strand : (ps : List Proc) (config : Config) (t : ℕ) (s : Strand) → StrandStands ps config t earlier s → StrandStands ps config t journal s
  strand ps config t s is = record {
    machine = is.machine;
    turn = is.turn;
    spawner = is.spawner;
    free = is.free;
    started = is.started;
    idle = λ no. ((is.idle no).0, λ d has. (is.idle no).1 d (still d has));
    last = λ yes. greatest (CountsOf ps config t) s.last (is.last yes);
    fired = λ k. knows ps t (config t) k (slice_index_or s.fired k None) (is.fired k);
  }

  stands-in : (ps : List Proc) (config : Config) (strands : List Strand) → StandsIn ps config earlier strands → StandsIn ps config journal strands
  stands-in ps config strands is = record {
    count = is.count;
    each = λ t s at. strand ps config t s (is.each t s at);
    made = λ d t has. is.made d t (still d has);
  }

pub stands-reordered : (ps : List Proc) (rows : ℕ) (earlier journal : List Commit) (s : State) → IsPermutation earlier journal → config_of journal ≡ config_of earlier → IsRun ps rows journal → StandsAfter ps rows earlier s → StandsAfter ps rows journal s
stands-reordered ps rows earlier journal s moved same run is = record {
  rows_are = is.rows_are;
  few = is.few;
  low = is.low;
  placed = is.placed;
  later = is.later;
  run = run;
  strands = record {
    stands = subst (λ (config : Config). StandsIn ps config journal s.threads.strands.items) (sym same) (stands-in earlier journal moved ps (config_of earlier) s.threads.strands.items is.strands.stands);
    marked = λ t x at started. is.strands.marked t x at (subst (λ (config : Config). Starts ps config t) same started);
  };
  bounded = is.bounded;
}
