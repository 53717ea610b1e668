-- What a search for a commit that may come next looks through.
use Rattle.std.specs.Prelude.{◌≡◌, ◌≢◌, ◌⊎◌, ⊤, ℕ, ◌+◌, ◌<◌, ◌≤◌, max, List, [], length, Option, Some, None, Contains, slice_get, slice_index_or}
use Rattle.std.specs.List.{sum_by}
use Rattle.protocol_values.specs.declared.Base.{Base}
use Rattle.protocol_values.specs.declared.Base.TheVariants.{Send, Recv, OnNack, OnEnd, Never}
use Rattle.protocol_values.specs.declared.Base.TheVariants as base
use Rattle.protocol_values.specs.declared.Cause.{Cause}
use Rattle.protocol_values.specs.declared.Cause.TheVariants.{Always, Nack, End}
use Rattle.protocol_values.specs.declared.Commit.{Commit}
use Rattle.protocol_values.specs.declared.Commit.TheVariants.{Pair, Alone}
use Rattle.protocol_values.specs.declared.Message.{Message}
use Rattle.protocol_values.specs.declared.NackName.{NackName}
use Rattle.protocol_values.specs.declared.Row.{Row}
use Rattle.journal_replay.specs.declared.open_offers.OpenOffers.{OpenOffers}
use Rattle.thread_strand.specs.declared.strand.Strand.{Strand}
use Rattle.protocol_values.specs.declared.Side.{Side}
use Rattle.protocol_values.specs.declared.Side.TheVariants.{Sends, Receives}
use Rattle.journal_replay.specs.Standing.{CauseIsAt, Finds, MayFollow, base_for, ended_in, last_in, fired_in}

-- offers by row and number
abbrev pub Places : Type 0
Places = List (Row × ℕ)

-- the base event on one side of a channel; a receive sends nothing
abbrev pub base_on : Side → ℕ → Message → Base
base_on Sends c m = Send c m
base_on Receives c m = Recv c

-- what is open on this side of the channel stays listed
abbrev pub KeepsSide : List Strand → ℕ → Side → ℕ → Places → Places → Type 0
KeepsSide strands rows side c old new =
    (at : Row × ℕ) (m : Message) → Finds strands rows at (base_on side c m) → Contains old at → Contains new at

-- a cause that another commit brings about: a nack that is fired, or the end of a thread
abbrev pub IsBrought : Cause → Type 0
IsBrought (Always m) = ⊥
IsBrought (Nack n) = ⊤
IsBrought (End t) = ⊤

abbrev pub KeepsBrought : List Strand → ℕ → Places → Places → Type 0
KeepsBrought strands rows old new = (at : Row × ℕ) (why : Cause) → IsBrought why → Finds strands rows at (base_for why) → Contains old at → Contains new at

-- an offer on this side of the channel by another thread, or none where all that are listed are by this thread
abbrev pub TakesOther : List Strand → ℕ → Side → ℕ → ℕ → Places → Option ((Row × ℕ) × Message) → Type 0
TakesOther strands rows side c t listed None =
    (at : Row × ℕ) (m : Message) → Finds strands rows at (base_on side c m) → Contains listed at → at.0.thread ≡ t
TakesOther strands rows side c t listed (Some w) = Finds strands rows w.0 (base_on side c w.1) × (w.0.0.thread ≢ t)

-- the same of all that the threads offer
abbrev pub FindsOther : List Strand → ℕ → Side → ℕ → ℕ → Option ((Row × ℕ) × Message) → Type 0
FindsOther strands rows side c t None = (at : Row × ℕ) (m : Message) → Finds strands rows at (base_on side c m) → at.0.thread ≡ t
FindsOther strands rows side c t (Some w) = Finds strands rows w.0 (base_on side c w.1) × (w.0.0.thread ≢ t)

-- the commit alone, with its stamp
abbrev pub IsAlone : List Strand → Row × ℕ → Cause → Commit → Type 0
IsAlone strands at why c = (below : ℕ) × CauseIsAt strands (last_in strands at.0.thread) why below × (c ≡ Alone at why (below + 1))

abbrev pub NoCause : List Strand → Row × ℕ → Cause → Type 0
NoCause strands at why = (below : ℕ) → CauseIsAt strands (last_in strands at.0.thread) why below → ⊥

-- the rendezvous of two offers, with its stamp
abbrev pub pair_of : List Strand → Row × ℕ → Row × ℕ → ℕ → Message → Commit
pair_of strands sender receiver c m = Pair sender receiver c m (max (last_in strands sender.0.thread) (last_in strands receiver.0.thread) + 1)

-- no nack is fired, and no thread has ended, for which a listed offer waits
abbrev pub NoneBrought : List Strand → ℕ → Places → Type 0
NoneBrought strands rows listed =
    (at : Row × ℕ) (why : Cause) → IsBrought why → Finds strands rows at (base_for why) → Contains listed at → NoCause strands at why

-- the commit takes this offer, and neither a nack nor an end is its cause
abbrev pub IsWith : Row × ℕ → Commit → Type 0
IsWith at (Pair sender receiver c m stamp) = (sender ≡ at) ⊎ (receiver ≡ at)
IsWith at (Alone row (Always m) stamp) = row ≡ at
IsWith at (Alone row (Nack n) stamp) = ⊥
IsWith at (Alone row (End t) stamp) = ⊥

abbrev pub NoneMay : List Strand → ℕ → Type 0
NoneMay strands rows = (c : Commit) (below : ℕ) → MayFollow strands rows c below → ⊥

abbrev pub NoneMayWith : List Strand → ℕ → Row × ℕ → Type 0
NoneMayWith strands rows at = (c : Commit) (below : ℕ) → MayFollow strands rows c below → IsWith at c → ⊥

-- OPEN OFFERS

-- there is a list for each number of a channel
abbrev pub HasChannels : OpenOffers → Type 0
HasChannels o = (length o.senders.items ≡ 256) × (length o.receivers.items ≡ 256)

-- the offer is listed where its base event belongs
abbrev pub IsListed : OpenOffers → Row × ℕ → Base → Type 0
IsListed o at (Send c m) = Contains (slice_index_or o.senders.items c []) at
IsListed o at (Recv c) = Contains (slice_index_or o.receivers.items c []) at
IsListed o at (OnNack n) = Contains o.brought at
IsListed o at (OnEnd t) = Contains o.brought at
IsListed o at (base.Always m) = ⊤
IsListed o at Never = ⊤

-- an offer that the commit takes is untried, or a nack or an end is its cause
abbrev pub HasUntried : OpenOffers → Commit → Type 0
HasUntried o (Pair sender receiver c m stamp) = Contains o.untried sender ⊎ Contains o.untried receiver
HasUntried o (Alone row (Always m) stamp) = Contains o.untried row
HasUntried o (Alone row (Nack n) stamp) = ⊤
HasUntried o (Alone row (End t) stamp) = ⊤

-- all that the threads offer is listed, and of what is tried no commit comes
pub record Covers (strands : List Strand) (rows : ℕ) (o : OpenOffers) : Type 0 where
  pub channels : HasChannels o
  pub listed : (at : Row × ℕ) (b : Base) → Finds strands rows at b → IsListed o at b
  pub untried : (c : Commit) (below : ℕ) → MayFollow strands rows c below → HasUntried o c

-- nothing is taken away
pub record Keeps (old new : OpenOffers) : Type 0 where
  pub channels : HasChannels old → HasChannels new
  pub listed : (at : Row × ℕ) (b : Base) → IsListed old at b → IsListed new at b
  pub untried : (at : Row × ℕ) → Contains old.untried at → Contains new.untried at

pub record Lists (at : Row × ℕ) (b : Base) (old new : OpenOffers) : Type 0 where
  pub channels : HasChannels old → HasChannels new
  pub kept : (x : Row × ℕ) (d : Base) → IsListed old x d → IsListed new x d
  pub there : IsListed new at b
  pub untried : new.untried ≡ old.untried

pub record Adds (at : Row × ℕ) (b : Base) (old new : OpenOffers) : Type 0 where
  pub keeps : Keeps old new
  pub listed : IsListed new at b
  pub untried : Contains new.untried at

-- what thread t offers is there, and is untried
pub record Opens (strands : List Strand) (rows t : ℕ) (old new : OpenOffers) : Type 0 where
  pub keeps : Keeps old new
  pub listed : (at : Row × ℕ) (b : Base) → at.0.thread ≡ t → Finds strands rows at b → IsListed new at b
  pub untried : (at : Row × ℕ) (b : Base) → at.0.thread ≡ t → Finds strands rows at b → Contains new.untried at

-- BOUNDS

-- how many syncs all threads made
abbrev pub total : List Strand → ℕ
total strands = sum_by (λ s. length s.machine.results) strands

-- each thread made few syncs, and no stamp that is remembered is above the number of all syncs
pub record Bounded (rows : ℕ) (strands : List Strand) : Type 0 where
  pub few : (t : ℕ) (s : Strand) → slice_get strands t ≡ Some s → length s.machine.results ≤ rows
  pub last : (t : ℕ) (s : Strand) → slice_get strands t ≡ Some s → s.last ≤ total strands
  pub fired : (t k stamp : ℕ) (s : Strand) → slice_get strands t ≡ Some s → slice_index_or s.fired k None ≡ Some stamp → stamp ≤ total strands

-- one more than each of these stamps is a stamp
pub record HasRoom (strands : List Strand) : Type 0 where
  pub last : (t : ℕ) → last_in strands t < 4294967295
  pub fired : (n : NackName) (stamp : ℕ) → fired_in strands n ≡ Some stamp → stamp < 4294967295
  pub ended : (t stamp : ℕ) → ended_in strands t ≡ Some stamp → stamp < 4294967295
