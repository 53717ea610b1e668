-- What the answers of an attempt mean.
use Rattle.std.specs.Prelude.{⊤, ◌≡◌, ◌≢◌, ◌⊎◌, ◌↔◌, ◌<◌, ◌≤◌, ℕ, Bool, true, false, Option, Some, None, List, ◌∷◌, ◌++◌, ◌+◌, length}
use Rattle.protocol_values.specs.declared.Base.TheVariants.{OnEnd, OnNack}
use Rattle.protocol_values.specs.declared.Direction.{Direction}
use Rattle.protocol_values.specs.declared.NackName.{NackName}
use Rattle.protocol_values.specs.declared.Binding.{Binding}
use Rattle.protocol_values.specs.declared.NackWord.{NackWord}
use Rattle.protocol_values.specs.declared.NackWord.TheVariants as word
use Rattle.protocol_values.specs.declared.Joined.{Joined}
use Rattle.protocol_values.specs.declared.Offer.{Offer}
use Rattle.protocol_values.specs.declared.Row.{Row}
use Rattle.protocol_values.specs.declared.Step.{Step}
use Rattle.protocol_values.specs.declared.Step.TheVariants.{Bind, Claim, Draft, Grant as GrantRow, Join, Seal, Start, Take, Yield}
use Rattle.protocol_ledger.specs.Standing.{Result, Stands}
use Rattle.protocol_ledger.specs.Tables.{bound_row, offers_meet}
use Rattle.protocol_values.specs.Values.{next_row}
use Rattle.protocol_ledger.specs.Worlds.{nack_of_row}
use Rattle.cell_table.specs.declared.board.Board.{Board}
use Rattle.cell_table.specs.declared.view.Seen.{Seen}
use Rattle.cell_table.specs.Seats.{HasNack, HasRow}
use Rattle.cell.specs.declared.attempt.Attempt.{Attempt}
use Rattle.cell.specs.declared.attempt.Attempt.TheVariants.{Met, Gone, Mine, Busy, Unfit}
use Rattle.cell.specs.declared.granting.Grant.{Grant}
use Rattle.cell.specs.declared.granting.Grant.TheVariants.{Given, NotEnabled, Late}
use Rattle.cell_table.specs.Sight.{Adds, Has, SeesDirection, SeesOffer, HasSeenLast, IsUnseen, LearnsOf, SawCommitted, SawEnded, IsBefore, see_bound, see_carried, see_next, see_start}
use Rattle.protocol_values.specs.Values.{directions_meet}
use Rattle.cell_table.specs.Nacks.{CanGrant, CanStandAlone, IsCauseRow}
use Rattle.cell_table.specs.Told.{ComesOut, IsEarlier}

-- the rows of two threads, the heads of whose two offers were seen, and are of a send and a receive on one channel
abbrev pub CanMeet : Seen → Row → ℕ → Row → ℕ → Type 0
CanMeet s mine own other partner =
    (mine.thread ≢ other.thread) × (a : Direction) × (b : Direction) × SeesDirection s mine own a × SeesDirection s other partner b × (directions_meet a b ≡ true)

-- both rows were seen committed with each other, under these offers and at this stamp
abbrev pub AreMet : Seen → Row → ℕ → Row → ℕ → ℕ → Type 0
AreMet s mine own other partner stamp =
    Has s.joined (mine, record { own = own; partner = Some (other, partner); stamp = stamp })
    × Has s.joined (other, record { own = partner; partner = Some (mine, own); stamp = stamp })

-- the answer of an attempt of two rows, by what the pass had seen before it and has seen after it
abbrev pub Attempted : Seen → Seen → Row → ℕ → Row → ℕ → Attempt → Type 0
Attempted before after mine own other partner (Met stamp) = AreMet after mine own other partner stamp
Attempted before after mine own other partner Gone = SawCommitted after other
Attempted before after mine own other partner Mine = SawCommitted after mine
Attempted before after mine own other partner Busy = (¬ Has before.held other) × (¬ SawCommitted before other)
Attempted before after mine own other partner Unfit = ¬ CanMeet after mine own other partner

-- by what the pass has seen after it, the two rows can meet, unless the answer is that they do not fit
abbrev pub Fits : Seen → Row → ℕ → Row → ℕ → Attempt → Type 0
Fits after mine own other partner (Met stamp) = CanMeet after mine own other partner
Fits after mine own other partner Gone = CanMeet after mine own other partner
Fits after mine own other partner Mine = CanMeet after mine own other partner
Fits after mine own other partner Busy = CanMeet after mine own other partner
Fits after mine own other partner Unfit = ¬ CanMeet after mine own other partner

-- of any two whole offers that the pass has seen there: they meet, and are of two threads, exactly where the answer is another
-- than that they do not fit
abbrev pub OffersFit : Seen → Row → ℕ → Row → ℕ → Attempt → Type 0
OffersFit after mine own other partner answer =
    (a b : Offer) → SeesOffer after mine own a → SeesOffer after other partner b
    → ((mine.thread ≢ other.thread) × (offers_meet (Some a) (Some b) ≡ true)) ↔ (answer ≢ Unfit)

-- the steps that a pass has made after an attempt, by those that it had made before, the last one first
abbrev pub attempt_made : Row → ℕ → Row → ℕ → Attempt → List Step → List Step
attempt_made mine own other partner (Met stamp) before = Seal mine ∷ Join mine own other partner ∷ Claim mine ∷ before
attempt_made mine own other partner Gone before = Yield mine ∷ Claim mine ∷ before
attempt_made mine own other partner Mine before = before
attempt_made mine own other partner Busy before = Yield mine ∷ Claim mine ∷ before
attempt_made mine own other partner Unfit before = before

-- after a grant
abbrev pub grant_made : Row → ℕ → Grant → List Step → List Step
grant_made r n Given before = GrantRow r n ∷ before
grant_made r n NotEnabled before = before
grant_made r n Late before = before

-- after a take, by its answer
abbrev pub take_made : Row → Option Joined → List Step → List Step
take_made r (Some j) before = Take r ∷ before
take_made r None before = before

-- after a bind
abbrev pub bind_made : ℕ → Row → ℕ → Bool → List Step → List Step
bind_made k r scope true before = Bind k r scope ∷ before
bind_made k r scope false before = before

-- after a start
abbrev pub start_made : Row → ℕ → Bool → List Step → List Step
start_made r p true before = Start r p ∷ before
start_made r p false before = before

-- words of the row were drafted, and nothing else was done
abbrev pub OnlyDrafts : Row → List Step → List Step → Type 0
OnlyDrafts r before after = (steps : List Step) × (after ≡ steps ++ before) × ((step : Step) → Has steps step → (place : ℕ) × (word : ℕ) × (step ≡ Draft r place word))

-- the row was committed alone by its offer n, and that is the offer which the pass had seen, if it had seen one
abbrev pub IsGranted : Seen → Seen → Row → ℕ → Type 0
IsGranted before after r n =
    (j : Joined) × (can : CanGrant after r n j) × Has after.joined (r, j) × ((o : Offer) → SeesOffer before r n o → can.offer ≡ o)

-- the answer of a grant, by what the pass had seen before it and has seen after it
abbrev pub Granted : Seen → Seen → Row → ℕ → Grant → Type 0
Granted before after r n Given = (¬ SawCommitted before r) × IsGranted before after r n
Granted before after r n NotEnabled = ¬ CanStandAlone before r n
Granted before after r n Late = CanStandAlone after r n × (Has before.held r → SawCommitted after r)

-- the nack that offer n of the row waits for, as the offer was seen
abbrev pub IsNackOf : Seen → Row → ℕ → NackName → Type 0
IsNackOf s r n nack = (o : Offer) × SeesOffer s r n o × (o.base ≡ OnNack nack)

-- the rows that a grant looks at: its own, the one before it in its thread, and the one at which what lets its offer commit it is read
abbrev pub IsNearGrant : Seen → Row → ℕ → Row → Type 0
IsNearGrant s r n q = (q ≡ r) ⊎ (IsBefore r q ⊎ ((o : Offer) × SeesOffer s r n o × IsCauseRow s o.base q))

-- the lives that a grant looks at: that of its row's thread, and that of the thread for whose end the offer waits
abbrev pub IsLifeOf : Seen → Row → ℕ → ℕ → Type 0
IsLifeOf s r n p = (p ≡ r.thread) ⊎ ((o : Offer) × SeesOffer s r n o × (o.base ≡ OnEnd p))

-- the pass that took a row has seen the results of its thread up to this row, and no others
abbrev pub ResultsTold : Row → Option Joined → List (ℕ × List Result) → List (ℕ × List Result) → Type 0
ResultsTold r (Some j) before after = (results : List Result) × (length results ≡ r.sync + 1) × (after ≡ (r.thread, results) ∷ before)
ResultsTold r None before after = after ≡ before

-- What stands for the row's thread came out with the row: it is still to be given the last of the results that the pass has now. Its
-- message is the row's, by what the pass had seen before and by what it has seen since.
abbrev pub Hands : {M : Type 0} → Stands M → List (Option M) → Seen → Seen → Row → Option Joined → List (ℕ × List Result) → List (ℕ × Option M) → List (ℕ × Option M) → Type 0
Hands stands first old new r (Some j) results before after = (told : List Result) × Has results (r.thread, told) × (length told ≡ r.sync + 1) × ComesOut stands first old new r j.own told before after
Hands stands first old new r None results before after = after ≡ before

-- where the nack is bound instead: to this row, or to an earlier one of its thread, as a scope's of that row; or it is carried
abbrev pub BoundBefore : {M : Type 0} → Stands M → List (Option M) → List (ℕ × List Result) → Seen → ℕ → Row → Type 0
BoundBefore stands first results s k r =
    ((b : Binding) × Has s.bound (nack_of_row r k, b) × ((b.sync < r.sync) → IsEarlier stands first results (nack_of_row r k) b))
    ⊎ ((stamp : ℕ) × Has s.carried (nack_of_row r k, stamp))

-- The pass took the row, committed so: it holds the thread's next row from now on, if there is one, which has no offers
-- and is not opened, and it has seen nothing else anew but of the row.
pub record Took (rows : ℕ) (before after : Seen) (r : Row) (j : Joined) : Type 0 where
  pub untaken : ¬ Has before.taken r
  pub taken : Has after.taken r
  pub joined : Has after.joined (r, j)
  pub held : after.held ≡ (see_next rows r before).held
  pub drafts : after.drafts ≡ (see_next rows r before).drafts
  pub lasts : after.lasts ≡ (see_next rows r before).lasts
  pub next : ¬ Has after.opened (next_row r)
  -- the thread has not ended
  pub alive : ¬ SawEnded after r.thread
  -- no nack is bound to it either
  pub free : (n : NackName) (b : Binding) → Has after.bound (n, b) → bound_row n b ≢ next_row r
  pub opened : Adds (λ q. q ≡ r) before.opened after.opened
  pub words : after.words ≡ before.words
  pub joins : Adds (λ q. q.0 ≡ r) before.joined after.joined
  pub takes : Adds (λ q. q ≡ r) before.taken after.taken
  pub bound : after.bound ≡ before.bound
  pub carried : after.carried ≡ before.carried
  pub begun : after.begun ≡ before.begun
  pub started : after.started ≡ before.started
  pub ended : after.ended ≡ before.ended

-- The answer of a bind. True: the pass had seen the nack neither bound nor carried, and has now seen it bound to this row and scope.
-- False: it has now seen where the nack is bound: to this row, as it had seen before, or to an earlier one; or that it is carried, and
-- it had not seen it bound. Nothing else is new.
abbrev pub Bound : Seen → Seen → ℕ → Row → ℕ → Bool → Type 0
Bound before after k r scope true =
    (after ≡ see_bound (nack_of_row r k) (record { sync = r.sync; scope = scope }) before) × ((b : Binding) → ¬ Has before.bound (nack_of_row r k, b)) × ((stamp : ℕ) → ¬ Has before.carried (nack_of_row r k, stamp))
Bound before after k r scope false =
    ((b : Binding) × (after ≡ see_bound (nack_of_row r k) b before) × (b.sync ≤ r.sync) × (b.sync ≡ r.sync → Has before.bound (nack_of_row r k, b)))
    ⊎ ((stamp : ℕ) × (after ≡ see_carried (nack_of_row r k) stamp before) × ((b : Binding) → ¬ Has before.bound (nack_of_row r k, b)))

-- what a look at the nack has told: where it is bound, which is a row of the table, or as what it is carried
abbrev pub SaysOf : {M : Type 0} → Board M → Seen → NackName → NackWord → Type 0
SaysOf b s n word.Unbound = ⊤
SaysOf b s n (word.Bound x) = Has s.bound (n, x) × HasNack b n × HasRow b (bound_row n x) × (x.scope < 4)
SaysOf b s n (word.Carried stamp) = Has s.carried (n, stamp)

-- the row to which the nack was seen bound
abbrev pub IsBoundRow : Seen → NackName → Row → Type 0
IsBoundRow s n q = (b : Binding) × Has s.bound (n, b) × (q ≡ bound_row n b)

-- the lives that an attempt looks at: those of the two rows' threads
abbrev pub IsLifeNear : Row → Row → ℕ → Type 0
IsLifeNear mine other p = (p ≡ mine.thread) ⊎ (p ≡ other.thread)

-- the rows that an attempt looks at: the two, and the rows before them in their threads
abbrev pub IsNear : Row → Row → Row → Type 0
IsNear mine other q = (q ≡ mine) ⊎ ((q ≡ other) ⊎ (IsBefore mine q ⊎ IsBefore other q))

-- what a pass learns of the place from which it starts a thread: the last stamp there
abbrev pub LearnsLast : Row → Seen → Seen → Type 0
LearnsLast r s t = LearnsOf (IsBefore r) (λ n. ⊥) (λ p. p ≡ r.thread) s t

-- The answer of a start of thread p from place r. True: the pass had seen nothing of the thread, which has now started at the last
-- stamp of the place, and whose first row it holds. False: the thread was started before, as the pass has now seen; where it holds
-- a row of that thread which is not opened, it has learnt nothing of its end. In both the place's own thread has not ended.
abbrev pub Started : Seen → Seen → Row → ℕ → Bool → Type 0
Started before after r p true = (seen : Seen) × (stamp : ℕ) × LearnsLast r before seen × HasSeenLast seen r stamp × (after ≡ see_start p stamp seen) × IsUnseen before p × (¬ SawEnded after r.thread)
Started before after r p false = LearnsOf (IsBefore r) (λ n. ⊥) (λ t. (t ≡ r.thread) ⊎ (t ≡ p)) before after × ((stamp : ℕ) × Has after.started (p, stamp)) × (¬ SawEnded after r.thread)
    × ((q : Row) → q.thread ≡ p → Has before.held q → ¬ Has before.opened q → SawEnded after p → SawEnded before p)

-- the thread of place r has ended there, and nothing else is new but its start
abbrev pub Finished : Seen → Seen → Row → Type 0
Finished before after r = LearnsOf (λ q. ⊥) (λ n. ⊥) (λ t. t ≡ r.thread) before after × Has after.ended (r.thread, r.sync)
