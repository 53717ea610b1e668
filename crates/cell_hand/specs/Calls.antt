-- What each call comes to, by the hand before it and after it.
use Rattle.std.specs.Prelude.{length, ⊤, All, map, ◌≡◌, ◌⊎◌, ℕ, ◌<◌, ◌≤◌, Bool, true, false, Option, Some, None, IfSome, IfNone, IsTrue, Result, Ok, Err, List, [], ◌∷◌}
use Rattle.protocol_values.specs.declared.Binding.{Binding}
use Rattle.protocol_values.specs.declared.Cell.{Cell}
use Rattle.protocol_values.specs.declared.Course.{Course}
use Rattle.protocol_values.specs.declared.Joined.{Joined}
use Rattle.protocol_values.specs.declared.Message.{Message}
use Rattle.protocol_values.specs.declared.NackName.{NackName}
use Rattle.protocol_values.specs.declared.Offer.{Offer}
use Rattle.protocol_values.specs.declared.Row.{Row}
use Rattle.protocol_values.specs.declared.Step.TheVariants.{Bind, Finish, Open, Take}
use Rattle.protocol_ledger.specs.Openings.{start_opening}
use Rattle.protocol_ledger.specs.Worlds.{first_row, nack_of_row}
use Rattle.cell.specs.Attempts.{Attempted, Fits, Granted, OnlyDrafts, Took, attempt_made, grant_made, start_made}
use Rattle.cell.specs.declared.attempt.Attempt.{Attempt}
use Rattle.cell.specs.declared.granting.Grant.{Grant}
use Rattle.cell.specs.Calls.{Grid, IsRowOf, PassView}
use Rattle.cell_table.specs.Nacks.{CanStandAlone, IsSeenBound}
use Rattle.cell_table.specs.declared.view.Seen.{Seen}
use Rattle.cell_table.specs.Rule.{dealt_from, seen_nothing}
use Rattle.cell_table.specs.Sight.{Has, IsBefore, IsDraft, IsExpected, IsExpectedCourse, IsKnownOpen, IsResult, LackOffer, Redrafts, SawCommitted, SeesOffer, see_cell, see_course}
use Rattle.meet_scan.specs.Leaving.{IsHeldUp, KnowsMore, ScansTo, TriesFirst}
use Rattle.meet_scan.specs.Searches.{Finds, Grows, IsAlone}
use Rattle.meet_scan.specs.Steps.{OnlyLooks, SearchMade, found_or_left}
use Rattle.meet_scan.specs.declared.found.Found.{Found}
use Rattle.meet_scan.specs.declared.found.Found.TheVariants.{Alone, Already, Met, Waits}
use Rattle.cell_hand.specs.Hands.{CanAttempt, CanDraft, HandOf, Looked, Made, NotFresh, NotOpened, NotThere, Stays}
use Rattle.cell_hand.specs.declared.refusal.Refusal.{Refusal}
use Rattle.cell_hand.specs.declared.refusal.Refusal.TheVariants.{Range}

-- how large a table may be
abbrev pub CanDeal : ℕ → ℕ → ℕ → ℕ → Type 0
CanDeal threads rows offers passes = (1 ≤ threads) × (threads ≤ 64) × (1 ≤ rows) × (rows ≤ 1024) × (1 ≤ offers) × (offers ≤ 8) × (1 ≤ passes) × (passes ≤ 16)

-- a hand of a new table, whose rows have room for so many offers, and where the threads of this mask wait to be started: pass
-- `number` of so many
abbrev pub IsDealt : ℕ → ℕ → ℕ → ℕ → ℕ → ℕ → HandOf → Type 0
IsDealt threads rows offers later passes number h =
    (h.table.threads ≡ threads) × (h.table.rows ≡ rows) × (h.table.layout.offers ≡ offers) × (h.table.passes ≡ passes)
    × (h.pass.seen ≡ seen_nothing (dealt_from (start_opening threads later) threads passes number)) × (h.pass.made ≡ [])

-- a hand for each of these passes, in their order
abbrev pub AreHands : Grid → List PassView → List HandOf → Type 0
AreHands table passes hands = (map (λ h. h.pass) hands ≡ passes) × All (λ h. h.table ≡ table) hands

-- READING

-- what the cell showed, and nothing else, is seen anew, and it agrees with all that was seen before
abbrev pub Looks : HandOf → HandOf → Row → Result Cell Refusal → Type 0
Looks h k r (Ok cell) = IsRowOf h.table r × Stays h k × (k.pass.seen ≡ see_cell r cell h.pass.seen) × OnlyLooks h.pass k.pass × IsExpected h.pass.seen r cell
Looks h k r (Err e) = (k ≡ h) × NotThere h r e

abbrev pub Courses : HandOf → HandOf → ℕ → Result Course Refusal → Type 0
Courses h k t (Ok course) = Stays h k × (k.pass.seen ≡ see_course t course h.pass.seen) × OnlyLooks h.pass k.pass × IsExpectedCourse h.table.rows h.pass.seen t course
Courses h k t (Err e) = (k ≡ h) × NotThere h (first_row t) e

-- where the nack is bound
abbrev pub Bounds : HandOf → HandOf → NackName → Option (Row × ℕ) → Type 0
Bounds h k n (Some p) = Looked h k × IsSeenBound k.pass.seen n p.0 p.1
Bounds h k n None = Looked h k × ((r : Row) (scope : ℕ) → ¬ IsSeenBound h.pass.seen n r scope)

-- the row's offer of this number, if the row is opened and has it
abbrev pub Reads : HandOf → HandOf → Row → ℕ → Result (Option Offer) Refusal → Type 0
Reads h k r n (Ok (Some offer)) = Looked h k × SeesOffer k.pass.seen r n offer
Reads h k r n (Ok None) = Looked h k × (IsKnownOpen h.pass.seen r → LackOffer k.pass.seen.words r n)
Reads h k r n (Err e) = (k ≡ h) × NotThere h r e

-- what the row's thread gets, where the row is committed
abbrev pub Results : HandOf → HandOf → Row → Result (Option Message) Refusal → Type 0
Results h k r (Ok (Some got)) = Looked h k × IsResult k.pass.seen r got
Results h k r (Ok None) = Looked h k × (¬ SawCommitted h.pass.seen r)
Results h k r (Err e) = (k ≡ h) × NotThere h r e

-- and how the row was committed
abbrev pub Answers : HandOf → HandOf → Row → Result (Option (Joined × Message)) Refusal → Type 0
Answers h k r (Ok (Some told)) = Looked h k × Has k.pass.seen.joined (r, told.0) × IsResult k.pass.seen r told.1
Answers h k r (Ok None) = Looked h k × (¬ SawCommitted h.pass.seen r)
Answers h k r (Err e) = (k ≡ h) × NotThere h r e

-- A ROW BEFORE IT STANDS

-- these offers, and no others, are drafted for the row, and nothing else has changed
abbrev pub IsDrafted : HandOf → HandOf → Row → List Offer → Type 0
IsDrafted h k r offers =
    Stays h k × IsDraft k.pass.seen r offers × OnlyDrafts r h.pass.made k.pass.made × Redrafts (λ q p. q ≡ r) h.pass.seen k.pass.seen

-- there are more of them than a row has room for: nothing changes
abbrev pub TooMany : HandOf → HandOf → List Offer → Refusal → Type 0
TooMany h k offers e = (h.table.layout.offers < length offers) × (k ≡ h) × (e ≡ Range)

abbrev pub Drafts : HandOf → HandOf → Row → List Offer → Result ⊤ Refusal → Type 0
Drafts h k r offers (Ok done) =
    (length offers ≤ h.table.layout.offers) × CanDraft h r × ((looked : HandOf) × Looked h looked × IsDrafted looked k r offers)
Drafts h k r offers (Err e) = TooMany h k offers e ⊎ (Looked h k × NotFresh h k r e)

-- bound now, or bound or carried before
abbrev pub Binds : HandOf → HandOf → ℕ → Row → ℕ → Result Bool Refusal → Type 0
Binds h k nack r scope (Ok true) = CanDraft h r × Made h k (Bind nack r scope ∷ []) × IsSeenBound k.pass.seen (nack_of_row r nack) r scope
Binds h k nack r scope (Ok false) =
    CanDraft h r × Looked h k
    × (((b : Binding) × Has k.pass.seen.bound (nack_of_row r nack, b) × (b.sync ≤ r.sync)) ⊎ ((stamp : ℕ) × Has k.pass.seen.carried (nack_of_row r nack, stamp)))
Binds h k nack r scope (Err e) = Looked h k × NotFresh h k r e

abbrev pub Opens : HandOf → HandOf → Row → Result ⊤ Refusal → Type 0
Opens h k r (Ok done) = CanDraft h r × Made h k (Open r ∷ []) × Has k.pass.seen.opened r
Opens h k r (Err e) = Looked h k × NotFresh h k r e

-- COMMITS

-- an attempt is refused where one of the two is no row of the table too
abbrev pub NotMeeting : HandOf → Row → Row → Refusal → Type 0
NotMeeting h mine other e = NotOpened h mine e ⊎ NotThere h other e

abbrev pub Attempts : HandOf → HandOf → Row → ℕ → Row → ℕ → Result Attempt Refusal → Type 0
Attempts h k mine own other partner (Ok answer) =
    CanAttempt k mine × IsRowOf h.table other × Stays h k × Grows h.pass.seen k.pass.seen × (k.pass.made ≡ attempt_made mine own other partner answer h.pass.made)
    × Attempted h.pass.seen k.pass.seen mine own other partner answer × Fits k.pass.seen mine own other partner answer
Attempts h k mine own other partner (Err e) = Looked h k × NotMeeting h mine other e

abbrev pub Grants : HandOf → HandOf → Row → ℕ → Result Grant Refusal → Type 0
Grants h k r n (Ok answer) =
    IsRowOf h.table r × Stays h k × Grows h.pass.seen k.pass.seen × (k.pass.made ≡ grant_made r n answer h.pass.made) × Granted h.pass.seen k.pass.seen r n answer
Grants h k r n (Err e) = (k ≡ h) × NotThere h r e

-- taken by this call, or not: it was not seen committed before, or it was taken
abbrev pub Takes : HandOf → HandOf → Row → Result (Option Joined) Refusal → Type 0
Takes h k r (Ok (Some j)) = Stays h k × Took h.table.rows h.pass.seen k.pass.seen r j × (k.pass.made ≡ Take r ∷ h.pass.made)
Takes h k r (Ok None) = Looked h k × (SawCommitted h.pass.seen r → Has k.pass.seen.taken r)
Takes h k r (Err e) = (k ≡ h) × NotThere h r e

-- What a search came to that begins with a thread, where offers that need no partner were granted or not. None: it is to be made again,
-- and what holds it up is named.
pub record IsSearched (h k : HandOf) (r : Row) (first : ℕ) (alone : Bool) (came : Option Found) : Type 0 where
  pub table : (k.table ≡ h.table) × (k.board ≡ h.board)
  pub grows : Grows h.pass.seen k.pass.seen
  pub more : KnowsMore h.scan.me.0 k.scan.me.0
  pub made : SearchMade r (found_or_left came) h.pass.made k.pass.made
  pub found : IfSome came (ScansTo k.scan.me.0 h.pass.seen k.pass.seen r)
  pub granted : IsTrue alone → IfSome came (Finds h.pass.seen k.pass.seen r)
  pub tried : IfSome came (TriesFirst h.table k.scan.me.0 h.pass.seen k.pass.seen r first)
  pub again : IfNone came (IsHeldUp h.table k.scan.me.0 h.pass.seen k.pass.seen r)

abbrev pub Searches : HandOf → HandOf → Row → ℕ → Bool → Result (Option Found) Refusal → Type 0
Searches h k r first alone (Ok found) = CanAttempt k r × IsSearched h k r first alone found
Searches h k r first alone (Err e) = Looked h k × NotOpened h r e

-- SEVERAL CALLS IN ONE

-- the row can be drafted, once the row before it was taken, or at once
abbrev pub Reaches : HandOf → HandOf → Row → Result ⊤ Refusal → Type 0
Reaches h k r (Ok done) = CanDraft k r × Stays h k × ((k.pass.made ≡ h.pass.made) ⊎ ((q : Row) × IsBefore r q × (k.pass.made ≡ Take q ∷ h.pass.made)))
Reaches h k r (Err e) = Looked h k × NotFresh h k r e

-- it is reached, drafted, opened and searched, one after the other
abbrev pub Begins : HandOf → HandOf → Row → List Offer → ℕ → Bool → Result (Option Found) Refusal → Type 0
Begins h k r offers first alone (Ok found) =
    (length offers ≤ h.table.layout.offers) × (reached : HandOf) × Reaches h reached r (Ok tt) × (drafted : HandOf) × IsDrafted reached drafted r offers
    × (opened : HandOf) × Made drafted opened (Open r ∷ []) × IsSearched opened k r first alone found
Begins h k r offers first alone (Err e) = TooMany h k offers e ⊎ (Looked h k × NotFresh h k r e)

-- LIVES

-- started by this call from the row, whose thread is another, or before
abbrev pub Starts : HandOf → HandOf → Row → ℕ → Result Bool Refusal → Type 0
Starts h k r thread (Ok true) =
    CanDraft h r × Stays h k × (k.pass.made ≡ start_made r thread true h.pass.made) × Has k.pass.seen.held (first_row thread)
Starts h k r thread (Ok false) =
    CanDraft h r × Stays h k × (k.pass.made ≡ h.pass.made) × ((stamp : ℕ) × Has k.pass.seen.started (thread, stamp))
Starts h k r thread (Err e) = Looked h k × (NotFresh h k r e ⊎ (NotThere h (first_row thread) e ⊎ ((e ≡ Range) × (r.thread ≡ thread))))

abbrev pub Finishes : HandOf → HandOf → Row → Result ⊤ Refusal → Type 0
Finishes h k r (Ok done) = CanDraft h r × Made h k (Finish r ∷ []) × Has k.pass.seen.ended (r.thread, r.sync)
Finishes h k r (Err e) = Looked h k × NotFresh h k r e

-- What waking a row came to, by what was seen before and after: it was committed alone by this call, it had been committed, no offer lets
-- it stand alone, or, none, one does and it was claimed, and is to be woken again.
abbrev pub IsWoken : Seen → Seen → Row → Option Found → Type 0
IsWoken s t r (Some (Met other)) = ⊥
IsWoken s t r (Some Alone) = IsAlone t r
IsWoken s t r (Some Already) = SawCommitted t r
IsWoken s t r (Some Waits) = (n : ℕ) → n < 8 → ¬ CanStandAlone s r n
IsWoken s t r None = (n : ℕ) × CanStandAlone t r n

abbrev pub Wakes : HandOf → HandOf → Row → Result (Option Found) Refusal → Type 0
Wakes h k r (Ok found) =
    IsRowOf h.table r × Stays h k × Grows h.pass.seen k.pass.seen × SearchMade r (found_or_left found) h.pass.made k.pass.made
    × IsWoken h.pass.seen k.pass.seen r found
Wakes h k r (Err e) = (k ≡ h) × NotThere h r e
