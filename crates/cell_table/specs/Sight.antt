-- What a pass has seen: how it grows, and what it says of offers and of rows that can meet.
use Rattle.std.specs.Prelude.{min, ◌≡◌, ◌≢◌, ◌⊎◌, ℕ, ◌+◌, ◌-◌, ◌*◌, ◌<◌, ◌≤◌, max, unwrap_or, true, false, Some, None, Option, List, [], ◌∷◌, ◌==◌, ◌&&◌, nat_lt, if◌then◌else◌, length, slice_get}
use Rattle.protocol_values.specs.Words.{count_of, head_of, offer_of, is_word_for, IsJoinedInRange, IsOfferInRange}
use Rattle.protocol_values.specs.declared.Direction.{Direction}
use Rattle.protocol_values.specs.declared.Direction.TheVariants as direction
use Rattle.protocol_values.specs.declared.Head.{Head}
use Rattle.protocol_values.specs.declared.Base.{Base}
use Rattle.protocol_values.specs.declared.Base.TheVariants.{Send, Recv, Always, OnNack, OnEnd, Never}
use Rattle.protocol_values.specs.declared.Message.{Message}
use Rattle.protocol_values.specs.declared.Message.TheVariants.{Empty}
use Rattle.protocol_values.specs.declared.Offer.{Offer}
use Rattle.protocol_values.specs.declared.NackName.{NackName}
use Rattle.protocol_values.specs.declared.Binding.{Binding}
use Rattle.protocol_values.specs.declared.Row.{Row}
use Rattle.protocol_values.specs.declared.Joined.{Joined}
use Rattle.protocol_values.specs.declared.Course.{Course}
use Rattle.protocol_values.specs.declared.Course.TheVariants.{Unstarted, Running, Ended}
use Rattle.protocol_values.specs.declared.Cell.{Cell}
use Rattle.protocol_values.specs.declared.Cell.TheVariants.{Fresh, Waiting, Claimed, Synched, Taken}
use Rattle.cell_table.specs.declared.view.Seen.{Seen}
use Rattle.protocol_ledger.specs.declared.layout.Layout.{Layout}
use Rattle.protocol_ledger.specs.Openings.{Opening, state_in, word_for}
use Rattle.protocol_ledger.specs.Short.{HasWords}
use Rattle.protocol_ledger.specs.Tables.{carried_by, row_eq, is_fresh, is_taken, names, offers_meet, stands_alone}
use Rattle.protocol_values.specs.Values.{directions_meet, next_row, joined_of}
use Rattle.protocol_ledger.specs.Acting.{EndsAt, HasStart}
use Rattle.protocol_ledger.specs.Worlds.{first_row}

-- x is in the list
abbrev pub Has : {A : Type 0} → List A → A → Type 0
Has [] x = ⊥
Has (y ∷ ys) x = (y ≡ x) ⊎ Has ys x

-- HOW IT GROWS

-- the row was seen opened
abbrev pub see_opened : Row → Seen → Seen
see_opened r s = record s { opened = r ∷ s.opened }

-- the row's cell was seen
abbrev pub see_cell : Row → Cell → Seen → Seen
see_cell r Fresh s = s
see_cell r Waiting s = see_opened r s
see_cell r Claimed s = see_opened r s
see_cell r (Synched j) s = record s { opened = r ∷ s.opened; joined = (r, j) ∷ s.joined }
see_cell r (Taken j) s = record s { opened = r ∷ s.opened; joined = (r, j) ∷ s.joined; taken = r ∷ s.taken }

-- a word of an opened row was read
abbrev pub see_word : Row → ℕ → ℕ → Seen → Seen
see_word r p x s = record s { words = (r, p, x) ∷ s.words }

-- a word of a held Fresh row was drafted: what was drafted there before is gone
abbrev pub without : Row → ℕ → List (Row × ℕ × ℕ) → List (Row × ℕ × ℕ)
without r p [] = []
without r p (d ∷ ds) = if row_eq d.0 r && (d.1 == p) then without r p ds else d ∷ without r p ds

abbrev pub see_draft : Row → ℕ → ℕ → Seen → Seen
see_draft r p x s = record s { drafts = (r, p, x) ∷ without r p s.drafts }

-- the pass holds the row from now on, which is Fresh and has no offers
abbrev pub see_held : Row → Seen → Seen
see_held r s = record s { held = r ∷ s.held; drafts = (r, 1, 0) ∷ s.drafts }

-- the row was taken by the pass, which holds the thread's next row from then on, or else stands behind the last one
abbrev pub see_next : ℕ → Row → Seen → Seen
see_next rows r s = if nat_lt (r.sync + 1) rows then see_held (next_row r) s else record s { lasts = r.thread ∷ s.lasts }

-- the nack was seen bound so
abbrev pub see_bound : NackName → Binding → Seen → Seen
see_bound n b s = record s { bound = (n, b) ∷ s.bound }

-- the nack was seen carried, with this stamp
abbrev pub see_carried : NackName → ℕ → Seen → Seen
see_carried n stamp s = record s { carried = (n, stamp) ∷ s.carried }

-- what stood for the thread of this first row at first was fetched
abbrev pub see_begun : Row → Seen → Seen
see_begun r s = record s { begun = r ∷ s.begun }

-- where the thread is on its course was seen
abbrev pub see_course : ℕ → Course → Seen → Seen
see_course p Unstarted s = s
see_course p (Running start) s = record s { started = (p, start) ∷ s.started }
see_course p (Ended start sync) s = record s { started = (p, start) ∷ s.started; ended = (p, sync) ∷ s.ended }

-- the thread was started by the pass, which holds its first row from then on
abbrev pub see_start : ℕ → ℕ → Seen → Seen
see_start p stamp s = see_held (first_row p) (see_course p (Running stamp) s)

-- nothing is lost, and what is new is of rows such as these
abbrev pub Adds : {A : Type 0} → (A → Type 0) → List A → List A → Type 0
Adds {A} About xs ys = ((x : A) → Has xs x → Has ys x) × ((x : A) → Has ys x → Has xs x ⊎ About x)

-- what is new is of such rows, of such nacks, and of such threads' lives
pub record LearnsOf (About : Row → Type 0) (Nacks : NackName → Type 0) (Lives : ℕ → Type 0) (s t : Seen) : Type 0 where
  pub held : t.held ≡ s.held
  pub drafts : t.drafts ≡ s.drafts
  pub lasts : t.lasts ≡ s.lasts
  pub opened : Adds About s.opened t.opened
  pub words : Adds (λ x. About x.0) s.words t.words
  pub joined : Adds (λ x. About x.0) s.joined t.joined
  pub taken : Adds About s.taken t.taken
  pub bound : Adds (λ x. Nacks x.0) s.bound t.bound
  pub carried : Adds (λ x. Nacks x.0) s.carried t.carried
  pub begun : t.begun ≡ s.begun
  pub started : Adds (λ x. Lives x.0) s.started t.started
  pub ended : Adds (λ x. Lives x.0) s.ended t.ended

-- what is new is of such rows, of no nack, and of no life
abbrev pub Learns : (Row → Type 0) → Seen → Seen → Type 0
Learns About s t = LearnsOf About (λ n. ⊥) (λ p. ⊥) s t

-- Words were drafted at these places, and nothing else changed.
pub record Redrafts (Where : Row → ℕ → Type 0) (s t : Seen) : Type 0 where
  pub held : t.held ≡ s.held
  pub lasts : t.lasts ≡ s.lasts
  pub opened : t.opened ≡ s.opened
  pub words : t.words ≡ s.words
  pub joined : t.joined ≡ s.joined
  pub taken : t.taken ≡ s.taken
  pub bound : t.bound ≡ s.bound
  pub carried : t.carried ≡ s.carried
  pub begun : t.begun ≡ s.begun
  pub started : t.started ≡ s.started
  pub ended : t.ended ≡ s.ended
  pub kept : (r : Row) (p x : ℕ) → ¬ Where r p → Has s.drafts (r, p, x) → Has t.drafts (r, p, x)
  pub only : (r : Row) (p x : ℕ) → ¬ Where r p → Has t.drafts (r, p, x) → Has s.drafts (r, p, x)

-- OFFERS

-- at most 8 offers that the words have room for
abbrev pub AreOffers : List Offer → Type 0
AreOffers offers = (length offers ≤ 8) × ((n : ℕ) (offer : Offer) → slice_get offers n ≡ Some offer → IsOfferInRange offer)

-- the place is one of the four of offer n
abbrev pub IsPlaceOf : ℕ → ℕ → Type 0
IsPlaceOf n p = (2 + 4 * n ≤ p) × (p < 6 + 4 * n)

-- how many atoms stand behind the head of an offer
abbrev pub atoms_told : Direction → ℕ
atoms_told (direction.Send chan atoms) = atoms
atoms_told (direction.Recv chan) = 0
atoms_told (direction.Always atoms) = atoms
atoms_told (direction.OnNack n) = 0
atoms_told (direction.OnEnd p) = 0
atoms_told direction.Never = 0

abbrev pub atoms_in : Option Head → ℕ
atoms_in None = 0
atoms_in (Some h) = atoms_told h.direction

abbrev pub atoms_behind : ℕ → ℕ
atoms_behind head = atoms_in (head_of head)

-- These words have offer n of the row: its head, and as many atoms as the head says. The words past them are not asked for.
pub record HaveOffer (words : List (Row × ℕ × ℕ)) (r : Row) (n : ℕ) (offer : Offer) : Type 0 where
  pub count : ℕ
  pub counted : Has words (r, 1, count)
  pub below : n < unwrap_or (count_of count) 0
  pub head : ℕ
  pub has_head : Has words (r, 2 + 4 * n, head)
  pub first : ℕ
  pub has_first : 1 ≤ atoms_behind head → Has words (r, 3 + 4 * n, first)
  pub second : ℕ
  pub has_second : 2 ≤ atoms_behind head → Has words (r, 4 + 4 * n, second)
  pub third : ℕ
  pub has_third : 3 ≤ atoms_behind head → Has words (r, 5 + 4 * n, third)
  pub is : offer_of head first second third ≡ Some offer

-- These words have the head of offer n of the row, and it is of an offer in this direction. The atoms are not asked for.
pub record HaveDirection (words : List (Row × ℕ × ℕ)) (r : Row) (n : ℕ) (d : Direction) : Type 0 where
  pub count : ℕ
  pub counted : Has words (r, 1, count)
  pub below : n < unwrap_or (count_of count) 0
  pub head : ℕ
  pub has_head : Has words (r, 2 + 4 * n, head)
  pub scopes : ℕ
  pub is : head_of head ≡ Some (record { direction = d; scopes = scopes })

-- these words say that the row has no offer n
abbrev pub LackOffer : List (Row × ℕ × ℕ) → Row → ℕ → Type 0
LackOffer words r n = (count : ℕ) × Has words (r, 1, count) × (unwrap_or (count_of count) 0 ≤ n)

-- offer n of the row was read, or drafted before the row was opened
abbrev pub SeesOffer : Seen → Row → ℕ → Offer → Type 0
SeesOffer s r n offer = HaveOffer s.words r n offer ⊎ (Has s.opened r × HaveOffer s.drafts r n offer)

-- and its direction: the head of the offer is enough
abbrev pub SeesDirection : Seen → Row → ℕ → Direction → Type 0
SeesDirection s r n d = HaveDirection s.words r n d ⊎ (Has s.opened r × HaveDirection s.drafts r n d)

-- the number of the row's offers was read, or drafted before the row was opened, and n is not below it
abbrev pub SeesNoOffer : Seen → Row → ℕ → Type 0
SeesNoOffer s r n = LackOffer s.words r n ⊎ (Has s.opened r × LackOffer s.drafts r n)

-- a number of offers is drafted for the row
abbrev pub IsCounted : Seen → Row → Type 0
IsCounted s r = (count : ℕ) × Has s.drafts (r, 1, count)

-- the words of offer n are drafted for the row: its head, and as many atoms as it has
pub record HasDrafted (s : Seen) (r : Row) (n : ℕ) (offer : Offer) : Type 0 where
  pub head : ℕ
  pub has_head : Has s.drafts (r, 2 + 4 * n, head)
  pub first : ℕ
  pub has_first : 1 ≤ atoms_behind head → Has s.drafts (r, 3 + 4 * n, first)
  pub second : ℕ
  pub has_second : 2 ≤ atoms_behind head → Has s.drafts (r, 4 + 4 * n, second)
  pub third : ℕ
  pub has_third : 3 ≤ atoms_behind head → Has s.drafts (r, 5 + 4 * n, third)
  pub is : offer_of head first second third ≡ Some offer

-- the offers of the list are drafted for the row, and no more
abbrev pub IsDraft : Seen → Row → List Offer → Type 0
IsDraft s r offers = Has s.drafts (r, 1, length offers) × ((n : ℕ) (offer : Offer) → slice_get offers n ≡ Some offer → HaveOffer s.drafts r n offer)

-- the row was seen committed
abbrev pub SawCommitted : Seen → Row → Type 0
SawCommitted s r = (j : Joined) × Has s.joined (r, j)

-- the thread was seen ended
abbrev pub SawEnded : Seen → ℕ → Type 0
SawEnded s t = (g : ℕ) × Has s.ended (t, g)

-- nothing was seen of the thread: it was not seen started, none of its rows is held, was seen opened or begun with, and no nack of it bound
pub record IsUnseen (s : Seen) (t : ℕ) : Type 0 where
  pub held : (r : Row) → Has s.held r → r.thread ≢ t
  pub opened : (r : Row) → Has s.opened r → r.thread ≢ t
  pub begun : (r : Row) → Has s.begun r → r.thread ≢ t
  pub lasts : ¬ Has s.lasts t
  pub bound : (n : NackName) (b : Binding) → Has s.bound (n, b) → n.thread ≢ t
  pub started : (stamp : ℕ) → ¬ Has s.started (t, stamp)
  pub ended : ¬ SawEnded s t

-- the pass stands at this place of a thread, in a table of so many rows: it holds the row, which is Fresh, or it is behind the last
abbrev pub IsStand : ℕ → Seen → Row → Type 0
IsStand rows s r = (Has s.held r × (¬ Has s.opened r)) ⊎ ((r.sync ≡ rows) × Has s.lasts r.thread)

-- all rows before this place were taken: the row was seen opened, or the pass stands there, or it saw the thread end there
abbrev pub IsReached : ℕ → Seen → Row → Type 0
IsReached rows s r = Has s.opened r ⊎ (IsStand rows s r ⊎ Has s.ended (r.thread, r.sync))

-- row q stands right before row r in its thread
abbrev pub IsBefore : Row → Row → Type 0
IsBefore r q = (q.thread ≡ r.thread) × (q.sync + 1 ≡ r.sync)

-- the row is known to be open: it was seen so, or it is the partner of a row that was seen committed
abbrev pub IsKnownOpen : Seen → Row → Type 0
IsKnownOpen s r = Has s.opened r ⊎ ((q : Row) × (j : Joined) × Has s.joined (q, j) × (names (Some j) r ≡ true))

-- row q is row r, or its partner as it was seen committed
abbrev pub IsPartnerOf : Seen → Row → Row → Type 0
IsPartnerOf s r q = (q ≡ r) ⊎ ((j : Joined) × Has s.joined (r, j) × (names (Some j) q ≡ true))

-- what a committed row gets, by the base event that it chose: the message that it received, or that of its own always, else none
abbrev pub Gets : Seen → Joined → Base → Message → Type 0
Gets s j (Send c m) got = got ≡ Empty
Gets s j (Recv c) got = (p : Row × ℕ) × (d : ℕ) × (o : Offer) × (j.partner ≡ Some p) × SeesOffer s p.0 p.1 o × (o.base ≡ Send d got)
Gets s j (Always m) got = got ≡ m
Gets s j (OnNack n) got = got ≡ Empty
Gets s j (OnEnd p) got = got ≡ Empty
Gets s j Never got = got ≡ Empty

abbrev pub IsResult : Seen → Row → Message → Type 0
IsResult s r got = (j : Joined) × (o : Offer) × Has s.joined (r, j) × SeesOffer s r j.own o × Gets s j o.base got

-- WHAT A PASS KNOWS OF TWO ROWS BEFORE IT JOINS THEM

-- the stamp of the row before this one in its thread, as it was seen, and of a first row that of its thread's start
abbrev pub HasSeenLast : Seen → Row → ℕ → Type 0
HasSeenLast s r stamp =
    ((r.sync ≡ 0) × Has s.started (r.thread, stamp))
    ⊎ ((j : Joined) × (r.sync ≢ 0) × Has s.joined (record { thread = r.thread; sync = r.sync - 1 }, j) × (stamp ≡ j.stamp))

-- one stamp more than the greater of these, as far as a word has room: it has for each commit that is made
abbrev pub next_stamp : ℕ → ℕ → ℕ
next_stamp a b = min (max a b + 1) 4294967295

-- The other row, joined as j by offer `own` of row `mine`, meets it under offer `partner`, at the stamp that both last
-- stamps give. That they meet is told by their heads.
pub record CanJoin (s : Seen) (mine : Row) (own : ℕ) (other : Row) (partner : ℕ) (j : Joined) : Type 0 where
  pub apart : mine.thread ≢ other.thread
  pub my_direction : Direction
  pub their_direction : Direction
  pub read_mine : HaveDirection s.words mine own my_direction
  pub read_theirs : HaveDirection s.words other partner their_direction
  pub meet : directions_meet my_direction their_direction ≡ true
  pub my_last : ℕ
  pub their_last : ℕ
  pub seen_mine : HasSeenLast s mine my_last
  pub seen_theirs : HasSeenLast s other their_last
  pub is : j ≡ record { own = partner; partner = Some (mine, own); stamp = next_stamp my_last their_last }

-- THE CELL THAT A PASS MAY FIND, by what it has seen
pub record IsExpected (s : Seen) (r : Row) (c : Cell) : Type 0 where
  pub opened : Has s.opened r → is_fresh c ≡ false
  pub fresh : Has s.held r → ¬ Has s.opened r → c ≡ Fresh
  pub joined : (j : Joined) → Has s.joined (r, j) → joined_of c ≡ Some j
  pub taken : Has s.taken r → is_taken c ≡ true
  pub read : (p x : ℕ) → Has s.words (r, p, x) → is_fresh c ≡ false
  -- the partner of a committed row is open
  pub named : (q : Row) (j : Joined) → Has s.joined (q, j) → names (Some j) r ≡ true → is_fresh c ≡ false
  -- of a thread that has ended all rows before the end are taken
  pub below_end : (g : ℕ) → Has s.ended (r.thread, g) → r.sync < g → is_taken c ≡ true
  -- and from there on none was opened
  pub past_end : (g : ℕ) → Has s.ended (r.thread, g) → g ≤ r.sync → c ≡ Fresh
  -- a row is held, and opened, once all before it in its thread are taken
  pub in_turn : (q : Row) → q.thread ≡ r.thread → r.sync < q.sync → Has s.opened q ⊎ Has s.held q → is_taken c ≡ true

-- THE COURSE on which a pass may find a thread, in a table of so many rows
pub record IsExpectedCourse (rows : ℕ) (s : Seen) (t : ℕ) (c : Course) : Type 0 where
  pub started : (stamp : ℕ) → Has s.started (t, stamp) → HasStart c stamp
  pub ended : (g : ℕ) → Has s.ended (t, g) → EndsAt c g
  -- a thread has started whose row the pass holds, or saw opened
  pub begun : (r : Row) → r.thread ≡ t → Has s.held r ⊎ Has s.opened r → c ≢ Unstarted
  -- and where the pass stands at a place of it, it has ended only if the pass saw it so
  pub stands : (r : Row) → r.thread ≡ t → IsStand rows s r → (c ≢ Unstarted) × ((g : ℕ) → EndsAt c g → Has s.ended (t, g))

-- WHAT IS TRUE OF ALL THAT A PASS HAS SEEN, since it is true of one table

-- a commit that was seen took offer n of the row
abbrev pub SawChosen : Seen → Row → ℕ → Type 0
SawChosen s r n = ((j : Joined) × Has s.joined (r, j) × (j.own ≡ n)) ⊎ ((q : Row) × (j : Joined) × Has s.joined (q, j) × (j.partner ≡ Some (r, n)))

pub record Coherent (threads rows : ℕ) (s : Seen) : Type 0 where
  pub formed : (r : Row) (p x : ℕ) → Has s.words (r, p, x) → is_word_for p x ≡ true
  pub one_word : (r : Row) (p x y : ℕ) → Has s.words (r, p, x) → Has s.words (r, p, y) → x ≡ y
  pub one_draft : (r : Row) (p x y : ℕ) → Has s.drafts (r, p, x) → Has s.drafts (r, p, y) → x ≡ y
  pub as_drafted : (r : Row) (p x y : ℕ) → Has s.drafts (r, p, x) → Has s.words (r, p, y) → x ≡ y
  pub one_joined : (r : Row) (i j : Joined) → Has s.joined (r, i) → Has s.joined (r, j) → i ≡ j
  pub in_range : (r : Row) (j : Joined) → Has s.joined (r, j) → IsJoinedInRange j
  -- a row that is committed alone chose an always or a nack, and of a pair both offers meet
  pub alone : (r : Row) (j : Joined) (mine : Offer) → Has s.joined (r, j) → j.partner ≡ None → HaveOffer s.words r j.own mine → stands_alone (Some mine) ≡ true
  pub inside : (r : Row) (j : Joined) (p : Row × ℕ) → Has s.joined (r, j) → j.partner ≡ Some p → (p.0.thread < threads) × (p.0.sync < rows)
  pub chosen : (r : Row) (n count : ℕ) → SawChosen s r n → Has s.words (r, 1, count) → n < unwrap_or (count_of count) 0
  pub meet : (r : Row) (j : Joined) (p : Row × ℕ) (mine theirs : Offer) → Has s.joined (r, j) → j.partner ≡ Some p
      → HaveOffer s.words r j.own mine → HaveOffer s.words p.0 p.1 theirs → offers_meet (Some mine) (Some theirs) ≡ true
  pub one_bound : (n : NackName) (a b : Binding) → Has s.bound (n, a) → Has s.bound (n, b) → a ≡ b
  -- a nack is carried with one stamp, and not bound then
  pub one_carried : (n : NackName) (a b : ℕ) → Has s.carried (n, a) → Has s.carried (n, b) → a ≡ b
  pub apart : (n : NackName) (b : Binding) (stamp : ℕ) → Has s.bound (n, b) → Has s.carried (n, stamp) → ⊥
  pub one_start : (t a b : ℕ) → Has s.started (t, a) → Has s.started (t, b) → a ≡ b
  pub started : (t stamp : ℕ) → Has s.started (t, stamp) → t < threads
  pub one_end : (t a b : ℕ) → Has s.ended (t, a) → Has s.ended (t, b) → a ≡ b
  pub ended : (t g : ℕ) → Has s.ended (t, g) → (t < threads) × (g ≤ rows)
  -- a nack of the table is bound, to a row of the table
  pub bound : (n : NackName) (b : Binding) → Has s.bound (n, b) → (n.thread < threads) × (n.k < 64) × (b.sync < rows) × (b.scope < 4)
  -- and so is one that is carried
  pub carried : (n : NackName) (stamp : ℕ) → Has s.carried (n, stamp) → (n.thread < threads) × (n.k < 64)

-- the rows that it saw open, or of which it read a word, have words
unfoldable pub OpenHaveWords : Layout → Seen → Type 0
OpenHaveWords y s = (r : Row) → Has s.opened r ⊎ ((p : ℕ) × (x : ℕ) × Has s.words (r, p, x)) → HasWords y r

-- the nack was settled before the table: with the stamp at which it was enabled, or with 0
abbrev pub WasSettled : Opening → NackName → ℕ → Type 0
WasSettled o n stamp = carried_by (word_for (state_in o n)) ≡ Some stamp

-- and so was each that was seen carried
abbrev pub AreSettled : Opening → Seen → Type 0
AreSettled o s = (n : NackName) (stamp : ℕ) → Has s.carried (n, stamp) → WasSettled o n stamp
