-- What a step tells the pass that makes it: its view after, by the word that it found.
use Rattle.std.specs.Prelude.{◌≡◌, ◌≢◌, ℕ, ◌+◌, List, ◌∷◌, length, take, ◌<◌, ◌≤◌, true, is_some, unwrap_or, Option, Some, slice_get}
use Rattle.atomic_table.specs.Table.{Step, Me, rest}
use Rattle.protocol_values.specs.declared.Step.TheVariants.{Open, Claim, Yield, Join, Seal, Grant, Take}
use Rattle.protocol_values.specs.Words.{cell_word, cell_of, count_of, course_of, course_word, nack_word, nack_of, IsBindingInRange, IsCourseInRange, IsJoinedInRange}
use Rattle.protocol_values.specs.declared.NackName.{NackName}
use Rattle.protocol_values.specs.declared.Binding.{Binding}
use Rattle.protocol_values.specs.declared.NackWord.{NackWord}
use Rattle.protocol_values.specs.declared.NackWord.TheVariants.{Bound, Carried, Unbound}
use Rattle.protocol_values.specs.declared.Course.{Course}
use Rattle.protocol_values.specs.declared.Course.TheVariants.{Unstarted, Running, Ended}
use Rattle.protocol_values.specs.declared.Row.{Row}
use Rattle.protocol_values.specs.declared.Joined.{Joined}
use Rattle.protocol_values.specs.declared.Cell.{Cell}
use Rattle.protocol_values.specs.declared.Cell.TheVariants.{Fresh, Waiting, Claimed, Synched, Taken}
use Rattle.protocol_values.specs.declared.Message.{Message}
use Rattle.protocol_values.specs.declared.Offer.{Offer}
use Rattle.protocol_ledger.specs.Standing.{IsLeft, Result, Stands}
use Rattle.protocol_ledger.specs.declared.layout.Layout.{Layout}
use Rattle.protocol_ledger.specs.Short.{HasWords, row_len, short_course_place, short_nack_place, short_place}
use Rattle.protocol_ledger.specs.Tables.{bound_row, is_taken}
use Rattle.protocol_values.specs.Values.{next_row}
use Rattle.cell_table.specs.declared.view.View.{View}
use Rattle.cell_table.specs.declared.view.Stage.TheVariants.{Resting, Claims, Joins}
use Rattle.cell_table.specs.declared.view.Seen.{Seen}
use Rattle.cell_table.specs.Sight.{Has, IsExpected, IsExpectedCourse, IsResult, IsStand, IsUnseen, OpenHaveWords, SawEnded, AreSettled, Coherent, see_begun}
use Rattle.cell_table.specs.Views.{IsClaimer, at_stage, bind_of, bound_nack, did, ended_thread, opening_by, saw, saw_course, saw_nack, started_thread, stood_at, took_with, read_word, turned, word_drafted}

-- the table has the row, and words for it
abbrev pub Inside : ℕ → ℕ → Layout → Row → Type 0
Inside threads rows y r = (r.thread < threads) × (r.sync < rows) × HasWords y r

module _ {M : Type 0} where
  -- the step is on this word of this row
  abbrev pub At : {S : Type 0} → Step S → Me S (View M) → Row → ℕ → Type 0
  At st m r p = Inside m.0.threads m.0.rows m.0.layout r × (st.word ≡ short_place m.0.layout r p)

-- the table has the nack
abbrev pub InsideNack : ℕ → NackName → Type 0
InsideNack threads n = (n.thread < threads) × (n.k < 64)

module _ {M : Type 0} where
  -- the step is on the word of this nack
  abbrev pub AtNack : {S : Type 0} → Step S → Me S (View M) → NackName → Type 0
  AtNack st m n = InsideNack m.0.threads n × (st.word ≡ short_nack_place m.0.layout n)

module _ {M : Type 0} where
  -- the step is on the word of this thread's life
  abbrev pub AtLife : {S : Type 0} → Step S → Me S (View M) → ℕ → Type 0
  AtLife st m p = (p < m.0.threads) × (st.word ≡ short_course_place m.0.layout p)

-- where a word says that a thread is on its course
abbrev pub course_read : ℕ → Course
course_read n = unwrap_or (course_of n) Unstarted

-- what a word says of a nack
abbrev pub nack_read : ℕ → NackWord
nack_read n = unwrap_or (nack_of n) Unbound

-- the cell that a word stands for
abbrev pub cell_read : ℕ → Cell
cell_read n = unwrap_or (cell_of n) Fresh

module _ {M : Type 0} where
  -- what a pass knows of a row's cell before it looks: what it has seen of it, that only its holder claims it, and that whoever
  -- stands behind a thread's last row has all its rows taken
  abbrev pub Agrees : View M → Row → Cell → Type 0
  Agrees v r c = IsExpected v.seen r c × (Has v.seen.held r → c ≡ Claimed → IsClaimer v.stage r) × (Has v.seen.lasts r.thread → r.sync < v.rows → is_taken c ≡ true)

  -- what the pass has seen agrees with itself, and with what went before the table, and what it saw open has words
  abbrev pub AgreesWithItself : View M → Type 0
  AgreesWithItself v = Coherent v.threads v.rows v.seen × AreSettled (opening_by v) v.seen × OpenHaveWords v.layout v.seen

  -- the word that was found is a cell's
  abbrev pub looked : {S : Type 0} → Step S → Me S (View M) → ℕ → Me S (View M) → Type 0
  looked st m n w = (r : Row) → At st m r 0 → (w ≡ (saw r (cell_read n) m.0, m.1)) × Agrees m.0 r (cell_read n) × AgreesWithItself w.0 × (is_some (cell_of n) ≡ true)

  -- and of the number of a row's offers, that rows have room for so many
  abbrev pub has_read : {S : Type 0} → Step S → Me S (View M) → ℕ → Me S (View M) → Type 0
  has_read st m n w = (r : Row) (p : ℕ) → p < row_len m.0.layout.offers → At st m r p → (w ≡ (read_word r p n m.0, m.1)) × AgreesWithItself w.0 × (p ≡ 1 → unwrap_or (count_of n) 0 ≤ m.0.layout.offers)

  -- a glance finds nothing new: the pass has heard of one table only, so what it has heard agrees with what it had seen. A row that
  -- has no words is Fresh
  abbrev pub glanced : {S : Type 0} → Step S → Me S (View M) → ℕ → Me S (View M) → Type 0
  glanced st m n w = (w ≡ m) × AgreesWithItself w.0 × ((r : Row) → r.thread < m.0.threads → r.sync < m.0.rows → (¬ HasWords m.0.layout r) → Agrees m.0 r Fresh)

  abbrev pub drafted : {S : Type 0} → Step S → Me S (View M) → ℕ → Me S (View M) → Type 0
  drafted st m n w = (r : Row) (p : ℕ) → p < row_len m.0.layout.offers → At st m r p → (w ≡ (word_drafted r p n m.0, m.1)) × AgreesWithItself w.0

  -- the front slot of those that are out goes home, in a table that has slots
  abbrev pub GoesHome : {S : Type 0} → List (Option M) → List (ℕ × S) → List (ℕ × S) → Type 0
  GoesHome first before after = (length first ≡ 0 → after ≡ before) × (0 < length first → after ≡ rest before)

  -- the row is Waiting now, and the call rests: the row is opened, or given up
  abbrev pub opened : {S : Type 0} → Step S → Me S (View M) → ℕ → Me S (View M) → Type 0
  opened st m n w = (r : Row) → At st m r 0 → (w.0 ≡ did (Open r) (turned Resting r m.0)) × GoesHome m.0.first m.1 w.1 × AgreesWithItself w.0

  -- what stood for the row's thread at first came out of its slot
  abbrev pub began : Row → View M → View M
  began r v = at_stage v.stage (see_begun r v.seen) v

  abbrev pub has_begun : Step (Option M) → Me (Option M) (View M) → ℕ → Me (Option M) (View M) → Type 0
  has_begun st m n w = (r : Row) → At st m r 0
      → (value : M) × (slice_get m.0.first r.thread ≡ Some (Some value)) × (w ≡ (began r m.0, (r.thread, Some value) ∷ m.1)) × AgreesWithItself w.0

  abbrev pub yielded : {S : Type 0} → Step S → Me S (View M) → ℕ → Me S (View M) → Type 0
  yielded st m n w = (r : Row) → At st m r 0 → (w ≡ (did (Yield r) (turned Resting r m.0), m.1)) × AgreesWithItself w.0

  -- the pass has found the cell that the word stands for
  abbrev pub finds : {S : Type 0} → Me S (View M) → Row → ℕ → Me S (View M) → Type 0
  finds m r n w = (w ≡ (saw r (cell_read n) m.0, m.1)) × Agrees m.0 r (cell_read n)

  -- where the cell was Waiting it is Claimed; else the pass has seen what it is
  abbrev pub claimed : {S : Type 0} → Step S → Me S (View M) → ℕ → Me S (View M) → Type 0
  claimed st m n w = (r : Row) → At st m r 0
      → (n ≡ cell_word Waiting → w ≡ (did (Claim r) (turned (Claims r) r m.0), m.1)) × (n ≢ cell_word Waiting → finds m r n w) × AgreesWithItself w.0

  -- the pass has joined row o with offer `own` of its row, and is to seal its own
  abbrev pub joining : Row → ℕ → Row → Joined → View M → View M
  joining mine own o j v = did (Join mine own o j.own) (saw o (Synched j) (turned (Joins mine o j) o v))

  abbrev pub joined : {S : Type 0} → Step S → Me S (View M) → ℕ → Me S (View M) → Type 0
  joined st m n w = (mine : Row) (own : ℕ) (o : Row) (j : Joined) → m.0.stage ≡ Claims mine → j.partner ≡ Some (mine, own) → At st m o 0 → IsJoinedInRange j → st.second ≡ cell_word (Synched j)
      → (n ≡ cell_word Waiting → w ≡ (joining mine own o j m.0, m.1)) × (n ≢ cell_word Waiting → finds m o n w) × AgreesWithItself w.0

  -- the row is committed so, as the last thing that the call does
  abbrev pub settled : Row → Joined → View M → View M
  settled r j v = saw r (Synched j) (turned Resting r v)

  abbrev pub sealed : {S : Type 0} → Step S → Me S (View M) → ℕ → Me S (View M) → Type 0
  sealed st m n w = (r : Row) (j : Joined) → At st m r 0 → IsJoinedInRange j → n ≡ cell_word (Synched j)
      → (w ≡ (did (Seal r) (settled r j m.0), m.1)) × AgreesWithItself w.0

  -- where the cell was Waiting it is committed alone; else the pass has seen what it is
  abbrev pub granted : {S : Type 0} → Step S → Me S (View M) → ℕ → Me S (View M) → Type 0
  granted st m n w = (r : Row) (j : Joined) → m.0.stage ≡ Resting → At st m r 0 → IsJoinedInRange j → st.second ≡ cell_word (Synched j)
      → (n ≡ cell_word Waiting → (w ≡ (did (Grant r j.own) (settled r j m.0), m.1)) × Agrees m.0 r Waiting) × (n ≢ cell_word Waiting → finds m r n w) × AgreesWithItself w.0

  -- The value of the row's thread comes out with the row, in a table that has slots. It is still to be given the last of the
  -- results: that of the row, with the message that the row gets, by what the pass had seen before and by what it has seen since.
  abbrev pub ComesOut : Stands M → List (Option M) → Seen → Seen → Row → ℕ → List Result → List (ℕ × Option M) → List (ℕ × Option M) → Type 0
  ComesOut stands first old new r own results before after =
      (length first ≡ 0 → after ≡ before)
      × (0 < length first → (value : M) × (got : Message) × (after ≡ (r.thread, Some value) ∷ before) × IsLeft stands first value r own results got × ((m : Message) → IsResult old r m → m ≡ got) × ((m : Message) → IsResult new r m → m ≡ got))

  -- where the cell was Synched it is Taken, nobody has opened the row behind it, and the thread has not ended; else the pass has seen what it is
  abbrev pub taken : Stands M → Step (Option M) → Me (Option M) (View M) → ℕ → Me (Option M) (View M) → Type 0
  taken stands st m n w = (r : Row) (j : Joined) → At st m r 0 → IsJoinedInRange j → st.second ≡ cell_word (Taken j)
      → (n ≡ cell_word (Synched j) → (results : List Result) × (length results ≡ r.sync + 1) × (w.0 ≡ did (Take r) (took_with r j results m.0)) × ComesOut stands m.0.first m.0.seen w.0.seen r j.own results m.1 w.1 × Agrees m.0 r (Synched j) × (¬ Has m.0.seen.opened (next_row r)) × (¬ SawEnded m.0.seen r.thread) × ((nack : NackName) (b : Binding) → Has m.0.seen.bound (nack, b) → bound_row nack b ≢ next_row r))
      × (n ≢ cell_word (Synched j) → finds m r n w) × AgreesWithItself w.0

  -- what a pass knows of a nack before it looks: where it saw it bound, and as what it saw it carried
  abbrev pub AgreesNack : View M → NackName → NackWord → Type 0
  AgreesNack v n found = ((b : Binding) → Has v.seen.bound (n, b) → found ≡ Bound b) × ((stamp : ℕ) → Has v.seen.carried (n, stamp) → found ≡ Carried stamp)

  abbrev pub looked_nack : {S : Type 0} → Step S → Me S (View M) → ℕ → Me S (View M) → Type 0
  looked_nack st m n w = (nack : NackName) → AtNack st m nack
      → (w ≡ (saw_nack nack (nack_read n) m.0, m.1)) × AgreesNack m.0 nack (nack_read n) × AgreesWithItself w.0

  -- what a pass knows of a thread's life before it looks
  abbrev pub AgreesLife : View M → ℕ → Course → Type 0
  AgreesLife v p c = IsExpectedCourse v.rows v.seen p c

  abbrev pub looked_life : {S : Type 0} → Step S → Me S (View M) → ℕ → Me S (View M) → Type 0
  looked_life st m n w = (p : ℕ) → AtLife st m p → (w ≡ (saw_course p (course_read n) m.0, m.1)) × AgreesLife m.0 p (course_read n) × AgreesWithItself w.0

  -- the pass turns to a place at which it stands, by a look at its thread's life
  abbrev pub turned_to : {S : Type 0} → Step S → Me S (View M) → ℕ → Me S (View M) → Type 0
  turned_to st m n w = (r : Row) → AtLife st m r.thread → IsStand m.0.rows m.0.seen r
      → (w ≡ (stood_at r (saw_course r.thread (course_read n) m.0), m.1)) × AgreesLife m.0 r.thread (course_read n) × AgreesWithItself w.0

  -- where the thread had not started it has now, and the pass had seen nothing of it; else the pass has seen where it is, by a look
  abbrev pub tried_start : {S : Type 0} → Step S → Me S (View M) → ℕ → Me S (View M) → Type 0
  tried_start st m n w = (p stamp : ℕ) → AtLife st m p → IsCourseInRange (Running stamp) → st.second ≡ course_word (Running stamp)
      → (n ≡ course_word Unstarted → (w ≡ (started_thread p stamp m.0, m.1)) × IsUnseen m.0.seen p)
      × (n ≢ course_word Unstarted → (w ≡ (saw_course p (course_read n) m.0, m.1)) × (course_read n ≢ Unstarted) × AgreesLife m.0 p (course_read n))
      × AgreesWithItself w.0

  -- the thread has ended where the pass stands
  abbrev pub finished : {S : Type 0} → Step S → Me S (View M) → ℕ → Me S (View M) → Type 0
  finished st m n w = (r : Row) (start : ℕ) → AtLife st m r.thread → IsCourseInRange (Ended start r.sync) → n ≡ course_word (Ended start r.sync)
      → (w ≡ (ended_thread r start m.0, m.1)) × AgreesWithItself w.0

  -- The nack is a scope's of an earlier row of its thread: some value stands for the thread after the results of the rows before
  -- that row, with this nack for the scope to which it is bound. Whatever further results of the thread the pass has, they begin with those.
  pub record IsEarlier (stands : Stands M) (first : List (Option M)) (all : List (ℕ × List Result)) (n : NackName) (b : Binding) : Type 0 where
    pub results : List Result
    pub count : length results ≡ b.sync
    pub value : M
    pub offers : List Offer
    pub nacks : List ℕ
    pub standing : stands.offers first value n.thread results offers nacks
    pub scope : slice_get nacks b.scope ≡ Some n.k
    pub begins : (longer : List Result) → Has all (n.thread, longer) → b.sync ≤ length longer → results ≡ take b.sync longer

  -- what the pass knows of a nack that is not free, where it tried to bind it so: it is bound no row behind that one, and where it is
  -- a row that the pass holds, the pass had seen it; or it is carried, and the pass had not seen it bound
  abbrev pub FoundNack : Stands M → View M → NackName → Binding → NackWord → Type 0
  FoundNack stands v n b Unbound = ⊥
  FoundNack stands v n b (Bound c) =
      (c.sync ≤ b.sync) × (Has v.seen.held (bound_row n c) → Has v.seen.bound (n, c)) × (c.sync < b.sync → 0 < length v.first → IsEarlier stands v.first v.results n c)
  FoundNack stands v n b (Carried stamp) = (c : Binding) → ¬ Has v.seen.bound (n, c)

  -- where the nack was neither bound nor carried it is bound so, and the pass had seen neither of it; else the pass has seen what it is
  abbrev pub tried_bind : Stands M → Step (Option M) → Me (Option M) (View M) → ℕ → Me (Option M) (View M) → Type 0
  tried_bind stands st m n w = (nack : NackName) (b : Binding) → AtNack st m nack → IsBindingInRange b → st.second ≡ nack_word (Bound b)
      → (nack_read n ≡ Unbound → (w ≡ (did (bind_of nack b) (bound_nack nack b m.0), m.1)) × ((c : Binding) → ¬ Has m.0.seen.bound (nack, c)) × ((stamp : ℕ) → ¬ Has m.0.seen.carried (nack, stamp)))
      × (nack_read n ≢ Unbound → (w ≡ (saw_nack nack (nack_read n) m.0, m.1)) × FoundNack stands m.0 nack b (nack_read n))
      × AgreesWithItself w.0
