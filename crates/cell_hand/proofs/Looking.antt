-- A test looks first: what is said of the hand after it, holds of the hand before it.
use Rattle.std.proofs.Common.{List, ◌∷◌, Bool, false, inl, inr, refl, ◌≡◌, ◌<◌, ◌+◌, ℕ, nat_lt, true, rules, ap, subst, sym, ◌∙◌}
use Rattle.std.specs.Prelude.{if◌then◌else◌, IfNone, IfSome, None, Ok, Option, Some}
use Rattle.protocol_values.specs.declared.Cell.{Cell}
use Rattle.protocol_values.specs.declared.Cell.TheVariants.{Claimed, Fresh, Synched, Taken, Waiting}
use Rattle.protocol_values.specs.declared.Joined.{Joined}
use Rattle.protocol_values.specs.declared.Row.{Row}
use Rattle.protocol_values.specs.Values.{joined_of, next_row}
use Rattle.protocol_values.specs.declared.Offer.{Offer}
use Rattle.protocol_values.specs.declared.Step.{Step}
use Rattle.protocol_values.specs.declared.Step.TheVariants.{Bind}
use Rattle.protocol_ledger.specs.Worlds.{nack_of_row}
use Rattle.std.proofs.lemmas.Bool.{lt-ltb}
use Rattle.cell.specs.Attempts.{Attempted, Bound, Fits, Took, attempt_made, bind_made}
use Rattle.cell.specs.Calls.{Grid, IsRowOf, KeepsResults}
use Rattle.cell.specs.declared.attempt.Attempt.{Attempt}
use Rattle.cell.specs.declared.attempt.Attempt.TheVariants.{Busy, Gone, Met as MetBy, Mine, Unfit}
use Rattle.cell_table.specs.declared.view.Seen.{Seen}
use Rattle.cell_table.specs.Sight.{Has, SawEnded, see_cell, see_held}
use Rattle.atomic_table.specs.declared.shared.Seat.{Seat}
use Rattle.meet_directory.specs.declared.view.View.{View}
use Rattle.meet_scan.specs.Leaving.{IsHeldUp, KnowsMore, ScansTo, TriesFirst}
use Rattle.meet_scan.specs.Searches.{Finds, Grows}
use Rattle.meet_scan.specs.Steps.{SearchMade, found_or_left}
use Rattle.meet_scan.specs.declared.found.Found.{Found}
use Rattle.meet_scan.specs.declared.found.Found.TheVariants.{Alone, Already, Met, Waits}
use Rattle.meet_scan.proofs.Growing.{grows_nothing, grows_then, saw_more, stands_more}
use Rattle.meet_scan.proofs.Scanning.{held_more, more_nothing, tries_sooner}
use Rattle.cell_hand.specs.Hands.{CanAttempt, CanDraft, HandOf, Looked, Stays}
use Rattle.cell_hand.specs.Calls.{Attempts, Binds, IsDrafted, IsSearched, Searches}

attempted_sooner : (s m t : Seen) (mine : Row) (own : ℕ) (other : Row) (partner : ℕ) (a : Attempt) → Grows s m
    → Attempted m t mine own other partner a → Attempted s t mine own other partner a
attempted_sooner s m t mine own other partner (MetBy stamp) g x = x
attempted_sooner s m t mine own other partner Gone g x = x
attempted_sooner s m t mine own other partner Mine g x = x
attempted_sooner s m t mine own other partner Unfit g x = x
attempted_sooner s m t mine own other partner Busy g x =
    (λ h. x.0 (subst (λ (rows : List Row). Has rows other) (sym g.held) h), λ c. x.1 (saw_more s m other g c))

stays_then : (h m k : HandOf) → Stays h m → Stays m k → Stays h k
stays_then h m k a b = (b.0 ∙ a.0, b.1 ∙ a.1, b.2 ∙ a.2)

-- it can be attempted still
pub can_then : (m k : HandOf) (r : Row) → CanAttempt m r → k.table ≡ m.table → Grows m.pass.seen k.pass.seen → CanAttempt k r
can_then m k r can same g =
    (subst (λ (t : Grid). IsRowOf t r) (sym same) can.0, subst (λ (rows : List Row). Has rows r) (sym g.held) can.1, g.opened.0 r can.2)

pub attempts : (h m k : HandOf) (mine : Row) (own : ℕ) (other : Row) (partner : ℕ) (a : Attempt) → Looked h m → CanAttempt m mine → IsRowOf h.table other
    → Stays m k → Grows m.pass.seen k.pass.seen → k.pass.made ≡ attempt_made mine own other partner a m.pass.made
    → Attempted m.pass.seen k.pass.seen mine own other partner a → Fits k.pass.seen mine own other partner a
    → Attempts h k mine own other partner (Ok a)
attempts h m k mine own other partner a looked can there stays grows made attempted fits = (
  can_then m k mine can stays.0 grows,
  there,
  stays_then h m k looked.0 stays,
  grows_then h.pass.seen m.pass.seen k.pass.seen looked.1 grows,
  subst (λ (steps : List Step). k.pass.made ≡ attempt_made mine own other partner a steps) looked.2.0 made,
  attempted_sooner h.pass.seen m.pass.seen k.pass.seen mine own other partner a looked.1 attempted,
  fits,
)

finds_sooner : (s m t : Seen) (r : Row) (came : Option Found) → Grows s m → IfSome came (Finds m t r) → IfSome came (Finds s t r)
finds_sooner s m t r None g f = f
finds_sooner s m t r (Some (Met other)) g f = f
finds_sooner s m t r (Some Alone) g f = f
finds_sooner s m t r (Some Already) g f = f
finds_sooner s m t r (Some Waits) g f = (λ c. f.0 (saw_more s m r g c), λ n c. f.1 n (stands_more s m r n g c))

scans_sooner : (v : View) (s m t : Seen) (r : Row) (came : Option Found) → Grows s m → IfSome came (ScansTo v m t r) → IfSome came (ScansTo v s t r)
scans_sooner v s m t r None g f = f
scans_sooner v s m t r (Some (Met other)) g f = f
scans_sooner v s m t r (Some Alone) g f = f
scans_sooner v s m t r (Some Already) g f = f
scans_sooner v s m t r (Some Waits) g f = (f.0, λ c. f.1 (saw_more s m r g c))

again_sooner : (t u : Grid) (v : View) (s m k : Seen) (r : Row) (came : Option Found) → u ≡ t → Grows s m → IfNone came (IsHeldUp u v m k r) → IfNone came (IsHeldUp t v s k r)
again_sooner t u v s m k r (Some f) same g held = held
again_sooner t u v s m k r None same g held =
    subst (λ (w : Grid). IsHeldUp w v s k r) same (held_more u v v s m k k r (more_nothing v) g (grows_nothing k) held)

tries_from_sooner : (t u : Grid) (v : View) (s m k : Seen) (r : Row) (first : ℕ) (came : Option Found) → u ≡ t → Grows s m → IfSome came (TriesFirst u v m k r first) → IfSome came (TriesFirst t v s k r first)
tries_from_sooner t u v s m k r first None same g tries = tries
tries_from_sooner t u v s m k r first (Some found) same g tries = subst (λ (w : Grid). TriesFirst w v s k r first found) same (tries_sooner u v s m k r first found g tries)

pub searched_sooner : (h m k : HandOf) (r : Row) (first : ℕ) (alone : Bool) (came : Option Found) → Looked h m → IsSearched m k r first alone came → IsSearched h k r first alone came
searched_sooner h m k r first alone came looked x = record {
  table = (x.table.0 ∙ looked.0.0, x.table.1 ∙ looked.0.1);
  grows = grows_then h.pass.seen m.pass.seen k.pass.seen looked.1 x.grows;
  more = subst (λ (v : View). KnowsMore v k.scan.me.0) (ap (λ (s : Seat (Unit {0}) View). s.me.0) looked.0.2) x.more;
  made = subst (λ (steps : List Step). SearchMade r (found_or_left came) steps k.pass.made) looked.2.0 x.made;
  found = scans_sooner k.scan.me.0 h.pass.seen m.pass.seen k.pass.seen r came looked.1 x.found;
  granted = λ asked. finds_sooner h.pass.seen m.pass.seen k.pass.seen r came looked.1 (x.granted asked);
  tried = tries_from_sooner h.table m.table k.scan.me.0 h.pass.seen m.pass.seen k.pass.seen r first came looked.0.0 looked.1 x.tried;
  again = again_sooner h.table m.table k.scan.me.0 h.pass.seen m.pass.seen k.pass.seen r came looked.0.0 looked.1 x.again;
}

pub searches : (h m k : HandOf) (r : Row) (first : ℕ) (alone : Bool) (came : Option Found) → Looked h m → CanAttempt m r → IsSearched m k r first alone came → Searches h k r first alone (Ok came)
searches h m k r first alone came looked can x = (can_then m k r can x.table.0 x.grows, searched_sooner h m k r first alone came looked x)

-- how the row was committed shows in its cell
pub joined_seen : (r : Row) (c : Cell) (j : Joined) (s : Seen) → joined_of c ≡ Some j → Has (see_cell r c s).joined (r, j)
joined_seen r Fresh j s e = search rules
joined_seen r Waiting j s e = search rules
joined_seen r Claimed j s e = search rules
joined_seen r (Synched i) j s e = search rules
joined_seen r (Taken i) j s e = search rules

next_held : (b : Bool) (s : Seen) (q : Row) → b ≡ true → Has (if b then see_held (next_row q) s else record s { lasts = q.thread ∷ s.lasts }).held (next_row q)
next_held true s q e = inl refl
next_held false s q e = search rules

-- who took the row before this one can draft it
pub reached : (rows : ℕ) (s t : Seen) (q r : Row) (j : Joined) → Took rows s t q j → next_row q ≡ r → r.sync < rows
    → Has t.held r × (¬ Has t.opened r) × (¬ SawEnded t r.thread)
reached rows s t q r j took is there =
    let within : nat_lt (q.sync + 1) rows ≡ true = lt-ltb (q.sync + 1) rows (subst (λ (x : Row). x.sync < rows) (sym is) there) in
    let held : Has t.held (next_row q) = subst (λ (l : List Row). Has l (next_row q)) (sym took.held) (next_held (nat_lt (q.sync + 1) rows) s q within) in (
      subst (λ (x : Row). Has t.held x) is held,
      subst (λ (x : Row). ¬ Has t.opened x) is took.next,
      subst (λ (x : Row). ¬ SawEnded t x.thread) is took.alive,
    )

-- and what was drafted can be opened
pub can_open : (h k : HandOf) (r : Row) (offers : List Offer) → CanDraft h r → IsDrafted h k r offers → CanDraft k r
can_open h k r offers can drafted =
    let new = drafted.3 in (
      subst (λ (t : Grid). IsRowOf t r) (sym drafted.0.0) can.0,
      subst (λ (l : List Row). Has l r) (sym new.held) can.1,
      subst (λ (l : List Row). ¬ Has l r) (sym new.opened) can.2,
      λ ended. can.3 (ended.0, subst (λ (l : List (ℕ × ℕ)). Has l (r.thread, ended.0)) new.ended ended.1),
    )

looked_then : (h m k : HandOf) → Looked h m → Looked m k → Looked h k
looked_then h m k a b = (
  stays_then h m k a.0 b.0,
  grows_then h.pass.seen m.pass.seen k.pass.seen a.1 b.1,
  (b.2.0 ∙ a.2.0, (b.2.1.0 ∙ a.2.1.0, b.2.1.1 ∙ a.2.1.1)),
)

pub binds : (h m k : HandOf) (nack : ℕ) (r : Row) (scope : ℕ) (b : Bool) → Looked h m → CanDraft h r → Stays m k → Grows m.pass.seen k.pass.seen
    → k.pass.made ≡ bind_made nack r scope b m.pass.made → KeepsResults m.pass k.pass → Bound m.pass.seen k.pass.seen nack r scope b
    → Binds h k nack r scope (Ok b)
binds h m k nack r scope true looked can stays grows made keeps bound = (
  can,
  (stays_then h m k looked.0 stays, grows_then h.pass.seen m.pass.seen k.pass.seen looked.1 grows, subst (λ (steps : List Step). k.pass.made ≡ Bind nack r scope ∷ steps) looked.2.0 made),
  (refl, subst (λ (s : Seen). Has s.bound (nack_of_row r nack, record { sync = r.sync; scope = scope })) (sym bound.0) (inl refl)),
)
binds h m k nack r scope false looked can stays grows made keeps (inl bound) =
    (can, looked_then h m k looked (stays, grows, (made, keeps)), inl (bound.0, subst (λ (s : Seen). Has s.bound (nack_of_row r nack, bound.0)) (sym bound.1) (inl refl), bound.2))
binds h m k nack r scope false looked can stays grows made keeps (inr carried) =
    (can, looked_then h m k looked (stays, grows, (made, keeps)), inr (carried.0, subst (λ (s : Seen). Has s.carried (nack_of_row r nack, carried.0)) (sym carried.1) (inl refl)))
