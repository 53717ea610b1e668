-- A line that is written, of a channel or a latch.
use Rattle.std.proofs.Common.{◌≡◌, ◌∙◌, Bool, true, List, Option, Some, map, set, get_or, refl, sym, subst, ap, ℕ}
use Rattle.std.specs.List.{slice_get}
use Rattle.channels.specs.declared.waiting.Side.TheVariants.{Send as ToSend, Receive as ToReceive}
use Rattle.channels.specs.declared.waiting.Waiting.{Waiting}
use Rattle.channels.specs.States.{State as Channel, line, with_line}
use Rattle.engine.specs.declared.held.Latch.{Latch as Held}
use Rattle.engine.specs.declared.offers.ChannelKey.{ChannelKey}
use Rattle.engine.specs.declared.offers.LatchKey.{LatchKey}
use Rattle.engine.specs.declared.offers.Offer.{Offer}
use Rattle.engine.specs.declared.offers.Offer.TheVariants.{Send, Receive, Latch}
use Rattle.engine.specs.declared.places.Slot.{Slot}
use Rattle.engine.specs.declared.table.Table.{Table}
use Rattle.engine.specs.Lines.{ChangesOnly}
use Rattle.engine.specs.Places.{shown}
use Rattle.engine.specs.States.{LatchState, State}
use Rattle.engine.specs.Tables.{generation_of, latch_of, line_in, receives_of, sends_of, state_of, waiting_of}
use Rattle.engine.proofs.Kept.{IsAt, kept-at, shown-same, slot-at}
use Rattle.engine.proofs.Lists.{get-set-same}
use Rattle.engine.proofs.Opening.{latch-at, open-at, receives-change, sends-change, waiting-change}

-- of what is open the same is shown, and only the line of this offer changed
pub record Written (cs ds : List (Slot Channel)) (ls ms : List (Slot Held)) (o : Offer) (before after : List Waiting) : Type 0 where
  pub channels : map (shown generation_of) ds ≡ map (shown generation_of) cs
  pub latches : map (shown latch_of) ms ≡ map (shown latch_of) ls
  pub only_it : ChangesOnly (line_in cs ls) (line_in ds ms) o
  pub was : line_in cs ls o ≡ before
  pub is : line_in ds ms o ≡ after

abbrev pub channel_set : Slot Channel → Channel → Slot Channel
channel_set r v = record { used = r.used; generation = r.generation; value = v; next_free = r.next_free }

abbrev pub line_set : Slot Held → Channel → Slot Held
line_set r v = record { used = r.used; generation = r.generation; value = record { fired = r.value.fired; line = v }; next_free = r.next_free }

-- the slot that was read
read-at : (cs : List (Slot Channel)) (key : ChannelKey) (r : Slot Channel) → slice_get (map (shown generation_of) cs) key.index ≡ Some (Some key.generation) → r ≡ get_or cs key.index r → (x : IsAt cs key.index key.generation) × (x.slot ≡ r)
read-at cs key r h is = slot-at cs key.index key.generation r (open-at cs key.index key.generation h) is

pub sends-written : (cs : List (Slot Channel)) (ls : List (Slot Held)) (key : ChannelKey) (r : Slot Channel) (v : Channel) → slice_get (map (shown generation_of) cs) key.index ≡ Some (Some key.generation)
    → r ≡ get_or cs key.index r → v ≡ with_line ToSend r.value (line ToSend v) → Written cs (set cs key.index (channel_set r v)) ls ls (Send key) r.value.sends v.sends
sends-written cs ls key r v h is rest =
    let x = read-at cs key r h is in
    let at : slice_get cs key.index ≡ Some r = subst (λ (s : Slot Channel). slice_get cs key.index ≡ Some s) x.1 x.0.at in
    let used : r.used ≡ true = subst (λ (s : Slot Channel). s.used ≡ true) x.1 x.0.used in
    let since : r.generation ≡ key.generation = subst (λ (s : Slot Channel). s.generation ≡ key.generation) x.1 x.0.since in
    let here : IsAt cs key.index key.generation = record { slot = r; at = at; used = used; since = since } in
    record {
      channels = shown-same generation_of cs key.index r (channel_set r v) at refl;
      latches = refl;
      only_it = sends-change cs ls key (channel_set r v) here used since (ap (λ (c : Channel). c.receives) rest);
      was = ap sends_of (kept-at cs key.index key.generation r at used since);
      is = ap sends_of (kept-at (set cs key.index (channel_set r v)) key.index key.generation (channel_set r v) (get-set-same cs key.index r (channel_set r v) at) used since);
    }

pub receives-written : (cs : List (Slot Channel)) (ls : List (Slot Held)) (key : ChannelKey) (r : Slot Channel) (v : Channel) → slice_get (map (shown generation_of) cs) key.index ≡ Some (Some key.generation)
    → r ≡ get_or cs key.index r → v ≡ with_line ToReceive r.value (line ToReceive v) → Written cs (set cs key.index (channel_set r v)) ls ls (Receive key) r.value.receives v.receives
receives-written cs ls key r v h is rest =
    let x = read-at cs key r h is in
    let at : slice_get cs key.index ≡ Some r = subst (λ (s : Slot Channel). slice_get cs key.index ≡ Some s) x.1 x.0.at in
    let used : r.used ≡ true = subst (λ (s : Slot Channel). s.used ≡ true) x.1 x.0.used in
    let since : r.generation ≡ key.generation = subst (λ (s : Slot Channel). s.generation ≡ key.generation) x.1 x.0.since in
    let here : IsAt cs key.index key.generation = record { slot = r; at = at; used = used; since = since } in
    record {
      channels = shown-same generation_of cs key.index r (channel_set r v) at refl;
      latches = refl;
      only_it = receives-change cs ls key (channel_set r v) here used since (ap (λ (c : Channel). c.sends) rest);
      was = ap receives_of (kept-at cs key.index key.generation r at used since);
      is = ap receives_of (kept-at (set cs key.index (channel_set r v)) key.index key.generation (channel_set r v) (get-set-same cs key.index r (channel_set r v) at) used since);
    }

pub waiting-written : (cs : List (Slot Channel)) (ls : List (Slot Held)) (key : LatchKey) (fired : Bool) (r : Slot Held) (v : Channel)
    → slice_get (map (shown latch_of) ls) key.index ≡ Some (Some (record { generation = key.generation; fired = fired })) → r ≡ get_or ls key.index r
    → Written cs cs ls (set ls key.index (line_set r v)) (Latch key) r.value.line.receives v.receives
waiting-written cs ls key fired r v h is =
    let x = slot-at ls key.index key.generation r (latch-at ls key.index key.generation fired h).0 is in
    let at : slice_get ls key.index ≡ Some r = subst (λ (s : Slot Held). slice_get ls key.index ≡ Some s) x.1 x.0.at in
    let used : r.used ≡ true = subst (λ (s : Slot Held). s.used ≡ true) x.1 x.0.used in
    let since : r.generation ≡ key.generation = subst (λ (s : Slot Held). s.generation ≡ key.generation) x.1 x.0.since in
    let here : IsAt ls key.index key.generation = record { slot = r; at = at; used = used; since = since } in
    record {
      channels = refl;
      latches = shown-same latch_of ls key.index r (line_set r v) at refl;
      only_it = waiting-change cs ls key (line_set r v) here since;
      was = ap waiting_of (kept-at ls key.index key.generation r at used since);
      is = ap waiting_of (kept-at (set ls key.index (line_set r v)) key.index key.generation (line_set r v) (get-set-same ls key.index r (line_set r v) at) used since);
    }

-- what the table shows is as it was
pub written-state : (t : Table) (ds : List (Slot Channel)) (ms : List (Slot Held)) (o : Offer) (before after : List Waiting) → Written t.channels.slots.items ds t.latches.slots.items ms o before after
    → record { channels = map (shown generation_of) ds; latches = map (shown latch_of) ms; places = (state_of t).places; next = t.next } ≡ state_of t
written-state t ds ms o before after w =
    let first : List (Option ℕ) → State = λ l. record { channels = l; latches = map (shown latch_of) ms; places = (state_of t).places; next = t.next } in
    let second : List (Option LatchState) → State = λ l. record { channels = (state_of t).channels; latches = l; places = (state_of t).places; next = t.next } in
    ap first w.channels ∙ ap second w.latches

-- what is so of the lines is so of those of the offer
pub of-line : (P : List Waiting → List Waiting → Type 0) (old new : Offer → List Waiting) (o k : Offer) (before after : List Waiting) → o ≡ k → old k ≡ before → new k ≡ after → P before after → P (old o) (new o)
of-line P old new o k before after same was is h =
    subst (λ (x : Offer). P (old x) (new x)) (sym same) (subst (λ (y : List Waiting). P (old k) y) (sym is) (subst (λ (x : List Waiting). P x after) (sym was) h))
