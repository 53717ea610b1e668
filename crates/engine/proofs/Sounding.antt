-- What keeps a table sound where something is opened, closed, fired or written.
use Rattle.std.proofs.Common.{◌≡◌, ◌⊎◌, ◌↔◌, ◌+◌, ◌<◌, ◌≤◌, ◌++◌, ◌∷◌, [], ℕ, Bool, true, false, List, Option, Some, None, map, set, get_or, length, refl, sym, ◌∙◌, subst, ap, arith, inl, inr}
use Rattle.std.specs.Prelude.{IsTrue}
use Rattle.std.specs.List.{slice_get}
use Rattle.std.proofs.lemmas.List.{length-map, map-append}
use Rattle.std.proofs.lemmas.Option.{same_Some, slice_get_within}
use Rattle.channels.specs.States.{State as Channel}
use Rattle.channels.specs.declared.waiting.Waiting.{Waiting}
use Rattle.engine.specs.declared.held.Latch.{Latch as Held}
use Rattle.engine.specs.declared.held.Offered.{Offered}
use Rattle.engine.specs.declared.offers.ChannelKey.{ChannelKey}
use Rattle.engine.specs.declared.offers.LatchKey.{LatchKey}
use Rattle.engine.specs.declared.offers.Offer.{Offer}
use Rattle.engine.specs.declared.offers.Offer.TheVariants.{Send, Receive, Latch, Always}
use Rattle.engine.specs.declared.places.Slot.{Slot}
use Rattle.engine.specs.declared.table.Table.{Table}
use Rattle.engine.specs.Calls.{ChannelCloses, ChannelOpens, LatchCloses, LatchOpens, with_latch}
use Rattle.engine.specs.Lines.{Adds, ChangesOnly, Lined, WaitsAt}
use Rattle.engine.specs.Places.{Begins, Empties, Grows, holds, kept, only, shown}
use Rattle.engine.specs.States.{State, Sync, IsOpen, LatchIs, NobodyOffers}
use Rattle.engine.specs.Tables.{IsSound, SameWait, Sits, generation_of, latch_of, line_in, state_of, sync_of, waiting_of}
use Rattle.engine.proofs.Kept.{at-holds, holds-at, kept-at, kept-others, shown-emptied, shown-filled, shown-free, shown-same, slot-at}
use Rattle.engine.proofs.Lining.{lined-adds, lined-same}
use Rattle.engine.proofs.Lists.{get-left, get-push-cases, get-set-other, get-set-same}
use Rattle.engine.proofs.Opening.{at-latch, at-open, latch-at, open-at}
use Rattle.engine.proofs.Promises.{channel-cases, latch-apart, latch-cases, promise-channels, promise-latch, promise-latches}
use Rattle.engine.proofs.Tabling.{sound-cleared, without}

-- OPENED AND CLOSED

pub sound-channel-opened : (old new : State) (at after : Offer → List Waiting) (key : ChannelKey) → ChannelOpens old new key → ((o : Offer) → (after o ≡ at o) ⊎ ((after o ≡ []) × NobodyOffers old o)) → IsSound old at
    → IsSound new after
sound-channel-opened old new at after key opens cases sound =
    let le : old.next ≤ new.next = (let a = opens.unused in let b = opens.next in omega arith) in
    sound-cleared old new at after opens.places le cases
    (promise-channels old new opens.latches opens.places le
    (λ k. inr (λ h. elim (channel-cases k key) [ inl e ↦ subst (λ (x : ChannelKey). IsOpen new x) (sym e) opens.opens | inr ne ↦ (opens.others k ne).1 h ]))
    (λ k h. elim (channel-cases k key) [
      | inl e ↦ let is = ap (λ (x : ChannelKey). x.generation) e in let lt = opens.next in omega arith
      | inr ne ↦ let was = sound.promise.channels_given k ((opens.others k ne).0 h) in omega arith
    ]) sound.promise) sound

pub sound-channel-closed : (old new : State) (at after : Offer → List Waiting) (key : ChannelKey) → ChannelCloses old new key → NobodyOffers old (Send key) → NobodyOffers old (Receive key)
    → ((o : Offer) → (after o ≡ at o) ⊎ ((after o ≡ []) × NobodyOffers old o)) → IsSound old at → IsSound new after
sound-channel-closed old new at after key closes sends receives cases sound =
    let le : old.next ≤ new.next = (let e = closes.next in omega arith) in
    sound-cleared old new at after closes.places le cases
    (promise-channels old new closes.latches closes.places le
    (λ k. elim (channel-cases k key) [
      | inl e ↦ inl (subst (λ (x : ChannelKey). NobodyOffers old (Send x)) (sym e) sends, subst (λ (x : ChannelKey). NobodyOffers old (Receive x)) (sym e) receives)
      | inr ne ↦ inr (λ h. (closes.others k ne).1 h)
    ])
    (λ k h. elim (channel-cases k key) [
      | inl e ↦ absurd (closes.closes (subst (λ (x : ChannelKey). IsOpen new x) e h))
      | inr ne ↦ let was = sound.promise.channels_given k ((closes.others k ne).0 h) in omega arith
    ]) sound.promise) sound

pub sound-latch-opened : (old new : State) (at after : Offer → List Waiting) (key : LatchKey) → LatchOpens old new key → ((o : Offer) → (after o ≡ at o) ⊎ ((after o ≡ []) × NobodyOffers old o)) → IsSound old at
    → IsSound new after
sound-latch-opened old new at after key opens cases sound =
    let le : old.next ≤ new.next = (let a = opens.unused in let b = opens.next in omega arith) in
    sound-cleared old new at after opens.places le cases
    (promise-latches old new opens.channels opens.places le
    (λ k. elim (latch-cases k key) [
      | inl e ↦ inl (λ who own x.
          let known = sound.promise.known who own (Latch k) x in
          let lt = sound.promise.latches_given k known.0 known.1 in
          let is = ap (λ (y : LatchKey). y.generation) e in
          let un = opens.unused in absurd (omega arith))
      | inr ne ↦ inr (λ fired. opens.others k fired ne)
    ])
    (λ k fired h. elim (latch-cases k key) [
      | inl e ↦ let is = ap (λ (x : LatchKey). x.generation) e in let lt = opens.next in omega arith
      | inr ne ↦ let was = sound.promise.latches_given k fired ((opens.others k fired ne).0 h) in omega arith
    ]) sound.promise) sound

pub sound-latch-closed : (old new : State) (at after : Offer → List Waiting) (key : LatchKey) → LatchCloses old new key → NobodyOffers old (Latch key)
    → ((o : Offer) → (after o ≡ at o) ⊎ ((after o ≡ []) × NobodyOffers old o)) → IsSound old at → IsSound new after
sound-latch-closed old new at after key closes nobody cases sound =
    let le : old.next ≤ new.next = (let e = closes.next in omega arith) in
    sound-cleared old new at after closes.places le cases
    (promise-latches old new closes.channels closes.places le
    (λ k. elim (latch-cases k key) [
      | inl e ↦ inl (subst (λ (x : LatchKey). NobodyOffers old (Latch x)) (sym e) nobody)
      | inr ne ↦ inr (λ fired. closes.others k fired ne)
    ])
    (λ k fired h. elim (latch-cases k key) [
      | inl e ↦ absurd (closes.closes (fired, subst (λ (x : LatchKey). LatchIs new x fired) e h))
      | inr ne ↦ let was = sound.promise.latches_given k fired ((closes.others k fired ne).0 h) in omega arith
    ]) sound.promise) sound

-- FIRED AND RENEWED

pub sound-latch : (old new : State) (at after : Offer → List Waiting) (key : LatchKey) (was fired : Bool) → LatchIs old key was → (fired ≡ true → NobodyOffers old (Latch key)) → new ≡ with_latch old key fired
    → ((o : Offer) → after o ≡ at o) → IsSound old at → IsSound new after
sound-latch old new at after key was fired h nobody is same sound =
    subst (λ (s : State). IsSound s after) (sym is)
    (record { promise = promise-latch old key was fired h nobody sound.promise; lined = lined-same old.places old.next at after (length old.places) 0 same sound.lined })

-- the latch that was read was written
abbrev pub latch_set : Slot Held → Bool → Slot Held
latch_set r fired = record { used = r.used; generation = r.generation; value = record { fired = fired; line = r.value.line }; next_free = r.next_free }

pub set-latch : (ls : List (Slot Held)) (key : LatchKey) (was fired : Bool) (r : Slot Held) → slice_get (map (shown latch_of) ls) key.index ≡ Some (Some (record { generation = key.generation; fired = was }))
    → r ≡ get_or ls key.index r → map (shown latch_of) (set ls key.index (latch_set r fired)) ≡ set (map (shown latch_of) ls) key.index (Some (record { generation = key.generation; fired = fired }))
set-latch ls key was fired r h is =
    let y = latch-at ls key.index key.generation was h in
    let x = slot-at ls key.index key.generation r y.0 is in
    let used : r.used ≡ true = subst (λ (s : Slot Held). s.used ≡ true) x.1 x.0.used in
    let since : r.generation ≡ key.generation = subst (λ (s : Slot Held). s.generation ≡ key.generation) x.1 x.0.since in
    shown-filled latch_of ls key.index (latch_set r fired) used ∙ ap (λ (n : ℕ). set (map (shown latch_of) ls) key.index (Some (record { generation = n; fired = fired }))) since

pub set-latch-lines : (cs : List (Slot Channel)) (ls : List (Slot Held)) (key : LatchKey) (was fired : Bool) (r : Slot Held)
    → slice_get (map (shown latch_of) ls) key.index ≡ Some (Some (record { generation = key.generation; fired = was })) → r ≡ get_or ls key.index r → (o : Offer)
    → line_in cs (set ls key.index (latch_set r fired)) o ≡ line_in cs ls o
set-latch-lines cs ls key was fired r h is (Send c) = refl
set-latch-lines cs ls key was fired r h is (Receive c) = refl
set-latch-lines cs ls key was fired r h is Always = refl
set-latch-lines cs ls key was fired r h is (Latch l) =
    let y = latch-at ls key.index key.generation was h in
    let x = slot-at ls key.index key.generation r y.0 is in
    let at : slice_get ls key.index ≡ Some r = subst (λ (s : Slot Held). slice_get ls key.index ≡ Some s) x.1 x.0.at in
    let used : r.used ≡ true = subst (λ (s : Slot Held). s.used ≡ true) x.1 x.0.used in
    let since : r.generation ≡ key.generation = subst (λ (s : Slot Held). s.generation ≡ key.generation) x.1 x.0.since in
    let now = latch_set r fired in
    elim (latch-cases l key) [
      | inl e ↦
          subst (λ (k : LatchKey). waiting_of (kept (set ls key.index now) k.index k.generation) ≡ waiting_of (kept ls k.index k.generation)) (sym e)
          (ap waiting_of (kept-at (set ls key.index now) key.index key.generation now (get-set-same ls key.index r now at) used since)
          ∙ sym (ap waiting_of (kept-at ls key.index key.generation r at used since)))
      | inr ne ↦ ap waiting_of (kept-others ls key.index key.generation r now at (inr since) (inr since) l.index l.generation (latch-apart l key ne))
    ]

-- WHETHER IT IS OPEN

pub known-latch : (ls : List (Slot Held)) (key : LatchKey) (r : Bool) → r ≡ holds ls key.index key.generation
    → IsTrue r ↔ ((fired : Bool) × (slice_get (map (shown latch_of) ls) key.index ≡ Some (Some (record { generation = key.generation; fired = fired }))))
known-latch ls key r h = (
  λ y. let x = holds-at ls key.index key.generation (sym h ∙ y) in (x.slot.value.fired, at-latch ls key.index key.generation x.slot.value.fired x refl),
  λ k. h ∙ at-holds ls key.index key.generation (latch-at ls key.index key.generation k.0 k.1).0,
)

pub known-channel : (cs : List (Slot Channel)) (key : ChannelKey) (r : Bool) → r ≡ holds cs key.index key.generation → IsTrue r ↔ (slice_get (map (shown generation_of) cs) key.index ≡ Some (Some key.generation))
known-channel cs key r h = (
  λ y. at-open cs key.index key.generation (holds-at cs key.index key.generation (sym h ∙ y)),
  λ k. h ∙ at-holds cs key.index key.generation (open-at cs key.index key.generation k),
)

-- A SYNC TAKES A PLACE OR LEAVES IT

pub left-state : (t : Table) (ds : List (Slot Offered)) (i : ℕ) → Empties t.syncs.slots.items ds i
    → record { channels = (state_of t).channels; latches = (state_of t).latches; places = map (shown sync_of) ds; next = t.next } ≡ without (state_of t) i
left-state t ds i e =
    let make : List (Option Sync) → State = λ p. record { channels = (state_of t).channels; latches = (state_of t).latches; places = p; next = t.next } in
    ap make (ap (λ (l : List (Slot Offered)). map (shown sync_of) l) e.is ∙ shown-emptied sync_of t.syncs.slots.items i e.slot e.unused)

pub grows-same : (old new : List (Slot Offered)) → Grows old new → SameWait (map (shown sync_of) old) (map (shown sync_of) new)
grows-same old new grows i sync =
    elim grows [
      | inl same ↦ (
        λ h. subst (λ (l : List (Slot Offered)). WaitsAt (map (shown sync_of) l) i sync) same h,
        λ h. subst (λ (l : List (Slot Offered)). WaitsAt (map (shown sync_of) l) i sync) (sym same) h,
      )
      | inr more ↦
          let whole : map (shown sync_of) new ≡ map (shown sync_of) old ++ None ∷ [] =
          ap (λ (l : List (Slot Offered)). map (shown sync_of) l) more.1
          ∙ (map-append (shown sync_of) old (more.0 ∷ []) ∙ ap (λ (b : Bool). map (shown sync_of) old ++ only b (sync_of more.0.generation more.0.value) ∷ []) more.2) in (
            λ h. elim (get-push-cases (map (shown sync_of) old) None i (Some sync) (sym (ap (λ (l : List (Option Sync)). slice_get l i) whole) ∙ h)) [
              | inl x ↦ x
              | inr x ↦ let clash = x.1 in absurd cc
            ],
            λ h. ap (λ (l : List (Option Sync)). slice_get l i) whole ∙ get-left (map (shown sync_of) old) (None ∷ []) i (Some sync) h,
          )
    ]

-- a free place was written, and the same wait
pub fill-same : (old mid : List (Slot Offered)) (i : ℕ) (was now : Slot Offered) → Grows old mid → slice_get mid i ≡ Some was → was.used ≡ false → now.used ≡ false
    → SameWait (map (shown sync_of) old) (map (shown sync_of) (set mid i now))
fill-same old mid i was now grows at unused still =
    let same : map (shown sync_of) (set mid i now) ≡ map (shown sync_of) mid =
    shown-same sync_of mid i was now at
    (ap (λ (b : Bool). only b (sync_of now.generation now.value)) still ∙ sym (ap (λ (b : Bool). only b (sync_of was.generation was.value)) unused)) in
    subst (λ (l : List (Option Sync)). SameWait (map (shown sync_of) old) l) (sym same) (grows-same old mid grows)

pub sits-begun : (old mid new : List (Slot Offered)) (i g : ℕ) (was now : Slot Offered) (offers : List Offer) → Grows old mid → slice_get mid i ≡ Some was → was.used ≡ false → now.used ≡ false → now.value.offers.items ≡ offers
    → Begins (set mid i now) new i g → Sits (map (shown sync_of) old) (map (shown sync_of) new) i (record { generation = g; offers = offers })
sits-begun old mid new i g was now offers grows at unused still filled b =
    let same = fill-same old mid i was now grows at unused still in
    let here = get-set-same mid i was now at in
    let empty = shown-free sync_of (set mid i now) i now here still in
    let sync : Sync = record { generation = g; offers = offers } in
    let value : sync_of b.slot.generation b.slot.value ≡ sync =
    ap (λ (n : ℕ). sync_of n b.slot.value) b.since ∙ ap (λ (os : List Offer). record { generation = g; offers = os }) (ap (λ (v : Offered). v.offers.items) (b.value now here) ∙ filled) in
    let whole : map (shown sync_of) new ≡ set (map (shown sync_of) (set mid i now)) i (Some sync) =
    ap (λ (l : List (Slot Offered)). map (shown sync_of) l) b.is
    ∙ (shown-filled sync_of (set mid i now) i b.slot b.used ∙ ap (λ (s : Sync). set (map (shown sync_of) (set mid i now)) i (Some s)) value) in
    record {
      empty = λ before h. let clash = same_Some _ _ (sym empty ∙ (same i before).1 h) in absurd cc;
      here = ap (λ (l : List (Option Sync)). slice_get l i) whole ∙ get-set-same (map (shown sync_of) (set mid i now)) i None (Some sync) empty;
      others = λ j other ne.
          let at_j = ap (λ (l : List (Option Sync)). slice_get l j) whole ∙ get-set-other (map (shown sync_of) (set mid i now)) i j (Some sync) ne in
          (λ h. (same j other).0 (sym at_j ∙ h), λ h. at_j ∙ (same j other).1 h);
    }

-- the next offer of a sync was listed
pub adds-one : (places : List (Option Sync)) (next g : ℕ) (old new : Offer → List Waiting) (offers : List Offer) (offer : Offer) (index own : ℕ) → g + 1 ≡ next
    → WaitsAt places index (record { generation = g; offers = offers }) → slice_get offers own ≡ Some offer → ChangesOnly old new offer
    → Adds places (old offer) (new offer) (record { ticket = g; who = record { place = index; own = own } }) → Lined places next old index own → Lined places next new index (own + 1)
adds-one places next g old new offers offer index own is waits at only adds =
    subst (λ (n : ℕ). Lined places n old index own → Lined places n new index (own + 1)) is (lined-adds places g old new offers offer index own waits at only adds)

pub waits-within : (slots : List (Slot Offered)) (i : ℕ) (sync : Sync) → WaitsAt (map (shown sync_of) slots) i sync → i < length slots
waits-within slots i sync w = let lt = slice_get_within (map (shown sync_of) slots) i _ w in omega (arith, length-map slots (shown sync_of))
