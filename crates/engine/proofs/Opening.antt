-- What is open, and whose lines change.
use Rattle.std.proofs.Common.{◌≡◌, ◌⊎◌, ◌↔◌, ◌+◌, [], ℕ, Bool, true, false, List, Option, Some, map, set, refl, sym, ◌∙◌, subst, ap, arith, inl, inr}
use Rattle.std.specs.List.{slice_get}
use Rattle.std.proofs.lemmas.Option.{none-some}
use Rattle.channels.specs.States.{State as Channel}
use Rattle.engine.specs.declared.held.Latch.{Latch as Held}
use Rattle.engine.specs.declared.offers.ChannelKey.{ChannelKey}
use Rattle.engine.specs.declared.offers.LatchKey.{LatchKey}
use Rattle.engine.specs.declared.offers.Offer.{Offer}
use Rattle.engine.specs.declared.offers.Offer.TheVariants.{Send, Receive, Latch, Always}
use Rattle.engine.specs.declared.places.Slot.{Slot}
use Rattle.engine.specs.Calls.{ChannelCloses, ChannelOpens, LatchCloses, LatchOpens}
use Rattle.engine.specs.Lines.{ChangesOnly}
use Rattle.engine.specs.Places.{Empties, Opens, kept, shown}
use Rattle.engine.specs.States.{State, LatchState, LatchIs, NobodyOffers, Promise}
use Rattle.engine.specs.Tables.{generation_of, latch_of, line_in, receives_of, sends_of, waiting_of}
use Rattle.engine.proofs.Kept.{IsAt, closes-kept, kept-at, kept-others, kept-some, same-at, shown-at, shown-slot}
use Rattle.engine.proofs.Lists.{get-set-same}
use Rattle.engine.proofs.Promises.{channel-apart, channel-cases, latch-apart, latch-cases}

-- CHANNELS

pub open-at : (cs : List (Slot Channel)) (i g : ℕ) → slice_get (map (shown generation_of) cs) i ≡ Some (Some g) → IsAt cs i g
open-at cs i g h = let x = shown-slot generation_of cs i g h in record { slot = x.0; at = x.1; used = x.2; since = x.3 }

pub at-open : (cs : List (Slot Channel)) (i g : ℕ) → IsAt cs i g → slice_get (map (shown generation_of) cs) i ≡ Some (Some g)
at-open cs i g x = shown-at generation_of cs i x.slot x.at x.used ∙ ap (λ (n : ℕ). Some (Some n)) x.since

same-open : (cs ds : List (Slot Channel)) (i g : ℕ) → kept ds i g ≡ kept cs i g → slice_get (map (shown generation_of) ds) i ≡ Some (Some g) → slice_get (map (shown generation_of) cs) i ≡ Some (Some g)
same-open cs ds i g same h = at-open cs i g (same-at cs ds i g same (open-at ds i g h)).0

pub channel-opens : (old new : State) (cs ds : List (Slot Channel)) (key : ChannelKey) (fresh : Channel) → old.channels ≡ map (shown generation_of) cs → new.channels ≡ map (shown generation_of) ds → new.latches ≡ old.latches
    → new.places ≡ old.places → new.next ≡ old.next + 1 → key.generation ≡ old.next → Opens cs ds key.index key.generation fresh → ChannelOpens old new key
channel-opens old new cs ds key fresh was is latches places next age opens = record {
  latches = latches;
  places = places;
  unused = omega arith;
  next = omega arith;
  opens = subst (λ (l : List (Option ℕ)). slice_get l key.index ≡ Some (Some key.generation)) (sym is) (at-open ds key.index key.generation (kept-some ds key.index key.generation fresh opens.here).0);
  others = λ other ne.
      let same = opens.others other.index other.generation (channel-apart other key ne) in (
        λ h.
            subst (λ (l : List (Option ℕ)). slice_get l other.index ≡ Some (Some other.generation)) (sym was)
            (same-open cs ds other.index other.generation same (subst (λ (l : List (Option ℕ)). slice_get l other.index ≡ Some (Some other.generation)) is h)),
        λ h.
            subst (λ (l : List (Option ℕ)). slice_get l other.index ≡ Some (Some other.generation)) (sym is)
            (same-open ds cs other.index other.generation (sym same) (subst (λ (l : List (Option ℕ)). slice_get l other.index ≡ Some (Some other.generation)) was h)),
      );
}

pub opened-lines : (old : State) (cs ds : List (Slot Channel)) (ls : List (Slot Held)) (key : ChannelKey) (fresh : Channel) → fresh.sends ≡ [] → fresh.receives ≡ [] → key.generation ≡ old.next
    → Opens cs ds key.index key.generation fresh → Promise old → (o : Offer) → (line_in ds ls o ≡ line_in cs ls o) ⊎ ((line_in ds ls o ≡ []) × NobodyOffers old o)
opened-lines old cs ds ls key fresh sends receives age opens p (Send c) =
    elim (channel-cases c key) [
      | inl e ↦ inr (
        subst (λ (k : ChannelKey). sends_of (kept ds k.index k.generation) ≡ []) (sym e) (ap sends_of opens.here ∙ sends),
        λ k own x. let lt = p.channels_given c (p.known k own (Send c) x) in let is = ap (λ (y : ChannelKey). y.generation) e in absurd (omega arith),
      )
      | inr ne ↦ inl (ap sends_of (opens.others c.index c.generation (channel-apart c key ne)))
    ]
opened-lines old cs ds ls key fresh sends receives age opens p (Receive c) =
    elim (channel-cases c key) [
      | inl e ↦ inr (
        subst (λ (k : ChannelKey). receives_of (kept ds k.index k.generation) ≡ []) (sym e) (ap receives_of opens.here ∙ receives),
        λ k own x. let lt = p.channels_given c (p.known k own (Receive c) x) in let is = ap (λ (y : ChannelKey). y.generation) e in absurd (omega arith),
      )
      | inr ne ↦ inl (ap receives_of (opens.others c.index c.generation (channel-apart c key ne)))
    ]
opened-lines old cs ds ls key fresh sends receives age opens p (Latch l) = inl refl
opened-lines old cs ds ls key fresh sends receives age opens p Always = inl refl

pub channel-closes : (old new : State) (cs ds : List (Slot Channel)) (key : ChannelKey) → old.channels ≡ map (shown generation_of) cs → new.channels ≡ map (shown generation_of) ds → new.latches ≡ old.latches
    → new.places ≡ old.places → new.next ≡ old.next → IsAt cs key.index key.generation → Empties cs ds key.index → ChannelCloses old new key
channel-closes old new cs ds key was is latches places next x empties =
    let closes = closes-kept cs ds key.index key.generation x empties in
    record {
      latches = latches;
      places = places;
      next = next;
      was = subst (λ (l : List (Option ℕ)). slice_get l key.index ≡ Some (Some key.generation)) (sym was) (at-open cs key.index key.generation x);
      closes = λ h.
          let y = open-at ds key.index key.generation (subst (λ (l : List (Option ℕ)). slice_get l key.index ≡ Some (Some key.generation)) is h) in
          none-some y.slot.value (sym closes.0 ∙ kept-at ds key.index key.generation y.slot y.at y.used y.since);
      others = λ other ne.
          let same = closes.1 other.index other.generation (channel-apart other key ne) in (
            λ h.
                subst (λ (l : List (Option ℕ)). slice_get l other.index ≡ Some (Some other.generation)) (sym was)
                (same-open cs ds other.index other.generation same (subst (λ (l : List (Option ℕ)). slice_get l other.index ≡ Some (Some other.generation)) is h)),
            λ h.
                subst (λ (l : List (Option ℕ)). slice_get l other.index ≡ Some (Some other.generation)) (sym is)
                (same-open ds cs other.index other.generation (sym same) (subst (λ (l : List (Option ℕ)). slice_get l other.index ≡ Some (Some other.generation)) was h)),
          );
    }

pub closed-lines : (old : State) (cs ds : List (Slot Channel)) (ls : List (Slot Held)) (key : ChannelKey) → IsAt cs key.index key.generation → Empties cs ds key.index → NobodyOffers old (Send key)
    → NobodyOffers old (Receive key) → (o : Offer) → (line_in ds ls o ≡ line_in cs ls o) ⊎ ((line_in ds ls o ≡ []) × NobodyOffers old o)
closed-lines old cs ds ls key x empties sends receives (Send c) =
    let closes = closes-kept cs ds key.index key.generation x empties in
    elim (channel-cases c key) [
      | inl e ↦ inr (
        subst (λ (k : ChannelKey). sends_of (kept ds k.index k.generation) ≡ []) (sym e) (ap sends_of closes.0),
        subst (λ (k : ChannelKey). NobodyOffers old (Send k)) (sym e) sends,
      )
      | inr ne ↦ inl (ap sends_of (closes.1 c.index c.generation (channel-apart c key ne)))
    ]
closed-lines old cs ds ls key x empties sends receives (Receive c) =
    let closes = closes-kept cs ds key.index key.generation x empties in
    elim (channel-cases c key) [
      | inl e ↦ inr (
        subst (λ (k : ChannelKey). receives_of (kept ds k.index k.generation) ≡ []) (sym e) (ap receives_of closes.0),
        subst (λ (k : ChannelKey). NobodyOffers old (Receive k)) (sym e) receives,
      )
      | inr ne ↦ inl (ap receives_of (closes.1 c.index c.generation (channel-apart c key ne)))
    ]
closed-lines old cs ds ls key x empties sends receives (Latch l) = inl refl
closed-lines old cs ds ls key x empties sends receives Always = inl refl

-- LATCHES

pub latch-at : (ls : List (Slot Held)) (i g : ℕ) (fired : Bool) → slice_get (map (shown latch_of) ls) i ≡ Some (Some (record { generation = g; fired = fired })) → (x : IsAt ls i g) × (x.slot.value.fired ≡ fired)
latch-at ls i g fired h =
    let x = shown-slot latch_of ls i (record { generation = g; fired = fired }) h in
    (record { slot = x.0; at = x.1; used = x.2; since = ap (λ (l : LatchState). l.generation) x.3 }, ap (λ (l : LatchState). l.fired) x.3)

pub at-latch : (ls : List (Slot Held)) (i g : ℕ) (fired : Bool) (x : IsAt ls i g) → x.slot.value.fired ≡ fired → slice_get (map (shown latch_of) ls) i ≡ Some (Some (record { generation = g; fired = fired }))
at-latch ls i g fired x f =
    shown-at latch_of ls i x.slot x.at x.used
    ∙ (ap (λ (n : ℕ). Some (Some (record { generation = n; fired = x.slot.value.fired }))) x.since ∙ ap (λ (b : Bool). Some (Some (record { generation = g; fired = b }))) f)

same-latch-at : (ls ms : List (Slot Held)) (i g : ℕ) (fired : Bool) → kept ms i g ≡ kept ls i g → slice_get (map (shown latch_of) ms) i ≡ Some (Some (record { generation = g; fired = fired }))
    → slice_get (map (shown latch_of) ls) i ≡ Some (Some (record { generation = g; fired = fired }))
same-latch-at ls ms i g fired same h =
    let y = latch-at ms i g fired h in
    let x = same-at ls ms i g same y.0 in
    at-latch ls i g fired x.0 (ap (λ (v : Held). v.fired) x.1 ∙ y.1)

abbrev IsLatch : List (Option LatchState) → LatchKey → Bool → Type 0
IsLatch l key fired = slice_get l key.index ≡ Some (Some (record { generation = key.generation; fired = fired }))

latch-others : (old new : State) (ls ms : List (Slot Held)) (other : LatchKey) (fired : Bool) → old.latches ≡ map (shown latch_of) ls → new.latches ≡ map (shown latch_of) ms
    → kept ms other.index other.generation ≡ kept ls other.index other.generation → LatchIs new other fired ↔ LatchIs old other fired
latch-others old new ls ms other fired was is same = (
  λ h.
      subst (λ (l : List (Option LatchState)). IsLatch l other fired) (sym was)
      (same-latch-at ls ms other.index other.generation fired same (subst (λ (l : List (Option LatchState)). IsLatch l other fired) is h)),
  λ h.
      subst (λ (l : List (Option LatchState)). IsLatch l other fired) (sym is)
      (same-latch-at ms ls other.index other.generation fired (sym same) (subst (λ (l : List (Option LatchState)). IsLatch l other fired) was h)),
)

pub latch-opens : (old new : State) (ls ms : List (Slot Held)) (key : LatchKey) (fresh : Held) → old.latches ≡ map (shown latch_of) ls → new.latches ≡ map (shown latch_of) ms → new.channels ≡ old.channels
    → new.places ≡ old.places → new.next ≡ old.next + 1 → key.generation ≡ old.next → fresh.fired ≡ false → Opens ls ms key.index key.generation fresh → LatchOpens old new key
latch-opens old new ls ms key fresh was is channels places next age off opens =
    let here = kept-some ms key.index key.generation fresh opens.here in
    record {
      channels = channels;
      places = places;
      unused = omega arith;
      next = omega arith;
      opens = subst (λ (l : List (Option LatchState)). IsLatch l key false) (sym is) (at-latch ms key.index key.generation false here.0 (ap (λ (v : Held). v.fired) here.1 ∙ off));
      others = λ other fired ne. latch-others old new ls ms other fired was is (opens.others other.index other.generation (latch-apart other key ne));
    }

pub opened-waiting : (old : State) (cs : List (Slot Channel)) (ls ms : List (Slot Held)) (key : LatchKey) (fresh : Held) → fresh.line.receives ≡ [] → key.generation ≡ old.next
    → Opens ls ms key.index key.generation fresh → Promise old → (o : Offer) → (line_in cs ms o ≡ line_in cs ls o) ⊎ ((line_in cs ms o ≡ []) × NobodyOffers old o)
opened-waiting old cs ls ms key fresh none age opens p (Send c) = inl refl
opened-waiting old cs ls ms key fresh none age opens p (Receive c) = inl refl
opened-waiting old cs ls ms key fresh none age opens p (Latch l) =
    elim (latch-cases l key) [
      | inl e ↦ inr (
        subst (λ (k : LatchKey). waiting_of (kept ms k.index k.generation) ≡ []) (sym e) (ap waiting_of opens.here ∙ none),
        λ k own x.
            let known = p.known k own (Latch l) x in
            let lt = p.latches_given l known.0 known.1 in let is = ap (λ (y : LatchKey). y.generation) e in absurd (omega arith),
      )
      | inr ne ↦ inl (ap waiting_of (opens.others l.index l.generation (latch-apart l key ne)))
    ]
opened-waiting old cs ls ms key fresh none age opens p Always = inl refl

pub latch-closes : (old new : State) (ls ms : List (Slot Held)) (key : LatchKey) → old.latches ≡ map (shown latch_of) ls → new.latches ≡ map (shown latch_of) ms → new.channels ≡ old.channels → new.places ≡ old.places
    → new.next ≡ old.next → IsAt ls key.index key.generation → Empties ls ms key.index → LatchCloses old new key
latch-closes old new ls ms key was is channels places next x empties =
    let closes = closes-kept ls ms key.index key.generation x empties in
    record {
      channels = channels;
      places = places;
      next = next;
      was = (x.slot.value.fired, subst (λ (l : List (Option LatchState)). IsLatch l key x.slot.value.fired) (sym was) (at-latch ls key.index key.generation x.slot.value.fired x refl));
      closes = λ h.
          let y = latch-at ms key.index key.generation h.0 (subst (λ (l : List (Option LatchState)). IsLatch l key h.0) is h.1) in
          none-some y.0.slot.value (sym closes.0 ∙ kept-at ms key.index key.generation y.0.slot y.0.at y.0.used y.0.since);
      others = λ other fired ne. latch-others old new ls ms other fired was is (closes.1 other.index other.generation (latch-apart other key ne));
    }

pub closed-waiting : (old : State) (cs : List (Slot Channel)) (ls ms : List (Slot Held)) (key : LatchKey) → IsAt ls key.index key.generation → Empties ls ms key.index → NobodyOffers old (Latch key) → (o : Offer)
    → (line_in cs ms o ≡ line_in cs ls o) ⊎ ((line_in cs ms o ≡ []) × NobodyOffers old o)
closed-waiting old cs ls ms key x empties nobody (Send c) = inl refl
closed-waiting old cs ls ms key x empties nobody (Receive c) = inl refl
closed-waiting old cs ls ms key x empties nobody (Latch l) =
    let closes = closes-kept ls ms key.index key.generation x empties in
    elim (latch-cases l key) [
      | inl e ↦ inr (
        subst (λ (k : LatchKey). waiting_of (kept ms k.index k.generation) ≡ []) (sym e) (ap waiting_of closes.0),
        subst (λ (k : LatchKey). NobodyOffers old (Latch k)) (sym e) nobody,
      )
      | inr ne ↦ inl (ap waiting_of (closes.1 l.index l.generation (latch-apart l key ne)))
    ]
closed-waiting old cs ls ms key x empties nobody Always = inl refl

-- A LINE CHANGES

-- the channel that is open there was written, its sends alone
pub sends-change : (cs : List (Slot Channel)) (ls : List (Slot Held)) (key : ChannelKey) (now : Slot Channel) (x : IsAt cs key.index key.generation) → now.used ≡ true → now.generation ≡ key.generation
    → now.value.receives ≡ x.slot.value.receives → ChangesOnly (line_in cs ls) (line_in (set cs key.index now) ls) (Send key)
sends-change cs ls key now x used since kept_side (Send c) other =
    ap sends_of (kept-others cs key.index key.generation x.slot now x.at (inr x.since) (inr since) c.index c.generation (channel-apart c key (λ e. other (ap (λ (k : ChannelKey). Send k) e))))
sends-change cs ls key now x used since kept_side (Receive c) other =
    elim (channel-cases c key) [
      | inl e ↦
          subst (λ (k : ChannelKey). receives_of (kept (set cs key.index now) k.index k.generation) ≡ receives_of (kept cs k.index k.generation)) (sym e)
          (ap receives_of (kept-at (set cs key.index now) key.index key.generation now (get-set-same cs key.index x.slot now x.at) used since)
          ∙ (kept_side ∙ sym (ap receives_of (kept-at cs key.index key.generation x.slot x.at x.used x.since))))
      | inr ne ↦ ap receives_of (kept-others cs key.index key.generation x.slot now x.at (inr x.since) (inr since) c.index c.generation (channel-apart c key ne))
    ]
sends-change cs ls key now x used since kept_side (Latch l) other = refl
sends-change cs ls key now x used since kept_side Always other = refl

pub receives-change : (cs : List (Slot Channel)) (ls : List (Slot Held)) (key : ChannelKey) (now : Slot Channel) (x : IsAt cs key.index key.generation) → now.used ≡ true → now.generation ≡ key.generation
    → now.value.sends ≡ x.slot.value.sends → ChangesOnly (line_in cs ls) (line_in (set cs key.index now) ls) (Receive key)
receives-change cs ls key now x used since kept_side (Receive c) other =
    ap receives_of (kept-others cs key.index key.generation x.slot now x.at (inr x.since) (inr since) c.index c.generation (channel-apart c key (λ e. other (ap (λ (k : ChannelKey). Receive k) e))))
receives-change cs ls key now x used since kept_side (Send c) other =
    elim (channel-cases c key) [
      | inl e ↦
          subst (λ (k : ChannelKey). sends_of (kept (set cs key.index now) k.index k.generation) ≡ sends_of (kept cs k.index k.generation)) (sym e)
          (ap sends_of (kept-at (set cs key.index now) key.index key.generation now (get-set-same cs key.index x.slot now x.at) used since)
          ∙ (kept_side ∙ sym (ap sends_of (kept-at cs key.index key.generation x.slot x.at x.used x.since))))
      | inr ne ↦ ap sends_of (kept-others cs key.index key.generation x.slot now x.at (inr x.since) (inr since) c.index c.generation (channel-apart c key ne))
    ]
receives-change cs ls key now x used since kept_side (Latch l) other = refl
receives-change cs ls key now x used since kept_side Always other = refl

pub waiting-change : (cs : List (Slot Channel)) (ls : List (Slot Held)) (key : LatchKey) (now : Slot Held) (x : IsAt ls key.index key.generation) → now.generation ≡ key.generation
    → ChangesOnly (line_in cs ls) (line_in cs (set ls key.index now)) (Latch key)
waiting-change cs ls key now x since (Latch l) other =
    ap waiting_of (kept-others ls key.index key.generation x.slot now x.at (inr x.since) (inr since) l.index l.generation (latch-apart l key (λ e. other (ap (λ (k : LatchKey). Latch k) e))))
waiting-change cs ls key now x since (Send c) other = refl
waiting-change cs ls key now x since (Receive c) other = refl
waiting-change cs ls key now x since Always other = refl
