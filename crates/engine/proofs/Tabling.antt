-- What the calls of a table do to what it shows.
use Rattle.std.proofs.Common.{◌≡◌, ◌⊎◌, ◌+◌, ◌≤◌, ◌∷◌, [], ℕ, suc, zero, true, false, List, Option, Some, None, length, set, refl, sym, ◌∙◌, subst, ap, arith, inl, inr}
use Rattle.std.specs.List.{slice_get}
use Rattle.std.proofs.lemmas.Bool.{cases_eq, false≢true}
use Rattle.std.proofs.lemmas.Option.{same_Some}
use Rattle.channels.specs.declared.waiting.Waiting.{Waiting}
use Rattle.channels.specs.Lines.{IsIn}
use Rattle.channels.proofs.Members.{in-append, in-right}
use Rattle.engine.specs.declared.offers.Offer.{Offer}
use Rattle.engine.specs.declared.offers.Offer.TheVariants.{Latch, Always}
use Rattle.engine.specs.declared.offers.LatchKey.{LatchKey}
use Rattle.engine.specs.declared.offers.SyncKey.{SyncKey}
use Rattle.engine.specs.Offers.{other_side}
use Rattle.engine.specs.States.{State, LatchState, Sync, Waits, Offers, AreKnown, IsKnown, LatchIs, NobodyOffers, NoneReady, NotReady, Promise}
use Rattle.engine.specs.Calls.{Comes, IsOldest, Keeps, Leaves}
use Rattle.engine.specs.Lines.{Adds, ChangesOnly, IsFirstLive, IsOrdered, Lined, OffersAt, Pops, Sifts, WaitsAt, lives}
use Rattle.engine.specs.Tables.{IsSound, SameWait, Sits}
use Rattle.engine.proofs.Lining.{FewerAt, lined-cleared, lined-filled, lined-full, lined-left, lined-none, lined-older, lined-taken, none-past, offers-live}
use Rattle.engine.proofs.Listing.{ordered-least, ordered-rest}
use Rattle.engine.proofs.Lists.{get-set-other}
use Rattle.engine.proofs.Promises.{key-cases, leaves-place, promise-comes, promise-keeps, promise-leaves, same-key}

-- THE OLDEST OF A LINE

offers-at : (s : State) (key : SyncKey) (own : ℕ) (o : Offer) → Offers s key own o → OffersAt s.places key.index own o key.generation
offers-at s key own o x = record { offers = x.offers; waits = x.waits; at = x.at }

is-listed : (s : State) (at : Offer → List Waiting) (key : SyncKey) (own : ℕ) (o : Offer) → IsSound s at → Offers s key own o → IsIn (at o) (record { ticket = key.generation; who = record { place = key.index; own = own } })
is-listed s at key own o sound x =
    sound.lined.listed key.index own key.generation o (offers-at s key own o x)
    (λ is. absurd (none-past s.places _ (subst (λ (n : ℕ). WaitsAt s.places n (record { generation = key.generation; offers = x.offers })) is x.waits)))

nobody-listed : (s : State) (at : Offer → List Waiting) (o : Offer) → IsSound s at → ((x : Waiting) → IsIn (at o) x → lives s.places x ≡ false) → NobodyOffers s o
nobody-listed s at o sound dead key own x =
    let e : Waiting = record { ticket = key.generation; who = record { place = key.index; own = own } } in
    false≢true (sym (dead e (is-listed s at key own o sound x)) ∙ offers-live s.places key.index own key.generation o e (offers-at s key own o x) refl refl)

pub oldest-first : (s : State) (at : Offer → List Waiting) (o : Offer) (rest : List Waiting) (e : Waiting) → IsSound s at → IsFirstLive s.places (at o) rest e
    → IsOldest s o (record { index = e.who.place; generation = e.ticket }) e.who.own
oldest-first s at o rest e sound first =
    let here : IsIn (at o) e = subst (λ (es : List Waiting). IsIn es e) (sym first.parts) (in-right first.dead (e ∷ rest) e (inl refl)) in
    let right = sound.lined.right o e here first.live in
    let order = ordered-rest 0 first.dead (e ∷ rest) (subst (λ (es : List Waiting). IsOrdered 0 es) first.parts (sound.lined.ordered o)) in
    record {
      offers = record { offers = right.offers; waits = right.waits; at = right.at };
      oldest = λ key own x.
          let y : Waiting = record { ticket = key.generation; who = record { place = key.index; own = own } } in
          elim (in-append first.dead (e ∷ rest) y (subst (λ (es : List Waiting). IsIn es y) first.parts (is-listed s at key own o sound x))) [
            | inl dead ↦ absurd (false≢true (sym (first.all_dead y dead) ∙ offers-live s.places key.index own key.generation o y (offers-at s key own o x) refl refl))
            | inr later ↦ elim later [
              | inl same ↦ let age = ap (λ (z : Waiting). z.ticket) same in omega arith
              | inr behind ↦ ordered-least e.ticket rest y order.1 behind
            ]
          ];
    }

-- nobody stood in the line whose sync waits
pub sound-none : (old new : State) (at after : Offer → List Waiting) (o : Offer) → new ≡ old → ChangesOnly at after o → Pops old.places (at o) (after o) None → IsSound old at → IsSound new after
sound-none old new at after o is only none sound =
    subst (λ (s : State). IsSound s after) (sym is)
    (record { promise = sound.promise; lined = lined-none old.places old.next at after o (length old.places) 0 only none sound.lined })

pub nobody-none : (s : State) (at after : Offer → List Waiting) (o : Offer) → Pops s.places (at o) (after o) None → IsSound s at → NobodyOffers s o
nobody-none s at after o none sound = nobody-listed s at o sound none.1

-- A SYNC LEAVES

set-none : (xs : List (Option Sync)) (i : ℕ) (sync : Sync) → slice_get (set xs i None) i ≡ Some (Some sync) → ⊥
set-none [] i sync e = absurd cc
set-none (x ∷ xs) zero sync e = absurd cc
set-none (x ∷ xs) (suc i) sync e = set-none xs i sync e

pub none-left : (old new : List (Option Sync)) (index : ℕ) → new ≡ set old index None → (sync : Sync) → WaitsAt new index sync → ⊥
none-left old new index is sync w = set-none old index sync (sym (ap (λ (l : List (Option Sync)). slice_get l index) is) ∙ w)

pub fewer-left : (old new : List (Option Sync)) (index : ℕ) → new ≡ set old index None → FewerAt old new
fewer-left old new index is i sync w =
    elim (cases_eq i index) [
      | inl e ↦ absurd (none-left old new index is sync (subst (λ (n : ℕ). WaitsAt new n sync) e w))
      | inr ne ↦ sym (get-set-other old index i None ne) ∙ (sym (ap (λ (l : List (Option Sync)). slice_get l i) is) ∙ w)
    ]

-- the state after somebody left a place
abbrev pub without : State → ℕ → State
without s index = record { channels = s.channels; latches = s.latches; places = set s.places index None; next = s.next }

pub leaves-sync : (old new : State) (key : SyncKey) (offers : List Offer) → Waits old key offers → new ≡ without old key.index → Leaves old new key
leaves-sync old new key offers w is = subst (λ (s : State). Leaves old s key) (sym is) (leaves-place old key offers w)

-- whoever waited in the place left, and the lines are as they were
pub sound-left : (old new : State) (at : Offer → List Waiting) (index : ℕ) → Promise new → new ≡ without old index → IsSound old at → IsSound new at
sound-left old new at index promise is sound =
    let places : new.places ≡ set old.places index None = ap (λ (x : State). x.places) is in
    let next : new.next ≡ old.next = ap (λ (x : State). x.next) is in
    let fewer = fewer-left old.places new.places index places in
    let lined =
    lined-left old.places new.places old.next at (length old.places) 0 (length new.places) 0 fewer (λ sync w. none-past old.places sync (fewer (length old.places) sync w)) sound.lined in
    record { promise = promise; lined = subst (λ (n : ℕ). Lined new.places n at (length new.places) 0) (sym next) lined }

-- the first of a line was taken, and his sync left
pub taken-leaves : (old mid new : State) (at after : Offer → List Waiting) (o : Offer) (e : Waiting) → mid ≡ old → new ≡ without mid e.who.place → IsFirstLive old.places (at o) (after o) e → IsSound old at
    → Leaves old new (record { index = e.who.place; generation = e.ticket })
taken-leaves old mid new at after o e same is first sound =
    let here : IsIn (at o) e = subst (λ (es : List Waiting). IsIn es e) (sym first.parts) (in-right first.dead (e ∷ after o) e (inl refl)) in
    let right = sound.lined.right o e here first.live in
    leaves-sync old new (record { index = e.who.place; generation = e.ticket }) right.offers right.waits (is ∙ ap (λ (s : State). without s e.who.place) same)

pub sound-taken : (old mid new : State) (at after : Offer → List Waiting) (o : Offer) (e : Waiting) → mid ≡ old → new ≡ without mid e.who.place → ChangesOnly at after o → IsFirstLive old.places (at o) (after o) e
    → IsSound old at → IsSound new after
sound-taken old mid new at after o e same is only first sound =
    let leaves = taken-leaves old mid new at after o e same is first sound in
    let whole : new ≡ without old e.who.place = is ∙ ap (λ (s : State). without s e.who.place) same in
    let places : new.places ≡ set old.places e.who.place None = ap (λ (x : State). x.places) whole in
    let next : new.next ≡ old.next = ap (λ (x : State). x.next) whole in
    let lined =
    lined-taken old.places new.places old.next at after o e (length old.places) 0 (length new.places) 0 only first (fewer-left old.places new.places e.who.place places)
    (none-left old.places new.places e.who.place places) (none-past old.places) sound.lined in
    record {
      promise = promise-leaves old new _ leaves sound.promise;
      lined = subst (λ (n : ℕ). Lined new.places n after (length new.places) 0) (sym next) lined;
    }

-- WHAT IS READY

pub not-ready-side : (s : State) (o theirs : Offer) → other_side o ≡ Some theirs → NobodyOffers s theirs → NotReady s o
not-ready-side s o theirs e nobody = record {
  needs = λ is. let none : None ≡ Some theirs = subst (λ (x : Offer). other_side x ≡ Some theirs) is e in absurd cc;
  unfired = λ latch is. let none : None ≡ Some theirs = subst (λ (x : Offer). other_side x ≡ Some theirs) is e in absurd cc;
  nobody = λ x m. subst (λ (y : Offer). NobodyOffers s y) (same_Some _ _ (sym e ∙ m)) nobody;
}

pub not-ready-latch : (s : State) (o : Offer) (latch : LatchKey) → o ≡ Latch latch → LatchIs s latch false → NotReady s o
not-ready-latch s o latch is off = record {
  needs = λ e. let clash : Latch latch ≡ Always = sym is ∙ e in absurd cc;
  unfired = λ l e on.
      let same : Latch latch ≡ Latch l = sym is ∙ e in
      let key : latch ≡ l = cc in
      let here : LatchIs s latch true = subst (λ (k : LatchKey). LatchIs s k true) (sym key) on in
      let both = ap (λ (x : LatchState). x.fired) (same_Some _ _ (same_Some _ _ (sym off ∙ here))) in
      false≢true both;
  nobody = λ x m. let none : None ≡ Some x = subst (λ (y : Offer). other_side y ≡ Some x) is m in absurd cc;
}

-- A SYNC COMES

pub comes-sits : (old new : State) (index : ℕ) (offers : List Offer) → Sits old.places new.places index (record { generation = old.next; offers = offers }) → new.channels ≡ old.channels → new.latches ≡ old.latches
    → new.next ≡ old.next + 1 → Comes old new (record { index = index; generation = old.next }) offers
comes-sits old new index offers sits channels latches next = record {
  open_kept = record { channels = channels; latches = latches };
  unused = omega arith;
  next = omega arith;
  comes = sits.here;
  others = λ k os ne.
      elim (cases_eq k.index index) [
        | inl e ↦ (
          λ v.
              let same = same_Some _ _ (same_Some _ _ (sym sits.here ∙ subst (λ (i : ℕ). WaitsAt new.places i (record { generation = k.generation; offers = os })) e v)) in
              absurd (ne (same-key k (record { index = index; generation = old.next }) e (sym (ap (λ (x : Sync). x.generation) same)))),
          λ v. absurd (sits.empty _ (subst (λ (i : ℕ). WaitsAt old.places i (record { generation = k.generation; offers = os })) e v)),
        )
        | inr i ↦ sits.others k.index (record { generation = k.generation; offers = os }) i
      ];
}

pub lined-sits : (old : State) (places : List (Option Sync)) (next : ℕ) (at : Offer → List Waiting) (index : ℕ) (offers : List Offer) → Sits old.places places index (record { generation = old.next; offers = offers })
    → next ≡ old.next + 1 → IsSound old at → Lined places next at index 0
lined-sits old places next at index offers sits is sound =
    subst (λ (n : ℕ). Lined places n at index 0) (sym is)
    (lined-filled old.places places old.next at index (length old.places) offers (λ i sync ne w. (sits.others i sync ne).0 w) sits.here (none-past old.places) sound.lined)

pub keeps-waits : (old new : State) → SameWait old.places new.places → new.channels ≡ old.channels → new.latches ≡ old.latches → old.next ≤ new.next → Keeps old new
keeps-waits old new same channels latches next = record {
  open_kept = record { channels = channels; latches = latches };
  next = next;
  same = λ key offers. same key.index (record { generation = key.generation; offers = offers });
}

pub sound-waits : (old new : State) (at : Offer → List Waiting) → SameWait old.places new.places → new.channels ≡ old.channels → new.latches ≡ old.latches → new.next ≡ old.next → IsSound old at → IsSound new at
sound-waits old new at same channels latches next sound = record {
  promise = promise-keeps old new (keeps-waits old new same channels latches (omega arith)) sound.promise;
  lined = subst (λ (n : ℕ). Lined new.places n at (length new.places) 0) (sym next)
      (lined-left old.places new.places old.next at (length old.places) 0 (length new.places) 0 (λ i sync w. (same i sync).0 w) (λ sync w. none-past old.places sync ((same (length old.places) sync).0 w)) sound.lined);
}

pub sound-comes : (old mid new : State) (at after : Offer → List Waiting) (came : SyncKey) (offers : List Offer) → IsSound old at → AreKnown old offers → NoneReady old offers → Comes old mid came offers → new ≡ mid
    → Lined mid.places mid.next after came.index (length offers) → IsSound new after
sound-comes old mid new at after came offers sound known none c is lined =
    subst (λ (s : State). IsSound s after) (sym is)
    (record { promise = promise-comes old mid came offers c known none sound.promise; lined = lined-full mid.places mid.next after came.index came.generation offers c.comes lined })

-- a sync came and left again
came-left : (old mid new : State) (came : SyncKey) (offers : List Offer) → Promise old → Comes old mid came offers → Leaves mid new came → Keeps old new
came-left old mid new came offers p c l = record {
  open_kept = record { channels = l.open_kept.channels ∙ c.open_kept.channels; latches = l.open_kept.latches ∙ c.open_kept.latches };
  next = let a = c.unused in let b = c.next in let e = l.next in omega arith;
  same = λ key theirs.
      elim (key-cases key came) [
        | inl e ↦ (
          λ w. absurd (l.goes theirs (subst (λ (k : SyncKey). Waits new k theirs) e w)),
          λ w. let was = p.given key theirs w in let is = ap (λ (k : SyncKey). k.generation) e in let un = c.unused in absurd (omega arith),
        )
        | inr ne ↦ (λ w. (c.others key theirs ne).0 ((l.others key theirs ne).0 w), λ w. (l.others key theirs ne).1 ((c.others key theirs ne).1 w))
      ];
}

-- a sync came, found no room in the lines, and left
pub failed-keeps : (old mid new : State) (came : SyncKey) (offers : List Offer) → Promise old → Comes old mid came offers → new ≡ without mid came.index → Keeps old new
failed-keeps old mid new came offers p c is = came-left old mid new came offers p c (leaves-sync mid new came offers c.comes is)

pub failed-sound : (old mid new : State) (after : Offer → List Waiting) (came : SyncKey) (offers : List Offer) (from : ℕ) → Promise old → Comes old mid came offers → new ≡ without mid came.index
    → Lined mid.places mid.next after came.index from → IsSound new after
failed-sound old mid new after came offers from p c is lined =
    let places : new.places ≡ set mid.places came.index None = ap (λ (x : State). x.places) is in
    let next : new.next ≡ mid.next = ap (λ (x : State). x.next) is in
    record {
      promise = promise-keeps old new (failed-keeps old mid new came offers p c is) p;
      lined = subst (λ (n : ℕ). Lined new.places n after (length new.places) 0) (sym next)
          (lined-left mid.places new.places mid.next after came.index from (length new.places) 0 (fewer-left mid.places new.places came.index places) (none-left mid.places new.places came.index places) lined);
    }

-- WHAT IS OPEN CHANGES

-- lines were emptied of offers with which nobody waits, and the same wait
pub sound-cleared : (old new : State) (at after : Offer → List Waiting) → new.places ≡ old.places → old.next ≤ new.next → ((o : Offer) → (after o ≡ at o) ⊎ ((after o ≡ []) × NobodyOffers old o)) → Promise new → IsSound old at
    → IsSound new after
sound-cleared old new at after places next cases promise sound = record {
  promise = promise;
  lined = subst (λ (l : List (Option Sync)). Lined l new.next after (length l) 0) (sym places)
      (lined-older old.places old.next new.next after (length old.places) 0 next
      (lined-cleared old.places old.next at after (length old.places) 0
      (λ o. elim (cases o) [
        | inl same ↦ inl same
        | inr none ↦ inr (none.0, λ i own g x. none.1 (record { index = i; generation = g }) own (record { offers = x.offers; waits = x.waits; at = x.at }))
      ]) sound.lined));
}

pub known-then : (s t : State) (o : Offer) → s ≡ t → IsKnown t o → IsKnown s o
known-then s t o e h = subst (λ (x : State). IsKnown x o) (sym e) h

pub adds-in : (s t : State) (old new : List Waiting) (w : Waiting) → s ≡ t → Adds s.places old new w → Adds t.places old new w
adds-in s t old new w e h = subst (λ (x : State). Adds x.places old new w) e h

pub sifts-in : (s t : State) (old new : List Waiting) → s ≡ t → Sifts s.places old new → Sifts t.places old new
sifts-in s t old new e h = subst (λ (x : State). Sifts x.places old new) e h
