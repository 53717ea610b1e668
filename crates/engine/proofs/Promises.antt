-- What keeps the promise.
use Rattle.std.proofs.Common.{◌≡◌, ◌≢◌, ◌⊎◌, ◌↔◌, ◌<◌, ◌≤◌, ℕ, Bool, true, List, Option, Some, None, set, refl, sym, ◌∙◌, subst, ap, arith, inl, inr}
use Rattle.std.specs.List.{slice_get}
use Rattle.std.proofs.lemmas.Bool.{cases_eq}
use Rattle.std.proofs.lemmas.Option.{same_Some}
use Rattle.engine.specs.declared.offers.ChannelKey.{ChannelKey}
use Rattle.engine.specs.declared.offers.LatchKey.{LatchKey}
use Rattle.engine.specs.declared.offers.Offer.{Offer}
use Rattle.engine.specs.declared.offers.Offer.TheVariants.{Send, Receive, Latch, Always}
use Rattle.engine.specs.declared.offers.SyncKey.{SyncKey}
use Rattle.engine.specs.Offers.{Meets}
use Rattle.engine.specs.States.{State, LatchState, Sync, Waits, Offers, IsFired, IsKnown, IsOpen, LatchIs, NobodyOffers, NoneReady, AreKnown, Promise}
use Rattle.engine.specs.Calls.{Comes, Keeps, KeepsOpen, Leaves, with_latch}
use Rattle.engine.proofs.Lists.{get-set-same, get-set-other}

pub meets-back : (a b : Offer) → Meets a b → Meets b a
meets-back (Send c) b m = let e : Receive c ≡ b = same_Some _ _ m in subst (λ (x : Offer). Meets x (Send c)) e refl
meets-back (Receive c) b m = let e : Send c ≡ b = same_Some _ _ m in subst (λ (x : Offer). Meets x (Receive c)) e refl
meets-back (Latch l) b m = absurd cc
meets-back Always b m = absurd cc

-- KEYS

pair-cases : (i j g h : ℕ) → ((i ≡ j) × (g ≡ h)) ⊎ (i ≡ j → g ≢ h)
pair-cases i j g h =
    elim (cases_eq i j) [
      | inl e ↦ elim (cases_eq g h) [ inl f ↦ inl (e, f) | inr ne ↦ inr (λ _. ne) ]
      | inr ne ↦ inr (λ e. absurd (ne e))
    ]

pub same-key : (a b : SyncKey) → a.index ≡ b.index → a.generation ≡ b.generation → a ≡ b
same-key a b i g =
    let left : record { index = a.index; generation = a.generation } ≡ record { index = b.index; generation = b.generation } = cc in left

pub same-channel : (a b : ChannelKey) → a.index ≡ b.index → a.generation ≡ b.generation → a ≡ b
same-channel a b i g =
    let left : record { index = a.index; generation = a.generation } ≡ record { index = b.index; generation = b.generation } = cc in left

pub same-latch : (a b : LatchKey) → a.index ≡ b.index → a.generation ≡ b.generation → a ≡ b
same-latch a b i g =
    let left : record { index = a.index; generation = a.generation } ≡ record { index = b.index; generation = b.generation } = cc in left

pub key-cases : (a b : SyncKey) → (a ≡ b) ⊎ (a ≢ b)
key-cases a b =
    elim (pair-cases a.index b.index a.generation b.generation) [
      | inl s ↦ inl (same-key a b s.0 s.1)
      | inr ne ↦ inr (λ e. ne (ap (λ (k : SyncKey). k.index) e) (ap (λ (k : SyncKey). k.generation) e))
    ]

pub channel-cases : (a b : ChannelKey) → (a ≡ b) ⊎ (a ≢ b)
channel-cases a b =
    elim (pair-cases a.index b.index a.generation b.generation) [
      | inl s ↦ inl (same-channel a b s.0 s.1)
      | inr ne ↦ inr (λ e. ne (ap (λ (k : ChannelKey). k.index) e) (ap (λ (k : ChannelKey). k.generation) e))
    ]

pub latch-cases : (a b : LatchKey) → (a ≡ b) ⊎ (a ≢ b)
latch-cases a b =
    elim (pair-cases a.index b.index a.generation b.generation) [
      | inl s ↦ inl (same-latch a b s.0 s.1)
      | inr ne ↦ inr (λ e. ne (ap (λ (k : LatchKey). k.index) e) (ap (λ (k : LatchKey). k.generation) e))
    ]

pub channel-apart : (a b : ChannelKey) → a ≢ b → a.index ≡ b.index → a.generation ≢ b.generation
channel-apart a b ne i g = ne (same-channel a b i g)

pub latch-apart : (a b : LatchKey) → a ≢ b → a.index ≡ b.index → a.generation ≢ b.generation
latch-apart a b ne i g = ne (same-latch a b i g)

-- SYNCS

-- which offers a sync waits with is told by its key
pub waits-once : (s : State) (key : SyncKey) (offers theirs : List Offer) → Waits s key offers → Waits s key theirs → offers ≡ theirs
waits-once s key offers theirs a b = ap (λ (x : Sync). x.offers) (same_Some _ _ (same_Some _ _ (sym a ∙ b)))

-- each that waits now waited before
abbrev pub Fewer : State → State → Type 0
Fewer old new = (key : SyncKey) (offers : List Offer) → Waits new key offers → Waits old key offers

pub offers-before : (old new : State) (key : SyncKey) (own : ℕ) (offer : Offer) → Fewer old new → Offers new key own offer → Offers old key own offer
offers-before old new key own offer fewer o = record { offers = o.offers; waits = fewer key o.offers o.waits; at = o.at }

pub same-fewer : (old new : State) → new.places ≡ old.places → Fewer old new
same-fewer old new e key offers w = subst (λ (l : List (Option Sync)). slice_get l key.index ≡ Some (Some (record { generation = key.generation; offers = offers }))) e w

-- each latch that is fired now was fired before
abbrev pub FewerFired : State → State → Type 0
FewerFired old new = (latch : LatchKey) → IsFired new latch → IsFired old latch

-- what a sync waits for that still waits stays open
abbrev pub KnownStay : State → State → Type 0
KnownStay old new = (key : SyncKey) (own : ℕ) (o : Offer) → Offers new key own o → IsKnown old o → IsKnown new o

-- what is open got its generation
pub record Given (s : State) : Type 0 where
  pub channels : (key : ChannelKey) → IsOpen s key → key.generation < s.next
  pub latches : (key : LatchKey) (fired : Bool) → LatchIs s key fired → key.generation < s.next

pub promise-fewer : (old new : State) → Fewer old new → FewerFired old new → KnownStay old new → Given new → old.next ≤ new.next → Promise old → Promise new
promise-fewer old new fewer fired stay given le p = record {
  apart = λ one other i j a b ne x y. p.apart one other i j a b ne (offers-before old new one i a fewer x) (offers-before old new other j b fewer y);
  needs = λ key own x. p.needs key own (offers-before old new key own Always fewer x);
  unfired = λ key own latch x f. p.unfired key own latch (offers-before old new key own (Latch latch) fewer x) (fired latch f);
  known = λ key own o x. stay key own o x (p.known key own o (offers-before old new key own o fewer x));
  ages = λ one other offers theirs x y g. p.ages one other offers theirs (fewer one offers x) (fewer other theirs y) g;
  given = λ key offers x. let was = p.given key offers (fewer key offers x) in omega arith;
  channels_given = given.channels;
  latches_given = given.latches;
}

-- WHERE NOTHING IS OPENED, CLOSED OR FIRED

pub fired-same : (old new : State) → new.latches ≡ old.latches → FewerFired old new
fired-same old new e latch f = subst (λ (l : List (Option LatchState)). slice_get l latch.index ≡ Some (Some (record { generation = latch.generation; fired = true }))) e f

pub known-same : (old new : State) → KeepsOpen old new → (o : Offer) → IsKnown old o → IsKnown new o
known-same old new k (Send key) h = subst (λ (l : List (Option ℕ)). slice_get l key.index ≡ Some (Some key.generation)) (sym k.channels) h
known-same old new k (Receive key) h = subst (λ (l : List (Option ℕ)). slice_get l key.index ≡ Some (Some key.generation)) (sym k.channels) h
known-same old new k (Latch key) h =
    (h.0, subst (λ (l : List (Option LatchState)). slice_get l key.index ≡ Some (Some (record { generation = key.generation; fired = h.0 }))) (sym k.latches) h.1)
known-same old new k Always h = tt

pub given-same : (old new : State) → KeepsOpen old new → old.next ≤ new.next → Promise old → Given new
given-same old new k le p = record {
  channels = λ key h. let was = p.channels_given key (subst (λ (l : List (Option ℕ)). slice_get l key.index ≡ Some (Some key.generation)) k.channels h) in omega arith;
  latches = λ key fired h.
      let was = p.latches_given key fired (subst (λ (l : List (Option LatchState)). slice_get l key.index ≡ Some (Some (record { generation = key.generation; fired = fired }))) k.latches h) in omega arith;
}

promise-kept : (old new : State) → Fewer old new → KeepsOpen old new → old.next ≤ new.next → Promise old → Promise new
promise-kept old new fewer k le p =
    promise-fewer old new fewer (fired-same old new k.latches) (λ key own o x h. known-same old new k o h) (given-same old new k le p) le p

pub fewer-leaves : (old new : State) (gone : SyncKey) → Leaves old new gone → Fewer old new
fewer-leaves old new gone l key offers w =
    elim (key-cases key gone) [
      | inl e ↦ absurd (l.goes offers (subst (λ (k : SyncKey). Waits new k offers) e w))
      | inr ne ↦ (l.others key offers ne).0 w
    ]

pub promise-leaves : (old new : State) (gone : SyncKey) → Leaves old new gone → Promise old → Promise new
promise-leaves old new gone l p = promise-kept old new (fewer-leaves old new gone l) l.open_kept (let e = l.next in omega arith) p

pub promise-keeps : (old new : State) → Keeps old new → Promise old → Promise new
promise-keeps old new k p = promise-kept old new (λ key offers w. (k.same key offers).0 w) k.open_kept k.next p

-- A SYNC COMES

-- an offer of a sync that waits now is one that came, or one of another that waited before
came-or-other : (old new : State) (came : SyncKey) (offers : List Offer) → Comes old new came offers → (key : SyncKey) (own : ℕ) (o : Offer) → Offers new key own o
    → ((key ≡ came) × (slice_get offers own ≡ Some o)) ⊎ ((key ≢ came) × Offers old key own o)
came-or-other old new came offers c key own o x =
    elim (key-cases key came) [
      | inl e ↦
          let same = waits-once new came x.offers offers (subst (λ (k : SyncKey). Waits new k x.offers) e x.waits) c.comes in
          inl (e, subst (λ (os : List Offer). slice_get os own ≡ Some o) same x.at)
      | inr ne ↦ inr (ne, record { offers = x.offers; waits = (c.others key x.offers ne).0 x.waits; at = x.at })
    ]

waited-or-came : (old new : State) (came : SyncKey) (offers : List Offer) → Comes old new came offers → (key : SyncKey) (theirs : List Offer) → Waits new key theirs
    → (key ≡ came) ⊎ Waits old key theirs
waited-or-came old new came offers c key theirs w =
    elim (key-cases key came) [ inl e ↦ inl e | inr ne ↦ inr ((c.others key theirs ne).0 w) ]

comes-given : (old new : State) (came : SyncKey) (offers : List Offer) → Comes old new came offers → Promise old → Given new
comes-given old new came offers c p = given-same old new c.open_kept (let a = c.unused in let b = c.next in omega arith) p

pub promise-comes : (old new : State) (came : SyncKey) (offers : List Offer) → Comes old new came offers → AreKnown old offers → NoneReady old offers → Promise old → Promise new
promise-comes old new came offers c known none p = record {
  apart = λ one other i j a b ne x y m.
      elim (came-or-other old new came offers c one i a x) [
        | inl e ↦ elim (came-or-other old new came offers c other j b y) [
          | inl f ↦ ne (e.0 ∙ sym f.0)
          | inr f ↦ (none i a e.1).nobody b m other j f.1
        ]
        | inr e ↦ elim (came-or-other old new came offers c other j b y) [
          | inl f ↦ (none j b f.1).nobody a (meets-back a b m) one i e.1
          | inr f ↦ p.apart one other i j a b ne e.1 f.1 m
        ]
      ];
  needs = λ key own x.
      elim (came-or-other old new came offers c key own Always x) [ inl e ↦ (none own Always e.1).needs refl | inr e ↦ p.needs key own e.1 ];
  unfired = λ key own latch x f.
      let was : IsFired old latch = fired-same old new c.open_kept.latches latch f in
      elim (came-or-other old new came offers c key own (Latch latch) x) [
        | inl e ↦ (none own (Latch latch) e.1).unfired latch refl was
        | inr e ↦ p.unfired key own latch e.1 was
      ];
  known = λ key own o x.
      elim (came-or-other old new came offers c key own o x) [
        | inl e ↦ known-same old new c.open_kept o (known own o e.1)
        | inr e ↦ known-same old new c.open_kept o (p.known key own o e.1)
      ];
  ages = λ one other os ts x y g.
      elim (waited-or-came old new came offers c one os x) [
        | inl e ↦ elim (waited-or-came old new came offers c other ts y) [
          | inl f ↦ e ∙ sym f
          | inr f ↦ let later = p.given other ts f in let is = ap (λ (k : SyncKey). k.generation) e in let un = c.unused in absurd (omega arith)
        ]
        | inr e ↦ elim (waited-or-came old new came offers c other ts y) [
          | inl f ↦ let later = p.given one os e in let is = ap (λ (k : SyncKey). k.generation) f in let un = c.unused in absurd (omega arith)
          | inr f ↦ p.ages one other os ts e f g
        ]
      ];
  given = λ key os x.
      elim (waited-or-came old new came offers c key os x) [
        | inl e ↦ let is = ap (λ (k : SyncKey). k.generation) e in let n = c.next in omega arith
        | inr e ↦ let n = c.next in let un = c.unused in let was = p.given key os e in omega arith
      ];
  channels_given = (comes-given old new came offers c p).channels;
  latches_given = (comes-given old new came offers c p).latches;
}

-- A CHANNEL OR A LATCH IS OPENED OR CLOSED

-- the channels changed: each for which somebody waits stays open
pub promise-channels : (old new : State) → new.latches ≡ old.latches → new.places ≡ old.places → old.next ≤ new.next
    → ((key : ChannelKey) → (NobodyOffers old (Send key) × NobodyOffers old (Receive key)) ⊎ (IsOpen old key → IsOpen new key))
    → ((key : ChannelKey) → IsOpen new key → key.generation < new.next) → Promise old → Promise new
promise-channels old new latches places le stay given p =
    let fewer = same-fewer old new places in
    let stays : (key : SyncKey) (own : ℕ) (o : Offer) → Offers new key own o → IsKnown old o → IsKnown new o = λ key own o x h.
    elim o as (λ (y : Offer). Offers new key own y → IsKnown old y → IsKnown new y) [
      | Send c ↦ λ y k. elim (stay c) [ inl nobody ↦ absurd (nobody.0 key own (offers-before old new key own (Send c) fewer y)) | inr stays ↦ stays k ]
      | Receive c ↦ λ y k. elim (stay c) [ inl nobody ↦ absurd (nobody.1 key own (offers-before old new key own (Receive c) fewer y)) | inr stays ↦ stays k ]
      | Latch l ↦ λ y k. (k.0, subst (λ (ls : List (Option LatchState)). slice_get ls l.index ≡ Some (Some (record { generation = l.generation; fired = k.0 }))) (sym latches) k.1)
      | Always ↦ λ y k. tt
    ] x h in
    promise-fewer old new fewer (fired-same old new latches) stays
    (record {
      channels = given;
      latches = λ key fired h.
          let was = p.latches_given key fired (subst (λ (l : List (Option LatchState)). slice_get l key.index ≡ Some (Some (record { generation = key.generation; fired = fired }))) latches h) in omega arith;
    }) le p

-- the latches changed: each for which somebody waits stays as it was
pub promise-latches : (old new : State) → new.channels ≡ old.channels → new.places ≡ old.places → old.next ≤ new.next
    → ((key : LatchKey) → NobodyOffers old (Latch key) ⊎ ((fired : Bool) → LatchIs new key fired ↔ LatchIs old key fired))
    → ((key : LatchKey) (fired : Bool) → LatchIs new key fired → key.generation < new.next) → Promise old → Promise new
promise-latches old new channels places le stay given p =
    let fewer = same-fewer old new places in
    let before : (key : SyncKey) (own : ℕ) (o : Offer) → Offers new key own o → Offers old key own o = λ key own o x. offers-before old new key own o fewer x in
    record {
      apart = λ one other i j a b ne x y. p.apart one other i j a b ne (before one i a x) (before other j b y);
      needs = λ key own x. p.needs key own (before key own Always x);
      unfired = λ key own latch x f.
          elim (stay latch) [
            | inl nobody ↦ nobody key own (before key own (Latch latch) x)
            | inr same ↦ p.unfired key own latch (before key own (Latch latch) x) ((same true).0 f)
          ];
      known = λ key own o x.
          let h = p.known key own o (before key own o x) in
          elim o as (λ (y : Offer). Offers new key own y → IsKnown old y → IsKnown new y) [
            | Send c ↦ λ y k. subst (λ (l : List (Option ℕ)). slice_get l c.index ≡ Some (Some c.generation)) (sym channels) k
            | Receive c ↦ λ y k. subst (λ (l : List (Option ℕ)). slice_get l c.index ≡ Some (Some c.generation)) (sym channels) k
            | Latch l ↦ λ y k. elim (stay l) [ inl nobody ↦ absurd (nobody key own (before key own (Latch l) y)) | inr same ↦ (k.0, (same k.0).1 k.1) ]
            | Always ↦ λ y k. tt
          ] x h;
      ages = λ one other offers theirs x y g. p.ages one other offers theirs (fewer one offers x) (fewer other theirs y) g;
      given = λ key offers x. let was = p.given key offers (fewer key offers x) in omega arith;
      channels_given = λ key h.
          let was = p.channels_given key (subst (λ (l : List (Option ℕ)). slice_get l key.index ≡ Some (Some key.generation)) channels h) in omega arith;
      latches_given = given;
    }

-- A LATCH IS FIRED OR RENEWED

latch-here : (old : State) (key : LatchKey) (was fired : Bool) → LatchIs old key was → LatchIs (with_latch old key fired) key fired
latch-here old key was fired h = get-set-same old.latches key.index _ (Some (record { generation = key.generation; fired = fired })) h

latch-now : (old : State) (key : LatchKey) (was fired : Bool) → LatchIs old key was → (other : LatchKey) (now : Bool) → LatchIs (with_latch old key fired) other now
    → ((other ≡ key) × (now ≡ fired)) ⊎ LatchIs old other now
latch-now old key was fired h other now x =
    let put : Option LatchState = Some (record { generation = key.generation; fired = fired }) in
    elim (cases_eq other.index key.index) [
      | inl e ↦
          let both : record { generation = other.generation; fired = now } ≡ record { generation = key.generation; fired = fired } =
          same_Some _ _ (same_Some _ _ (sym x ∙ (ap (λ (n : ℕ). slice_get (set old.latches key.index put) n) e ∙ latch-here old key was fired h))) in
          inl (same-latch other key e (ap (λ (l : LatchState). l.generation) both), ap (λ (l : LatchState). l.fired) both)
      | inr ne ↦ inr (sym (get-set-other old.latches key.index other.index put ne) ∙ x)
    ]

latch-stays : (old : State) (key : LatchKey) (was fired : Bool) → LatchIs old key was → (other : LatchKey) (before : Bool) → LatchIs old other before → IsKnown (with_latch old key fired) (Latch other)
latch-stays old key was fired h other before x =
    let put : Option LatchState = Some (record { generation = key.generation; fired = fired }) in
    elim (latch-cases other key) [
      | inl e ↦ (fired, subst (λ (l : LatchKey). LatchIs (with_latch old key fired) l fired) (sym e) (latch-here old key was fired h))
      | inr ne ↦ elim (cases_eq other.index key.index) [
        | inl i ↦
            let both : record { generation = other.generation; fired = before } ≡ record { generation = key.generation; fired = was } =
            same_Some _ _ (same_Some _ _ (sym x ∙ (ap (λ (n : ℕ). slice_get old.latches n) i ∙ h))) in
            absurd (ne (same-latch other key i (ap (λ (l : LatchState). l.generation) both)))
        | inr apart ↦ (before, get-set-other old.latches key.index other.index put apart ∙ x)
      ]
    ]

-- a latch is set; if it is fired, nobody waits for it
pub promise-latch : (old : State) (key : LatchKey) (was fired : Bool) → LatchIs old key was → (fired ≡ true → NobodyOffers old (Latch key)) → Promise old → Promise (with_latch old key fired)
promise-latch old key was fired h nobody p =
    let new = with_latch old key fired in
    let before : (k : SyncKey) (own : ℕ) (o : Offer) → Offers new k own o → Offers old k own o = λ k own o x. record { offers = x.offers; waits = x.waits; at = x.at } in
    record {
      apart = λ one other i j a b ne x y. p.apart one other i j a b ne (before one i a x) (before other j b y);
      needs = λ k own x. p.needs k own (before k own Always x);
      unfired = λ k own other x f.
          elim (latch-now old key was fired h other true f) [
            | inl e ↦ nobody (sym e.1) k own (subst (λ (l : LatchKey). Offers old k own (Latch l)) e.0 (before k own (Latch other) x))
            | inr f ↦ p.unfired k own other (before k own (Latch other) x) f
          ];
      known = λ k own o x.
          elim o as (λ (y : Offer). IsKnown old y → IsKnown new y) [
            | Send c ↦ λ y. y
            | Receive c ↦ λ y. y
            | Latch l ↦ λ y. latch-stays old key was fired h l y.0 y.1
            | Always ↦ λ y. tt
          ] (p.known k own o (before k own o x));
      ages = λ one other offers theirs x y g. p.ages one other offers theirs x y g;
      given = λ k offers x. p.given k offers x;
      channels_given = p.channels_given;
      latches_given = λ k f x.
          elim (latch-now old key was fired h k f x) [
            | inl e ↦ let is = ap (λ (l : LatchKey). l.generation) e.0 in let lt = p.latches_given key was h in omega arith
            | inr y ↦ p.latches_given k f y
          ];
    }

-- A SYNC LEAVES ITS PLACE

pub leaves-place : (s : State) (key : SyncKey) (offers : List Offer) → Waits s key offers → Leaves s (record s { places = set s.places key.index None }) key
leaves-place s key offers w =
    let here = get-set-same s.places key.index _ None w in
    record {
      open_kept = record { channels = refl; latches = refl };
      next = refl;
      waited = (offers, w);
      goes = λ os v. let clash = same_Some _ _ (sym here ∙ v) in absurd cc;
      others = λ k os ne.
          elim (cases_eq k.index key.index) [
            | inl e ↦ (
              λ v. let clash = same_Some _ _ (sym here ∙ subst (λ (i : ℕ). slice_get (set s.places key.index None) i ≡ Some (Some (record { generation = k.generation; offers = os }))) e v) in absurd cc,
              λ v. let same = same_Some _ _ (same_Some _ _ (sym w ∙ subst (λ (i : ℕ). slice_get s.places i ≡ Some (Some (record { generation = k.generation; offers = os }))) e v)) in
                  absurd (ne (same-key k key e (sym (ap (λ (x : Sync). x.generation) same)))),
            )
            | inr i ↦ (
              λ v. sym (get-set-other s.places key.index k.index None i) ∙ v,
              λ v. get-set-other s.places key.index k.index None i ∙ v,
            )
          ];
    }
