-- What is kept of the threads' offers from one commit to the next.
use Rattle.std.proofs.Common.{◌≡◌, ◌⊎◌, Bool, true, false, cond, ℕ, ◌+◌, ◌-◌, ◌<◌, ◌≤◌, max, List, [], ◌∷◌, ◌++◌, length, take, get_or, set, slice_get, option_and_then, Option, Some, None, MatchOption, Contains, refl, sym, ap, ◌∙◌, subst, arith, inl, inr, ⊎_elim, get_or-set_same, get_or-set_other}
use Rattle.std.proofs.lemmas.Bool.{cases_eq, false≢true}
use Rattle.std.proofs.lemmas.List.{length-set, length-take, get_or-take}
use Rattle.std.proofs.lemmas.Option.{none-some, same_Some, slice_get_within, slice_get-get_or, get_or_from_slice_get, option_and_then_some}
use Rattle.thread.specs.Machines.{offers_in}
use Rattle.protocol_values.specs.declared.Base.{Base}
use Rattle.protocol_values.specs.declared.Base.TheVariants.{Send, Recv, Always, OnNack, OnEnd, Never}
use Rattle.protocol_values.specs.declared.Cause.{Cause}
use Rattle.protocol_values.specs.declared.Cause.TheVariants as cause
use Rattle.protocol_values.specs.declared.Commit.{Commit}
use Rattle.protocol_values.specs.declared.Commit.TheVariants.{Pair, Alone}
use Rattle.protocol_values.specs.declared.Message.{Message}
use Rattle.protocol_values.specs.declared.Message.TheVariants.{Empty}
use Rattle.protocol_values.specs.declared.Offer.{Offer}
use Rattle.protocol_values.specs.declared.Row.{Row}
use Rattle.journal_replay.specs.declared.open_offers.OpenOffers.{OpenOffers}
use Rattle.thread_strand.specs.declared.strand.Strand.{Strand}
use Rattle.protocol_values.specs.declared.Side.{Side}
use Rattle.protocol_values.specs.declared.Side.TheVariants.{Sends, Receives}
use Rattle.journal_replay.specs.Searching.{Adds, Covers, FindsOther, HasChannels, HasUntried, IsListed, Keeps, KeepsBrought, KeepsSide, NoneBrought, NoneMay, NoneMayWith, Opens, Places, TakesOther, base_on, pair_of}
use Rattle.journal_replay.specs.Standing.{Finds, MayBe, MayFollow, base_for, last_in}
use Rattle.thread_strand.specs.Strands.{next_offer, offers_at}
use Rattle.journal_replay.proofs.Listing.{found-of}
use Rattle.journal_replay.proofs.Lists.{contains-before, contains-last}

-- an offer has one base event
pub same-base : (strands : List Strand) (rows : ℕ) (at : Row × ℕ) (a b : Base) → Finds strands rows at a → Finds strands rows at b → a ≡ b
same-base strands rows at a b f g =
    sym f.base ∙ ap (λ (o : Offer). o.base) (same_Some f.offer g.offer (sym f.is ∙ g.is)) ∙ g.base

pub same-base-for : (m n : Cause) → base_for m ≡ base_for n → m ≡ n
same-base-for (cause.Always m) (cause.Always n) e = cc
same-base-for (cause.Always m) (cause.Nack n) e = absurd cc
same-base-for (cause.Always m) (cause.End t) e = absurd cc
same-base-for (cause.Nack m) (cause.Always n) e = absurd cc
same-base-for (cause.Nack m) (cause.Nack n) e = cc
same-base-for (cause.Nack m) (cause.End t) e = absurd cc
same-base-for (cause.End u) (cause.Always n) e = absurd cc
same-base-for (cause.End u) (cause.Nack n) e = absurd cc
same-base-for (cause.End u) (cause.End t) e = cc

-- and stands for one cause
pub same-cause : (strands : List Strand) (rows : ℕ) (at : Row × ℕ) (m n : Cause) → Finds strands rows at (base_for m) → Finds strands rows at (base_for n) → m ≡ n
same-cause strands rows at m n f g = same-base-for m n (same-base strands rows at (base_for m) (base_for n) f g)

-- LISTS

-- one list of many has one more element
pub lanes-before : (lanes : List Places) (c d : ℕ) (at x : Row × ℕ) → c < length lanes → Contains (get_or lanes d []) x → Contains (get_or (set lanes c (get_or lanes c [] ++ at ∷ [])) d []) x
lanes-before lanes c d at x within there = ⊎_elim
    (λ same.
    let is = ap (λ (n : ℕ). get_or (set lanes c (get_or lanes c [] ++ at ∷ [])) n []) same ∙ get_or-set_same lanes c (get_or lanes c [] ++ at ∷ []) [] within in
    subst (λ (xs : Places). Contains xs x) (sym is) (contains-before (get_or lanes c []) at x (subst (λ (n : ℕ). Contains (get_or lanes n []) x) same there)))
    (λ ne. subst (λ (xs : Places). Contains xs x) (sym (get_or-set_other lanes c d (get_or lanes c [] ++ at ∷ []) [] ne)) there)
    (cases_eq d c)

pub lanes-last : (lanes : List Places) (c : ℕ) (at : Row × ℕ) → c < length lanes → Contains (get_or (set lanes c (get_or lanes c [] ++ at ∷ [])) c []) at
lanes-last lanes c at within =
    subst (λ (xs : Places). Contains xs at) (sym (get_or-set_same lanes c (get_or lanes c [] ++ at ∷ []) [] within)) (contains-last (get_or lanes c []) at)

module _ (o p : OpenOffers) (at : Row × ℕ) where
  pub listed-send : (c : ℕ) → c < length o.senders.items → p.senders.items ≡ set o.senders.items c (get_or o.senders.items c [] ++ at ∷ []) →
      p.receivers.items ≡ o.receivers.items → p.brought ≡ o.brought → (x : Row × ℕ) (b : Base) → IsListed o x b → IsListed p x b
  listed-send c within sends receives brought x (Send d n) there = subst (λ (lanes : List Places). Contains (get_or lanes d []) x) (sym sends) (lanes-before o.senders.items c d at x within there)
  listed-send c within sends receives brought x (Recv d) there = subst (λ (lanes : List Places). Contains (get_or lanes d []) x) (sym receives) there
  listed-send c within sends receives brought x (OnNack n) there = subst (λ (xs : Places). Contains xs x) (sym brought) there
  listed-send c within sends receives brought x (OnEnd t) there = subst (λ (xs : Places). Contains xs x) (sym brought) there
  listed-send c within sends receives brought x (Always n) there = there
  listed-send c within sends receives brought x Never there = there

  pub listed-recv : (c : ℕ) → c < length o.receivers.items → p.receivers.items ≡ set o.receivers.items c (get_or o.receivers.items c [] ++ at ∷ []) →
      p.senders.items ≡ o.senders.items → p.brought ≡ o.brought → (x : Row × ℕ) (b : Base) → IsListed o x b → IsListed p x b
  listed-recv c within receives sends brought x (Send d n) there = subst (λ (lanes : List Places). Contains (get_or lanes d []) x) (sym sends) there
  listed-recv c within receives sends brought x (Recv d) there = subst (λ (lanes : List Places). Contains (get_or lanes d []) x) (sym receives) (lanes-before o.receivers.items c d at x within there)
  listed-recv c within receives sends brought x (OnNack n) there = subst (λ (xs : Places). Contains xs x) (sym brought) there
  listed-recv c within receives sends brought x (OnEnd t) there = subst (λ (xs : Places). Contains xs x) (sym brought) there
  listed-recv c within receives sends brought x (Always n) there = there
  listed-recv c within receives sends brought x Never there = there

  pub listed-brought : p.brought ≡ o.brought ++ at ∷ [] → p.senders.items ≡ o.senders.items → p.receivers.items ≡ o.receivers.items →
      (x : Row × ℕ) (b : Base) → IsListed o x b → IsListed p x b
  listed-brought brought sends receives x (Send d n) there = subst (λ (lanes : List Places). Contains (get_or lanes d []) x) (sym sends) there
  listed-brought brought sends receives x (Recv d) there = subst (λ (lanes : List Places). Contains (get_or lanes d []) x) (sym receives) there
  listed-brought brought sends receives x (OnNack n) there = subst (λ (xs : Places). Contains xs x) (sym brought) (contains-before o.brought at x there)
  listed-brought brought sends receives x (OnEnd t) there = subst (λ (xs : Places). Contains xs x) (sym brought) (contains-before o.brought at x there)
  listed-brought brought sends receives x (Always n) there = there
  listed-brought brought sends receives x Never there = there

-- THE OFFERS OF A THREAD

pub keeps-all : (o : OpenOffers) → Keeps o o
keeps-all o = record { channels = λ h. h; listed = λ at b h. h; untried = λ at h. h }

pub keeps-both : (o p q : OpenOffers) → Keeps o p → Keeps p q → Keeps o q
keeps-both o p q f g = record {
  channels = λ h. g.channels (f.channels h);
  listed = λ at b h. g.listed at b (f.listed at b h);
  untried = λ at h. g.untried at (f.untried at h);
}

-- of these offers of a row those before number n are there, and are untried
pub record OpensTo (row : Row) (offers : List Offer) (n : ℕ) (old new : OpenOffers) : Type 0 where
  pub keeps : Keeps old new
  pub listed : (k : ℕ) (x : Offer) → k < n → slice_get offers k ≡ Some x → IsListed new (row, k) x.base
  pub untried : (k : ℕ) (x : Offer) → k < n → slice_get offers k ≡ Some x → Contains new.untried (row, k)

pub opens-none : (row : Row) (offers : List Offer) (o : OpenOffers) → OpensTo row offers 0 o o
opens-none row offers o = record {
  keeps = keeps-all o;
  listed = λ k x lt is. absurd (omega (arith, lt));
  untried = λ k x lt is. absurd (omega (arith, lt));
}

pub opens-more : (row : Row) (offers : List Offer) (n : ℕ) (x : Offer) (o p q : OpenOffers) → slice_get offers n ≡ Some x →
    OpensTo row offers n o p → Adds (row, n) x.base p q → OpensTo row offers (n + 1) o q
opens-more row offers n x o p q there before adds = record {
  keeps = keeps-both o p q before.keeps adds.keeps;
  listed = λ k y lt is. ⊎_elim
      (λ same.
      let offer : x ≡ y = same_Some x y (sym there ∙ ap (slice_get offers) (sym same) ∙ is) in
      subst (λ (z : Offer). IsListed q (row, k) z.base) offer (subst (λ (m : ℕ). IsListed q (row, m) x.base) (sym same) adds.listed))
      (λ ne. adds.keeps.listed (row, k) y.base (before.listed k y (omega (arith, lt, ne)) is))
      (cases_eq k n);
  untried = λ k y lt is. ⊎_elim
      (λ same. subst (λ (m : ℕ). Contains q.untried (row, m)) (sym same) adds.untried)
      (λ ne. adds.keeps.untried (row, k) (before.untried k y (omega (arith, lt, ne)) is))
      (cases_eq k n);
}

-- the row that thread t comes to next
abbrev row_of : ℕ → Strand → Row
row_of t s = record { thread = t; sync = length s.machine.results }

same-row : (t sync : ℕ) (r : Row) → t ≡ r.thread → sync ≡ r.sync → record { thread = t; sync = sync } ≡ r
same-row t sync r e f = ap (λ (x : ℕ). record { thread = x; sync = sync }) e ∙ ap (λ (x : ℕ). record { thread = r.thread; sync = x }) f

pub opens-all : (strands : List Strand) (rows t n : ℕ) (s : Strand) (o p : OpenOffers) → slice_get strands t ≡ Some s → length (offers_in s.machine.phase) ≤ n →
    OpensTo (row_of t s) (offers_in s.machine.phase) n o p → Opens strands rows t o p
opens-all strands rows t n s o p there le to = record {
  keeps = to.keeps;
  listed = λ at b mine finds.
      let f = found-of strands rows at b s finds (ap (slice_get strands) mine ∙ there) in
      let row = same-row t (length s.machine.results) at.0 (sym mine) (sym f.sync) in
      let within = slice_get_within (offers_in s.machine.phase) at.1 f.offer f.is in
      subst (λ (r : Row). IsListed p (r, at.1) b) row
      (subst (IsListed p (row_of t s, at.1)) f.base (to.listed at.1 f.offer (omega (arith, le, within)) f.is));
  untried = λ at b mine finds.
      let f = found-of strands rows at b s finds (ap (slice_get strands) mine ∙ there) in
      let row = same-row t (length s.machine.results) at.0 (sym mine) (sym f.sync) in
      let within = slice_get_within (offers_in s.machine.phase) at.1 f.offer f.is in
      subst (λ (r : Row). Contains p.untried (r, at.1)) row (to.untried at.1 f.offer (omega (arith, le, within)) f.is);
}

-- a thread that has not started, or made all its syncs, offers nothing
pub spent : (strands : List Strand) (rows t : ℕ) (s : Strand) → slice_get strands t ≡ Some s → (s.started ≡ false) ⊎ (rows ≤ length s.machine.results) →
    (at : Row × ℕ) (b : Base) → at.0.thread ≡ t → Finds strands rows at b → ⊥
spent strands rows t s there none at b mine finds =
    let f = found-of strands rows at b s finds (ap (slice_get strands) mine ∙ there) in
    ⊎_elim (λ idle. false≢true (sym idle ∙ f.runs)) (λ le. omega (arith, le, f.sync, f.few)) none

pub offers-run : (s : Strand) → s.started ≡ true → offers_at s ≡ offers_in s.machine.phase
offers-run s runs = ap (λ (b : Bool). cond b (offers_in s.machine.phase) []) runs

pub nobody : (strands : List Strand) (rows t : ℕ) → slice_get strands t ≡ None → (at : Row × ℕ) (b : Base) → at.0.thread ≡ t → Finds strands rows at b → ⊥
nobody strands rows t none at b mine finds =
    option_and_then_some (next_offer rows at) (slice_get strands at.0.thread) finds.offer finds.is
    (λ s there is. none-some s (sym none ∙ ap (slice_get strands) (sym mine) ∙ there))

-- FROM ONE COMMIT TO THE NEXT

-- threads whose strands are the same
module _ (old new : List Strand) (rows : ℕ) where
  abbrev Same : ℕ → Type 0
  Same t = slice_get new t ≡ slice_get old t

  finds-before : (at : Row × ℕ) (b : Base) → Same at.0.thread → Finds new rows at b → Finds old rows at b
  finds-before at b same f = record { offer = f.offer; is = ap (option_and_then (next_offer rows at)) (sym same) ∙ f.is; base = f.base }

  module _ (o p : OpenOffers) (known : Covers old rows o) (keeps : Keeps o p)
      (each : (t : ℕ) → Same t ⊎ Opens new rows t o p) where
    listed-still : (at : Row × ℕ) (b : Base) → Finds new rows at b → IsListed p at b
    listed-still at b finds = ⊎_elim
        (λ same. keeps.listed at b (known.listed at b (finds-before at b same finds)))
        (λ opened. opened.listed at b refl finds)
        (each at.0.thread)

    untried-pair : (sender receiver : Row × ℕ) (c : ℕ) (m : Message) (stamp : ℕ) → (sender.0.thread ≡ receiver.0.thread → ⊥) → Finds new rows sender (Send c m) → Finds new rows receiver (Recv c) →
        HasUntried p (Pair sender receiver c m stamp)
    untried-pair sender receiver c m stamp apart sends receives = ⊎_elim
        (λ same. ⊎_elim
        (λ too. ⊎_elim
        (λ h. inl (keeps.untried sender h))
        (λ h. inr (keeps.untried receiver h))
        (known.untried (Pair sender receiver c m stamp) _
        (apart, finds-before sender (Send c m) same sends, finds-before receiver (Recv c) too receives, refl)))
        (λ opened. inr (opened.untried receiver (Recv c) refl receives))
        (each receiver.0.thread))
        (λ opened. inl (opened.untried sender (Send c m) refl sends))
        (each sender.0.thread)

    untried-still : (c : Commit) (below : ℕ) → MayFollow new rows c below → HasUntried p c
    untried-still (Pair sender receiver c m stamp) below may = untried-pair sender receiver c m stamp may.0 may.1 may.2
    untried-still (Alone at (cause.Always m) stamp) below may = ⊎_elim
        (λ same. keeps.untried at (known.untried (Alone at (cause.Always m) stamp) _ (finds-before at (Always m) same may.0, refl)))
        (λ opened. opened.untried at (Always m) refl may.0)
        (each at.0.thread)
    untried-still (Alone at (cause.Nack n) stamp) below may = tt
    untried-still (Alone at (cause.End t) stamp) below may = tt

    covers-still : Covers new rows p
    covers-still = record { channels = keeps.channels known.channels; listed = listed-still; untried = untried-still }

-- the threads of a commit are opened again
pub covers-alone : (old new : List Strand) (rows t : ℕ) (o p : OpenOffers) → Covers old rows o → ((u : ℕ) → (u ≡ t → ⊥) → slice_get new u ≡ slice_get old u) →
    Opens new rows t o p → Covers new rows p
covers-alone old new rows t o p known same opened = covers-still old new rows o p known opened.keeps
    (λ u. ⊎_elim (λ e. inr (subst (λ (v : ℕ). Opens new rows v o p) (sym e) opened)) (λ ne. inl (same u ne)) (cases_eq u t))

opens-before : (strands : List Strand) (rows t : ℕ) (o p q : OpenOffers) → Opens strands rows t o p → Keeps p q → Opens strands rows t o q
opens-before strands rows t o p q opened keeps = record {
  keeps = keeps-both o p q opened.keeps keeps;
  listed = λ at b mine finds. keeps.listed at b (opened.listed at b mine finds);
  untried = λ at b mine finds. keeps.untried at (opened.untried at b mine finds);
}

opens-after : (strands : List Strand) (rows t : ℕ) (o p q : OpenOffers) → Keeps o p → Opens strands rows t p q → Opens strands rows t o q
opens-after strands rows t o p q keeps opened = record { keeps = keeps-both o p q keeps opened.keeps; listed = opened.listed; untried = opened.untried }

pub covers-pair : (old new : List Strand) (rows t u : ℕ) (o p q : OpenOffers) → Covers old rows o → ((v : ℕ) → (v ≡ t → ⊥) → (v ≡ u → ⊥) → slice_get new v ≡ slice_get old v) →
    Opens new rows t o p → Opens new rows u p q → Covers new rows q
covers-pair old new rows t u o p q known same first second = covers-still old new rows o q known (keeps-both o p q first.keeps second.keeps)
    (λ v. ⊎_elim
    (λ e. inr (subst (λ (w : ℕ). Opens new rows w o q) (sym e) (opens-before new rows t o p q first second.keeps)))
    (λ ne. ⊎_elim
    (λ e. inr (subst (λ (w : ℕ). Opens new rows w o q) (sym e) (opens-after new rows u o p q first.keeps second)))
    (λ other. inl (same v ne other))
    (cases_eq v u))
    (cases_eq v t))

-- A LIST FROM WHICH CLOSED OFFERS ARE TAKEN OUT

-- what is untried is all that counts
pub untried-same : (o p : OpenOffers) → p.untried ≡ o.untried → (c : Commit) → HasUntried o c → HasUntried p c
untried-same o p is (Pair sender receiver c m stamp) (inl h) = inl (subst (λ (xs : Places). Contains xs sender) (sym is) h)
untried-same o p is (Pair sender receiver c m stamp) (inr h) = inr (subst (λ (xs : Places). Contains xs receiver) (sym is) h)
untried-same o p is (Alone at (cause.Always m) stamp) h = subst (λ (xs : Places). Contains xs at) (sym is) h
untried-same o p is (Alone at (cause.Nack n) stamp) h = h
untried-same o p is (Alone at (cause.End t) stamp) h = h

-- one list of many is another, which has what is open
lanes-kept : (strands : List Strand) (rows : ℕ) (side : Side) (lanes : List Places) (c d : ℕ) (m : Message) (new : Places) (x : Row × ℕ) → c < length lanes →
    KeepsSide strands rows side c (get_or lanes c []) new → Finds strands rows x (base_on side d m) → Contains (get_or lanes d []) x → Contains (get_or (set lanes c new) d []) x
lanes-kept strands rows side lanes c d m new x within keeps finds there = ⊎_elim
    (λ same.
    let is = ap (λ (n : ℕ). get_or (set lanes c new) n []) same ∙ get_or-set_same lanes c new [] within in
    subst (λ (xs : Places). Contains xs x) (sym is)
    (keeps x m (subst (λ (n : ℕ). Finds strands rows x (base_on side n m)) same finds) (subst (λ (n : ℕ). Contains (get_or lanes n []) x) same there)))
    (λ ne. subst (λ (xs : Places). Contains xs x) (sym (get_or-set_other lanes c d new [] ne)) there)
    (cases_eq d c)

module _ (strands : List Strand) (rows : ℕ) (o p : OpenOffers) (known : Covers strands rows o) (untried : p.untried ≡ o.untried) where
  untried-still-there : (c : Commit) (below : ℕ) → MayFollow strands rows c below → HasUntried p c
  untried-still-there c below may = untried-same o p untried c (known.untried c below may)

  listed-sends : (c : ℕ) (new : Places) → c < length o.senders.items → KeepsSide strands rows Sends c (get_or o.senders.items c []) new →
      p.senders.items ≡ set o.senders.items c new → p.receivers.items ≡ o.receivers.items → p.brought ≡ o.brought → (x : Row × ℕ) (b : Base) → Finds strands rows x b → IsListed o x b → IsListed p x b
  listed-sends c new within keeps sends receives brought x (Send d m) finds there = subst (λ (lanes : List Places). Contains (get_or lanes d []) x) (sym sends) (lanes-kept strands rows Sends o.senders.items c d m new x within keeps finds there)
  listed-sends c new within keeps sends receives brought x (Recv d) finds there = subst (λ (lanes : List Places). Contains (get_or lanes d []) x) (sym receives) there
  listed-sends c new within keeps sends receives brought x (OnNack n) finds there = subst (λ (xs : Places). Contains xs x) (sym brought) there
  listed-sends c new within keeps sends receives brought x (OnEnd t) finds there = subst (λ (xs : Places). Contains xs x) (sym brought) there
  listed-sends c new within keeps sends receives brought x (Always m) finds there = there
  listed-sends c new within keeps sends receives brought x Never finds there = there

  pub covers-sends : (c : ℕ) (new : Places) → c < length o.senders.items → KeepsSide strands rows Sends c (get_or o.senders.items c []) new →
      p.senders.items ≡ set o.senders.items c new → p.receivers.items ≡ o.receivers.items → p.brought ≡ o.brought → Covers strands rows p
  covers-sends c new within keeps sends receives brought = record {
    channels = (ap (λ (lanes : List Places). length lanes) sends ∙ length-set o.senders.items c new ∙ known.channels.0, ap (λ (lanes : List Places). length lanes) receives ∙ known.channels.1);
    listed = λ x b finds. listed-sends c new within keeps sends receives brought x b finds (known.listed x b finds);
    untried = untried-still-there;
  }

  listed-receives : (c : ℕ) (new : Places) → c < length o.receivers.items → KeepsSide strands rows Receives c (get_or o.receivers.items c []) new →
      p.receivers.items ≡ set o.receivers.items c new → p.senders.items ≡ o.senders.items → p.brought ≡ o.brought → (x : Row × ℕ) (b : Base) → Finds strands rows x b → IsListed o x b → IsListed p x b
  listed-receives c new within keeps receives sends brought x (Send d m) finds there = subst (λ (lanes : List Places). Contains (get_or lanes d []) x) (sym sends) there
  listed-receives c new within keeps receives sends brought x (Recv d) finds there = subst (λ (lanes : List Places). Contains (get_or lanes d []) x) (sym receives) (lanes-kept strands rows Receives o.receivers.items c d Empty new x within keeps finds there)
  listed-receives c new within keeps receives sends brought x (OnNack n) finds there = subst (λ (xs : Places). Contains xs x) (sym brought) there
  listed-receives c new within keeps receives sends brought x (OnEnd t) finds there = subst (λ (xs : Places). Contains xs x) (sym brought) there
  listed-receives c new within keeps receives sends brought x (Always m) finds there = there
  listed-receives c new within keeps receives sends brought x Never finds there = there

  pub covers-receives : (c : ℕ) (new : Places) → c < length o.receivers.items → KeepsSide strands rows Receives c (get_or o.receivers.items c []) new →
      p.receivers.items ≡ set o.receivers.items c new → p.senders.items ≡ o.senders.items → p.brought ≡ o.brought → Covers strands rows p
  covers-receives c new within keeps receives sends brought = record {
    channels = (ap (λ (lanes : List Places). length lanes) sends ∙ known.channels.0, ap (λ (lanes : List Places). length lanes) receives ∙ length-set o.receivers.items c new ∙ known.channels.1);
    listed = λ x b finds. listed-receives c new within keeps receives sends brought x b finds (known.listed x b finds);
    untried = untried-still-there;
  }

  listed-brought-kept : KeepsBrought strands rows o.brought p.brought → p.senders.items ≡ o.senders.items → p.receivers.items ≡ o.receivers.items →
      (x : Row × ℕ) (b : Base) → Finds strands rows x b → IsListed o x b → IsListed p x b
  listed-brought-kept keeps sends receives x (Send d m) finds there = subst (λ (lanes : List Places). Contains (get_or lanes d []) x) (sym sends) there
  listed-brought-kept keeps sends receives x (Recv d) finds there = subst (λ (lanes : List Places). Contains (get_or lanes d []) x) (sym receives) there
  listed-brought-kept keeps sends receives x (OnNack n) finds there = keeps x (cause.Nack n) tt finds there
  listed-brought-kept keeps sends receives x (OnEnd t) finds there = keeps x (cause.End t) tt finds there
  listed-brought-kept keeps sends receives x (Always m) finds there = there
  listed-brought-kept keeps sends receives x Never finds there = there

  pub covers-brought : KeepsBrought strands rows o.brought p.brought → p.senders.items ≡ o.senders.items → p.receivers.items ≡ o.receivers.items → Covers strands rows p
  covers-brought keeps sends receives = record {
    channels = (ap (λ (lanes : List Places). length lanes) sends ∙ known.channels.0, ap (λ (lanes : List Places). length lanes) receives ∙ known.channels.1);
    listed = λ x b finds. listed-brought-kept keeps sends receives x b finds (known.listed x b finds);
    untried = untried-still-there;
  }

-- where the list has all that is open on the side of the channel
pub finds-other : (strands : List Strand) (rows : ℕ) (side : Side) (c t : ℕ) (listed : Places) (r : Option ((Row × ℕ) × Message)) →
    ((at : Row × ℕ) (m : Message) → Finds strands rows at (base_on side c m) → Contains listed at) → TakesOther strands rows side c t listed r → FindsOther strands rows side c t r
finds-other strands rows side c t listed None all takes = λ at m finds. takes at m finds (all at m finds)
finds-other strands rows side c t listed (Some w) all takes = takes

-- WHAT AN OFFER LEADS TO

module _ (strands : List Strand) (rows : ℕ) (at : Row × ℕ) where
  pub none-with-send : (c : ℕ) (m : Message) → Finds strands rows at (Send c m) → ((x : Row × ℕ) (n : Message) → Finds strands rows x (Recv c) → x.0.thread ≡ at.0.thread) → NoneMayWith strands rows at
  none-with-send c m sends own (Pair sender receiver d n stamp) below may (inl e) =
      let same : Send c m ≡ Send d n = same-base strands rows at (Send c m) (Send d n) sends (subst (λ (x : Row × ℕ). Finds strands rows x (Send d n)) e may.1) in
      let channel : d ≡ c = cc in
      may.0 (ap (λ (x : Row × ℕ). x.0.thread) e ∙ sym (own receiver n (subst (λ (k : ℕ). Finds strands rows receiver (Recv k)) channel may.2)))
  none-with-send c m sends own (Pair sender receiver d n stamp) below may (inr e) =
      let same : Send c m ≡ Recv d = same-base strands rows at (Send c m) (Recv d) sends (subst (λ (x : Row × ℕ). Finds strands rows x (Recv d)) e may.2) in cc
  none-with-send c m sends own (Alone row (cause.Always n) stamp) below may e =
      let same : Send c m ≡ Always n = same-base strands rows at (Send c m) (Always n) sends (subst (λ (x : Row × ℕ). Finds strands rows x (Always n)) e may.0) in cc
  none-with-send c m sends own (Alone row (cause.Nack n) stamp) below may e = e
  none-with-send c m sends own (Alone row (cause.End t) stamp) below may e = e

  pub none-with-recv : (c : ℕ) → Finds strands rows at (Recv c) → ((x : Row × ℕ) (n : Message) → Finds strands rows x (Send c n) → x.0.thread ≡ at.0.thread) → NoneMayWith strands rows at
  none-with-recv c receives own (Pair sender receiver d n stamp) below may (inl e) =
      let same : Recv c ≡ Send d n = same-base strands rows at (Recv c) (Send d n) receives (subst (λ (x : Row × ℕ). Finds strands rows x (Send d n)) e may.1) in cc
  none-with-recv c receives own (Pair sender receiver d n stamp) below may (inr e) =
      let same : Recv c ≡ Recv d = same-base strands rows at (Recv c) (Recv d) receives (subst (λ (x : Row × ℕ). Finds strands rows x (Recv d)) e may.2) in
      let channel : d ≡ c = cc in
      may.0 (own sender n (subst (λ (k : ℕ). Finds strands rows sender (Send k n)) channel may.1) ∙ sym (ap (λ (x : Row × ℕ). x.0.thread) e))
  none-with-recv c receives own (Alone row (cause.Always n) stamp) below may e =
      let same : Recv c ≡ Always n = same-base strands rows at (Recv c) (Always n) receives (subst (λ (x : Row × ℕ). Finds strands rows x (Always n)) e may.0) in cc
  none-with-recv c receives own (Alone row (cause.Nack n) stamp) below may e = e
  none-with-recv c receives own (Alone row (cause.End t) stamp) below may e = e

pub may-pair : (strands : List Strand) (rows : ℕ) (sender receiver : Row × ℕ) (c : ℕ) (m : Message) → Finds strands rows sender (Send c m) → Finds strands rows receiver (Recv c) →
    (sender.0.thread ≡ receiver.0.thread → ⊥) → MayBe strands rows (pair_of strands sender receiver c m)
may-pair strands rows sender receiver c m sends receives apart = record {
  below = max (last_in strands sender.0.thread) (last_in strands receiver.0.thread);
  may = (apart, sends, receives, refl);
  stamp = refl;
}

-- ALL THREADS

-- what the threads below t offer is there, and is untried
pub record OpensBelow (strands : List Strand) (rows t : ℕ) (o : OpenOffers) : Type 0 where
  pub channels : HasChannels o
  pub listed : (at : Row × ℕ) (b : Base) → at.0.thread < t → Finds strands rows at b → IsListed o at b
  pub untried : (at : Row × ℕ) (b : Base) → at.0.thread < t → Finds strands rows at b → Contains o.untried at

pub below-none : (strands : List Strand) (rows : ℕ) (o : OpenOffers) → HasChannels o → OpensBelow strands rows 0 o
below-none strands rows o has = record {
  channels = has;
  listed = λ at b lt finds. absurd (omega (arith, lt));
  untried = λ at b lt finds. absurd (omega (arith, lt));
}

pub below-more : (strands : List Strand) (rows t : ℕ) (o p : OpenOffers) → OpensBelow strands rows t o → Opens strands rows t o p → OpensBelow strands rows (t + 1) p
below-more strands rows t o p before opened = record {
  channels = opened.keeps.channels before.channels;
  listed = λ at b lt finds. ⊎_elim
      (λ same. opened.listed at b same finds)
      (λ ne. opened.keeps.listed at b (before.listed at b (omega (arith, lt, ne)) finds))
      (cases_eq at.0.thread t);
  untried = λ at b lt finds. ⊎_elim
      (λ same. opened.untried at b same finds)
      (λ ne. opened.keeps.untried at (before.untried at b (omega (arith, lt, ne)) finds))
      (cases_eq at.0.thread t);
}

pub below-all : (strands : List Strand) (rows t : ℕ) (o : OpenOffers) → length strands ≤ t → OpensBelow strands rows t o → Covers strands rows o
below-all strands rows t o le all = record { channels = all.channels; listed = λ at b finds. all.listed at b (low at b finds) finds; untried = untried } where
  low : (at : Row × ℕ) (b : Base) → Finds strands rows at b → at.0.thread < t
  low at b finds = option_and_then_some (next_offer rows at) (slice_get strands at.0.thread) finds.offer finds.is
      (λ s there is. omega (arith, le, slice_get_within strands at.0.thread s there))

  untried : (c : Commit) (below : ℕ) → MayFollow strands rows c below → HasUntried o c
  untried (Pair sender receiver c m stamp) below may = inl (all.untried sender (Send c m) (low sender (Send c m) may.1) may.1)
  untried (Alone at (cause.Always m) stamp) below may = all.untried at (Always m) (low at (Always m) may.0) may.0
  untried (Alone at (cause.Nack n) stamp) below may = tt
  untried (Alone at (cause.End t) stamp) below may = tt

-- TRIED OFFERS

contains-but-last : (xs : Places) (at x : Row × ℕ) → slice_get xs (length xs - 1) ≡ Some at → Contains xs x → (at ≡ x) ⊎ Contains (take (length xs - 1) xs) x
contains-but-last xs at x last there = ⊎_elim
    (λ same. inl (sym (get_or_from_slice_get xs (length xs - 1) at x last) ∙ ap (λ (n : ℕ). get_or xs n x) (sym same) ∙ there.2))
    (λ ne.
    let lt : there.0 < length xs - 1 = omega (arith, there.1, ne) in
    inr (there.0, omega (arith, lt, length-take (length xs - 1) xs), get_or-take (length xs - 1) xs there.0 x lt ∙ there.2))
    (cases_eq there.0 (length xs - 1))

still-untried : (strands : List Strand) (rows : ℕ) (o p : OpenOffers) (at : Row × ℕ) → slice_get o.untried (length o.untried - 1) ≡ Some at → NoneMayWith strands rows at → p.untried ≡ take (length o.untried - 1) o.untried →
    (c : Commit) (below : ℕ) → MayFollow strands rows c below → HasUntried o c → HasUntried p c
still-untried strands rows o p at last none is (Pair sender receiver c m stamp) below may (inl h) = ⊎_elim
    (λ e. absurd (none (Pair sender receiver c m stamp) below may (inl (sym e))))
    (λ k. inl (subst (λ (xs : Places). Contains xs sender) (sym is) k))
    (contains-but-last o.untried at sender last h)
still-untried strands rows o p at last none is (Pair sender receiver c m stamp) below may (inr h) = ⊎_elim
    (λ e. absurd (none (Pair sender receiver c m stamp) below may (inr (sym e))))
    (λ k. inr (subst (λ (xs : Places). Contains xs receiver) (sym is) k))
    (contains-but-last o.untried at receiver last h)
still-untried strands rows o p at last none is (Alone row (cause.Always m) stamp) below may h = ⊎_elim
    (λ e. absurd (none (Alone row (cause.Always m) stamp) below may (sym e)))
    (λ k. subst (λ (xs : Places). Contains xs row) (sym is) k)
    (contains-but-last o.untried at row last h)
still-untried strands rows o p at last none is (Alone row (cause.Nack n) stamp) below may h = h
still-untried strands rows o p at last none is (Alone row (cause.End t) stamp) below may h = h

-- the last untried offer was tried in vain
pub covers-tried : (strands : List Strand) (rows : ℕ) (o p : OpenOffers) (at : Row × ℕ) → Covers strands rows o → slice_get o.untried (length o.untried - 1) ≡ Some at → NoneMayWith strands rows at →
    p.senders.items ≡ o.senders.items → p.receivers.items ≡ o.receivers.items → p.brought ≡ o.brought → p.untried ≡ take (length o.untried - 1) o.untried → Covers strands rows p
covers-tried strands rows o p at known last none sends receives brought is = record {
  channels = (ap (λ (lanes : List Places). length lanes) sends ∙ known.channels.0, ap (λ (lanes : List Places). length lanes) receives ∙ known.channels.1);
  listed = λ x b finds. listed-same b x (known.listed x b finds);
  untried = λ c below may. still-untried strands rows o p at last none is c below may (known.untried c below may);
} where
  listed-same : (b : Base) (x : Row × ℕ) → IsListed o x b → IsListed p x b
  listed-same (Send d m) x there = subst (λ (lanes : List Places). Contains (get_or lanes d []) x) (sym sends) there
  listed-same (Recv d) x there = subst (λ (lanes : List Places). Contains (get_or lanes d []) x) (sym receives) there
  listed-same (OnNack n) x there = subst (λ (xs : Places). Contains xs x) (sym brought) there
  listed-same (OnEnd t) x there = subst (λ (xs : Places). Contains xs x) (sym brought) there
  listed-same (Always m) x there = there
  listed-same Never x there = there

nothing-in : (xs : Places) (x : Row × ℕ) → slice_get xs (length xs - 1) ≡ None → Contains xs x → ⊥
nothing-in xs x none there = none-some (get_or xs (length xs - 1) x) (sym none ∙ slice_get-get_or xs (length xs - 1) x (omega (arith, there.1)))

-- nothing is untried, no nack is fired and no thread has ended for which an offer waits
none-left : (strands : List Strand) (rows : ℕ) (o : OpenOffers) → Covers strands rows o → slice_get o.untried (length o.untried - 1) ≡ None → NoneBrought strands rows o.brought → NoneMay strands rows
none-left strands rows o known empty none (Pair sender receiver c m stamp) below may = ⊎_elim
    (λ h. nothing-in o.untried sender empty h)
    (λ h. nothing-in o.untried receiver empty h)
    (known.untried (Pair sender receiver c m stamp) below may)
none-left strands rows o known empty none (Alone at (cause.Always m) stamp) below may = nothing-in o.untried at empty (known.untried (Alone at (cause.Always m) stamp) below may)
none-left strands rows o known empty none (Alone at (cause.Nack n) stamp) below may = none at (cause.Nack n) tt may.0 (known.listed at (OnNack n) may.0) below may.1
none-left strands rows o known empty none (Alone at (cause.End t) stamp) below may = none at (cause.End t) tt may.0 (known.listed at (OnEnd t) may.0) below may.1

pub finds-left : (strands : List Strand) (rows : ℕ) (o : OpenOffers) (r : Option Commit) → Covers strands rows o → slice_get o.untried (length o.untried - 1) ≡ None →
    MatchOption r (NoneBrought strands rows o.brought) (MayBe strands rows) → MatchOption r (NoneMay strands rows) (MayBe strands rows)
finds-left strands rows o None known empty none = none-left strands rows o known empty none
finds-left strands rows o (Some c) known empty may = may
