-- What a pass knows of two rows stays known while it sees more.
use Rattle.std.proofs.Common.{rules, ◌≡◌, ◌≢◌, ℕ, ◌^◌, ◌<◌, ◌≤◌, true, false, List, sym, refl, ap, ◌∙◌, subst, inl, inr, arith, Option, Some, None, IfSome, IfNone, IfErr, is_err, Result, Ok, Err}
use Rattle.protocol_values.specs.Words.{IsJoinedInRange}
use Rattle.protocol_values.specs.declared.NackName.{NackName}
use Rattle.protocol_values.specs.declared.Direction.{Direction}
use Rattle.protocol_values.specs.declared.Offer.{Offer}
use Rattle.protocol_values.specs.declared.Row.{Row}
use Rattle.protocol_values.specs.declared.Joined.{Joined}
use Rattle.protocol_values.specs.declared.Base.{Base}
use Rattle.protocol_values.specs.declared.Base.TheVariants.{Send, Recv, Always, OnNack, OnEnd, Never}
use Rattle.protocol_values.specs.declared.Message.{Message}
use Rattle.protocol_ledger.specs.Tables.{offers_meet, is_partner, is_fresh}
use Rattle.protocol_values.specs.Values.{bases_meet, joined_of}
use Rattle.protocol_ledger.proofs.RowLemmas.{row_eq-refl}
use Rattle.cell_table.specs.Sight.{Coherent, SawChosen, LackOffer, IsKnownOpen, Has, HaveDirection, HasSeenLast, CanJoin, Learns, LearnsOf, next_stamp, see_opened, SawCommitted, see_cell}
use Rattle.protocol_values.specs.Values.{directions_meet}
use Rattle.cell_table.specs.declared.view.Seen.{Seen}
use Rattle.protocol_values.specs.declared.Cell.{Cell}
use Rattle.protocol_values.specs.declared.Cell.TheVariants.{Fresh, Waiting, Claimed, Synched, Taken}
use Rattle.cell_table.specs.declared.view.View.{View}
use Rattle.cell_table.specs.declared.view.Stage.{Stage}
use Rattle.cell_table.specs.declared.view.Stage.TheVariants.{Resting}
use Rattle.cell.specs.declared.attempt.Attempt.{Attempt}
use Rattle.cell.specs.declared.attempt.Attempt.TheVariants.{Busy, Gone, Met, Mine, Unfit}
use Rattle.cell.specs.Attempts.{Attempted, CanMeet, Fits, IsLifeNear, IsNear, OffersFit}
use Rattle.cell_table.specs.Told.{Agrees}
use Rattle.cell_table.specs.Views.{IsClaimer}
use Rattle.cell_table.proofs.Directions.{direction_more, offers_meet_as, one_direction, sees_direction, sees_direction_more}
use Rattle.cell_table.proofs.Offers.{few}

pub from_some : {A : Type 0} (x : Option A) (P : A → Type 0) (a : A) → IfSome x P → x ≡ Some a → P a
from_some None P a h e = let bad : None ≡ Some a = e in cc
from_some (Some b) P a h e = subst P (Rattle.protocol_ledger.proofs.Linking.some_inj b a e) h

-- rows that can be joined can meet, also once more was learnt
pub can_meet : {Nacks : NackName → Type 0} {Lives : ℕ → Type 0} (About : Row → Type 0) (s t : Seen) (mine other : Row) (own partner : ℕ) (j : Joined) → LearnsOf About Nacks Lives s t → CanJoin s mine own other partner j → CanMeet t mine own other partner
can_meet About s t mine other own partner j l can = (
  can.apart,
  can.my_direction,
  can.their_direction,
  sees_direction_more About s t mine own can.my_direction l (inl can.read_mine),
  sees_direction_more About s t other partner can.their_direction l (inl can.read_theirs),
  can.meet,
)

-- and so an answer that says that they fit is right
pub fits_as : (s : Seen) (mine other : Row) (own partner : ℕ) (a : Attempt) → ¬ (a ≡ Unfit) → CanMeet s mine own other partner → Fits s mine own other partner a
fits_as s mine other own partner (Met stamp) n can = can
fits_as s mine other own partner Gone n can = can
fits_as s mine other own partner Mine n can = can
fits_as s mine other own partner Busy n can = can
fits_as s mine other own partner Unfit n can = absurd (n refl)

-- what another answer says of heads, by what the pass has seen
fitting : (s : Seen) (mine other : Row) (own partner : ℕ) (a : Attempt) → Fits s mine own other partner a → a ≢ Unfit → CanMeet s mine own other partner
fitting s mine other own partner (Met stamp) fits n = fits
fitting s mine other own partner Gone fits n = fits
fitting s mine other own partner Mine fits n = fits
fitting s mine other own partner Busy fits n = fits
fitting s mine other own partner Unfit fits n = absurd (n refl)

-- what an answer says of heads holds of the offers behind them
pub offers_fit : (threads rows : ℕ) (s : Seen) (mine other : Row) (own partner : ℕ) (answer : Attempt) → Coherent threads rows s → Fits s mine own other partner answer → OffersFit s mine own other partner answer
offers_fit threads rows s mine other own partner answer agree fits a b sees_a sees_b =
    let (d, sees_d, goes_a) = sees_direction s mine own a sees_a in
    let (e, sees_e, goes_b) = sees_direction s other partner b sees_b in
    let told = offers_meet_as d e a b goes_a goes_b in (
      λ meet unfit.
          let denied : ¬ CanMeet s mine own other partner = subst (Fits s mine own other partner) unfit fits in
          denied (meet.0, d, e, sees_d, sees_e, sym told ∙ meet.1),
      λ fit.
          let can = fitting s mine other own partner answer fits fit in (
            can.0,
            told
                ∙ (λ i. directions_meet (one_direction threads rows s mine own d can.1 agree sees_d can.3 i) (one_direction threads rows s other partner e can.2 agree sees_e can.4 i))
                ∙ can.5,
          ),
    )

pub last_more : (s t : Seen) (r : Row) (stamp : ℕ) → ((x : Row × Joined) → Has s.joined x → Has t.joined x) → ((x : ℕ × ℕ) → Has s.started x → Has t.started x) → HasSeenLast s r stamp → HasSeenLast t r stamp
last_more s t r stamp more begun (inl h) = inl (h.0, begun _ h.1)
last_more s t r stamp more begun (inr h) = inr (h.0, h.1, more _ h.2, h.3)

-- the heads of the two offers were read, and then both last stamps
pub can_join : (about_other about_mine about_their : Row → Type 0) (s1 s2 s3 s4 : Seen) (mine other : Row) (own partner my_last their_last : ℕ) (a b : Direction)
    → Learns about_other s1 s2 → LearnsOf about_mine (λ n. ⊥) (λ p. p ≡ mine.thread) s2 s3 → LearnsOf about_their (λ n. ⊥) (λ p. p ≡ other.thread) s3 s4
    → mine.thread ≢ other.thread
    → HaveDirection s1.words mine own a → HaveDirection s2.words other partner b
    → directions_meet a b ≡ true
    → HasSeenLast s3 mine my_last → HasSeenLast s4 other their_last
    → CanJoin s4 mine own other partner (record { own = partner; partner = Some (mine, own); stamp = next_stamp my_last their_last })
can_join _ _ _ s1 s2 s3 s4 mine other own partner my_last their_last a b l m n apart have_mine have_theirs meet last_mine last_theirs = record {
  apart = apart;
  my_direction = a;
  their_direction = b;
  read_mine = direction_more s1.words s4.words mine own a (λ x h. n.words.0 x (m.words.0 x (l.words.0 x h))) have_mine;
  read_theirs = direction_more s2.words s4.words other partner b (λ x h. n.words.0 x (m.words.0 x h)) have_theirs;
  meet = meet;
  my_last = my_last;
  their_last = their_last;
  seen_mine = last_more s3 s4 mine my_last n.joined.0 n.started.0 last_mine;
  seen_theirs = last_theirs;
  is = refl;
}

pub join_ranged : (threads rows : ℕ) (words words' : List (Row × ℕ × ℕ)) (mine other : Row) (own partner my_last their_last : ℕ) (a b : Direction) → threads ≤ 64 → rows ≤ 1024 → (mine.thread < threads) × (mine.sync < rows)
    → HaveDirection words mine own a → HaveDirection words' other partner b
    → IsJoinedInRange (record { own = partner; partner = Some (mine, own); stamp = next_stamp my_last their_last })
join_ranged threads rows words words' mine other own partner my_last their_last a b few_threads few_rows inside have_mine have_theirs = record {
  own = few have_theirs.count partner have_theirs.below;
  partner = (record { thread = let i = inside.0 in omega arith; sync = let i = inside.1 in omega arith }, few have_mine.count own have_mine.below);
  stamp_low = at_least my_last their_last;
  stamp_high = small my_last their_last;
}
  where
    at_least : (x y : ℕ) → 1 ≤ next_stamp x y
    at_least x y = omega arith

    small : (x y : ℕ) → next_stamp x y < 2 ^ 32
    small x y = omega arith

-- a row that is seen opened changes nothing of it
pub can_join_opened : (s : Seen) (r mine other : Row) (own partner : ℕ) (j : Joined) → CanJoin s mine own other partner j → CanJoin (see_opened r s) mine own other partner j
can_join_opened s r mine other own partner j can = record {
  apart = can.apart;
  my_direction = can.my_direction;
  their_direction = can.their_direction;
  read_mine = can.read_mine;
  read_theirs = can.read_theirs;
  meet = can.meet;
  my_last = can.my_last;
  their_last = can.their_last;
  seen_mine = last_more s (see_opened r s) mine can.my_last (λ x h. h) (λ x h. h) can.seen_mine;
  seen_theirs = last_more s (see_opened r s) other can.their_last (λ x h. h) (λ x h. h) can.seen_theirs;
  is = can.is;
}

-- a cell that is neither Fresh nor Waiting nor Claimed is committed
committed_cell : (c : Cell) → is_fresh c ≡ false → c ≢ Waiting → c ≢ Claimed → (j : Joined) × (joined_of c ≡ Some j)
committed_cell Fresh f w h = let bad : true ≡ false = f in cc
committed_cell Waiting f w h = absurd (w refl)
committed_cell Claimed f w h = absurd (h refl)
committed_cell (Synched j) f w h = (j, refl)
committed_cell (Taken j) f w h = (j, refl)

pub saw_joined : (r : Row) (c : Cell) (j : Joined) (s : Seen) → joined_of c ≡ Some j → Has (see_cell r c s).joined (r, j)
saw_joined r Fresh j s e = let bad : None ≡ Some j = e in cc
saw_joined r Waiting j s e = let bad : None ≡ Some j = e in cc
saw_joined r Claimed j s e = let bad : None ≡ Some j = e in cc
saw_joined r (Synched i) j s e = inl (ap (λ (k : Joined). (r, k)) (Rattle.protocol_ledger.proofs.Linking.some_inj i j e))
saw_joined r (Taken i) j s e = inl (ap (λ (k : Joined). (r, k)) (Rattle.protocol_ledger.proofs.Linking.some_inj i j e))

pub err_case : {A B : Type 0} (x : Result A B) (P : B → Type 0) → is_err x ≡ true → IfErr x P → (b : B) × P b
err_case (Ok a) P e h = let bad : false ≡ true = e in cc
err_case (Err b) P e h = (b, h)

pub saw_committed : (r : Row) (c : Cell) (s : Seen) → is_fresh c ≡ false → c ≢ Waiting → c ≢ Claimed → SawCommitted (see_cell r c s) r
saw_committed r c s f w h = let j = committed_cell c f w h in (j.0, saw_joined r c j.0 s j.1)

-- what a claim, a look at the other row and a yield add
pub learns_yield : (mine other : Row) (c : Cell) (s : Seen) → LearnsOf (IsNear mine other) (λ n. ⊥) (IsLifeNear mine other) s (see_opened mine (see_cell other c (see_opened mine s)))
learns_yield mine other Fresh s = search rules
learns_yield mine other Waiting s = search rules
learns_yield mine other Claimed s = search rules
learns_yield mine other (Synched j) s = search rules
learns_yield mine other (Taken j) s = search rules

-- what a claim, a join and a seal add
pub learns_met : (mine other : Row) (i j : Joined) (s : Seen) → LearnsOf (IsNear mine other) (λ n. ⊥) (IsLifeNear mine other) s (see_cell mine (Synched i) (see_opened mine (see_cell other (Synched j) (see_opened other (see_opened mine s)))))
learns_met mine other i j s = search rules

-- what an attempt answers goes by what was seen before it read the offers, too
pub attempted_before : {Nacks : NackName → Type 0} {Lives : ℕ → Type 0} (About : Row → Type 0) (s t u : Seen) (mine : Row) (own : ℕ) (other : Row) (partner : ℕ) (a : Attempt) → LearnsOf About Nacks Lives s t → Attempted t u mine own other partner a → Attempted s u mine own other partner a
attempted_before About s t u mine own other partner (Met stamp) l h = h
attempted_before About s t u mine own other partner Gone l h = h
attempted_before About s t u mine own other partner Mine l h = h
attempted_before About s t u mine own other partner Busy l h = (subst (λ (rows : List Row). ¬ Has rows other) l.held h.0, λ seen. h.1 (seen.0, l.joined.0 (other, seen.0) seen.1))
attempted_before About s t u mine own other partner Unfit l h = h

module _ {M : Type 0} where
  -- a claim that found its row not Waiting found it committed
  pub claim_found : (v : View M) (r : Row) (c : Cell) → Has v.seen.held r → Has v.seen.opened r → v.stage ≡ Resting → c ≢ Waiting → Agrees v r c → SawCommitted (see_cell r c v.seen) r
  claim_found v r c held opened resting w agree =
      saw_committed r c v.seen (agree.0.opened opened) w (λ e. subst (λ (s : Stage). IsClaimer s r) resting (agree.1 held e))

  -- a join that found its row neither Waiting nor Claimed found it committed
  pub join_found : (v : View M) (mine r : Row) (own partner : ℕ) (j : Joined) (c : Cell) → CanJoin v.seen mine own r partner j → c ≢ Waiting → c ≢ Claimed → Agrees v r c → SawCommitted (see_cell r c v.seen) r
  join_found v mine r own partner j c can w h agree = saw_committed r c v.seen (agree.0.read 1 can.read_theirs.count can.read_theirs.counted) w h

-- A RESULT
pub from_none : {A : Type 0} (x : Option A) (P : Type 0) → IfNone x P → x ≡ None → P
from_none None P h e = h
from_none (Some a) P h e = let bad : Some a ≡ None = e in cc

-- what meets a receive is a send
pub recv_meets : (mine theirs : Offer) (chan : ℕ) → mine.base ≡ Recv chan → offers_meet (Some mine) (Some theirs) ≡ true → (d : ℕ) × (got : Message) × (theirs.base ≡ Send d got)
recv_meets mine theirs chan e meet = sends theirs.base refl (sym (ap (λ (b : Base). bases_meet b theirs.base) e) ∙ meet)
  where
    sends : (b : Base) → theirs.base ≡ b → bases_meet (Recv chan) theirs.base ≡ true → (d : ℕ) × (got : Message) × (theirs.base ≡ Send d got)
    sends (Send d got) f h = (d, got, f)
    sends (Recv d) f h = let bad : false ≡ true = sym (ap (bases_meet (Recv chan)) f) ∙ h in cc
    sends (Always m) f h = let bad : false ≡ true = sym (ap (bases_meet (Recv chan)) f) ∙ h in cc
    sends (OnNack n) f h = let bad : false ≡ true = sym (ap (bases_meet (Recv chan)) f) ∙ h in cc
    sends (OnEnd p) f h = let bad : false ≡ true = sym (ap (bases_meet (Recv chan)) f) ∙ h in cc
    sends Never f h = let bad : false ≡ true = sym (ap (bases_meet (Recv chan)) f) ∙ h in cc

-- a row whose offer was chosen does not lack it
pub chosen_not_lacking : (threads rows : ℕ) (s : Seen) (r : Row) (n : ℕ) → Coherent threads rows s → SawChosen s r n → ¬ LackOffer s.words r n
chosen_not_lacking threads rows s r n agree chosen (count, has, above) = let below = agree.chosen r n count chosen has in omega arith

pub partner_known_open : (s : Seen) (r : Row) (j : Joined) (p : Row) (n : ℕ) → Has s.joined (r, j) → j.partner ≡ Some (p, n) → IsKnownOpen s p
partner_known_open s r j p n has e = inr (r, j, has, ap (λ (o : Option (Row × ℕ)). is_partner o p) e ∙ row_eq-refl p)
