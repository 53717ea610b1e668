-- What lets an offer commit its row alone, and that it stays.
use Rattle.std.proofs.Common.{◌≡◌, ◌≤◌, ℕ, zero, suc, ◌+◌, ◌-◌, is_some, arith, eq-eqb, Bool, true, false, cond, Option, Some, None, sym, refl, ap, ◌∙◌, ◌⊎◌, inl, inr, ⊎_elim}
use Rattle.std.proofs.lemmas.Bool.{cases_eq, ne_eqb}
use Rattle.protocol_values.specs.declared.Message.{Message}
use Rattle.protocol_values.specs.declared.NackName.{NackName}
use Rattle.protocol_values.specs.declared.Binding.{Binding}
use Rattle.protocol_values.specs.declared.Course.{Course}
use Rattle.protocol_values.specs.declared.Course.TheVariants.{Unstarted, Running, Ended}
use Rattle.protocol_values.specs.declared.Base.{Base}
use Rattle.protocol_values.specs.declared.Base.TheVariants.{Send, Recv, Always, OnNack, OnEnd, Never}
use Rattle.protocol_values.specs.declared.Offer.{Offer}
use Rattle.protocol_values.specs.declared.Row.{Row}
use Rattle.protocol_values.specs.declared.Joined.{Joined}
use Rattle.protocol_ledger.specs.Tables.{Marks, end_by, end_via, last_stamp, row_stamp, start_of, encloses, bound_row, enabled_by, enabled_from, nack_via, nack_by, stamped, cause_by, cause_of, stands_alone}
use Rattle.protocol_ledger.proofs.Linking.{some_inj, some_parts}

-- nack n is bound to a row that is committed as j, by an offer outside its scope
pub record IsEnabling (joined : Row → Option Joined) (offer : Row → ℕ → Option Offer) (bound : NackName → Option Binding) (n : NackName) (j : Joined) : Type 0 where
  pub binding : Binding
  pub is_bound : bound n ≡ Some binding
  pub is_joined : joined (bound_row n binding) ≡ Some j
  pub outside : encloses binding.scope (offer (bound_row n binding) j.own) ≡ false

enabling : (joined : Row → Option Joined) (offer : Row → ℕ → Option Offer) (bound : NackName → Option Binding) (n : NackName) (j : Joined) → nack_via joined offer n (bound n) ≡ Some j → IsEnabling joined offer bound n j
enabling joined offer bound n j h = by_bound (bound n) refl h
  where
    by_bound : (o : Option Binding) → bound n ≡ o → nack_via joined offer n o ≡ Some j → IsEnabling joined offer bound n j
    by_bound None e h = let bad : None ≡ Some j = h in cc
    by_bound (Some b) e h = by_joined (joined (bound_row n b)) refl h
      where
        by_joined : (o : Option Joined) → joined (bound_row n b) ≡ o → enabled_by offer (bound_row n b) b.scope o ≡ Some j → IsEnabling joined offer bound n j
        by_joined None f h = let bad : None ≡ Some j = h in cc
        by_joined (Some k) f h = by_test (encloses b.scope (offer (bound_row n b) k.own)) refl h
          where
            by_test : (t : Bool) → encloses b.scope (offer (bound_row n b) k.own) ≡ t → cond t None (Some k) ≡ Some j → IsEnabling joined offer bound n j
            by_test true t h = let bad : None ≡ Some j = h in cc
            by_test false t h =
                let same : k ≡ j = some_inj k j h in
                record {
                  binding = b;
                  is_bound = e;
                  is_joined = f ∙ h;
                  outside = ap (λ (i : Joined). encloses b.scope (offer (bound_row n b) i.own)) (sym same) ∙ t;
                }

enabling_from : (joined : Row → Option Joined) (offer : Row → ℕ → Option Offer) (bound : NackName → Option Binding) (n : NackName) (j : Joined) → IsEnabling joined offer bound n j → nack_via joined offer n (bound n) ≡ Some j
enabling_from joined offer bound n j e =
    ap (nack_via joined offer n) e.is_bound
    ∙ ap (enabled_by offer (bound_row n e.binding) e.binding.scope) e.is_joined
    ∙ ap (λ t. cond t None (Some j)) e.outside

-- the nack was enabled at this stamp, by the row to which it is bound
pub record IsEnabledByRow (joined : Row → Option Joined) (offer : Row → ℕ → Option Offer) (marks : Marks) (n : NackName) (s : ℕ) : Type 0 where
  pub by : Joined
  pub uncarried : marks.carried n ≡ None
  pub enabled : IsEnabling joined offer marks.bound n by
  pub stamp : s ≡ by.stamp

-- or by a row of an earlier table
abbrev pub IsEnabledAt : (Row → Option Joined) → (Row → ℕ → Option Offer) → Marks → NackName → ℕ → Type 0
IsEnabledAt joined offer marks n s = IsEnabledByRow joined offer marks n s ⊎ ((1 ≤ s) × (marks.carried n ≡ Some s))

stamped_some : (o : Option Joined) (s : ℕ) → stamped o ≡ Some s → (j : Joined) × (o ≡ Some j) × (s ≡ j.stamp)
stamped_some None s h = let bad : None ≡ Some s = h in cc
stamped_some (Some j) s h = (j, refl, sym (some_inj j.stamp s h))

pub enabled_at : (joined : Row → Option Joined) (offer : Row → ℕ → Option Offer) (marks : Marks) (n : NackName) (s : ℕ) → nack_by joined offer marks n ≡ Some s → IsEnabledAt joined offer marks n s
unfolding nack_by
enabled_at joined offer marks n s h = by_carried (marks.carried n) refl h
  where
    by_carried : (o : Option ℕ) → marks.carried n ≡ o → enabled_from o (stamped (nack_via joined offer n (marks.bound n))) ≡ Some s → IsEnabledAt joined offer marks n s
    by_carried None e h =
        let j = stamped_some (nack_via joined offer n (marks.bound n)) s h in
        inl (record { by = j.0; uncarried = e; enabled = enabling joined offer marks.bound n j.0 j.1; stamp = j.2 })
    by_carried (Some c) e h = ⊎_elim
        (λ (z : c ≡ 0). let bad : None ≡ Some s = sym (ap (λ b. cond b None (Some c)) (eq-eqb c 0 z)) ∙ h in cc)
        (λ (z : c ≡ 0 → ⊥).
        let same : c ≡ s = some_inj c s (sym (ap (λ b. cond b None (Some c)) (ne_eqb c 0 z)) ∙ h) in
        inr (omega (arith, same, z), e ∙ ap Some same))
        (cases_eq c 0)

pub enabled_at_from : (joined : Row → Option Joined) (offer : Row → ℕ → Option Offer) (marks : Marks) (n : NackName) (s : ℕ) → IsEnabledAt joined offer marks n s → nack_by joined offer marks n ≡ Some s
unfolding nack_by
enabled_at_from joined offer marks n s (inl e) =
    (λ i. enabled_from (e.uncarried i) (stamped (enabling_from joined offer marks.bound n e.by e.enabled i))) ∙ ap Some (sym e.stamp)
enabled_at_from joined offer marks n s (inr e) =
    ap (λ o. enabled_from o (stamped (nack_via joined offer n (marks.bound n)))) e.1 ∙ ap (λ b. cond b None (Some s)) (ne_eqb s 0 (λ z. absurd (omega (arith, e.0, z))))

-- THE END OF A THREAD

-- the thread has ended, and its last stamp is this
pub record IsEnding (joined : Row → Option Joined) (marks : Marks) (p s : ℕ) : Type 0 where
  pub start : ℕ
  pub sync : ℕ
  pub ended : marks.course p ≡ Ended start sync
  pub stamp : s ≡ last_stamp marks joined (record { thread = p; sync = sync })

pub ending : (joined : Row → Option Joined) (marks : Marks) (p s : ℕ) → end_by marks joined p ≡ Some s → IsEnding joined marks p s
unfolding end_by
ending joined marks p s h = by_course (marks.course p) refl h
  where
    by_course : (c : Course) → marks.course p ≡ c → end_via marks joined p c ≡ Some s → IsEnding joined marks p s
    by_course Unstarted e h = let bad : None ≡ Some s = h in cc
    by_course (Running start) e h = let bad : None ≡ Some s = h in cc
    by_course (Ended start sync) e h = record { start = start; sync = sync; ended = e; stamp = sym (some_inj _ s h) }

pub ending_from : (joined : Row → Option Joined) (marks : Marks) (p s : ℕ) → IsEnding joined marks p s → end_by marks joined p ≡ Some s
unfolding end_by
ending_from joined marks p s e = ap (end_via marks joined p) e.ended ∙ ap Some (sym e.stamp)

-- WHAT A CAUSE IS: an always, a nack that is enabled, or a thread that has ended
abbrev pub IsAlways : Option Offer → ℕ → Type 0
IsAlways o s = (m : Message) × (x : Offer) × (o ≡ Some x) × (x.base ≡ Always m) × (s ≡ 0)

abbrev pub IsOnEnabled : (Row → Option Joined) → (Row → ℕ → Option Offer) → Marks → Option Offer → ℕ → Type 0
IsOnEnabled joined offer marks o s = (n : NackName) × (x : Offer) × (o ≡ Some x) × (x.base ≡ OnNack n) × IsEnabledAt joined offer marks n s

abbrev pub IsOnEnded : (Row → Option Joined) → Marks → Option Offer → ℕ → Type 0
IsOnEnded joined marks o s = (p : ℕ) × (x : Offer) × (o ≡ Some x) × (x.base ≡ OnEnd p) × IsEnding joined marks p s

abbrev pub IsCause : (Row → Option Joined) → (Row → ℕ → Option Offer) → Marks → Option Offer → ℕ → Type 0
IsCause joined offer marks o s = IsAlways o s ⊎ (IsOnEnabled joined offer marks o s ⊎ IsOnEnded joined marks o s)

pub cause_is : (joined : Row → Option Joined) (offer : Row → ℕ → Option Offer) (marks : Marks) (o : Option Offer) (s : ℕ) → cause_of joined offer marks o ≡ Some s → IsCause joined offer marks o s
cause_is joined offer marks None s h = let bad : None ≡ Some s = h in cc
cause_is joined offer marks (Some x) s h = by_base x.base refl h
  where
    by_base : (b : Base) → x.base ≡ b → cause_by joined offer marks b ≡ Some s → IsCause joined offer marks (Some x) s
    by_base (Send c m) e h = let bad : None ≡ Some s = h in cc
    by_base (Recv c) e h = let bad : None ≡ Some s = h in cc
    by_base (Always m) e h = inl (m, x, refl, e, sym (some_inj 0 s h))
    by_base (OnNack n) e h = inr (inl (n, x, refl, e, enabled_at joined offer marks n s h))
    by_base (OnEnd p) e h = inr (inr (p, x, refl, e, ending joined marks p s h))
    by_base Never e h = let bad : None ≡ Some s = h in cc

-- an offer that has a cause stands alone
pub cause_alone : (joined : Row → Option Joined) (offer : Row → ℕ → Option Offer) (marks : Marks) (o : Option Offer) (s : ℕ) → cause_of joined offer marks o ≡ Some s → stands_alone o ≡ true
cause_alone joined offer marks o s h = ⊎_elim
    (λ (a : IsAlways o s). ap stands_alone a.2 ∙ ap Rattle.protocol_ledger.specs.Tables.needs_none a.3)
    (⊎_elim
    (λ (n : IsOnEnabled joined offer marks o s). ap stands_alone n.2 ∙ ap Rattle.protocol_ledger.specs.Tables.needs_none n.3)
    (λ (e : IsOnEnded joined marks o s). ap stands_alone e.2 ∙ ap Rattle.protocol_ledger.specs.Tables.needs_none e.3))
    (cause_is joined offer marks o s h)

-- the last stamp at a place behind a row is the row's
pub last_behind : (marks : Marks) (joined : Row → Option Joined) (t g : ℕ) → last_stamp marks joined (record { thread = t; sync = suc g }) ≡ row_stamp (joined (record { thread = t; sync = g }))
last_behind marks joined t g =
    ap (λ b. cond b (start_of (marks.course t)) (row_stamp (joined (record { thread = t; sync = suc g - 1 })))) (ne_eqb (suc g) 0 (λ e. absurd (omega arith)))
    ∙ ap (λ n. row_stamp (joined (record { thread = t; sync = n }))) (omega arith)

-- A CAUSE STAYS, where what is joined stays so and offers as before, what is bound stays so, what is carried is as it was, an
-- end stays, and the row before an end is joined
module _ (joined joined' : Row → Option Joined) (offer offer' : Row → ℕ → Option Offer) (marks marks' : Marks)
    (joins : (r : Row) (j : Joined) → joined r ≡ Some j → joined' r ≡ Some j)
    (offers : (r : Row) (j : Joined) → joined r ≡ Some j → offer' r ≡ offer r)
    (binds : (n : NackName) (b : Binding) → marks.bound n ≡ Some b → marks'.bound n ≡ Some b)
    (carries : (n : NackName) → marks'.carried n ≡ marks.carried n)
    (ends : (p start sync : ℕ) → marks.course p ≡ Ended start sync → marks'.course p ≡ Ended start sync)
    (before : (p start sync : ℕ) → marks.course p ≡ Ended start (sync + 1) → is_some (joined (record { thread = p; sync = sync })) ≡ true) where
  enabling_kept : (n : NackName) (j : Joined) → IsEnabling joined offer marks.bound n j → IsEnabling joined' offer' marks'.bound n j
  enabling_kept n j e = record {
    binding = e.binding;
    is_bound = binds n e.binding e.is_bound;
    is_joined = joins (bound_row n e.binding) j e.is_joined;
    outside = ap (λ (f : ℕ → Option Offer). encloses e.binding.scope (f j.own)) (offers (bound_row n e.binding) j e.is_joined) ∙ e.outside;
  }

  pub nack_kept : (n : NackName) (s : ℕ) → IsEnabledAt joined offer marks n s → IsEnabledAt joined' offer' marks' n s
  nack_kept n s (inl e) = inl (record { by = e.by; uncarried = carries n ∙ e.uncarried; enabled = enabling_kept n e.by e.enabled; stamp = e.stamp })
  nack_kept n s (inr e) = inr (e.0, carries n ∙ e.1)

  last_ended : (p start sync : ℕ) → marks.course p ≡ Ended start sync → last_stamp marks joined (record { thread = p; sync = sync }) ≡ last_stamp marks' joined' (record { thread = p; sync = sync })
  last_ended p start zero e = ap start_of e ∙ sym (ap start_of (ends p start zero e))
  last_ended p start (suc g) e =
      let j = some_parts (joined (record { thread = p; sync = g })) (before p start g (e ∙ ap (Ended start) (omega arith))) in
      last_behind marks joined p g
      ∙ ap row_stamp j.1
      ∙ sym (ap row_stamp (joins (record { thread = p; sync = g }) j.0 j.1))
      ∙ sym (last_behind marks' joined' p g)

  pub end_kept : (p s : ℕ) → IsEnding joined marks p s → IsEnding joined' marks' p s
  end_kept p s e = record {
    start = e.start;
    sync = e.sync;
    ended = ends p e.start e.sync e.ended;
    stamp = e.stamp ∙ last_ended p e.start e.sync e.ended;
  }

  pub cause_kept : (o : Option Offer) (s : ℕ) → cause_of joined offer marks o ≡ Some s → cause_of joined' offer' marks' o ≡ Some s
  cause_kept o s h = ⊎_elim
      (λ (a : IsAlways o s). ap (cause_of joined' offer' marks') a.2 ∙ ap (cause_by joined' offer' marks') a.3 ∙ ap Some (sym a.4))
      (⊎_elim
      (λ (n : IsOnEnabled joined offer marks o s).
      ap (cause_of joined' offer' marks') n.2
      ∙ ap (cause_by joined' offer' marks') n.3
      ∙ enabled_at_from joined' offer' marks' n.0 s (nack_kept n.0 s n.4))
      (λ (e : IsOnEnded joined marks o s).
      ap (cause_of joined' offer' marks') e.2
      ∙ ap (cause_by joined' offer' marks') e.3
      ∙ ending_from joined' marks' e.0 s (end_kept e.0 s e.4)))
      (cause_is joined offer marks o s h)
